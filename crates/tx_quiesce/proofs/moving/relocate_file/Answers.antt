use Rattle.std.proofs.Common.{sym, ◌∙◌, subst}
use Rattle.std.specs.Str.{bytes_eq}
use Rattle.tx_machine.specs.declared.types.OpenFile.{OpenFile}
use Rattle.std.proofs.Common.{◌≡◌, List, slice_index_or}
use Rattle.tx_quiesce.proofs.Fitting.{keeps}
use Rattle.tx_quiesce.proofs.moving.relocate_file.Goals as goal

pub returns-else-eq : goal.returns-else-eq
returns-else-eq c =
    let is = subst (λ (opens : List OpenFile). c.index-as_slice-at.result ≡ slice_index_or opens c.args.at c.index-as_slice-at.result) c.as_slice.ensures c.index-as_slice-at.is in
    keeps c.args.e.now c.args.opens.now c.args.at c.index-as_slice-at.result is (sym c.if-eq.false ∙ c.eq.ensures ∙ (λ i. bytes_eq (c.as_slice-2.ensures i) (c.as_slice-3.ensures.bytes i)))
