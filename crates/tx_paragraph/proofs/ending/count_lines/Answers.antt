use Rattle.std.proofs.Common.{◌≡◌, ℕ, Some, length, sym, ap, ◌∙◌}
use Rattle.tx_nest.specs.Grafs.{raised_graf}
use Rattle.tx_paragraph.specs.Ending.{counted}
use Rattle.tx_paragraph.proofs.ending.count_lines.Goals as goal

pub returns-in_ok-use_lines-in-Some-clause-left : goal.returns-in_ok-use_lines-in-Some-clause-left
returns-in_ok-use_lines-in-Some-clause-left c =
    let graf : raised_graf c.args.passed (length c.args.set.chosen.chain) ≡ Some c.in-Some.graf =
    ap (λ (lines : ℕ). raised_graf c.args.passed lines) (sym c.len.ensures) ∙ sym c.in-Some.ensures in
    λ known. ap (counted known c.args.lists.now c.args.table.now c.args.set) graf ∙ c.in_ok-use_lines-in-Some.ensures known
