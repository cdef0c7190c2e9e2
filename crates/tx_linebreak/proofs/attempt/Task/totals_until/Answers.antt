use Rattle.std.proofs.Common.{◌+◌, ◌^◌, ◌∙◌, pos, take, sym, subst, arith, w64}
use Rattle.std.proofs.lemmas.Int.{to_z-of_z}
use Rattle.tx_linebreak.specs.declared.totals.Totals.{Totals}
use Rattle.tx_linebreak.specs.Lines.{background}
use Rattle.tx_linebreak.specs.Totals.{IsWithin, both, rigid, totals_of}
use Rattle.tx_linebreak.proofs.Summing.{within_both, within_more}
use Rattle.tx_linebreak.proofs.attempt.Task.totals_until.Goals as goal

pub returns-clause-value : goal.returns-clause-value
returns-clause-value c =
    let t = c.args.self.now in
    let sums = c.requires.task.sums_are in
    let none : Totals = rigid (pos 0) in
    c.plus-2.ensures ∙ (λ i. both (c.plus.ensures i) (sums.sums_are c.args.place none (omega arith) i))
    ∙ (λ i. both (both (c.requires.task.background_is i) (c.text-end.ensures.value i)) (totals_of (take c.args.place t.pieces.now)))
    ∙ (λ i. both (both (background t.params.now t.pass) (rigid (to_z-of_z w64 c.end_width.result (record { sfits = c.end_width.type_inv }) i))) (totals_of (take c.args.place t.pieces.now)))
    ∙ (λ i. both (both (background t.params.now t.pass) (rigid (c.end_width.ensures i))) (totals_of (take c.args.place t.pieces.now)))

pub returns-clause-small : goal.returns-clause-small
returns-clause-small c =
    let sums = c.requires.task.sums_are in
    let none : Totals = rigid (pos 0) in
    let first : IsWithin (2 ^ 65 + 2 ^ 63) c.plus.result = subst (IsWithin (2 ^ 65 + 2 ^ 63)) (sym c.plus.ensures) (within_both c.args.self.now.background c.text-end.result (2 ^ 65) (2 ^ 63) c.requires.task.background_in c.text-end.ensures.small) in
    subst (IsWithin (2 ^ 97)) (sym c.plus-2.ensures)
    (within_more (both c.plus.result _) (2 ^ 65 + 2 ^ 63 + 2 ^ 94) (2 ^ 97) (omega arith) (within_both c.plus.result _ (2 ^ 65 + 2 ^ 63) (2 ^ 94) first (sums.small c.args.place none (omega arith))))
