use Rattle.std.proofs.Common.{true, ap, subst, ◌∙◌, arith}
use Rattle.std.specs.List.Sorted.{IsNonDecreasing}
use Rattle.std.proofs.lemmas.List.{take_all}
use Rattle.std.proofs.lemmas.List.Sorted.{non_decreasing_from_is_sorted}
use Rattle.tx_quiesce.specs.Tails.{offsets_of}
use Rattle.tx_quiesce.proofs.tails.read_offsets.Goals as goal

pub returns-then-is_sorted : goal.returns-then-is_sorted
returns-then-is_sorted g c = (
  c.loop-row.invariant ∙ ap offsets_of (take_all c.loop-row.row-index c.args.rows.now (omega (arith, c.loop-row-test.false))),
  subst IsNonDecreasing c.as_slice.ensures.value (non_decreasing_from_is_sorted c.as_slice.result.now true c.if-is_sorted.ensures.cases),
)
