use Rattle.std.proofs.Common.{arith, sym, ◌∙◌}
use Rattle.tx_expand.proofs.Turning.{finding-all, finding-here, finding-none, finding-on}
use Rattle.tx_expand.proofs.innermost.is_finding.Goals as goal

pub loop-place-init : goal.loop-place-init
loop-place-init c = record { within = omega arith; rest = finding-all c.args.begun.now }

pub loop-place-preserved : goal.loop-place-preserved
loop-place-preserved c = record {
  within = omega (arith, c.loop-place.invariant.within);
  rest = finding-on c.args.begun.now c.loop-place.place c.index-begun-place.result _ (omega arith) c.loop-place.invariant.within c.index-begun-place.is (sym c.finds.ensures ∙ c.if-finds.false) c.loop-place.invariant.rest;
}

pub returns-then-finds : goal.returns-then-finds
returns-then-finds c =
    finding-here c.args.begun.now c.loop-place.place c.index-begun-place.result _ (omega arith) c.loop-place.invariant.within c.index-begun-place.is (sym c.finds.ensures ∙ c.if-finds.true) c.loop-place.invariant.rest

pub returns : goal.returns
returns c = finding-none c.args.begun.now c.loop-place.place _ c.loop-place-test.false c.loop-place.invariant.rest
