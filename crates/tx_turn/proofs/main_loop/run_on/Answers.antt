use Rattle.std.proofs.Common.{◌≡◌, ◌+◌, ◌-◌, ◌≤◌, length, Result, Ok, Err, OnErr, ◌∙◌, arith}
use Rattle.tx_machine.specs.Plain.{HasPassed}
use Rattle.tx_machine.proofs.Joining.{counted-behind, passed-behind, run-behind}
use Rattle.tx_state.specs.Meanings.{meaning_of}
use Rattle.tx_turn.specs.Turns.{tex_with}
use Rattle.tx_turn.proofs.MainLoop.{run-none}
use Rattle.tx_turn.proofs.Runs.{run-running, runs-on}
use Rattle.tx_turn.proofs.main_loop.run_on.Goals as goal

on-err : {T E : Type 0} {P : Type 0} (r : Result T E) → P → OnErr r P
on-err (Ok value) p = tt
on-err (Err e) p = p

pub loop-all-init : goal.loop-all-init
loop-all-init g c = record { run = run-none g.T.Stomach.effects c.args.s.now c.args.steps.now; within = omega arith }

pub run_next-requires-clause-running : goal.run_next-requires-clause-running
run_next-requires-clause-running g c = run-running g.T.Stomach.effects c.loop-all.all c.args.s.now c.loop-all.s c.args.steps.now c.loop-all.steps c.requires c.loop-all.invariant.run

pub returns-in_err-turns-clause-bound : goal.returns-in_err-turns-clause-bound
returns-in_err-turns-clause-bound g c =
    let fits : c.loop-all.all + (c.args.most - c.loop-all.all) ≤ c.args.most = omega (arith, c.loop-all-test.true) in
    let passed : HasPassed (tex_with g.T.Stomach.effects) c.args.most (meaning_of c.args.s.now) c.args.steps.now c.run_next.new.steps =
    passed-behind (tex_with g.T.Stomach.effects) c.loop-all.all (c.args.most - c.loop-all.all) c.args.most (meaning_of c.args.s.now) (meaning_of c.loop-all.s) c.args.steps.now c.loop-all.steps c.run_next.new.steps
    c.loop-all.invariant.run.turns c.loop-all.invariant.run.steps c.in_err-turns.ensures.bound fits in
    on-err c.from_residual.result passed

pub returns-then-not-plain-clause-most : goal.returns-then-not-plain-clause-most
returns-then-not-plain-clause-most g c = omega (arith, c.in_ok-turns.ensures.most, c.loop-all-test.true)

pub returns-then-not-plain-clause-turns : goal.returns-then-not-plain-clause-turns
returns-then-not-plain-clause-turns g c =
    run-behind (tex_with g.T.Stomach.effects) c.loop-all.all c.in_ok-turns.field-0 (meaning_of c.args.s.now) (meaning_of c.loop-all.s) (meaning_of c.run_next.new.s) c.args.s.now.said c.loop-all.s.said c.run_next.new.s.said
    c.loop-all.invariant.run.turns c.loop-all.invariant.run.said c.in_ok-turns.ensures.turns

pub returns-then-not-plain-clause-steps : goal.returns-then-not-plain-clause-steps
returns-then-not-plain-clause-steps g c =
    counted-behind c.loop-all.all c.args.steps.now c.loop-all.steps c.run_next.new.steps c.in_ok-turns.field-0 c.loop-all.invariant.run.steps c.in_ok-turns.ensures.steps

pub loop-all-preserved-else-not-plain-5 : goal.loop-all-preserved-else-not-plain-5
loop-all-preserved-else-not-plain-5 g c =
    let is_plain = c.is_plain-plain.ensures c.if-not-plain.false in
    let silent : length c.run_next.new.s.said ≡ length c.loop-all.s.said = is_plain.1 ∙ c.len-told.ensures in
    record {
      run = runs-on g.T.Stomach.effects c.loop-all.all c.in_ok-turns.field-0 c.args.s.now c.loop-all.s c.run_next.new.s c.args.steps.now c.loop-all.steps c.run_next.new.steps
          c.loop-all.invariant.run c.in_ok-turns.ensures.turns c.in_ok-turns.ensures.steps is_plain.0 silent;
      within = omega (arith, c.in_ok-turns.ensures.fewer, c.loop-all-test.true);
    }
