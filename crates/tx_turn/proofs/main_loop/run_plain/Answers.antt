use Rattle.std.proofs.Common.{◌≡◌, ℕ, Result, Ok, Err, OnErr, arith, subst}
use Rattle.tx_machine.specs.Plain.{HasPassed}
use Rattle.tx_state.specs.Meanings.{meaning_of}
use Rattle.tx_turn.specs.Going.{HasGone, HasRun}
use Rattle.tx_turn.specs.Turns.{tex_with}
use Rattle.tx_turn.proofs.MainLoop.{goes-false, goes-true, run-more, run-none, run-passed, run-still}
use Rattle.tx_turn.proofs.main_loop.run_plain.Goals as goal

on-err : {T E : Type 0} {P : Type 0} (r : Result T E) → P → OnErr r P
on-err (Ok value) p = tt
on-err (Err e) p = p

pub loop-count-init : goal.loop-count-init
loop-count-init g c = record { run = run-none g.T.Stomach.effects c.args.s.now c.args.steps.now; goes = c.requires }

pub loop-count-preserved : goal.loop-count-preserved
loop-count-preserved g c =
    let last : HasGone g.T.Stomach.effects c.args.going c.loop-count.s c.go_on.new.s = goes-true g.T.Stomach.effects c.in_ok-went.went c.args.going c.loop-count.s c.go_on.new.s c.if-not-went.false c.in_ok-went.ensures in
    record {
      run = run-more g.T.Stomach.effects c.loop-count.count c.args.s.now c.loop-count.s c.go_on.new.s c.args.going c.args.steps.now c.loop-count.steps c.tick.new.self c.loop-count.invariant.run last c.tick.ensures;
      goes = last.goes;
    }

pub returns-then-not-went-clause-run : goal.returns-then-not-went-clause-run
returns-then-not-went-clause-run g c =
    run-still g.T.Stomach.effects c.loop-count.count c.args.s.now c.loop-count.s c.go_on.new.s c.args.steps.now c.loop-count.steps c.loop-count.invariant.run
    (goes-false g.T.Stomach.effects c.in_ok-went.went c.args.going c.loop-count.s c.go_on.new.s c.if-not-went.true c.in_ok-went.ensures)

pub returns-in_err-went-clause-bound : goal.returns-in_err-went-clause-bound
returns-in_err-went-clause-bound g c =
    let passed : HasPassed (tex_with g.T.Stomach.effects) c.args.most (meaning_of c.args.s.now) c.args.steps.now c.loop-count.steps = run-passed g.T.Stomach.effects c.loop-count.count c.args.most c.args.s.now c.loop-count.s c.args.steps.now c.loop-count.steps c.loop-count.invariant.run (omega arith) in
    on-err c.from_residual.result passed

pub returns-clause-run : goal.returns-clause-run
returns-clause-run g c =
    let all : c.loop-count.count ≡ c.args.most = omega arith in
    subst (λ (n : ℕ). HasRun g.T.Stomach.effects n c.args.s.now c.loop-count.s c.args.steps.now c.loop-count.steps) all c.loop-count.invariant.run
