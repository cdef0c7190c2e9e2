use Rattle.std.proofs.Common.{◌≤◌, Result, Ok, Err, OnErr, ap, ◌∙◌, arith}
use Rattle.tx_machine.specs.Plain.{HasPassed, turns_of}
use Rattle.tx_machine.specs.Steps.{raised}
use Rattle.tx_machine.proofs.Joining.{last-one, none-counted, none-passed, none-then, none-turns, passed-within, some-run, some-turns}
use Rattle.tx_state.specs.Meanings.{meaning_of}
use Rattle.tx_turn.specs.Turns.{tex_with}
use Rattle.tx_turn.proofs.Runs.{passed-running}
use Rattle.tx_turn.proofs.main_loop.run_next.Goals as goal

on-err : {T E : Type 0} {P : Type 0} (r : Result T E) → P → OnErr r P
on-err (Ok value) p = tt
on-err (Err e) p = p

pub returns-in_err-turns-clause-bound : goal.returns-in_err-turns-clause-bound
returns-in_err-turns-clause-bound g c = on-err c.from_residual.result (passed-within (tex_with g.T.Stomach.effects) c.args.most c.in_err-turns.ensures.bound (omega arith))

pub returns-in-Some-clause-most : goal.returns-in-Some-clause-most
returns-in-Some-clause-most g c =
    omega (arith, some-turns (tex_with g.T.Stomach.effects) c.in_ok-turns.field-0 c.in_ok-turns.ensures.turns c.in-Some.is, c.in_ok-turns.ensures.most, c.requires.some)

pub returns-in-Some-clause-turns : goal.returns-in-Some-clause-turns
returns-in-Some-clause-turns g c = some-run (tex_with g.T.Stomach.effects) c.in_ok-turns.field-0 c.in_ok-turns.ensures.turns c.in-Some.is

pub returns-in-Some-clause-steps : goal.returns-in-Some-clause-steps
returns-in-Some-clause-steps g c =
    c.in_ok-turns.ensures.steps ∙ ap (raised c.args.steps.now) (some-turns (tex_with g.T.Stomach.effects) c.in_ok-turns.field-0 c.in_ok-turns.ensures.turns c.in-Some.is)

pub take_token-requires : goal.take_token-requires
take_token-requires g c =
    passed-running g.T.Stomach.effects c.in_ok-turns.field-0 c.args.s.now c.run_characters.new.s c.requires.running c.in_ok-turns.ensures.turns c.in-None.is

pub returns-in_err-behind-in-None-clause-bound : goal.returns-in_err-behind-in-None-clause-bound
returns-in_err-behind-in-None-clause-bound g c =
    let fits : turns_of c.in_ok-turns.field-0 ≤ c.args.most = omega (arith, c.in_ok-turns.ensures.most) in
    let passed : HasPassed (tex_with g.T.Stomach.effects) c.args.most (meaning_of c.args.s.now) c.args.steps.now c.take_token.new.steps =
    none-passed (tex_with g.T.Stomach.effects) c.in_ok-turns.field-0 c.in_ok-turns.ensures.turns c.args.most c.args.steps.now c.take_token.new.steps c.in-None.is fits
    (c.in_err-behind-in-None.ensures.bound ∙ c.in_ok-turns.ensures.steps) in
    on-err c.from_residual-in_err-behind-in-None.result passed

pub returns-in_ok-behind-in-None-clause-most : goal.returns-in_ok-behind-in-None-clause-most
returns-in_ok-behind-in-None-clause-most g c =
    omega (arith, last-one c.in_ok-behind-in-None.behind, none-turns (tex_with g.T.Stomach.effects) c.in_ok-turns.field-0 c.in_ok-turns.ensures.turns c.in-None.is, c.in_ok-turns.ensures.most, c.requires.some)

pub returns-in_ok-behind-in-None-clause-turns : goal.returns-in_ok-behind-in-None-clause-turns
returns-in_ok-behind-in-None-clause-turns g c =
    none-then (tex_with g.T.Stomach.effects) c.in_ok-turns.field-0 c.in_ok-turns.ensures.turns c.in_ok-behind-in-None.behind (meaning_of c.take_token.new.s) c.take_token.new.s.said c.in-None.is c.in_ok-behind-in-None.ensures.last

pub returns-in_ok-behind-in-None-clause-steps : goal.returns-in_ok-behind-in-None-clause-steps
returns-in_ok-behind-in-None-clause-steps g c =
    none-counted (tex_with g.T.Stomach.effects) c.in_ok-turns.field-0 c.in_ok-turns.ensures.turns c.in_ok-behind-in-None.behind c.args.steps.now c.run_characters.new.steps c.take_token.new.steps c.in-None.is c.in_ok-turns.ensures.steps c.in_ok-behind-in-None.ensures.steps
