use Rattle.std.proofs.Common.{◌≡◌, Result, Ok, Err, OnErr, refl}
use Rattle.tx_turn.proofs.Runs.{read-taken}
use Rattle.tx_turn.proofs.main_loop.take_token.Goals as goal

on-err : {T E : Type 0} {P : Type 0} (r : Result T E) → P → OnErr r P
on-err (Ok value) p = tt
on-err (Err e) p = p

pub returns-in_err-event-clause-bound : goal.returns-in_err-event-clause-bound
returns-in_err-event-clause-bound g c =
    let same : c.args.steps.now ≡ c.args.steps.now = refl in
    on-err c.from_residual.result same

pub returns-clause-last : goal.returns-clause-last
returns-clause-last g c =
    read-taken g.T.Stomach.effects c.args.s.now c.read.new.s c.in_ok-event.event c.requires (c.is_empty.ensures.0 c.if-not-is_empty.false) c.in_ok-event.ensures
