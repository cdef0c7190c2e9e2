use Rattle.std.proofs.Common.{Result, Ok, Err, OnErr}
use Rattle.tx_machine.specs.Turn.{place_of}
use Rattle.tx_machine.proofs.Heeding.{last-are_taken, last-awaits, last-has_counted, none-are_taken, none-has_counted, none-ready, passed-counted}
use Rattle.tx_machine.proofs.turn.take_turns.Goals as goal

on-err : {T E : Type 0} {P : Type 0} (r : Result T E) → P → OnErr r P
on-err (Ok value) p = tt
on-err (Err e) p = p

pub returns-in_err-turns-clause-bound : goal.returns-in_err-turns-clause-bound
returns-in_err-turns-clause-bound g c =
    on-err c.from_residual.result (passed-counted g.M.Machine.formatter c.args.files.now (place_of g.M.Machine.meaning c.args.spot.now) c.in_err-turns.ensures.bound)

pub heed-requires : goal.heed-requires
heed-requires g c =
    last-awaits g.M.Machine.formatter c.args.files.now (place_of g.M.Machine.meaning c.args.spot.now) c.in_ok-turns.field-0 c.in_ok-turns.ensures.turns c.in_ok-turns.ensures.most g.met.M.Machine.lawful c.in-Some.is c.requires

pub returns-in_err-close-in-Some-clause-bound : goal.returns-in_err-close-in-Some-clause-bound
returns-in_err-close-in-Some-clause-bound g c = on-err c.from_residual-in_err-close-in-Some.result
    (last-has_counted g.M.Machine.formatter c.args.files.now (place_of g.M.Machine.meaning c.args.spot.now) c.in_ok-turns.field-0 c.in_ok-turns.ensures.turns c.in_ok-turns.ensures.most c.in-Some.is c.in_ok-turns.ensures.steps)

pub take_turn-requires : goal.take_turn-requires
take_turn-requires g c =
    none-ready g.M.Machine.formatter c.args.files.now (place_of g.M.Machine.meaning c.args.spot.now) c.in_ok-turns.field-0 c.in_ok-turns.ensures.turns c.in_ok-turns.ensures.most g.met.M.Machine.lawful c.in-None.is c.requires

pub returns-in_err-close-in-None-clause-bound : goal.returns-in_err-close-in-None-clause-bound
returns-in_err-close-in-None-clause-bound g c = on-err c.from_residual-in_err-close-in-None.result
    (none-has_counted g.M.Machine.formatter c.args.files.now (place_of g.M.Machine.meaning c.args.spot.now) c.in_ok-turns.field-0 c.in_ok-turns.ensures.turns c.in_ok-turns.ensures.most c.in-None.is c.in_ok-turns.ensures.steps c.take_turn.ensures.steps)

pub returns-in_ok-close-in-Some-clause-taken : goal.returns-in_ok-close-in-Some-clause-taken
returns-in_ok-close-in-Some-clause-taken g c =
    last-are_taken g.M.Machine.formatter c.args.files.now (place_of g.M.Machine.meaning c.args.spot.now) c.in_ok-turns.field-0 c.in_ok-turns.ensures.turns c.in_ok-turns.ensures.most c.in-Some.is
    c.in_ok-close-in-Some.ensures.heeded c.in_ok-close-in-Some.ensures.pending c.in_ok-turns.ensures.steps

pub returns-in_ok-close-in-None-clause-taken : goal.returns-in_ok-close-in-None-clause-taken
returns-in_ok-close-in-None-clause-taken g c =
    none-are_taken g.M.Machine.formatter c.args.files.now (place_of g.M.Machine.meaning c.args.spot.now) c.in_ok-turns.field-0 c.in_ok-turns.ensures.turns c.in_ok-turns.ensures.most c.in-None.is
    c.in_ok-close-in-None.ensures.made c.in_ok-close-in-None.ensures.seen c.in_ok-turns.ensures.steps c.take_turn.ensures.steps
