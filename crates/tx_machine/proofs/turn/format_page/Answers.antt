use Rattle.std.proofs.Common.{◌+◌, ◌≤◌, sym, ap, subst, arith}
use Rattle.tx_machine.specs.Counts.{Closes, closing_turns}
use Rattle.tx_machine.specs.Turn.{Place, stretch, place_of}
use Rattle.tx_machine.proofs.Going.{going-on, going-less, going-over, going-counted, going-reads, going-fits, going-fits_one}
use Rattle.tx_machine.proofs.Passing.{counted-bound, going-behind, passed-fits, passed-less}
use Rattle.tx_machine.proofs.turn.format_page.Goals as goal

pub returns-in_err-passed-clause-bound : goal.returns-in_err-passed-clause-bound
returns-in_err-passed-clause-bound g c = counted-bound g.met.M.Machine.lawful c.loop-passed.invariant c.in_err-passed.ensures.bound

pub overflow_add-turns : goal.overflow_add-turns
overflow_add-turns g c =
    let within : c.loop-passed.turns + c.in_ok-passed.field-0.passed ≤ c.args.spot.now.left = passed-fits g.met.M.Machine.lawful c.loop-passed.invariant c.in_ok-passed.ensures.taken.passes in
    omega arith

pub returns-in-Some-clause-closes : goal.returns-in-Some-clause-closes
returns-in-Some-clause-closes g c =
    let kept : Place g.M.Machine.Meaning → Type 0 = λ p. Closes (stretch g.M.Machine.formatter c.args.files.now (place_of g.M.Machine.meaning c.args.spot.now)) (record { close = c.in-Some.close; piece = c.take_said-piece.result; turns = c.loop-passed.turns + c.in_ok-passed.field-0.passed + c.closing_turns-turns.result }) p in
    subst kept (ap (λ s. record { state = s; opens = c.take_turns.new.spot.opens; left = c.take_turns.new.spot.left }) (sym c.take_said-piece.ensures.state))
    (going-over g.met.M.Machine.lawful (going-behind g.met.M.Machine.lawful c.loop-passed.invariant c.in_ok-passed.ensures.taken.passes) _ _ c.in-Some.is c.in_ok-passed.ensures.taken.made c.take_said-piece.ensures.said (ap (λ n. c.loop-passed.turns + c.in_ok-passed.field-0.passed + n) c.closing_turns-turns.ensures))

pub returns-in-Some-clause-steps : goal.returns-in-Some-clause-steps
returns-in-Some-clause-steps g c = going-counted g.met.M.Machine.lawful (going-behind g.met.M.Machine.lawful c.loop-passed.invariant c.in_ok-passed.ensures.taken.passes) c.in-Some.is c.in_ok-passed.ensures.taken.made c.in_ok-passed.ensures.taken.counted_is

pub returns-in-Some-clause-seen : goal.returns-in-Some-clause-seen
returns-in-Some-clause-seen g c = going-reads g.met.M.Machine.lawful (going-behind g.met.M.Machine.lawful c.loop-passed.invariant c.in_ok-passed.ensures.taken.passes) c.in-Some.is c.in_ok-passed.ensures.taken.made c.in_ok-passed.ensures.taken.seen_is

pub returns-in-Some-clause-bound : goal.returns-in-Some-clause-bound
returns-in-Some-clause-bound g c = counted-bound g.met.M.Machine.lawful c.loop-passed.invariant (record { passed = c.in_ok-passed.field-0.passed; mid = c.in_ok-passed.ensures.taken.mid; passes = c.in_ok-passed.ensures.taken.passes; counted = rw c.in_ok-passed.ensures.taken.counted_is (omega arith) })

pub loop-passed-smaller : goal.loop-passed-smaller
loop-passed-smaller g c =
    passed-less g.met.M.Machine.lawful c.loop-passed.invariant c.in_ok-passed.ensures.taken.passes
    (going-less g.met.M.Machine.lawful (going-behind g.met.M.Machine.lawful c.loop-passed.invariant c.in_ok-passed.ensures.taken.passes) c.in_default.is c.in_ok-passed.ensures.taken.made)

pub loop-passed-preserved : goal.loop-passed-preserved
loop-passed-preserved g c = going-on g.met.M.Machine.lawful (going-behind g.met.M.Machine.lawful c.loop-passed.invariant c.in_ok-passed.ensures.taken.passes) c.in_default.is c.in_ok-passed.ensures.taken.made c.in_ok-passed.ensures.taken.seen_is c.in_ok-passed.ensures.taken.counted_is

pub overflow_add-turns-in-Some : goal.overflow_add-turns-in-Some
overflow_add-turns-in-Some g c =
    let within : c.loop-passed.turns + c.in_ok-passed.field-0.passed + closing_turns c.in-Some.close ≤ c.args.spot.now.left = going-fits g.met.M.Machine.lawful (going-behind g.met.M.Machine.lawful c.loop-passed.invariant c.in_ok-passed.ensures.taken.passes) c.in-Some.is c.in_ok-passed.ensures.taken.made in
    omega (arith, c.closing_turns-turns.ensures)

pub overflow_add-turns-in-loop-passed : goal.overflow_add-turns-in-loop-passed
overflow_add-turns-in-loop-passed g c =
    let within : c.loop-passed.turns + c.in_ok-passed.field-0.passed + 1 ≤ c.args.spot.now.left = going-fits_one g.met.M.Machine.lawful (going-behind g.met.M.Machine.lawful c.loop-passed.invariant c.in_ok-passed.ensures.taken.passes) c.in_default.is c.in_ok-passed.ensures.taken.made in
    omega arith
