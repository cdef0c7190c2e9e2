-- Turns at one go, of characters and of other tokens, one behind the other.
use Rattle.std.proofs.Common.{◌≡◌, ℕ, suc, ◌+◌, [], length, None, Some, refl, ap, ◌∙◌, subst, arith}
use Rattle.tx_event.specs.declared.types.Event.{Event}
use Rattle.tx_event.specs.declared.types.Event.TheVariants.{Went}
use Rattle.tx_machine.specs.declared.types.Passed.{Passed}
use Rattle.tx_event.specs.Turns.{Ready}
use Rattle.tx_machine.specs.Plain.{ArePlain, HasRunOn, IsTaken, turns_of}
use Rattle.tx_machine.specs.Steps.{raised}
use Rattle.tx_machine.proofs.Going.{raised-raised}
use Rattle.tx_machine.proofs.Joining.{none-plain, plain-behind, some-turns, went-plain, went-silent}
use Rattle.tx_machine.proofs.Passing.{ready-plain}
use Rattle.tx_state.specs.declared.parts.Phase.{Phase}
use Rattle.tx_state.specs.declared.parts.Phase.TheVariants.{Running, Waiting, Halted}
use Rattle.tx_state.specs.declared.state.State.{State}
use Rattle.tx_state.specs.Meanings.{IsStepped, meaning_of, state_of}
use Rattle.tx_state.specs.State.{TexState, meaning_in, mode_of}
use Rattle.tx_turn.specs.Effects.{Effects}
use Rattle.tx_turn.specs.Going.{HasRun}
use Rattle.tx_turn.specs.Lawful.{lawful-with}
use Rattle.tx_turn.specs.Turns.{goes_on, reads, tex_with}
use Rattle.tx_turn.proofs.Commanding.{turned-event}

-- a state that is ready for a turn runs
phase-running : (phase : Phase) (s : TexState) → mode_of (meaning_in phase s) ≡ Ready → phase ≡ Running
phase-running Running s ready = refl
phase-running (Waiting kind) s ready = absurd (cc ready)
phase-running Halted s ready = absurd (cc ready)

-- it still does behind plain turns
plain-running : (effects : Effects) (count : ℕ) (s new : State) → mode_of (meaning_of s) ≡ Ready → ArePlain (tex_with effects) count (meaning_of s) (meaning_of new) → new.phase ≡ Running
unfolding tex_with
plain-running effects count s new ready turns =
    let still : mode_of (meaning_of new) ≡ Ready = ready-plain (tex_with effects) (lawful-with effects) count (meaning_of s) (meaning_of new) turns ready in
    phase-running new.phase (state_of new) still

pub run-running : (effects : Effects) (count : ℕ) (s new : State) (before after : ℕ) → mode_of (meaning_of s) ≡ Ready → HasRun effects count s new before after → new.phase ≡ Running
run-running effects count s new before after ready run = plain-running effects count s new ready run.turns

pub passed-running : (effects : Effects) (passed : Passed) (s new : State) → s.phase ≡ Running → HasRunOn (tex_with effects) passed (meaning_of s) (meaning_of new) s.said new.said → passed.last ≡ None → new.phase ≡ Running
passed-running effects passed s new running run none =
    let ready : mode_of (meaning_of s) ≡ Ready = ap (λ (p : Phase). mode_of (meaning_in p (state_of s))) running in
    plain-running effects passed.turns s new ready (none-plain (tex_with effects) passed run none)

-- the turn of a token that is read where nothing is due
pub read-taken : (effects : Effects) (s new : State) (event : Event) → s.phase ≡ Running → s.due ≡ [] → IsStepped (reads effects (state_of s)) s event new → IsTaken (tex_with effects) event (meaning_of s) (meaning_of new) s.said new.said
read-taken effects s new event running due did = turned-event effects s s new (reads effects (state_of s)) event running due (ap (goes_on effects (state_of s)) due) refl did

-- turns behind plain ones are plain with them, where the last of them went and the transcript is as long as it was
pub runs-on : (effects : Effects) (all : ℕ) (passed : Passed) (s mid new : State) (before counted after : ℕ) → HasRun effects all s mid before counted → HasRunOn (tex_with effects) passed (meaning_of mid) (meaning_of new) mid.said new.said → after ≡ raised counted (turns_of passed) → passed.last ≡ Some Went → length new.said ≡ length mid.said
    → HasRun effects (all + passed.turns + 1) s new before after
runs-on effects all passed s mid new before counted after run more tally went silent =
    let sum : all + suc passed.turns ≡ all + passed.turns + 1 = omega arith in
    let one : turns_of passed ≡ passed.turns + 1 = some-turns (tex_with effects) passed more went in
    let count : all + turns_of passed ≡ all + passed.turns + 1 = omega (arith, one) in
    let turns : ArePlain (tex_with effects) (all + suc passed.turns) (meaning_of s) (meaning_of new) =
    plain-behind (tex_with effects) all (suc passed.turns) (meaning_of s) (meaning_of mid) (meaning_of new) run.turns (went-plain (tex_with effects) passed more went silent) in
    record {
      turns = subst (λ (n : ℕ). ArePlain (tex_with effects) n (meaning_of s) (meaning_of new)) sum turns;
      said = went-silent (tex_with effects) passed more went silent ∙ run.said;
      steps = tally ∙ ap (λ (n : ℕ). raised n (turns_of passed)) run.steps ∙ raised-raised before all (turns_of passed) ∙ ap (raised before) count;
    }
