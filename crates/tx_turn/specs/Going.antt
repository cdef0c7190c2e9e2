-- Turns at one go: those that only read, and of them those of characters of a line or a list that are tokens as they stand, as long as
-- nothing else is to be done for them than to keep them, or to pass them.
use Rattle.std.specs.Prelude.{◌≡◌, ℕ, Bool, true, false, [], Option, Some, None}
use Rattle.tx_command.specs.Commands.{is_begun}
use Rattle.tx_lex.specs.declared.types.PlainToken.{PlainToken}
use Rattle.tx_event.specs.declared.types.Event.{Event}
use Rattle.tx_machine.specs.Plain.{ArePlain, IsPlain, IsTaken}
use Rattle.tx_machine.specs.Steps.{raised}
use Rattle.tx_pending.specs.Plain.{IsNext}
use Rattle.tx_seen.specs.declared.seen.Seen.{Seen}
use Rattle.tx_state.specs.declared.parts.Phase.TheVariants.{Running}
use Rattle.tx_state.specs.declared.state.State.{State}
use Rattle.tx_state.specs.Meanings.{IsStepped, meaning_of, state_of}
use Rattle.tx_state.specs.Outcomes.{leaves}
use Rattle.tx_state.specs.State.{TexState}
use Rattle.tx_turn.specs.declared.going.Going.{Going}
use Rattle.tx_turn.specs.declared.going.Going.TheVariants.{Letters, Text, Within}
use Rattle.tx_turn.specs.Effects.{Effects}
use Rattle.tx_turn.specs.MainLoop.{IsLooping}
use Rattle.tx_turn.specs.Turns.{taking, tex_with}

-- a token is read next
pub record IsReading (s : State) : Type 0 where
  pub running : s.phase ≡ Running
  pub due : s.due ≡ []

-- it is the caller's, since no expansion has begun
pub record IsIdle (s : State) : Type 0 where
  pub running : s.phase ≡ Running
  pub due : s.due ≡ []
  pub begun : s.expander.begun ≡ []

-- where turns are taken at one go: in the main loop, which is that of horizontal lists alone, so that a character of a formula takes a
-- turn of its own; where a text may be open that takes the token (sections 473 and 477); or where an expansion may take it, such as an
-- argument (sections 391 to 394) or skipped text (section 494), in a formula as elsewhere
abbrev pub IsGoing : Going → State → Type 0
IsGoing (Letters font) s = IsLooping s font
IsGoing Text s = IsIdle s
IsGoing Within s = IsReading s

-- they went on by one turn
pub record HasGone (effects : Effects) (going : Going) (before after : State) : Type 0 where
  pub turn : IsPlain (tex_with effects) (meaning_of before) (meaning_of after)
  pub said : after.said ≡ before.said
  pub goes : IsGoing going after

-- whether they did; else all is as it was
abbrev pub GoesOn : Effects → Bool → Going → State → State → Type 0
GoesOn effects true going before after = HasGone effects going before after
GoesOn effects false going before after = (meaning_of after ≡ meaning_of before) × (after.said ≡ before.said)

-- they went on by so many turns, which were counted
pub record HasRun (effects : Effects) (count : ℕ) (before after : State) (counted_before counted : ℕ) : Type 0 where
  pub turns : ArePlain (tex_with effects) count (meaning_of before) (meaning_of after)
  pub said : after.said ≡ before.said
  pub steps : counted ≡ raised counted_before count

-- what is read next is the open command's, in whatever mode: no text is open, and no expansion has begun
pub record IsCommanding (s : State) : Type 0 where
  pub running : s.phase ≡ Running
  pub due : s.due ≡ []
  pub text : s.text ≡ None
  pub begun : s.expander.begun ≡ []

-- a character comes next, and the open command is begun
pub record IsNextOf (s : State) (first : PlainToken) : Type 0 where
  pub begun : is_begun s.scan.taken ≡ true
  pub comes : IsNext s.table.table.categories s.input first

-- a token has joined the open command, which goes on
pub record HasJoined (effects : Effects) (seen : Seen) (before after : State) : Type 0 where
  pub next : TexState
  pub goes : taking effects (state_of before) seen ≡ leaves next
  pub state : state_of after ≡ next
  pub phase : after.phase ≡ before.phase
  pub said : after.said ≡ before.said
  pub due : after.due ≡ before.due
  pub text : after.text ≡ before.text
  pub begun : after.expander ≡ before.expander

-- so it has, or this is what has come of it
abbrev pub IsFed : Effects → Seen → Option Event → State → State → Type 0
IsFed effects seen None before after = HasJoined effects seen before after
IsFed effects seen (Some event) before after = IsStepped (taking effects (state_of before) seen) before event after

-- a turn of the open command, which goes on
pub record HasGoneOn (effects : Effects) (before after : State) : Type 0 where
  pub turn : IsPlain (tex_with effects) (meaning_of before) (meaning_of after)
  pub said : after.said ≡ before.said
  pub commanding : IsCommanding after

-- so it has, or this is what has come of it
abbrev pub HasTurned : Effects → Option Event → State → State → Type 0
HasTurned effects None before after = HasGoneOn effects before after
HasTurned effects (Some event) before after = IsTaken (tex_with effects) event (meaning_of before) (meaning_of after) before.said after.said
