-- What a machine is: pure functions on its states, which know of no file, no offset and no page number.
use Rattle.std.specs.Prelude.{◌≡◌, ℕ, ◌≤◌, Bool, true, false, List}
use Rattle.tx_event.specs.declared.types.AskKind.{AskKind}
use Rattle.tx_event.specs.declared.types.Reply.{Reply}
use Rattle.tx_event.specs.Turns.{Mode, Ready, Awaits, Stepped, mode_after, fits}
use Rattle.tx_machine.specs.declared.types.Date.{Date}

-- the machine: its first state, what a turn from a state costs, the turn, the state after a reply, what a state is ready for,
-- and whether two states are equal
pub record Formatter (S : Type 0) : Type 0 where
  pub start : Date → List ℕ → S
  pub cost : S → ℕ
  pub step : S → Stepped S
  pub take : S → Reply → S
  pub mode : S → Mode
  pub same : S → S → Bool

-- the laws of every machine: a turn costs something, events and replies lead from mode to mode, and equal states are told
pub record IsLawful {S : Type 0} (m : Formatter S) : Type 0 where
  pub begins : (date : Date) (name : List ℕ) → m.mode (m.start date name) ≡ Ready
  pub costs : (s : S) → 1 ≤ m.cost s
  pub turns : (s : S) → m.mode s ≡ Ready → m.mode (m.step s).next ≡ mode_after (m.step s).event
  pub takes : (s : S) (kind : AskKind) (reply : Reply) → m.mode s ≡ Awaits kind → fits kind reply ≡ true → m.mode (m.take s reply) ≡ Ready
  pub tells : (a b : S) → (m.same a b ≡ true → a ≡ b) × (a ≡ b → m.same a b ≡ true)
