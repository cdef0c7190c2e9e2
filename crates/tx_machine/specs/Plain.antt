-- Turns that a machine may take at one go.
use Rattle.std.specs.Prelude.{◌≡◌, ℕ, suc, zero, ◌+◌, ◌≤◌, List, [], ◌++◌, Option, Some, None}
use Rattle.tx_event.specs.declared.types.Event.{Event}
use Rattle.tx_event.specs.declared.types.Event.TheVariants.{Went}
use Rattle.tx_machine.specs.declared.types.Passed.{Passed}
use Rattle.tx_machine.specs.Machine.{Formatter}
use Rattle.tx_machine.specs.Steps.{raised}

-- a turn of which the outside need know nothing: it costs 1, asks and ships nothing, and tells nothing
pub record IsPlain {S : Type 0} (m : Formatter S) (from to : S) : Type 0 where
  pub costs : m.cost from ≡ 1
  pub went : (m.step from).event ≡ Went
  pub silent : (m.step from).said ≡ []
  pub next : (m.step from).next ≡ to

-- so many of them, one after the other
abbrev pub ArePlain : {S : Type 0} → Formatter S → ℕ → S → S → Type 0
ArePlain m zero from to = from ≡ to
ArePlain {S = S} m (suc more) from to = (mid : S) × (ArePlain m more from mid × IsPlain m mid to)

-- what is known where memory was wanted among them: some were taken, and counted
pub record HasPassed {S : Type 0} (m : Formatter S) (most : ℕ) (from : S) (before after : ℕ) : Type 0 where
  pub count : ℕ
  pub to : S
  pub within : count ≤ most
  pub turns : ArePlain m count from to
  pub steps : after ≡ raised before count

-- one more turn, whatever comes of it: it costs 1, and this is its event
pub record IsTaken {S : Type 0} (m : Formatter S) (event : Event) (from to : S) (before after : List ℕ) : Type 0 where
  pub costs : m.cost from ≡ 1
  pub event_is : event ≡ (m.step from).event
  pub next : to ≡ (m.step from).next
  pub said : after ≡ before ++ (m.step from).said

abbrev pub IsLast : {S : Type 0} → Formatter S → Option Event → S → S → List ℕ → List ℕ → Type 0
IsLast m None from to before after = (to ≡ from) × (after ≡ before)
IsLast m (Some event) from to before after = IsTaken m event from to before after

-- turns at one go: plain ones, and one more behind them, if its event is here
pub record HasRunOn {S : Type 0} (m : Formatter S) (passed : Passed) (from to : S) (before after : List ℕ) : Type 0 where
  pub mid : S
  pub plain : ArePlain m passed.turns from mid
  pub last : IsLast m passed.last mid to before after

-- how many there were
abbrev pub last_turns : Option Event → ℕ
last_turns None = 0
last_turns (Some event) = 1

abbrev pub turns_of : Passed → ℕ
turns_of passed = passed.turns + last_turns passed.last
