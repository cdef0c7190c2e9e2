-- What a call that takes turns leaves.
use Rattle.std.specs.Prelude.{◌≡◌, ℕ, ◌+◌, ◌≤◌, List, ◌++◌, Option, Some}
use Rattle.tx_bytes.specs.Files.{Files}
use Rattle.tx_files.specs.Reads.{Reads, noting}
use Rattle.tx_machine.specs.declared.turn.Taken.{Taken}
use Rattle.tx_event.specs.declared.types.Ask.{Ask}
use Rattle.tx_event.specs.declared.types.Event.{Event}
use Rattle.tx_event.specs.declared.types.Event.TheVariants.{Asks}
use Rattle.tx_machine.specs.declared.types.Close.{Close}
use Rattle.tx_machine.specs.declared.types.Close.TheVariants.{Page, Halt, Spent}
use Rattle.tx_machine.specs.declared.spot.Closed.{Closed}
use Rattle.tx_event.specs.Turns.{Awaits, kind_of}
use Rattle.tx_machine.specs.Machine.{Formatter}
use Rattle.tx_machine.specs.Plain.{ArePlain}
use Rattle.tx_machine.specs.Steps.{raised}
use Rattle.tx_machine.specs.Turn.{Place, Progress, one_turn}

-- a turn that ends a page or the run is taken, and one that the budget doesn't allow isn't
abbrev pub closing_turns : Close → ℕ
closing_turns (Page body) = 1
closing_turns (Halt stop) = 1
closing_turns Spent = 0

-- what ended them and the place after them are those of this progress, and the transcript that waits has gained its bytes
pub record Made {S : Type 0} (t : Progress S) (close : Option Close) (place : Place S) (before after : List ℕ) : Type 0 where
  pub close_is : close ≡ t.close
  pub place_is : place ≡ t.place
  pub said_is : after ≡ before ++ t.said

-- so many turns were taken at one go from this place to that one: the open files are the same, and each turn took 1 of the budget
pub record Passes {S : Type 0} (m : Formatter S) (from : Place S) (count : ℕ) (to : Place S) : Type 0 where
  pub turns : ArePlain m count from.state to.state
  pub opens_are : to.opens ≡ from.opens
  pub left_is : from.left ≡ count + to.left

-- behind an event that asks the machine awaits the reply
abbrev pub IsAwaiting : {S : Type 0} → Formatter S → S → Event → Type 0
IsAwaiting m state event = (ask : Ask) → event ≡ Asks ask → m.mode state ≡ Awaits (kind_of ask)

-- what ended them, the place after them and what was noted of files are those of this progress
pub record IsHeeded {S : Type 0} (t : Progress S) (close : Option Close) (place : Place S) (before after : Reads) : Type 0 where
  pub close_is : close ≡ t.close
  pub place_is : place ≡ t.place
  pub seen_is : after ≡ noting before t.log

-- turns at one go and one behind them, unless the budget refuses that one
pub record AreTaken {S : Type 0} (m : Formatter S) (files : Files) (from : Place S) (taken : Taken) (to : Place S) (said_before said : List ℕ) (seen_before seen : Reads) (counted_before counted : ℕ) : Type 0 where
  pub mid : Place S
  pub passes : Passes m from taken.passed mid
  pub made : Made (one_turn m files mid) taken.close to said_before said
  pub seen_is : seen ≡ noting seen_before (one_turn m files mid).log
  pub counted_is : counted ≡ raised (raised counted_before taken.passed) (one_turn m files mid).turns

-- what is known where memory was wanted among them
pub record HasCounted {S : Type 0} (m : Formatter S) (files : Files) (from : Place S) (before after : ℕ) : Type 0 where
  pub passed : ℕ
  pub mid : Place S
  pub passes : Passes m from passed mid
  pub counted : after ≤ raised (raised before passed) (one_turn m files mid).turns

-- this close, this piece of the transcript, this number of turns and this place are those of a stretch of turns
pub record Closes {S : Type 0} (t : Progress S) (closed : Closed) (place : Place S) : Type 0 where
  pub close_is : t.close ≡ Some closed.close
  pub piece_is : closed.piece ≡ t.said
  pub turns_is : closed.turns ≡ t.turns
  pub place_is : place ≡ t.place
