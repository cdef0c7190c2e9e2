-- How a command is taken off the input.
use Rattle.std.specs.Prelude.{◌≡◌, List, [], ◌∷◌, ◌++◌}
use Rattle.tx_pending.specs.Elements.{Input, given_back}
use Rattle.tx_seen.specs.declared.fed.Fed.{Fed}
use Rattle.tx_seen.specs.declared.fed.Fed.TheVariants as fed
use Rattle.tx_seen.specs.declared.fed.Value.{Value}
use Rattle.tx_seen.specs.declared.fed.Want.{Want}
use Rattle.tx_seen.specs.declared.item.Item.{Item}
use Rattle.tx_seen.specs.declared.item.Item.TheVariants.{Took}
use Rattle.tx_seen.specs.declared.place.Place.{Place}
use Rattle.tx_seen.specs.declared.seen.Seen.{Seen}
use Rattle.tx_seen.specs.Readings.{More, Done, Wrong}
use Rattle.tx_scan.specs.Rests.{HasTakenBy}
use Rattle.tx_scan.specs.Settled as settled
use Rattle.tx_scan.specs.Settled.{tokens_of}
use Rattle.tx_scan.specs.Supplied.{with_values}
use Rattle.tx_command.specs.declared.scans.Scans.{Scans}
use Rattle.tx_command.specs.declared.scans.Taken.{Taken}
use Rattle.tx_command.specs.declared.scans.Taken.TheVariants as taken
use Rattle.tx_command.specs.declared.types.Command.{Command}
use Rattle.tx_command.specs.declared.types.Head.{Head}
use Rattle.tx_prim.specs.declared.modes.Mode.{Mode}
use Rattle.tx_command.specs.Begun.{Begun}
use Rattle.tx_command.specs.Commands.{command}
use Rattle.tx_command.specs.Rests.{command_rest, held, more_needed}

-- a token, and the values that the command needs behind it, as a table has them, join what it has taken
abbrev pub joined : (Place → Value) → Mode → Head → List Item → Seen → List Item
joined at mode head taken t = with_values at (command mode head) (taken ++ Took t ∷ [])

-- an answer that ends the command, where no token is given back
abbrev pub IsEnd : {A : Type 0} → Fed A → Type 0
IsEnd (fed.More want) = ⊥
IsEnd (fed.Need kind) = ⊥
IsEnd (fed.Done value back) = back ≡ 0
IsEnd (fed.Wrong error) = Unit {0}

-- the answer says what these items are of a command, and those that were taken are they, or give the same tokens back
abbrev pub IsSettled : Mode → Head → List Item → List Item → Scans → Fed Command → Type 0
IsSettled mode head = settled.IsSettled (command mode head) (HasTakenBy (command_rest mode head) held (command mode head)) more_needed

-- the same; or a value is needed
abbrev pub IsPending : (Place → Value) → Mode → Head → List Item → List Item → Scans → Fed Command → Type 0
IsPending at mode head = settled.IsPending at (command mode head) (HasTakenBy (command_rest mode head) held (command mode head)) more_needed

-- of these items the command isn't whole yet; or it is this one, and what it didn't need is read again; or it is wrong
abbrev pub IsTakenAll : Begun → List Item → Input → Begun → Input → Command → Taken → Type 0
IsTakenAll old items before new after made taken.More =
    ((want : Want) × (command old.mode old.head items ≡ More want)) × ((new ≡ record old { taken = items }) × (after ≡ before))
IsTakenAll old items before new after made taken.Whole =
    (behind : List Item) × ((command old.mode old.head items ≡ Done made behind) × ((new ≡ record old { taken = [] }) × (after ≡ given_back before (tokens_of behind))))
IsTakenAll old items before new after made (taken.Wrong e) = command old.mode old.head items ≡ Wrong e

-- one more token
abbrev pub IsTaken : (Place → Value) → Begun → Seen → Input → Begun → Input → Command → Taken → Type 0
IsTaken at old t before new after made taken = IsTakenAll old (joined at old.mode old.head old.taken t) before new after made taken
