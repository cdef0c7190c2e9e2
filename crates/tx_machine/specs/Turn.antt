-- One turn of a run, and the turns up to the next page or the run's end.
use Rattle.std.specs.Prelude.{ℕ, suc, zero, ◌+◌, ◌-◌, nat_lt, List, [], ◌++◌, Option, Some, None, if◌then◌else◌}
use Rattle.tx_bytes.specs.Files.{Files}
use Rattle.tx_files.specs.declared.reads.Note.{Note}
use Rattle.tx_machine.specs.declared.types.OpenFile.{OpenFile}
use Rattle.tx_machine.specs.declared.types.Close.{Close}
use Rattle.tx_machine.specs.declared.types.Close.TheVariants.{Page, Halt, Spent}
use Rattle.tx_event.specs.declared.types.Event.{Event}
use Rattle.tx_event.specs.declared.types.Event.TheVariants.{Went, Asks, Shipped, Stopped}
use Rattle.tx_machine.specs.declared.spot.Spot.{Spot}
use Rattle.tx_machine.specs.Machine.{Formatter}
use Rattle.tx_machine.specs.Opens.{Answered, reply_to}
use Rattle.tx_machine.specs.Notes.{notes_of}

-- where a run stands: the machine's state, the open files, and what is left of the page's budget
pub record Place (S : Type 0) : Type 0 where
  pub state : S
  pub opens : List OpenFile
  pub left : ℕ

-- what came of some turns: what ended them, if anything did, the transcript that they gave, their number, what they saw of
-- files, in order, and the place after them
pub record Progress (S : Type 0) : Type 0 where
  pub close : Option Close
  pub said : List ℕ
  pub turns : ℕ
  pub log : List Note
  pub place : Place S

-- the place after the reply to an ask
abbrev pub replied : {S : Type 0} → Formatter S → S → ℕ → Answered → Place S
replied m state left answered = record { state = m.take state answered.reply; opens = answered.opens; left = left }

-- what comes of a turn with this event, which leaves this much of the budget
abbrev pub after_event : {S : Type 0} → Formatter S → Files → List OpenFile → ℕ → S → List ℕ → Event → Progress S
after_event m files opens left next said Went =
    record { close = None; said = said; turns = 1; log = []; place = record { state = next; opens = opens; left = left } }
after_event m files opens left next said (Asks ask) =
    record { close = None; said = said; turns = 1; log = notes_of files opens ask; place = replied m next left (reply_to files opens ask) }
after_event m files opens left next said (Shipped body) =
    record { close = Some (Page body); said = said; turns = 1; log = []; place = record { state = next; opens = opens; left = left } }
after_event m files opens left next said (Stopped stop) =
    record { close = Some (Halt stop); said = said; turns = 1; log = []; place = record { state = next; opens = opens; left = left } }

-- what comes of this event, of which the transcript has got its bytes
abbrev pub came : {S : Type 0} → Formatter S → Files → Place S → Event → Progress S
came m files place event = after_event m files place.opens place.left place.state [] event

-- one turn, if the budget allows it
unfoldable pub one_turn : {S : Type 0} → Formatter S → Files → Place S → Progress S
one_turn m files place =
    if nat_lt place.left (m.cost place.state)
    then record { close = Some Spent; said = []; turns = 0; log = []; place = place }
    else after_event m files place.opens (place.left - m.cost place.state)
    (m.step place.state).next (m.step place.state).said (m.step place.state).event

-- some turns and then others
abbrev pub joined : {S : Type 0} → Progress S → Progress S → Progress S
joined first later =
    record { close = later.close; said = first.said ++ later.said; turns = first.turns + later.turns; log = first.log ++ later.log; place = later.place }

-- turns until something ends them; since each costs something, what is left of the budget bounds their number
abbrev pub stretch_by : {S : Type 0} → Formatter S → Files → ℕ → Place S → Progress S
stretch_by m files zero place = one_turn m files place
stretch_by m files (suc more) place =
    elim (one_turn m files place).close [
      | None ↦ joined (one_turn m files place) (stretch_by m files more (one_turn m files place).place)
      | Some close ↦ one_turn m files place
    ]

-- the turns up to the next page, or to the run's end
unfoldable pub stretch : {S : Type 0} → Formatter S → Files → Place S → Progress S
stretch m files place = stretch_by m files place.left place

-- what a run goes on with, in code: the same place, its state in the machine's own form
abbrev pub place_of : {S M : Type 0} → (S → M) → Spot S → Place M
place_of meaning spot = record { state = meaning spot.state; opens = spot.opens; left = spot.left }
