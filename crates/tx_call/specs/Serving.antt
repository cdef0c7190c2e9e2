-- What a call that serves a document leaves.
use Rattle.std.specs.Prelude.{◌≡◌, ℕ, ◌+◌, ◌≤◌, ◌<◌, ◌⊎◌, List, [], ◌∷◌, map, Option, IfSome}
use Rattle.std.specs.Option.{IsSomeAnd}
use Rattle.std.specs.FinMap.{empty}
use Rattle.tx_bytes.specs.Files.{Files}
use Rattle.tx_io.specs.Faults.{Rose}
use Rattle.tx_io.specs.Output.{Output, Piece, told}
use Rattle.tx_io.specs.Cut.{IsCutShort}
use Rattle.tx_machine.specs.Machine.{Formatter}
use Rattle.tx_machine.specs.Steps.{raised}
use Rattle.tx_request.specs.Requests.{AreRead, IsBrokenOff}
use Rattle.tx_session.specs.Held.{Held, fresh}
use Rattle.tx_session.specs.Standing.{now}
use Rattle.tx_words.specs.declared.given.Serving.{Serving}
use Rattle.tx_words.specs.declared.given.Asked.{Asked}
use Rattle.tx_words.specs.declared.given.Asked.TheVariants.{Serve}
use Rattle.tx_call.specs.Answers.{Event, AllMayCome, AreExact, all_came, begun, read_as}
use Rattle.tx_call.specs.Outcome.{first_piece, served, with_listed}
use Rattle.tx_call.specs.Replay.{status_after}
use Rattle.tx_call.specs.Sitting.{Sitting}

-- the bytes that came in, where an inlet tells them, are read as these events, up to a rest; and these may come
pub record AreHeard {S : Type 0} (m : Formatter S) (t : Sitting) (left : Option (List ℕ)) (events : List Event) (rest : List ℕ) : Type 0 where
  pub are_read : IfSome left (λ bytes. AreRead bytes (map read_as events) rest)
  pub may_come : AllMayCome m t events

-- the line of a run, and then the answers to what came in; and the turns of both
abbrev pub served_pieces : {S : Type 0} → Formatter S → Held → List Event → List Piece
served_pieces m held events = first_piece (fresh m held).ran ∷ (all_came m (begun held) events).pieces

abbrev pub served_turns : {S : Type 0} → Formatter S → Held → List Event → ℕ
served_turns m held events = (fresh m held).turns + (all_came m (begun held) events).turns

-- the status behind it
abbrev pub status_of : {S : Type 0} → Formatter S → Sitting → ℕ
status_of m t = status_after (fresh m (now t.standing)).ran.end t.outside

-- some events were answered, and all of that was put out; the turns are theirs, unless memory was wanting for one
pub record IsServed {S : Type 0} (m : Formatter S) (held : Held) (left : Option (List ℕ)) (before after : Option Output) (steps steps' : ℕ) : Type 0 where
  pub events : List Event
  pub rest : List ℕ
  pub heard : AreHeard m (begun held) left events rest
  pub output_is : after ≡ told before (served_pieces m held events)
  pub most : steps' ≤ raised steps (served_turns m held events)
  pub steps_are : AreExact events → steps' ≡ raised steps (served_turns m held events)

-- or the first of it
pub record IsServedInPart {S : Type 0} (m : Formatter S) (held : Held) (left : Option (List ℕ)) (before after : Option Output) (steps steps' : ℕ) : Type 0 where
  pub events : List Event
  pub rest : List ℕ
  pub heard : AreHeard m (begun held) left events rest
  pub cut : IsCutShort before (served_pieces m held events) after
  pub most : steps' ≤ raised steps (served_turns m held events)

-- all that came in was answered
pub record IsServedToTheEnd {S : Type 0} (m : Formatter S) (held : Held) (left : Option (List ℕ)) (status : ℕ) (before after : Option Output) (steps steps' : ℕ) : Type 0 where
  pub so_far : IsServed m held left before after steps steps'
  pub over : so_far.rest ≡ []
  pub status_is : status ≡ status_of m (all_came m (begun held) so_far.events).behind

-- all that was taken in whole was answered, up to where the inlet failed: what it leaves is broken off in the midst of what comes next
pub record IsServedToTheFault {S : Type 0} (m : Formatter S) (held : Held) (left left' : Option (List ℕ)) (before after : Option Output) (steps steps' : ℕ) : Type 0 where
  pub so_far : IsServed m held left before after steps steps'
  pub broken : IfSome left (λ bytes. IsSomeAnd left' (IsBrokenOff so_far.rest))

-- nothing was taken in, run or put out
pub record IsUntouched (left left' : Option (List ℕ)) (before after : Option Output) (steps steps' : ℕ) : Type 0 where
  pub left_is : left' ≡ left
  pub output_is : after ≡ before
  pub steps_are : steps' ≡ steps

-- what a call leaves that serves these files: at status 0, 1 and 5 all that comes in is answered; at 3 the source failed, and nothing
-- was taken in or done, or all that was taken in whole is answered; and whatever the status, what is put out is the line and the
-- answers, or the first of it
pub record ServeLeaves {S : Type 0} (m : Formatter S) (held : Held) (faults faults' : ℕ) (left left' : Option (List ℕ)) (status : ℕ) (before after : Option Output) (steps steps' : ℕ) : Type 0 where
  pub whole : (status < 2) ⊎ (status ≡ 5) → IsServedToTheEnd m held left status before after steps steps'
  pub at_fault : status ≡ 3 → (Rose faults faults' × IsUntouched left left' before after steps steps') ⊎ IsServedToTheFault m held left left' before after steps steps'
  pub part : IsServedInPart m held left before after steps steps'

-- a document that is served has, of the files that the source holds, those that the words list
abbrev pub serving_held : Serving → Files → Held
serving_held serving files = served serving (with_listed files empty serving.files)

-- where the words ask to serve a document, that is so
abbrev pub ForServing : Asked → (Serving → Type 0) → Type 0
ForServing asked IsSo = (serving : Serving) → asked ≡ Serve serving → IsSo serving

-- they do, or they don't
abbrev pub AsksToServe : Asked → Type 0
AsksToServe asked = (serving : Serving) × (asked ≡ Serve serving)

abbrev pub AsksForNone : Asked → Type 0
AsksForNone asked = AsksToServe asked → ⊥
