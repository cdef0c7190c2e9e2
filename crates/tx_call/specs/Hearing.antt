-- What the parts of a call do that serves a document, by how each of them went.
use Rattle.std.specs.Prelude.{◌≡◌, ℕ, Bool, true, false, ◌⊎◌, List, [], ◌∷◌, map, Option, Some, IfSome, Result, Ok, Err}
use Rattle.std.specs.Option.{IsSomeAnd}
use Rattle.tx_io.specs.Faults.{CountsFault}
use Rattle.tx_io.specs.Output.{Output, Say, told}
use Rattle.tx_io.specs.Cut.{IsCutShort}
use Rattle.tx_machine.specs.Machine.{Formatter}
use Rattle.tx_request.specs.declared.request.Request.{Request}
use Rattle.tx_request.specs.declared.request.Next.TheVariants.{Asks, Failed}
use Rattle.tx_request.specs.Requests.{AreRead, IsNext}
use Rattle.tx_session.specs.Held.{Held}
use Rattle.tx_session.specs.Standing.{Standing}
use Rattle.tx_call.specs.declared.tally.Tally.{Tally}
use Rattle.tx_call.specs.declared.trouble.Trouble.{Trouble}
use Rattle.tx_call.specs.declared.trouble.Break.{Break}
use Rattle.tx_call.specs.declared.trouble.Break.TheVariants as breaks
use Rattle.tx_call.specs.Answers.{Event, read_as, came, all_came, begun_at, MayCome, AllMayCome, IsExact, AreExact}
use Rattle.tx_call.specs.Lines.{refusal_line}
use Rattle.tx_call.specs.Serving.{IsServedInPart, IsServedToTheEnd, IsServedToTheFault}
use Rattle.tx_call.specs.Sitting.{Sitting, ComesWithin, ComesInPart}
use Rattle.tx_call.specs.Tally.{sitting}
use Rattle.tx_call.specs.Trouble.{Causes, SinkCauses}

-- all of it came, or trouble did in its midst
abbrev pub ComesBy : {S T : Type 0} → Formatter S → Result T Trouble → Event → Sitting → Sitting → Option Output → Option Output → ℕ → ℕ → Type 0
ComesBy m (Ok value) event t t' output output' steps steps' = ComesWithin (came m t event) (IsExact event) t' output output' steps steps'
ComesBy m (Err trouble) event t t' output output' steps steps' = ComesInPart (came m t event) output output' steps steps'

-- a request was answered, or memory was wanting for it
pub record Answers {S T : Type 0} (m : Formatter S) (r : Request) (result : Result T Trouble) (t t' : Sitting) (before after : Option Output) (steps steps' : ℕ) : Type 0 where
  pub event : Event
  pub asked : read_as event ≡ Asks r
  pub may_come : MayCome t event
  pub comes : ComesBy m result event t t' before after steps steps'

-- what came in next was answered, of an inlet that tells
pub record HearsOne {S T : Type 0} (m : Formatter S) (result : Result T Trouble) (left left' : Option (List ℕ)) (t t' : Sitting) (before after : Option Output) (steps steps' : ℕ) : Type 0 where
  pub event : Event
  pub read : IsNext (read_as event) left left'
  pub may_come : MayCome t event
  pub comes : ComesBy m result event t t' before after steps steps'

-- nothing was put out, and no turn taken
pub record IsSilent (before after : Option Output) (steps steps' : ℕ) : Type 0 where
  pub output_is : after ≡ before
  pub steps_are : steps' ≡ steps

-- nothing more came in
pub record HearsNone (left : Option (List ℕ)) (t t' : Sitting) (before after : Option Output) (steps steps' : ℕ) : Type 0 where
  pub over : IfSome left (λ bytes. bytes ≡ [])
  pub sitting_is : t' ≡ t
  pub silent : IsSilent before after steps steps'

-- what came in couldn't be read; or trouble came before it was, or in the midst of its answer
abbrev pub Hears : {S : Type 0} → Formatter S → Result Bool Break → Option (List ℕ) → Option (List ℕ) → Sitting → Sitting → Option Output → Option Output → ℕ → ℕ → Type 0
Hears m (Ok true) left left' t t' before after steps steps' = HearsOne {T = Bool} m (Ok true) left left' t t' before after steps steps'
Hears m (Ok false) left left' t t' before after steps steps' = HearsNone left t t' before after steps steps'
Hears m (Err breaks.Inlet) left left' t t' before after steps steps' = IsNext Failed left left' × IsSilent before after steps steps'
Hears m (Err (breaks.Trouble trouble)) left left' t t' before after steps steps' =
    IsSilent before after steps steps' ⊎ HearsOne {T = Bool} m (Err trouble) left left' t t' before after steps steps'

-- the bytes that came in were read as these events, and these are left, of an inlet that tells
abbrev pub AreReadUpTo : Option (List ℕ) → List Event → Option (List ℕ) → Type 0
AreReadUpTo left events left' = IfSome left (λ bytes. IsSomeAnd left' (λ rest. AreRead bytes (map read_as events) rest))

-- all that came of some events was put out
pub record Heard {S : Type 0} (m : Formatter S) (t t' : Sitting) (left left' : Option (List ℕ)) (before after : Option Output) (steps steps' : ℕ) : Type 0 where
  pub events : List Event
  pub read : AreReadUpTo left events left'
  pub may_come : AllMayCome m t events
  pub comes : ComesWithin (all_came m t events) (AreExact events) t' before after steps steps'

-- or the first of it
pub record HeardInPart {S : Type 0} (m : Formatter S) (t : Sitting) (left : Option (List ℕ)) (before after : Option Output) (steps steps' : ℕ) : Type 0 where
  pub events : List Event
  pub left' : Option (List ℕ)
  pub read : AreReadUpTo left events left'
  pub may_come : AllMayCome m t events
  pub comes : ComesInPart (all_came m t events) before after steps steps'

-- all that came in was answered; or what came before the fault was, or what came before trouble
abbrev pub Serves : {S : Type 0} → Formatter S → Standing → Option (List ℕ) → Option (List ℕ) → Result Tally Break → Standing → Option Output → Option Output → ℕ → ℕ → Type 0
Serves m standing left left' (Ok tally) standing' before after steps steps' = Heard m (begun_at standing) (sitting standing' tally) left (Some []) before after steps steps'
Serves m standing left left' (Err breaks.Inlet) standing' before after steps steps' =
    (t' : Sitting) × (between : Option (List ℕ)) × Heard m (begun_at standing) t' left between before after steps steps' × IsNext Failed between left'
Serves m standing left left' (Err (breaks.Trouble trouble)) standing' before after steps steps' = HeardInPart m (begun_at standing) left before after steps steps'

-- the same behind the line of a run
abbrev pub ServesFiles : {S : Type 0} → Formatter S → Held → Option (List ℕ) → Option (List ℕ) → Result ℕ Break → Option Output → Option Output → ℕ → ℕ → Type 0
ServesFiles m held left left' (Ok status) before after steps steps' = IsServedToTheEnd m held left status before after steps steps'
ServesFiles m held left left' (Err breaks.Inlet) before after steps steps' = IsServedToTheFault m held left left' before after steps steps'
ServesFiles m held left left' (Err (breaks.Trouble trouble)) before after steps steps' = IsServedInPart m held left before after steps steps'

-- the words that ask for something else are refused
abbrev pub Refuses : Result ℕ Break → Option Output → Option Output → Type 0
Refuses (Ok status) before after = (status ≡ 2) × (after ≡ told before (Say refusal_line ∷ []))
Refuses (Err e) before after = IsCutShort before (Say refusal_line ∷ []) after

-- trouble with the inlet or the sink comes only where it counted a fault; else the counts stay
abbrev pub BreakCauses : {T : Type 0} → Result T Break → ℕ → ℕ → ℕ → ℕ → Type 0
BreakCauses (Ok value) inlet inlet' sink sink' = (inlet' ≡ inlet) × (sink' ≡ sink)
BreakCauses (Err breaks.Inlet) inlet inlet' sink sink' = CountsFault inlet inlet' × (sink' ≡ sink)
BreakCauses {T} (Err (breaks.Trouble trouble)) inlet inlet' sink sink' = (inlet' ≡ inlet) × SinkCauses {T = T} (Err trouble) sink sink'

-- the same of a part that has a source besides
abbrev pub ServeCauses : {T : Type 0} → Result T Break → ℕ → ℕ → ℕ → ℕ → ℕ → ℕ → Type 0
ServeCauses (Ok value) source source' inlet inlet' sink sink' = (source' ≡ source) × (inlet' ≡ inlet) × (sink' ≡ sink)
ServeCauses (Err breaks.Inlet) source source' inlet inlet' sink sink' = (source' ≡ source) × CountsFault inlet inlet' × (sink' ≡ sink)
ServeCauses {T} (Err (breaks.Trouble trouble)) source source' inlet inlet' sink sink' = (inlet' ≡ inlet) × Causes {T = T} (Err trouble) source source' sink sink'
