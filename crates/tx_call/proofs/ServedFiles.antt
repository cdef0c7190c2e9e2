-- The line of a run, and then the answers to what came in.
use Rattle.std.proofs.Common.{◌≡◌, ℕ, ◌+◌, ◌≤◌, ◌⊎◌, inl, List, [], ◌∷◌, Option, Some, None, Result, Ok, Err, refl, sym, ap, subst, ◌∙◌, arith}
use Rattle.std.specs.Prelude.{unwrap_or, IfOk, IfSome, IsErrAnd, IsErrOf, IsSomeAnd}
use Rattle.tx_bytes.specs.Files.{Files}
use Rattle.tx_io.specs.Output.{Output, told}
use Rattle.tx_io.specs.Cut.{IsCutShort}
use Rattle.tx_io.proofs.Told.{told-append}
use Rattle.tx_io.proofs.CutShort.{cut-nothing, cut-behind}
use Rattle.tx_machine.specs.Machine.{Formatter}
use Rattle.tx_machine.specs.Steps.{raised}
use Rattle.tx_request.specs.declared.request.Next.TheVariants.{Failed}
use Rattle.tx_request.specs.Requests as requests
use Rattle.tx_request.specs.Requests.{IsBrokenOff, IsNext}
use Rattle.tx_session.specs.Held.{Held, fresh}
use Rattle.tx_session.specs.Standing.{Standing, now, settled}
use Rattle.tx_call.specs.declared.tally.Tally.{Tally}
use Rattle.tx_call.specs.declared.trouble.Trouble.{Trouble}
use Rattle.tx_call.specs.declared.trouble.Trouble.TheVariants.{Memory, Source, Sink}
use Rattle.tx_call.specs.declared.trouble.Break.{Break}
use Rattle.tx_call.specs.declared.trouble.Break.TheVariants as breaks
use Rattle.tx_call.specs.Answers.{Event, all_came, begun, begun_at, AllMayCome}
use Rattle.tx_call.specs.Hearing.{AreReadUpTo, BreakCauses, Heard, HeardInPart, Refuses, ServeCauses, Serves, ServesFiles}
use Rattle.tx_words.specs.declared.given.Asked.{Asked}
use Rattle.tx_words.specs.declared.given.Asked.TheVariants.{Serve}
use Rattle.tx_words.specs.declared.given.Serving.{Serving}
use Rattle.tx_call.specs.Outcome.{first_piece, ForHeld}
use Rattle.tx_call.specs.Serving.{AreHeard, AsksForNone, ForServing, IsServedInPart, IsServedToTheEnd, IsServedToTheFault, served_pieces, status_of}
use Rattle.tx_call.specs.Sitting.{Sitting}
use Rattle.tx_call.specs.Tally.{sitting}
use Rattle.tx_call.specs.Trouble.{SourceCauses}
use Rattle.tx_call.proofs.Held.{for_held}
use Rattle.tx_call.proofs.HeardSoFar.{raised-both, raised-twice}
use Rattle.tx_call.proofs.Replayed.{on-err}

is-most : (steps steps' turns : ℕ) → steps' ≡ raised steps turns → steps' ≤ raised steps turns
is-most steps steps' turns is = omega (arith, is)

-- nothing more was answered
none-more : (steps steps' turns : ℕ) → steps' ≤ raised steps turns → steps' ≤ raised steps (turns + 0)
none-more steps steps' turns most = omega (arith, most)

no-turn : (steps steps' turns : ℕ) → steps' ≡ steps → steps' ≤ raised steps turns
no-turn steps steps' turns still = omega (arith, still)

-- what is left behind these events is broken off
broken-behind : (left between left' : Option (List ℕ)) (events : List Event) → AreReadUpTo left events between → IsNext Failed between left' → IfSome left (λ bytes. IsSomeAnd left' (IsBrokenOff (unwrap_or between [])))
broken-behind None between left' events read broken = tt
broken-behind (Some bytes) None left' events read broken = absurd read
broken-behind (Some bytes) (Some rest) left' events read broken = broken

module _ {S : Type 0} (m : Formatter S) where
  heard : (t : Sitting) (left left' : Option (List ℕ)) (events : List Event) → AreReadUpTo left events left' → AllMayCome m t events → AreHeard m t left events (unwrap_or left' [])
  heard t None left' events read may_come = record { are_read = tt; may_come = may_come }
  heard t (Some bytes) None events read may_come = absurd read
  heard t (Some bytes) (Some rest) events read may_come = record { are_read = read; may_come = may_come }

  nothing-read : (t : Sitting) (left : Option (List ℕ)) → AreHeard m t left [] (unwrap_or left [])
  nothing-read t None = record { are_read = tt; may_come = tt }
  nothing-read t (Some bytes) = record { are_read = requests.None; may_come = tt }

module _ {S : Type 0} (m : Formatter S) (held : Held) where
  -- all of it was put out
  output-served : (events : List Event) (before said after : Option Output) → said ≡ told before (first_piece (fresh m held).ran ∷ []) → after ≡ told said (all_came m (begun held) events).pieces
      → after ≡ told before (served_pieces m held events)
  output-served events before said after line output =
      output ∙ ap (λ (o : Option Output). told o (all_came m (begun held) events).pieces) line ∙ told-append before (first_piece (fresh m held).ran ∷ []) (all_came m (begun held) events).pieces

  most-served : (turns steps steps_run steps' : ℕ) → steps_run ≡ raised steps (fresh m held).turns → steps' ≤ raised steps_run turns → steps' ≤ raised steps ((fresh m held).turns + turns)
  most-served turns steps steps_run steps' run most = raised-both steps steps_run steps' (fresh m held).turns turns (is-most steps steps_run (fresh m held).turns run) most

  -- up to where the inlet failed
  served-to-the-fault : {t' : Sitting} {left between left' : Option (List ℕ)} {before said after : Option Output} {steps steps_run steps' : ℕ}
      → said ≡ told before (first_piece (fresh m held).ran ∷ []) → steps_run ≡ raised steps (fresh m held).turns
      → Heard m (begun held) t' left between said after steps_run steps' → IsNext Failed between left' → IsServedToTheFault m held left left' before after steps steps'
  served-to-the-fault {left = left} {between = between} {left' = left'} {before = before} {said = said} {after = after} {steps = steps} {steps_run = steps_run} {steps' = steps'} line run so_far broken = record {
    so_far = record {
      events = so_far.events;
      rest = unwrap_or between [];
      heard = heard m (begun held) left between so_far.events so_far.read so_far.may_come;
      output_is = output-served so_far.events before said after line so_far.comes.output_is;
      most = most-served (all_came m (begun held) so_far.events).turns steps steps_run steps' run so_far.comes.most;
      steps_are = λ exact. raised-twice steps steps_run steps' (fresh m held).turns (all_came m (begun held) so_far.events).turns run (so_far.comes.steps_are exact);
    };
    broken = broken-behind left between left' so_far.events so_far.read broken;
  }

  served-to-the-end : {t' : Sitting} {left : Option (List ℕ)} {before said after : Option Output} {steps steps_run steps' : ℕ} (status : ℕ)
      → said ≡ told before (first_piece (fresh m held).ran ∷ []) → steps_run ≡ raised steps (fresh m held).turns
      → Heard m (begun held) t' left (Some []) said after steps_run steps' → status ≡ status_of m t' → IsServedToTheEnd m held left status before after steps steps'
  served-to-the-end {left = left} {before = before} {said = said} {after = after} {steps = steps} {steps_run = steps_run} {steps' = steps'} status line run so_far is = record {
    so_far = record {
      events = so_far.events;
      rest = [];
      heard = heard m (begun held) left (Some []) so_far.events so_far.read so_far.may_come;
      output_is = output-served so_far.events before said after line so_far.comes.output_is;
      most = most-served (all_came m (begun held) so_far.events).turns steps steps_run steps' run so_far.comes.most;
      steps_are = λ exact. raised-twice steps steps_run steps' (fresh m held).turns (all_came m (begun held) so_far.events).turns run (so_far.comes.steps_are exact);
    };
    over = refl;
    status_is = is ∙ ap (status_of m) so_far.comes.sitting_is;
  }

  -- or the first of it
  served-in-part : {left : Option (List ℕ)} {before said after : Option Output} {steps steps_run steps' : ℕ}
      → said ≡ told before (first_piece (fresh m held).ran ∷ []) → steps_run ≡ raised steps (fresh m held).turns
      → HeardInPart m (begun held) left said after steps_run steps' → IsServedInPart m held left before after steps steps'
  served-in-part {left = left} {before = before} {after = after} {steps = steps} {steps_run = steps_run} {steps' = steps'} line run so_far = record {
    events = so_far.events;
    rest = unwrap_or so_far.left' [];
    heard = heard m (begun held) left so_far.left' so_far.events so_far.read so_far.may_come;
    cut = cut-behind before (first_piece (fresh m held).ran ∷ []) (all_came m (begun held) so_far.events).pieces after
        (subst (λ (o : Option Output). IsCutShort o (all_came m (begun held) so_far.events).pieces after) line so_far.comes.cut);
    most = most-served (all_came m (begun held) so_far.events).turns steps steps_run steps' run so_far.comes.most;
  }

  -- trouble came before anything came in: of the line, the first bytes were said
  pub served-none : {left : Option (List ℕ)} {before after : Option Output} {steps steps' : ℕ} → IsCutShort before (first_piece (fresh m held).ran ∷ []) after → steps' ≤ raised steps (fresh m held).turns
      → IsServedInPart m held left before after steps steps'
  served-none {left = left} {steps = steps} {steps' = steps'} cut most = record {
    events = [];
    rest = unwrap_or left [];
    heard = nothing-read m (begun held) left;
    cut = cut;
    most = none-more steps steps' (fresh m held).turns most;
  }

  -- trouble came before the run
  pub served-nothing : {left : Option (List ℕ)} {before after : Option Output} {steps steps' : ℕ} → after ≡ before → steps' ≡ steps → IsServedInPart m held left before after steps steps'
  served-nothing {before = before} {steps = steps} {steps' = steps'} same still =
      served-none (subst (λ (o : Option Output). IsCutShort before (first_piece (fresh m held).ran ∷ []) o) (sym same) (cut-nothing before (first_piece (fresh m held).ran ∷ []))) (no-turn steps steps' (fresh m held).turns still)

  -- trouble ended a call
  pub serves-short : (result : Result ℕ Break) (trouble : Trouble) (left left' : Option (List ℕ)) (before after : Option Output) (steps steps' : ℕ)
      → IsErrAnd result (λ e. e ≡ breaks.Trouble trouble) → IsServedInPart m held left before after steps steps' → ServesFiles m held left left' result before after steps steps'
  serves-short result trouble left left' before after steps steps' err part = on-err result (breaks.Trouble trouble) (λ r. ServesFiles m held left left' r before after steps steps') err part

  -- a document that was opened, of which nothing was made yet
  module _ (standing : Standing) (is : standing ≡ settled held) where
    line-of : (before said : Option Output) → said ≡ told before (first_piece (fresh m (now standing)).ran ∷ []) → said ≡ told before (first_piece (fresh m held).ran ∷ [])
    line-of before said line = subst (λ (s : Standing). said ≡ told before (first_piece (fresh m (now s)).ran ∷ [])) is line

    turns-of : (steps steps_run : ℕ) → steps_run ≡ raised steps (fresh m (now standing)).turns → steps_run ≡ raised steps (fresh m held).turns
    turns-of steps steps_run run = subst (λ (s : Standing). steps_run ≡ raised steps (fresh m (now s)).turns) is run

    -- its line met trouble
    pub line-cut : {left : Option (List ℕ)} {before after : Option Output} {steps steps' : ℕ} → IsCutShort before (first_piece (fresh m (now standing)).ran ∷ []) after → steps' ≡ raised steps (fresh m (now standing)).turns
        → IsServedInPart m held left before after steps steps'
    line-cut {before = before} {after = after} {steps = steps} {steps' = steps'} cut run =
        served-none (subst (λ (s : Standing). IsCutShort before (first_piece (fresh m (now s)).ran ∷ []) after) is cut) (is-most steps steps' (fresh m held).turns (turns-of steps steps' run))

    -- all that came in was answered
    pub serves-all : (status : ℕ) (tally : Tally) (standing' : Standing) {left : Option (List ℕ)} {before said after : Option Output} {steps steps_run steps' : ℕ}
        → said ≡ told before (first_piece (fresh m (now standing)).ran ∷ []) → steps_run ≡ raised steps (fresh m (now standing)).turns
        → Heard m (begun_at standing) (sitting standing' tally) left (Some []) said after steps_run steps' → status ≡ status_of m (sitting standing' tally)
        → IsServedToTheEnd m held left status before after steps steps'
    serves-all status tally standing' {left = left} {before = before} {said = said} {after = after} {steps = steps} {steps_run = steps_run} {steps' = steps'} line run so_far end =
        served-to-the-end status (line-of before said line) (turns-of steps steps_run run)
        (subst (λ (s : Standing). Heard m (begun_at s) (sitting standing' tally) left (Some []) said after steps_run steps') is so_far) end

    -- or what came before a fault or trouble was
    serves-until : (e : Break) (standing' : Standing) (left left' : Option (List ℕ)) (before said after : Option Output) (steps steps_run steps' : ℕ)
        → said ≡ told before (first_piece (fresh m (now standing)).ran ∷ []) → steps_run ≡ raised steps (fresh m (now standing)).turns
        → Serves m standing left left' (Err e) standing' said after steps_run steps' → ServesFiles m held left left' (Err e) before after steps steps'
    serves-until breaks.Inlet standing' left left' before said after steps steps_run steps' line run so_far =
        served-to-the-fault (line-of before said line) (turns-of steps steps_run run)
        (subst (λ (s : Standing). Heard m (begun_at s) so_far.0 left so_far.1 said after steps_run steps') is so_far.2) so_far.3
    serves-until (breaks.Trouble trouble) standing' left left' before said after steps steps_run steps' line run so_far =
        served-in-part (line-of before said line) (turns-of steps steps_run run) (subst (λ (s : Standing). HeardInPart m (begun_at s) left said after steps_run steps') is so_far)

    pub serves-broken : (result : Result ℕ Break) (e : Break) (standing' : Standing) (left left' : Option (List ℕ)) (before said after : Option Output) (steps steps_run steps' : ℕ)
        → IsErrAnd result (λ x. x ≡ e) → said ≡ told before (first_piece (fresh m (now standing)).ran ∷ []) → steps_run ≡ raised steps (fresh m (now standing)).turns
        → Serves m standing left left' (Err e) standing' said after steps_run steps' → ServesFiles m held left left' result before after steps steps'
    serves-broken result e standing' left left' before said after steps steps_run steps' err line run so_far =
        on-err result e (λ r. ServesFiles m held left left' r before after steps steps') err (serves-until e standing' left left' before said after steps steps_run steps' line run so_far)

-- what is so of the files that a source holds is so of the words that ask to serve them
pub served-words : (asked : Asked) (holds : Option Files) {IsSo IsThen : Serving → Files → Type 0} → ForServing asked (λ serving. ForHeld holds (IsSo serving))
    → ((serving : Serving) → asked ≡ Serve serving → (files : Files) → IsSo serving files → IsThen serving files) → ForServing asked (λ serving. ForHeld holds (IsThen serving))
served-words asked holds some then = λ serving is. for_held (some serving is) (then serving is)

-- words that ask for something else leave nothing to be said of those that serve
pub serves-none : (asked : Asked) (IsSo : Serving → Type 0) → AsksForNone asked → ForServing asked IsSo
serves-none asked IsSo none = λ serving is. absurd (none (serving, is))

-- words that ask to serve a document ask for one alone
pub serves-this : (asked : Asked) (serving : Serving) → Serve serving ≡ asked → (IsSo : Serving → Type 0) → IsSo serving → ForServing asked IsSo
serves-this asked serving this IsSo so = λ other is.
    let both : Serve serving ≡ Serve other = this ∙ is in
    let same : serving ≡ other = cc in
    subst IsSo same so

-- words that were read as something else ask for none
pub asks-for-none : (asked meant : Asked) → asked ≡ meant → ((serving : Serving) → asked ≡ Serve serving → ⊥) → AsksForNone meant
asks-for-none asked meant is never = λ asks. never asks.0 (is ∙ asks.1)

-- what was said of words that are refused
pub refuses-short : (result : Result ℕ Break) (trouble : Trouble) (before after : Option Output) → IsErrAnd result (λ e. e ≡ breaks.Trouble trouble) → Refuses (Err (breaks.Trouble trouble)) before after → Refuses result before after
refuses-short result trouble before after err cut = on-err result (breaks.Trouble trouble) (λ r. Refuses r before after) err cut

pub refused-range : (result : Result ℕ Break) (before after : Option Output) → Refuses result before after → IfOk result (λ status. (status ≤ 2) ⊎ (status ≡ 5))
refused-range (Ok status) before after refuses = inl (omega (arith, refuses.0))
refused-range (Err e) before after refuses = tt

-- what is so of each value is so of that of a result
pub if-any : {T E : Type 0} (result : Result T E) (IsSo : T → Type 0) → ((value : T) → IsSo value) → IfOk result IsSo
if-any (Ok value) IsSo so = so value
if-any (Err e) IsSo so = tt

-- trouble with the sink or memory counted no fault of the inlet, and none of a source
pub causes-served : (result : Result ℕ Break) (source source' inlet inlet' sink sink' : ℕ) → source' ≡ source → BreakCauses result inlet inlet' sink sink' → ServeCauses result source source' inlet inlet' sink sink'
causes-served (Ok value) source source' inlet inlet' sink sink' same causes = (same, causes.0, causes.1)
causes-served (Err breaks.Inlet) source source' inlet inlet' sink sink' same causes = (same, causes.0, causes.1)
causes-served (Err (breaks.Trouble Memory)) source source' inlet inlet' sink sink' same causes = (causes.0, (same, causes.1))
causes-served (Err (breaks.Trouble Source)) source source' inlet inlet' sink sink' same causes = absurd causes.1
causes-served (Err (breaks.Trouble Sink)) source source' inlet inlet' sink sink' same causes = (causes.0, (same, causes.1))

pub causes-fetched : (result : Result ℕ Break) (trouble : Trouble) (source source' inlet sink : ℕ) → IsErrAnd result (λ e. e ≡ breaks.Trouble trouble) → SourceCauses {T = ℕ} (Err trouble) source source'
    → ServeCauses result source source' inlet inlet sink sink
causes-fetched result trouble source source' inlet sink err causes = on-err result (breaks.Trouble trouble) (λ r. ServeCauses r source source' inlet inlet sink sink) err (by trouble causes)
  where
    by : (trouble : Trouble) → SourceCauses {T = ℕ} (Err trouble) source source' → ServeCauses {T = ℕ} (Err (breaks.Trouble trouble)) source source' inlet inlet sink sink
    by Memory same = (refl, (same, refl))
    by Source counted = (refl, (counted, refl))
    by Sink never = absurd never

-- a part that has no source meets no trouble with one, and one that has no inlet none with that
pub never-source : (result : Result ℕ Break) (inlet inlet' sink sink' : ℕ) → BreakCauses result inlet inlet' sink sink' → IsErrOf result (breaks.Trouble Source) → ⊥
never-source result inlet inlet' sink sink' causes is = (subst (λ (r : Result ℕ Break). BreakCauses r inlet inlet' sink sink') is causes).1

pub never-inlet : (result : Result ℕ Break) (sink sink' : ℕ) → BreakCauses result 0 0 sink sink' → IsErrOf result breaks.Inlet → ⊥
never-inlet result sink sink' causes is =
    let fault : BreakCauses {T = ℕ} (Err breaks.Inlet) 0 0 sink sink' = subst (λ (r : Result ℕ Break). BreakCauses r 0 0 sink sink') is causes in
    omega (arith, fault.0.rose)
