-- What is read of a script, files that a source holds, told or not, and what a call does with them.
use Rattle.std.proofs.Common.{◌≡◌, ◌≢◌, ℕ, ◌+◌, ◌<◌, ◌≤◌, ◌⊎◌, inl, inr, ⊎_elim, List, [], ◌∷◌, Option, Some, None, Result, Ok, Err, refl, sym, ap, ◌∙◌, subst, arith, append-nil}
use Rattle.std.specs.Prelude.{IsErrAnd, IfOk, OnOk}
use Rattle.std.specs.FinMap.{empty}
use Rattle.tx_bytes.specs.Files.{Files}
use Rattle.tx_io.specs.Output.{Output, Say, told}
use Rattle.tx_io.specs.Cut.{IsCutShort}
use Rattle.tx_io.proofs.CutShort.{cut-nothing}
use Rattle.tx_machine.specs.Machine.{Formatter, IsLawful}
use Rattle.tx_machine.specs.Steps.{raised}
use Rattle.tx_machine.proofs.Going.{raised-raised}
use Rattle.tx_script.specs.declared.command.Command.{Command}
use Rattle.tx_session.specs.Held.{Held, fresh}
use Rattle.tx_call.specs.declared.trouble.Trouble.{Trouble}
use Rattle.tx_call.specs.declared.trouble.Trouble.TheVariants.{Memory, Source}
use Rattle.tx_call.specs.declared.trouble.Interruption.{Interruption}
use Rattle.tx_call.specs.declared.trouble.Interruption.TheVariants.{Trouble as Interrupted, RefusedEdit}
use Rattle.tx_words.specs.declared.given.Asked.{Asked}
use Rattle.tx_call.specs.declared.scripted.Scripted.{Scripted}
use Rattle.tx_call.specs.Scripts.{ForScript, Read, Unread}
use Rattle.tx_words.specs.Words.{script_asked, words_meant}
use Rattle.tx_call.specs.declared.listed.Listed.TheVariants.{Brings}
use Rattle.tx_call.specs.Listing.{pages_lines, said_lines}
use Rattle.tx_dvitype.specs.declared.reader.ReadPage.{ReadPage}
use Rattle.tx_call.specs.Outcome.{Outcome, saying, made_pieces, making, listing, session_outcome, outcome, asked_outcome, most_turns, ForHeld, Leaves}
use Rattle.tx_call.specs.Replay.{Replays, opened, turns_from}
use Rattle.tx_call.specs.Trouble.{AllCauses, Ends, Does}
use Rattle.tx_call.proofs.Replayed.{on-err}
use Rattle.tx_call.proofs.TurnBounds.{turns-most}

-- what is so of all files
pub for_any : (holds : Option Files) {IsSo : Files → Type 0} → ((held : Files) → IsSo held) → ForHeld holds IsSo
for_any None so = record { held = empty; are_told = tt; so = so empty }
for_any (Some files) so = record { held = files; are_told = refl; so = so files }

-- what follows of some files
pub for_held : {holds : Option Files} {IsSo IsThen : Files → Type 0} → ForHeld holds IsSo → ((held : Files) → IsSo held → IsThen held) → ForHeld holds IsThen
for_held some then = record { held = some.held; are_told = some.are_told; so = then some.held some.so }

-- what follows of what is read of a script
pub for_script : {holds : Option Files} {script : Option (List ℕ)} {IsSo IsThen : Scripted → Type 0} → ForScript holds script IsSo → ((scripted : Scripted) → IsSo scripted → IsThen scripted) → ForScript holds script IsThen
for_script (Read scripted reads so) then = Read scripted reads (then scripted so)
for_script (Unread all) then = Unread (λ scripted. then scripted (all scripted))

ends_short : (r : Result ℕ Interruption) (trouble : Trouble) (outcome : Outcome) (before after : Option Output) (steps steps' : ℕ) → IsErrAnd r (λ e. e ≡ Interrupted trouble) → IsCutShort before outcome.pieces after → Ends r outcome before after steps steps'
ends_short r trouble outcome before after steps steps' err cut = on-err r (Interrupted trouble) (λ e. Ends e outcome before after steps steps') err cut

-- trouble came before anything was done
pub does_nothing : (r : Result ℕ Interruption) (trouble : Trouble) → IsErrAnd r (λ e. e ≡ Interrupted trouble) → (outcome : Outcome) (before : Option Output) (steps : ℕ) → Does r outcome before before steps steps
does_nothing r trouble err outcome before steps =
    record { ends = ends_short r trouble outcome before before steps steps err (cut-nothing before outcome.pieces); most = omega arith }

-- a count that was raised by so many at most is so by more
pub more_turns : (count now fewer more : ℕ) → now ≤ raised count fewer → now ≤ raised count (fewer + more)
more_turns count now fewer more few = omega (arith, few)

-- or before anything was put out
pub puts_nothing : (r : Result ℕ Interruption) (trouble : Trouble) → IsErrAnd r (λ e. e ≡ Interrupted trouble) → (outcome : Outcome) (before : Option Output) (steps steps' : ℕ) → steps' ≤ raised steps outcome.turns → Does r outcome before before steps steps'
puts_nothing r trouble err outcome before steps steps' most =
    record { ends = ends_short r trouble outcome before before steps steps' err (cut-nothing before outcome.pieces); most = most }

-- a session was opened, and its commands were carried out by the answer
pub session_does : {S : Type 0} (m : Formatter S) (out : List ℕ) (held : Held) (commands : List Command) (r : Result ℕ Interruption) {before after : Option Output} {steps opened_at steps' : ℕ}
    → Replays (session_outcome m out held commands).pieces (session_outcome m out held commands).refusal r before after
    → IfOk r (λ status. status ≡ (session_outcome m out held commands).status)
    → OnOk r (steps' ≡ raised opened_at (turns_from m (opened held) commands))
    → steps' ≤ raised opened_at (turns_from m (opened held) commands)
    → opened_at ≡ raised steps (fresh m held).turns
    → Does r (session_outcome m out held commands) before after steps steps'
session_does m out held commands r {before = before} {after = after} {steps = steps} {opened_at = opened_at} {steps' = steps'} puts status counted most opening =
    record {
      ends = by r puts status counted;
      most = subst (λ (n : ℕ). steps' ≤ n) all most;
    }
  where
    all : raised opened_at (turns_from m (opened held) commands) ≡ raised steps (session_outcome m out held commands).turns
    all = ap (λ n. raised n (turns_from m (opened held) commands)) opening ∙ raised-raised steps (fresh m held).turns (turns_from m (opened held) commands)

    by : (r : Result ℕ Interruption) → Replays (session_outcome m out held commands).pieces (session_outcome m out held commands).refusal r before after
        → IfOk r (λ status. status ≡ (session_outcome m out held commands).status) → OnOk r (steps' ≡ raised opened_at (turns_from m (opened held) commands))
        → Ends r (session_outcome m out held commands) before after steps steps'
    by (Ok answer) puts status counted = record { status_is = status; output_is = puts; steps_are = counted ∙ all }
    by (Err (Interrupted trouble)) puts status counted = puts
    by (Err RefusedEdit) puts status counted = puts

-- a text was said, and nothing run
pub does_saying : {text : List ℕ} {status : ℕ} {before after : Option Output} → after ≡ told before (Say text ∷ []) → (steps : ℕ) → Does (Ok status) (saying text status) before after steps steps
does_saying whole steps = record { ends = record { status_is = refl; output_is = whole; steps_are = omega arith }; most = omega arith }

-- or met trouble
pub does_saying_short : (r : Result ℕ Interruption) (trouble : Trouble) → IsErrAnd r (λ e. e ≡ Interrupted trouble) → {text : List ℕ} {status : ℕ} {before after : Option Output} → IsCutShort before (Say text ∷ []) after → (steps : ℕ) → Does r (saying text status) before after steps steps
does_saying_short r trouble err {text = text} {status = status} {before = before} {after = after} cut steps =
    record { ends = ends_short r trouble (saying text status) before after steps steps err cut; most = omega arith }

-- the files of a document were saved, and how large it is was said
pub does_making : (seed pages : ℕ) {before after : Option Output} → after ≡ told before (made_pieces seed pages) → (steps : ℕ) → Does (Ok 0) (making seed pages) before after steps steps
does_making seed pages whole steps = record { ends = record { status_is = refl; output_is = whole; steps_are = omega arith }; most = omega arith }

-- or that met trouble
pub does_making_short : (seed pages : ℕ) (r : Result ℕ Interruption) (trouble : Trouble) → IsErrAnd r (λ e. e ≡ Interrupted trouble) → {before after : Option Output} → IsCutShort before (made_pieces seed pages) after → (steps : ℕ) → Does r (making seed pages) before after steps steps
does_making_short seed pages r trouble err {before = before} {after = after} cut steps =
    record { ends = ends_short r trouble (making seed pages) before after steps steps err cut; most = omega arith }

-- what pages bring was said
pub does_listing : (pages : List ReadPage) {before after : Option Output} → after ≡ told before (said_lines (pages_lines 1 pages)) → (steps : ℕ) → Does (Ok 0) (listing (Brings pages)) before after steps steps
does_listing pages whole steps = record { ends = record { status_is = refl; output_is = whole; steps_are = omega arith }; most = omega arith }

-- or that met trouble
pub does_listing_short : (pages : List ReadPage) (r : Result ℕ Interruption) (trouble : Trouble) → IsErrAnd r (λ e. e ≡ Interrupted trouble) → {before after : Option Output} → IsCutShort before (said_lines (pages_lines 1 pages)) after → (steps : ℕ) → Does r (listing (Brings pages)) before after steps steps
does_listing_short pages r trouble err {before = before} {after = after} cut steps =
    record { ends = ends_short r trouble (listing (Brings pages)) before after steps steps err cut; most = omega arith }

-- trouble came before anything was done of what the words ask for
pub words_do_nothing : {S : Type 0} (m : Formatter S) (words : List (List ℕ)) (r : Result ℕ Interruption) (trouble : Trouble) → IsErrAnd r (λ e. e ≡ Interrupted trouble) → {holds : Option Files} {before : Option Output} {steps : ℕ}
    → ForScript holds (script_asked (words_meant words)) (λ scripted. ForHeld holds (λ held. Does r (outcome m words scripted held) before before steps steps))
words_do_nothing m words r trouble err {holds = holds} {before = before} {steps = steps} =
    Unread (λ scripted. for_any holds {IsSo = λ held. Does r (outcome m words scripted held) before before steps steps} (λ held. does_nothing r trouble err (outcome m words scripted held) before steps))

module _ {S : Type 0} (m : Formatter S) (words : List (List ℕ)) {holds : Option Files} {r : Result ℕ Interruption} {before after : Option Output} {steps steps' : ℕ} where
  -- what is done of what the words ask for is done of the words
  pub of_words : (given : Asked) → given ≡ words_meant words
      → ForScript holds (script_asked given) (λ scripted. ForHeld holds (λ held. Does r (asked_outcome m given scripted held) before after steps steps'))
      → ForScript holds (script_asked (words_meant words)) (λ scripted. ForHeld holds (λ held. Does r (outcome m words scripted held) before after steps steps'))
  of_words given are some =
      subst (λ (a : Asked). ForScript holds (script_asked a) (λ scripted. ForHeld holds (λ held. Does r (asked_outcome m a scripted held) before after steps steps'))) are some

  -- so is what is done whatever is read of a script, and whatever files there are
  pub of_words_alone : (given : Asked) → given ≡ words_meant words
      → ((scripted : Scripted) (held : Files) → Does r (asked_outcome m given scripted held) before after steps steps')
      → ForScript holds (script_asked (words_meant words)) (λ scripted. ForHeld holds (λ held. Does r (outcome m words scripted held) before after steps steps'))
  of_words_alone given are does =
      of_words given are (Unread (λ scripted. for_any holds {IsSo = λ held. Does r (asked_outcome m given scripted held) before after steps steps'} (does scripted)))

  -- what a call leaves that did this
  pub leaves_of : {status faults faults' : ℕ}
      → ForScript holds (script_asked (words_meant words)) (λ scripted. ForHeld holds (λ held. Does r (outcome m words scripted held) before after steps steps'))
      → ((what : Outcome) → Does r what before after steps steps' → Leaves what status before after faults faults' steps steps')
      → ForScript holds (script_asked (words_meant words)) (λ scripted. ForHeld holds (λ held. Leaves (outcome m words scripted held) status before after faults faults' steps steps'))
  leaves_of {status = status} {faults = faults} {faults' = faults'} some leaves =
      for_script {IsSo = λ scripted. ForHeld holds (λ held. Does r (outcome m words scripted held) before after steps steps')}
      {IsThen = λ scripted. ForHeld holds (λ held. Leaves (outcome m words scripted held) status before after faults faults' steps steps')} some
      (λ scripted. λ did. for_held {IsSo = λ held. Does r (outcome m words scripted held) before after steps steps'}
      {IsThen = λ held. Leaves (outcome m words scripted held) status before after faults faults' steps steps'} did (λ held. leaves (outcome m words scripted held)))

  -- whatever the files say, the turns stay below what the words and the script allow
  pub turns_bound : IsLawful m → ForScript holds (script_asked (words_meant words)) (λ scripted. ForHeld holds (λ held. Does r (outcome m words scripted held) before after steps steps'))
      → ForScript holds (script_asked (words_meant words)) (λ scripted. steps' ≤ steps + most_turns (words_meant words) scripted)
  turns_bound lawful some = for_script some (λ scripted does. within (outcome m words scripted does.held).turns (most_turns (words_meant words) scripted) does.so.most (turns-most m lawful (words_meant words) scripted does.held))
    where
      within : (turns most : ℕ) → steps' ≤ raised steps turns → turns ≤ most → steps' ≤ steps + most
      within turns most few less = omega (arith, few)

-- where want of memory or the source ended a call, no fault of the sink was counted
pub stays_at_memory : (e : Interruption) (source source' sink sink' : ℕ) → e ≡ Interrupted Memory → AllCauses {T = ℕ} (Err e) source source' sink sink' → sink' ≡ sink
stays_at_memory e source source' sink sink' is causes = (subst (λ (x : Interruption). AllCauses {T = ℕ} (Err x) source source' sink sink') is causes).1

pub stays_at_source : (e : Interruption) (source source' sink sink' : ℕ) → e ≡ Interrupted Source → AllCauses {T = ℕ} (Err e) source source' sink sink' → sink' ≡ sink
stays_at_source e source source' sink sink' is causes = (subst (λ (x : Interruption). AllCauses {T = ℕ} (Err x) source source' sink sink') is causes).1

-- a call that did all
pub leaves_all : {outcome : Outcome} {status : ℕ} {before after : Option Output} {faults faults' steps steps' : ℕ} → Does (Ok status) outcome before after steps steps' → faults' ≡ faults → Leaves outcome status before after faults faults' steps steps'
leaves_all {outcome = outcome} does kept = record {
  done = λ _. does.ends;
  cut = inl (record { whole = outcome.pieces; left = []; are = sym (append-nil outcome.pieces); next = does.ends.output_is });
  kept = λ _. inl kept;
  most = does.most;
}

-- a call that met trouble
leaves_cut : {trouble : Trouble} {outcome : Outcome} {status : ℕ} {before after : Option Output} {faults faults' steps steps' : ℕ} → ((status < 3) ⊎ (status ≡ 5) → ⊥) → (status ≢ 4 → faults' ≡ faults) → Does (Err (Interrupted trouble)) outcome before after steps steps' → Leaves outcome status before after faults faults' steps steps'
leaves_cut late kept does = record { done = λ early. absurd (late early); cut = inl does.ends; kept = λ other. inl (kept other); most = does.most }

pub leaves_part : {outcome : Outcome} {status : ℕ} {before after : Option Output} {faults faults' steps steps' : ℕ} (e : Interruption) (trouble : Trouble) → e ≡ Interrupted trouble → ((status < 3) ⊎ (status ≡ 5) → ⊥) → (status ≢ 4 → faults' ≡ faults) → Does (Err e) outcome before after steps steps' → Leaves outcome status before after faults faults' steps steps'
leaves_part {outcome = outcome} {before = before} {after = after} {steps = steps} {steps' = steps'} e trouble is late kept does =
    leaves_cut late kept (subst (λ (x : Interruption). Does (Err x) outcome before after steps steps') is does)

-- a call in which memory refused an edit
leaves_told : {outcome : Outcome} {before after : Option Output} {faults faults' steps steps' : ℕ} → Does (Err RefusedEdit) outcome before after steps steps' → Leaves outcome 6 before after faults faults' steps steps'
leaves_told does = record { done = λ early. absurd (⊎_elim (λ small. omega arith) (λ five. omega arith) early); cut = inr (refl, does.ends); kept = λ _. inr (refl, does.ends); most = does.most }

pub leaves_refused : {outcome : Outcome} {before after : Option Output} {faults faults' steps steps' : ℕ} (e : Interruption) → e ≡ RefusedEdit → Does (Err e) outcome before after steps steps' → Leaves outcome 6 before after faults faults' steps steps'
leaves_refused {outcome = outcome} {before = before} {after = after} {steps = steps} {steps' = steps'} e is does =
    leaves_told (subst (λ (x : Interruption). Does (Err x) outcome before after steps steps') is does)
