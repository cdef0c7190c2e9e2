-- What an inlet gives, read as a request piece by piece.
use Rattle.std.specs.Prelude.{◌≡◌, ◌≢◌, ℕ, ◌-◌, ◌<◌, ◌≤◌, ◌==◌, Bool, false, if◌then◌else◌, List, [], ◌∷◌, ◌++◌, length, drop, slice_index, Option, Some, None, IfSome, IsSomeAnd, Result, Ok, Err}
use Rattle.tx_io.specs.Faults.{CountsFault}
use Rattle.tx_io.specs.Inlet.{behind_line}
use Rattle.tx_io.specs.declared.inlet.Came.{Came}
use Rattle.tx_io.specs.declared.inlet.Came.TheVariants as came
use Rattle.tx_script.specs.Reading.{Read}
use Rattle.tx_script.specs.declared.error.Broken.{Broken}
use Rattle.tx_script.specs.declared.error.Fault.{Fault}
use Rattle.tx_script.specs.declared.error.Fault.TheVariants as faults
use Rattle.tx_script.specs.declared.error.Rule.{Rule}
use Rattle.tx_request.specs.Reading.{request_at}
use Rattle.tx_request.specs.declared.stopped.Stopped.{Stopped}
use Rattle.tx_request.specs.declared.stopped.Stopped.TheVariants.{Refused, Failed, OutOfMemory}
use Rattle.tx_request.specs.declared.request.Next.{Next}
use Rattle.tx_request.specs.declared.request.Next.TheVariants as next
use Rattle.tx_request.specs.declared.request.Request.{Request}

-- no line with which a request begins is longer
abbrev pub most_line : ℕ
most_line = 512

-- the bytes that came, or why none did
abbrev pub came_to : Came → Result (List ℕ) Stopped
came_to (came.Here bytes) = Ok bytes
came_to came.Failed = Err Failed
came_to came.OutOfMemory = Err OutOfMemory

-- this front of what was to come was taken; where none was, that is for no fault of the bytes, and where the inlet failed all is left
abbrev pub Took : Result (List ℕ) Stopped → (List ℕ → List ℕ) → Option (List ℕ) → Option (List ℕ) → Type 0
Took (Ok bytes) front before after = IfSome before (λ left. (bytes ≡ front left) × (after ≡ Some (drop (length bytes) left)))
Took (Err (Refused rule passed)) front before after = ⊥
Took (Err Failed) front before after = after ≡ before
Took (Err OutOfMemory) front before after = Unit {0}

-- whether a line ends with its LF
abbrev pub is_whole : List ℕ → Bool
is_whole line = slice_index line (length line - 1) == 10

-- why a line was refused, by whether it was read whole
abbrev pub refused_in : Bool → Fault → Stopped
refused_in whole (faults.Broken b) = Refused b.rule whole
refused_in whole faults.OutOfMemory = OutOfMemory

-- bytes without LF
abbrev pub IsPlain : List ℕ → Type 0
IsPlain [] = Unit {0}
IsPlain (c ∷ bytes) = (c ≡ 10 → ⊥) × IsPlain bytes

-- where reading ended: the next request begins behind the next LF there, which was read already or wasn't; and where it wasn't and
-- nothing follows, there is none
pub record StopsAt (bytes : List ℕ) (rule : Rule) (passed : Bool) (b : Broken) (rest : List ℕ) : Type 0 where
  pub rule_is : b.rule ≡ rule
  pub read : List ℕ
  pub unread : List ℕ
  pub split : bytes ≡ read ++ unread
  pub left : length unread ≡ b.left
  pub rest_is : (if passed then rest else behind_line rest) ≡ behind_line unread
  pub unended : passed ≡ false → rest ≡ [] → IsPlain unread
  pub taken : List ℕ
  pub are : bytes ≡ taken ++ rest

-- reading ends behind a place where so many bytes are left, where it gives a value, or not before it, where it breaks
abbrev pub EndsPast : {X : Type 0} → Read X → ℕ → Type 0
EndsPast (Ok x) left = length x.1 < left
EndsPast (Err b) left = b.left ≤ left

-- the inlet failed: some of these bytes were taken, and reading them ends past these
pub record BreaksOff {X : Type 0} (bytes : List ℕ) (read : Read X) (left : List ℕ) : Type 0 where
  pub taken : List ℕ
  pub are : bytes ≡ taken ++ left
  pub past : EndsPast read (length left)

-- what was read of an inlet that told these bytes is what reading them gives, and it tells what follows
abbrev pub Streams : {X : Type 0} → Result X Stopped → List ℕ → Read X → Option (List ℕ) → Type 0
Streams (Ok x) bytes read after = IsSomeAnd after (λ rest. read ≡ Ok (x, rest))
Streams (Err (Refused rule passed)) bytes read after = (b : Broken) × (read ≡ Err b) × IsSomeAnd after (StopsAt bytes rule passed b)
Streams (Err Failed) bytes read after = IsSomeAnd after (BreaksOff bytes read)
Streams (Err OutOfMemory) bytes read after = Unit {0}

-- where it told any
abbrev pub StreamsOf : {X : Type 0} → Result X Stopped → (List ℕ → Read X) → Option (List ℕ) → Option (List ℕ) → Type 0
StreamsOf result reads before after = IfSome before (λ bytes. Streams result bytes (reads bytes) after)

-- the same of a request that need not come
abbrev pub Asks : Result (Option Request) Stopped → List ℕ → Option (List ℕ) → Type 0
Asks (Ok (Some r)) bytes after = Streams (Ok r) bytes (request_at bytes) after
Asks (Ok None) bytes after = (bytes ≡ []) × (after ≡ Some [])
Asks (Err (Refused rule passed)) bytes after = (bytes ≢ []) × Streams {X = Request} (Err (Refused rule passed)) bytes (request_at bytes) after
Asks (Err Failed) bytes after = Streams {X = Request} (Err Failed) bytes (request_at bytes) after
Asks (Err OutOfMemory) bytes after = Unit {0}

abbrev pub AsksOf : Result (Option Request) Stopped → Option (List ℕ) → Option (List ℕ) → Type 0
AsksOf result before after = IfSome before (λ bytes. Asks result bytes after)

-- what is refused by this rule was passed over up to the next LF, unless it had been, or the inlet failed
abbrev pub Refuses : Next → Rule → Bool → Option (List ℕ) → Option (List ℕ) → Type 0
Refuses (next.Asks r) rule passed before after = ⊥
Refuses (next.Refused refused) rule passed before after = (refused ≡ rule) × IfSome before (λ left. after ≡ Some (if passed then left else behind_line left))
Refuses next.Over rule passed before after = ⊥
Refuses next.Failed rule passed before after = (passed ≡ false) × (after ≡ before)
Refuses next.OutOfMemory rule passed before after = ⊥

-- the inlet failed only where it counted a fault
abbrev pub StoppedCause : {X : Type 0} → Result X Stopped → ℕ → ℕ → Type 0
StoppedCause (Ok x) before now = now ≡ before
StoppedCause (Err (Refused rule passed)) before now = now ≡ before
StoppedCause (Err Failed) before now = CountsFault before now
StoppedCause (Err OutOfMemory) before now = now ≡ before
