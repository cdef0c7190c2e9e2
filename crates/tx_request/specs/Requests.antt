-- What a request is, which bytes are one, and where the next one begins.
use Rattle.std.specs.Prelude.{◌≡◌, ◌≢◌, ℕ, ◌<◌, ◌≤◌, IsTrue, List, [], ◌∷◌, ◌++◌, length, take, drop, slice_get, codes, Option, Some, IfSome}
use Rattle.std.specs.Fmt.{decimal}
use Rattle.std.specs.List.{AllByRecursion}
use Rattle.std.specs.Option.{IsSomeAnd}
use Rattle.tx_files.specs.Names.{is_name}
use Rattle.tx_files.specs.declared.edit.Change.{Change}
use Rattle.tx_files.specs.declared.edit.Change.TheVariants.{Edit, Remove}
use Rattle.tx_io.specs.Faults.{CountsFault}
use Rattle.tx_io.specs.Inlet.{behind_line}
use Rattle.tx_script.specs.Text.{number, named, elements, bytes_of, rules_of, greatest, IsCommand}
use Rattle.tx_script.specs.declared.command.Command.{Command as ScriptCommand}
use Rattle.tx_script.specs.declared.command.Command.TheVariants.{Change as Lone, Batch, Save, Locate}
use Rattle.tx_script.specs.declared.error.Rule.{Rule}
use Rattle.tx_script.specs.declared.error.Rule.TheVariants as kinds
use Rattle.tx_request.specs.declared.request.FileContents.{FileContents}
use Rattle.tx_request.specs.declared.request.Request.{Request}
use Rattle.tx_request.specs.declared.request.Request.TheVariants.{Command, File, Page, Log, LogOf}
use Rattle.tx_request.specs.declared.request.Next.{Next}
use Rattle.tx_request.specs.declared.request.Next.TheVariants.{Asks, Refused, Over, Failed, OutOfMemory}

-- the number of a page and LF
abbrev pub paged : ℕ → Rule × List ℕ
paged k = (kinds.Page, decimal k ++ 10 ∷ [])

-- what the contents of a file are made of after their word: how many bytes they are, the file's name and LF, those bytes and LF
abbrev pub contents_elements : FileContents → List (Rule × List ℕ)
contents_elements f = number (length f.contents) ∷ named f.name ∷ (kinds.Put, f.contents) ∷ (kinds.LineFeed, 10 ∷ []) ∷ []

-- the elements of a request, each with its bytes: those of a script's command, or of one of the new words
abbrev pub request_elements : Request → List (Rule × List ℕ)
request_elements (Command c) = elements c
request_elements (File f) = (kinds.Word, codes "file ") ∷ contents_elements f
request_elements (Page k) = (kinds.Word, codes "page ") ∷ paged k ∷ []
request_elements Log = (kinds.Word, codes "log\n") ∷ []
request_elements (LogOf k) = (kinds.Word, codes "log ") ∷ paged k ∷ []

-- its bytes, and the rule of each of them
abbrev pub text : Request → List ℕ
text r = bytes_of (request_elements r)

abbrev pub rules : Request → List Rule
rules r = rules_of (request_elements r)

-- no file has more bytes
abbrev pub most_bytes : ℕ
most_bytes = 67108864

-- an edit that puts in no more than that
abbrev pub IsShort : Change → Type 0
IsShort (Edit e) = length e.put ≤ most_bytes
IsShort (Remove name) = Unit {0}

-- a command of a script whose edits are such
abbrev pub AreShort : ScriptCommand → Type 0
AreShort (Lone c) = IsShort c
AreShort (Batch changes) = AllByRecursion IsShort changes
AreShort (Save name) = Unit {0}
AreShort (Locate at) = Unit {0}

-- a request that there may be
abbrev pub IsRequest : Request → Type 0
IsRequest (Command c) = IsCommand c × AreShort c
IsRequest (File f) = (length f.contents ≤ most_bytes) × IsTrue (is_name f.name)
IsRequest (Page k) = k ≤ greatest
IsRequest Log = Unit {0}
IsRequest (LogOf k) = k ≤ greatest

-- bytes that begin the text of a request
abbrev pub BeginsRequest : List ℕ → Type 0
BeginsRequest bytes = (r : Request) × (more : List ℕ) × IsRequest r × (bytes ++ more ≡ text r)

-- so many bytes begin one, and no more of them do
pub record IsFurthest (bytes : List ℕ) (place : ℕ) : Type 0 where
  pub within : place ≤ length bytes
  pub begins : BeginsRequest (take place bytes)
  pub no_further : (longer : ℕ) → place < longer → longer ≤ length bytes → BeginsRequest (take longer bytes) → ⊥

-- however the text of a request goes on behind these bytes, its next byte belongs to an element of this rule
abbrev pub IsNextRule : List ℕ → Rule → Type 0
IsNextRule front rule = (r : Request) (next : ℕ) (more : List ℕ) → IsRequest r → front ++ next ∷ more ≡ text r → slice_get (rules r) (length front) ≡ Some rule

-- Bytes that are refused by a rule: there are some, no request stands at their front, the rule is that of what would have to come
-- behind the longest of their fronts that begins one, and the next request begins behind the next LF there.
pub record IsRefused (bytes : List ℕ) (rule : Rule) (rest : List ℕ) : Type 0 where
  pub some : bytes ≢ []
  pub none : (r : Request) (later : List ℕ) → IsRequest r → bytes ≡ text r ++ later → ⊥
  pub place : ℕ
  pub furthest : IsFurthest bytes place
  pub next : IsNextRule (take place bytes) rule
  pub rest_is : rest ≡ behind_line (drop place bytes)

-- what stands at the front of bytes, and the bytes behind it
abbrev pub IsAtFront : Next → List ℕ → List ℕ → Type 0
IsAtFront (Asks r) bytes rest = IsRequest r × (bytes ≡ text r ++ rest)
IsAtFront (Refused rule) bytes rest = IsRefused bytes rule rest
IsAtFront Over bytes rest = (bytes ≡ []) × (rest ≡ [])
IsAtFront Failed bytes rest = ⊥
IsAtFront OutOfMemory bytes rest = ⊥

-- bytes are read as these, one after the other, up to where the rest begins
pub data AreRead : List ℕ → List Next → List ℕ → Type 0 where
  None : {bytes : List ℕ} → AreRead bytes [] bytes
  Then : {bytes between rest : List ℕ} {next : Next} {others : List Next} → IsAtFront next bytes between → AreRead between others rest → AreRead bytes (next ∷ others) rest

-- there is one reading: what stands at the front of bytes, and where the next begins, is determined
abbrev pub IsOnlyReading : List ℕ → Type 0
IsOnlyReading bytes = (one other : Next) (rest later : List ℕ) → IsAtFront one bytes rest → IsAtFront other bytes later → (one ≡ other) × (rest ≡ later)

-- The inlet failed in the midst of what comes next: some of these bytes were taken in, and these are left. Nothing was taken in whole,
-- that is, so that it stands at the front whatever follows, and nothing behind what stands there.
pub record IsBrokenOff (bytes left : List ℕ) : Type 0 where
  pub taken : List ℕ
  pub are : bytes ≡ taken ++ left
  pub unended : (next : Next) (later : List ℕ) → ((more : List ℕ) → IsAtFront next (taken ++ more) (later ++ more)) → ⊥
  pub no_more : (next : Next) (rest : List ℕ) → IsAtFront next bytes rest → length rest ≤ length left

-- what an inlet answers of what it tells, and leaves; nothing is said where memory was wanting
abbrev pub Leaves : Next → List ℕ → Option (List ℕ) → Type 0
Leaves (Asks r) bytes after = IsSomeAnd after (IsAtFront (Asks r) bytes)
Leaves (Refused rule) bytes after = IsSomeAnd after (IsAtFront (Refused rule) bytes)
Leaves Over bytes after = IsSomeAnd after (IsAtFront Over bytes)
Leaves Failed bytes after = IsSomeAnd after (IsBrokenOff bytes)
Leaves OutOfMemory bytes after = Unit {0}

abbrev pub IsNext : Next → Option (List ℕ) → Option (List ℕ) → Type 0
IsNext next before after = IfSome before (λ bytes. Leaves next bytes after)

-- Failed comes only where a fault was counted, and any other answer leaves the count
abbrev pub NextCause : Next → ℕ → ℕ → Type 0
NextCause (Asks r) before now = now ≡ before
NextCause (Refused rule) before now = now ≡ before
NextCause Over before now = now ≡ before
NextCause Failed before now = CountsFault before now
NextCause OutOfMemory before now = now ≡ before
