-- The text of a script, and what begins one.
use Rattle.std.specs.Prelude.{◌≡◌, ℕ, ◌<◌, ◌≤◌, nat_le, Bool, true, ◌&&◌, IsTrue, List, [], ◌∷◌, ◌++◌, length, take, replicate, slice_get, codes, Some}
use Rattle.std.specs.Fmt.{decimal}
use Rattle.std.specs.List.{flat_map, AllByRecursion}
use Rattle.tx_files.specs.Names.{is_name}
use Rattle.tx_files.specs.declared.edit.Edit.{Edit as FileEdit}
use Rattle.tx_files.specs.declared.edit.Change.{Change}
use Rattle.tx_files.specs.declared.edit.Change.TheVariants.{Edit, Remove}
use Rattle.tx_script.specs.declared.command.Command.{Command}
use Rattle.tx_script.specs.declared.command.Command.TheVariants.{Change as Lone, Batch, Save, Locate}
use Rattle.tx_script.specs.declared.command.FilePlace.{FilePlace}
use Rattle.tx_script.specs.declared.error.Rule.{Rule}
use Rattle.tx_script.specs.declared.error.Rule.TheVariants.{Word, Number, Name, Put, LineFeed, Count}

-- a number in decimal digits, 0 or without a leading zero, and a space
abbrev pub number : ℕ → Rule × List ℕ
number n = (Number, decimal n ++ 32 ∷ [])

-- a name and LF
abbrev pub named : List ℕ → Rule × List ℕ
named name = (Name, name ++ 10 ∷ [])

-- what an edit is made of after its word: its place, how many bytes it removes and how many it puts in, its file's name
-- and LF, those bytes and LF
abbrev pub edit_elements : FileEdit → List (Rule × List ℕ)
edit_elements e = number e.place ∷ number e.removed ∷ number (length e.put) ∷ named e.name ∷ (Put, e.put) ∷ (LineFeed, 10 ∷ []) ∷ []

-- the elements of a change, each with its bytes
abbrev pub change_elements : Change → List (Rule × List ℕ)
change_elements (Edit e) = (Word, codes "edit ") ∷ edit_elements e
change_elements (Remove name) = (Word, codes "remove ") ∷ named name ∷ []

-- how many changes a batch has, without a leading zero, and LF
abbrev pub counted : ℕ → Rule × List ℕ
counted n = (Count, decimal n ++ 10 ∷ [])

-- what a batch is made of after its word: how many changes it has, and those
abbrev pub batch_elements : List Change → List (Rule × List ℕ)
batch_elements changes = counted (length changes) ∷ flat_map change_elements changes

-- what asks by which page a place is first read is made of after its word: the place, and its file's name and LF
abbrev pub place_elements : FilePlace → List (Rule × List ℕ)
place_elements at = number at.place ∷ named at.name ∷ []

-- the elements of a command
abbrev pub elements : Command → List (Rule × List ℕ)
elements (Lone c) = change_elements c
elements (Batch changes) = (Word, codes "batch ") ∷ batch_elements changes
elements (Save name) = (Word, codes "save ") ∷ named name ∷ []
elements (Locate at) = (Word, codes "locate ") ∷ place_elements at

-- the bytes that elements are written with
abbrev pub bytes_of : List (Rule × List ℕ) → List ℕ
bytes_of parts = flat_map (λ e. e.1) parts

-- for each of these bytes the rule of the element that it belongs to
abbrev pub rules_of : List (Rule × List ℕ) → List Rule
rules_of parts = flat_map (λ e. replicate (length e.1) e.0) parts

-- the text of a script: its commands, one after the other
abbrev pub text : List Command → List ℕ
text script = bytes_of (flat_map elements script)

-- the rule of each byte of its text
abbrev pub rules : List Command → List Rule
rules script = rules_of (flat_map elements script)

-- the greatest number that a script may hold
abbrev pub greatest : ℕ
greatest = 4294967295

-- an edit that a script may hold: its numbers are in range, and it names a file
pub record IsEdit (e : FileEdit) : Type 0 where
  pub place : e.place ≤ greatest
  pub removed : e.removed ≤ greatest
  pub put : length e.put ≤ greatest
  pub is_named : IsTrue (is_name e.name)

-- a change that a script may hold
abbrev pub IsChange : Change → Type 0
IsChange (Edit e) = IsEdit e
IsChange (Remove name) = IsTrue (is_name name)

-- a batch has 1 to 100 of them
abbrev pub is_count : ℕ → Bool
is_count n = nat_le 1 n && nat_le n 100

pub record IsBatch (changes : List Change) : Type 0 where
  pub some : 1 ≤ length changes
  pub few : length changes ≤ 100
  pub each : AllByRecursion IsChange changes

-- a place that a script may ask for
pub record IsPlace (at : FilePlace) : Type 0 where
  pub place : at.place ≤ greatest
  pub is_named : IsTrue (is_name at.name)

-- a command that a script may hold
abbrev pub IsCommand : Command → Type 0
IsCommand (Lone c) = IsChange c
IsCommand (Batch changes) = IsBatch changes
IsCommand (Save name) = IsTrue (is_name name)
IsCommand (Locate at) = IsPlace at

-- a script is a list of these
abbrev pub IsScript : List Command → Type 0
IsScript script = AllByRecursion IsCommand script

-- these bytes are the text of this script
abbrev pub IsTextOf : List ℕ → List Command → Type 0
IsTextOf bytes script = IsScript script × (bytes ≡ text script)

-- the text of some script begins with these bytes
abbrev pub BeginsScript : List ℕ → Type 0
BeginsScript bytes = (script : List Command) × (more : List ℕ) × IsTextOf (bytes ++ more) script

-- so many bytes begin a script, and no more of them do
pub record IsFurthest (bytes : List ℕ) (place : ℕ) : Type 0 where
  pub within : place ≤ length bytes
  pub begins : BeginsScript (take place bytes)
  pub no_further : (longer : ℕ) → place < longer → longer ≤ length bytes → BeginsScript (take longer bytes) → ⊥

-- however the text of a script goes on after these bytes, its next byte belongs to an element of this rule
abbrev pub IsNextRule : List ℕ → Rule → Type 0
IsNextRule front rule = (script : List Command) (next : ℕ) (more : List ℕ) → IsTextOf (front ++ next ∷ more) script → slice_get (rules script) (length front) ≡ Some rule

-- why bytes are no script's text
pub record IsRefusal (bytes : List ℕ) (place : ℕ) (rule : Rule) : Type 0 where
  pub none : (script : List Command) → IsTextOf bytes script → ⊥
  pub furthest : IsFurthest bytes place
  pub next : IsNextRule (take place bytes) rule
