-- Reading a script's text element by element, up to the first byte that no script has there.
use Rattle.std.specs.Prelude.{◌≡◌, ℕ, zero, suc, ◌+◌, ◌-◌, ◌*◌, ◌==◌, ◌&&◌, if◌then◌else◌, Bool, false, nat_le, nat_lt, List, [], ◌∷◌, ◌++◌, length, take, drop, codes, Option, Some, None, option_map, Result, Ok, Err}
use Rattle.std.specs.Char.{is_ascii_digit}
use Rattle.tx_files.specs.Names.{is_name, is_visible}
use Rattle.tx_files.specs.declared.edit.Edit.{Edit as FileEdit}
use Rattle.tx_files.specs.declared.edit.Change.{Change}
use Rattle.tx_files.specs.declared.edit.Change.TheVariants.{Edit, Remove}
use Rattle.tx_script.specs.declared.command.Command.{Command}
use Rattle.tx_script.specs.declared.command.Command.TheVariants.{Change as Lone, Batch, Save, Locate}
use Rattle.tx_script.specs.declared.command.FilePlace.{FilePlace}
use Rattle.tx_script.specs.declared.element.ChangeWord.{ChangeWord}
use Rattle.tx_script.specs.declared.element.ChangeWord.TheVariants as changing
use Rattle.tx_script.specs.declared.element.CommandWord.{CommandWord}
use Rattle.tx_script.specs.declared.element.CommandWord.TheVariants as words
use Rattle.tx_script.specs.declared.error.Broken.{Broken}
use Rattle.tx_script.specs.declared.error.Fault.{Fault}
use Rattle.tx_script.specs.declared.error.Fault.TheVariants as faults
use Rattle.tx_script.specs.declared.error.Rule.{Rule}
use Rattle.tx_script.specs.declared.error.Rule.TheVariants.{Word, Number, Name, Put, LineFeed, Count}
use Rattle.tx_script.specs.Text.{greatest, is_count}

-- what stands at the front of bytes, and the bytes after it; or where reading ended
abbrev pub Read : Type 0 → Type 0
Read V = Result (V × List ℕ) Broken

infixl 10 ◌>>=◌
abbrev pub ◌>>=◌ : {A B : Type 0} → Result A Broken → (A → Result B Broken) → Result B Broken
(Ok x) >>= f = f x
(Err e) >>= f = Err e

-- what a function answered, seen by view, is what reading gives, unless memory ran out
abbrev pub Fails : {Y : Type 0} → Fault → Result Y Broken → Type 0
Fails faults.OutOfMemory read = Unit {0}
Fails (faults.Broken b) read = read ≡ Err b

abbrev pub Gives : {X Y : Type 0} → (X → Y) → Result X Fault → Result Y Broken → Type 0
Gives view (Ok x) read = read ≡ Ok (view x)
Gives view (Err e) read = Fails e read

-- reading ended before these bytes
abbrev pub stopped : {A : Type 0} → Rule → List ℕ → Result A Broken
stopped rule rest = Err (record { left = length rest; rule = rule })

-- the bytes after a given text
abbrev pub literal_at : Rule → List ℕ → List ℕ → Result (List ℕ) Broken
literal_at rule [] bytes = Ok bytes
literal_at rule (c ∷ wanted) [] = stopped rule []
literal_at rule (c ∷ wanted) (b ∷ bytes) = if b == c then literal_at rule wanted bytes else stopped rule (b ∷ bytes)

-- byte by byte up to a last one, by what is known of the bytes so far: what they give if the last one comes now, and what
-- is known with one byte more; None where no text of the element goes on so
abbrev pub scan : {S V : Type 0} → Rule → ℕ → (S → Option V) → (S → ℕ → Option S) → S → List ℕ → Read V
scan rule last give go known [] = stopped rule []
scan rule last give go known (b ∷ bytes) =
    if b == last
    then elim (give known) [ None ↦ stopped rule (b ∷ bytes) | Some value ↦ Ok (value, bytes) ]
    else elim (go known b) [ None ↦ stopped rule (b ∷ bytes) | Some next ↦ scan rule last give go next bytes ]

-- whether a digit may follow the digits of a number: none follows a lone 0, and the number stays in range
abbrev pub may_follow : ℕ → ℕ → Bool
may_follow value digit = nat_lt 0 value && nat_le (10 * value + digit) greatest

-- the number with one digit more, the first where there is none
abbrev pub with_digit : Option ℕ → ℕ → Option ℕ
with_digit None digit = Some digit
with_digit (Some value) digit = if may_follow value digit then Some (10 * value + digit) else None

-- the number with one byte more
abbrev pub with_byte : Option ℕ → ℕ → Option ℕ
with_byte number byte = if is_ascii_digit byte then with_digit number (byte - 48) else None

-- what is known of a number before its first digit, and with one byte more
abbrev pub further_number : Option ℕ → ℕ → Option (Option ℕ)
further_number known byte = option_map Some (with_byte known byte)

abbrev pub whole_number : Option ℕ → Option ℕ
whole_number known = known

-- a number and a space
unfoldable pub number_at : List ℕ → Read ℕ
number_at bytes = scan Number 32 whole_number further_number None bytes

-- how many changes a batch has, with one byte more
abbrev pub if_count : Option ℕ → Option ℕ
if_count None = None
if_count (Some value) = if is_count value then Some value else None

abbrev pub with_count : Option ℕ → ℕ → Option ℕ
with_count number byte = if_count (with_byte number byte)

abbrev pub further_count : Option ℕ → ℕ → Option (Option ℕ)
further_count known byte = option_map Some (with_count known byte)

-- that number and LF
unfoldable pub count_at : List ℕ → Read ℕ
count_at bytes = scan Count 10 whole_number further_count None bytes

-- a name, if these bytes are one
abbrev pub whole_name : List ℕ → Option (List ℕ)
whole_name front = if is_name front then Some front else None

-- the front of a name with one byte more
abbrev pub with_letter : List ℕ → ℕ → Option (List ℕ)
with_letter front byte = if nat_lt (length front) 255 && is_visible byte then Some (front ++ byte ∷ []) else None

-- a name and LF
unfoldable pub name_at : List ℕ → Read (List ℕ)
name_at bytes = scan Name 10 whole_name with_letter [] bytes

-- so many bytes
unfoldable pub put_at : ℕ → List ℕ → Read (List ℕ)
put_at size bytes = if nat_le size (length bytes) then Ok (take size bytes, drop size bytes) else stopped Put []

-- whether bytes begin with this one
abbrev pub begins_with : ℕ → List ℕ → Bool
begins_with first [] = false
begins_with first (b ∷ bytes) = b == first

-- the word that begins a command, and a space
unfoldable pub word_at : List ℕ → Read CommandWord
word_at bytes =
    if begins_with 115 bytes
    then (literal_at Word (codes "save ") bytes >>= λ rest. Ok (words.Save, rest))
    else if begins_with 98 bytes
    then (literal_at Word (codes "batch ") bytes >>= λ rest. Ok (words.Batch, rest))
    else if begins_with 114 bytes
    then (literal_at Word (codes "remove ") bytes >>= λ rest. Ok (words.Remove, rest))
    else if begins_with 108 bytes
    then (literal_at Word (codes "locate ") bytes >>= λ rest. Ok (words.Locate, rest))
    else (literal_at Word (codes "edit ") bytes >>= λ rest. Ok (words.Edit, rest))

-- the word that begins a command of a batch, and a space
unfoldable pub change_word_at : List ℕ → Read ChangeWord
change_word_at bytes =
    if begins_with 114 bytes
    then (literal_at Word (codes "remove ") bytes >>= λ rest. Ok (changing.Remove, rest))
    else (literal_at Word (codes "edit ") bytes >>= λ rest. Ok (changing.Edit, rest))

-- an edit, after its word
unfoldable pub edit_at : List ℕ → Read FileEdit
edit_at bytes = do
  place ← number_at bytes
  removed ← number_at place.1
  size ← number_at removed.1
  name ← name_at size.1
  put ← put_at size.0 name.1
  rest ← literal_at LineFeed (10 ∷ []) put.1
  Ok (record { name = name.0; place = place.0; removed = removed.0; put = put.0 }, rest)

-- a change: what follows its word, and all of it
abbrev pub after_change_word : ChangeWord → List ℕ → Read Change
after_change_word changing.Edit bytes = edit_at bytes >>= λ e. Ok (Edit e.0, e.1)
after_change_word changing.Remove bytes = name_at bytes >>= λ name. Ok (Remove name.0, name.1)

unfoldable pub change_at : List ℕ → Read Change
change_at bytes = do
  word ← change_word_at bytes
  after_change_word word.0 word.1

-- so many changes
unfoldable pub changes_at : ℕ → List ℕ → Read (List Change)
changes_at zero bytes = Ok ([], bytes)
changes_at (suc n) bytes = do
  c ← change_at bytes
  changes ← changes_at n c.1
  Ok (c.0 ∷ changes.0, changes.1)

-- a batch, after its word
unfoldable pub batch_at : List ℕ → Read (List Change)
batch_at bytes = do
  count ← count_at bytes
  changes_at count.0 count.1

-- a place of a file, after the word that asks for it
unfoldable pub file_place_at : List ℕ → Read FilePlace
file_place_at bytes = do
  place ← number_at bytes
  name ← name_at place.1
  Ok (record { name = name.0; place = place.0 }, name.1)

-- what follows a word
abbrev pub after_word : CommandWord → List ℕ → Read Command
after_word words.Edit bytes = edit_at bytes >>= λ e. Ok (Lone (Edit e.0), e.1)
after_word words.Remove bytes = name_at bytes >>= λ name. Ok (Lone (Remove name.0), name.1)
after_word words.Batch bytes = batch_at bytes >>= λ changes. Ok (Batch changes.0, changes.1)
after_word words.Save bytes = name_at bytes >>= λ name. Ok (Save name.0, name.1)
after_word words.Locate bytes = file_place_at bytes >>= λ at. Ok (Locate at.0, at.1)

-- a command
unfoldable pub command_at : List ℕ → Read Command
command_at bytes = do
  word ← word_at bytes
  after_word word.0 word.1
