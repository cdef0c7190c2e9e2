-- A script for the document: as many edits as it has pages, each of the first letter on one of them.
use Rattle.std.specs.Prelude.{◌≡◌, ◌⊎◌, ℕ, List, [], ◌∷◌, ◌++◌, slice_get, codes, Some}
use Rattle.std.specs.Fmt.{decimal}
use Rattle.tx_files.specs.declared.edit.Edit.{Edit as FileEdit}
use Rattle.tx_files.specs.declared.edit.Change.{Change}
use Rattle.tx_files.specs.declared.edit.Change.TheVariants.{Edit, Remove}
use Rattle.tx_script.specs.declared.command.Command.{Command}
use Rattle.tx_script.specs.declared.command.Command.TheVariants.{Change as Lone, Batch, Save, Locate}
use Rattle.tx_gen.specs.Draws.{next, drawn, times}
use Rattle.tx_gen.specs.Book.{letter, page, page_start}

-- the edit that puts a letter in the stead of the one at a place of the document
abbrev pub replacing : ℕ → ℕ → FileEdit
replacing place code = record { name = codes "book.tex"; place = place; removed = 1; put = code ∷ [] }

-- an edit by two draws, which page and which letter; the pages begin at these places
abbrev pub drawn_edit : (ℕ → ℕ) → ℕ → ℕ → List Command × ℕ
drawn_edit start pages state = (Lone (Edit (replacing (start (drawn pages state)) (letter (next state)))) ∷ [], next (next state))

-- the commands of the script; their draws follow those of the document
abbrev pub commands_of : ℕ → ℕ → List Command
commands_of seed pages = (times pages (drawn_edit (page_start seed) pages) (times pages page seed).1).0

-- the lines of such an edit, and an edit by its lines
abbrev pub lines_of : ℕ → ℕ → List ℕ
lines_of place code = codes "edit " ++ decimal place ++ codes " 1 1 book.tex\n" ++ code ∷ 10 ∷ []

abbrev pub edit_text : (ℕ → ℕ) → ℕ → ℕ → List ℕ × ℕ
edit_text start pages state = (lines_of (start (drawn pages state)) (letter (next state)), next (next state))

-- an a or a b, and that one of them stands at a place
abbrev pub IsLetter : ℕ → Type 0
IsLetter code = (code ≡ 97) ⊎ (code ≡ 98)

abbrev pub IsLetterAt : List ℕ → ℕ → Type 0
IsLetterAt text place = (slice_get text place ≡ Some 97) ⊎ (slice_get text place ≡ Some 98)

-- an edit of the document that puts one letter in the stead of one that stands there
pub record ReplacesLetter (book : List ℕ) (e : FileEdit) : Type 0 where
  pub name_is : e.name ≡ codes "book.tex"
  pub stands : IsLetterAt book e.place
  pub removed_is : e.removed ≡ 1
  pub code : ℕ
  pub is_letter : IsLetter code
  pub put_is : e.put ≡ code ∷ []

-- a command that is such an edit
abbrev pub IsReplacement : List ℕ → Command → Type 0
IsReplacement book (Lone (Edit e)) = ReplacesLetter book e
IsReplacement book (Lone (Remove name)) = ⊥
IsReplacement book (Batch changes) = ⊥
IsReplacement book (Save name) = ⊥
IsReplacement book (Locate at) = ⊥
