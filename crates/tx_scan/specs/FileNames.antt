-- Names of files behind a command, as \input has them (The TeXbook, chapter 24; TeX: The Program, sections 511 to 531).
use Rattle.std.specs.Prelude.{ℕ, ◌∷◌, [], ◌++◌, ◌==◌, ◌||◌, Bool, false, List, Option, Some, None, codes, if◌then◌else◌}
use Rattle.tx_char.specs.Character.{character}
use Rattle.tx_seen.specs.declared.error.TexError.TheVariants.{MissingName}
use Rattle.tx_seen.specs.declared.fed.Fed.{Fed}
use Rattle.tx_seen.specs.declared.fed.Want.TheVariants.{Expanded}
use Rattle.tx_seen.specs.declared.item.Item.{Item}
use Rattle.tx_seen.specs.declared.item.Item.TheVariants.{Took, Gave}
use Rattle.tx_seen.specs.declared.meaning.Meaning.{Meaning}
use Rattle.tx_seen.specs.declared.meaning.Meaning.TheVariants.{Character}
use Rattle.tx_seen.specs.declared.seen.Seen.{Seen}
use Rattle.tx_seen.specs.Seen.{is_space}
use Rattle.tx_seen.specs.Readings.{Reading, More, Done, Wrong}
use Rattle.tx_scan.specs.declared.spellings.FileNameScan.{FileNameScan}
use Rattle.tx_scan.specs.Integers.{expanded}
use Rattle.tx_scan.specs.GrammarRests.{held_none}
use Rattle.tx_scan.specs.Rests.{HasTakenBy, IsAnswer}

-- the character that a token means, of whatever category
abbrev pub code_of : Meaning → Option ℕ
code_of (Character code category) = Some code
code_of _ = None

-- one more character of a name, or the token that ends it; a blank does, whatever its category
abbrev pub with_code : {A : Type 0} → Option ℕ → (ℕ → Reading A) → Reading A → Reading A → Reading A
with_code None on blank other = other
with_code (Some code) on blank other = if code == character " " then blank else on code

-- the name that begins with these characters: a space ends it, and belongs to it; so does what means no character, which is
-- given back
abbrev pub name_from : List ℕ → List Item → Reading (List ℕ)
name_from letters [] = More Expanded
name_from letters (Gave v ∷ rest) = Wrong MissingName
name_from letters (Took t ∷ rest) = expanded t (
    if is_space t then Done letters rest
    else with_code (code_of t.meaning) (λ code. name_from (letters ++ code ∷ []) rest) (Done letters rest) (Done letters (Took t ∷ rest)))

-- a file's name as it is written, with spaces before it
abbrev pub file_name : List Item → Reading (List ℕ)
file_name [] = More Expanded
file_name (Gave v ∷ rest) = Wrong MissingName
file_name (Took t ∷ rest) = if is_space t then file_name rest else name_from [] (Took t ∷ rest)

-- whether a name has a dot
abbrev pub has_dot : List ℕ → Bool
has_dot [] = false
has_dot (code ∷ rest) = (code == character ".") || has_dot rest

-- the file for which \input asks by this name
abbrev pub input_name : List ℕ → List ℕ
input_name name = if has_dot name then name else name ++ codes ".tex"

-- the scan of which nothing is read
abbrev pub begun_file : FileNameScan
begun_file = record { letters = [] }

-- its scan means the rest of the name; spaces are skipped as long as no character is read
abbrev pub rest_from : List ℕ → List Item → Reading (List ℕ)
rest_from [] items = file_name items
rest_from (code ∷ letters) items = name_from (code ∷ letters) items

abbrev pub rest : FileNameScan → List Item → Item → List Item → Reading (List ℕ)
rest scan behind item more = rest_from scan.letters (item ∷ more)

abbrev pub HasTaken : FileNameScan → List Item → Type 0
HasTaken scan taken = HasTakenBy rest held_none file_name scan taken

abbrev pub IsFed : FileNameScan → Seen → FileNameScan → Fed (List ℕ) → Type 0
IsFed old t new answer = (behind : List Item) → IsAnswer rest held_none 1 (λ more. rest old behind (Took t) more) t new answer
