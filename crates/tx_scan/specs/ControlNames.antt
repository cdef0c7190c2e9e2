-- The name of a control sequence that is spelled out, up to \endcsname (The TeXbook, chapter 7; TeX: The Program, section 372).
use Rattle.std.specs.Prelude.{ℕ, ◌∷◌, [], ◌++◌, Bool, true, false, List, Option, Some, None, if◌then◌else◌}
use Rattle.tx_char.specs.declared.category.Cat.TheVariants.{Active}
use Rattle.tx_char.specs.declared.tokens.Token.{Token}
use Rattle.tx_char.specs.declared.tokens.Token.TheVariants as token
use Rattle.tx_prim.specs.declared.primitive.Primitive.TheVariants.{EndCsName}
use Rattle.tx_seen.specs.declared.error.TexError.TheVariants.{BadName}
use Rattle.tx_seen.specs.declared.fed.Fed.{Fed}
use Rattle.tx_seen.specs.declared.fed.Want.TheVariants.{Expanded}
use Rattle.tx_seen.specs.declared.item.Item.{Item}
use Rattle.tx_seen.specs.declared.item.Item.TheVariants.{Took, Gave}
use Rattle.tx_seen.specs.declared.meaning.Meaning.{Meaning}
use Rattle.tx_seen.specs.declared.meaning.Meaning.TheVariants.{Command}
use Rattle.tx_seen.specs.declared.seen.Seen.{Seen}
use Rattle.tx_seen.specs.Readings.{Reading, More, Done, Wrong}
use Rattle.tx_scan.specs.declared.spellings.ControlNameScan.{ControlNameScan}
use Rattle.tx_scan.specs.Integers.{expanded}
use Rattle.tx_scan.specs.GrammarRests.{held_none}
use Rattle.tx_scan.specs.Rests.{HasTakenBy, IsAnswer}

-- what means \endcsname
abbrev pub ends_name : Seen → Bool
ends_name t = is_end t.meaning
  where
    is_end : Meaning → Bool
    is_end (Command EndCsName) = true
    is_end _ = false

-- a character of a name: one of any category but active
abbrev pub letter_of : Token → Option ℕ
letter_of (token.Character code Active) = None
letter_of (token.Character code _) = Some code
letter_of (token.Name name) = None
letter_of token.FrozenRelax = None
letter_of (token.FontIdentifier font) = None

-- one more character must be there
abbrev pub with_letter : {A : Type 0} → Option ℕ → (ℕ → Reading A) → Reading A
with_letter None on = Wrong BadName
with_letter (Some code) on = on code

-- the name that begins with these characters, up to \endcsname
abbrev pub spelled : List ℕ → List Item → Reading (List ℕ)
spelled letters [] = More Expanded
spelled letters (Gave v ∷ rest) = Wrong BadName
spelled letters (Took t ∷ rest) = expanded t (
    if ends_name t then Done letters rest else with_letter (letter_of t.token) (λ code. spelled (letters ++ code ∷ []) rest))

abbrev pub control_name : List Item → Reading (List ℕ)
control_name items = spelled [] items

-- the scan of which nothing is read
abbrev pub begun_name : ControlNameScan
begun_name = record { letters = [] }

-- its scan means the rest of the name
abbrev pub rest : ControlNameScan → List Item → Item → List Item → Reading (List ℕ)
rest scan behind item more = spelled scan.letters (item ∷ more)

abbrev pub HasTaken : ControlNameScan → List Item → Type 0
HasTaken scan taken = HasTakenBy rest held_none control_name scan taken

abbrev pub IsFed : ControlNameScan → Seen → ControlNameScan → Fed (List ℕ) → Type 0
IsFed old t new answer = (behind : List Item) → IsAnswer rest held_none 0 (λ more. rest old behind (Took t) more) t new answer
