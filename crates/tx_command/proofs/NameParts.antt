-- Whether the name of a file is being read shows item by item.
use Rattle.std.proofs.Common.{◌≡◌, ℕ, ◌==◌, ◌||◌, ◌++◌, Bool, true, false, not, if◌then◌else◌, List, [], ◌∷◌, refl, ap, sym, ◌∙◌}
use Rattle.std.specs.Prelude.{fold}
use Rattle.std.proofs.lemmas.List.Sums.{fold_push}
use Rattle.tx_char.specs.Character.{character}
use Rattle.tx_seen.specs.declared.error.TexError.TheVariants.{Undefined}
use Rattle.tx_seen.specs.declared.item.Item.{Item}
use Rattle.tx_seen.specs.declared.item.Item.TheVariants.{Took, Gave}
use Rattle.tx_seen.specs.declared.meaning.Meaning.{Meaning}
use Rattle.tx_seen.specs.declared.meaning.Meaning.TheVariants as meaning
use Rattle.tx_seen.specs.declared.seen.Seen.{Seen}
use Rattle.tx_seen.specs.Seen.{is_other, is_space, is_undefined}
use Rattle.tx_seen.specs.Readings.{Done, Wrong}
use Rattle.tx_scan.specs.FileNames.{code_of, file_name, name_from, with_code}
use Rattle.tx_scan.specs.Grammars.{equals}
use Rattle.tx_command.specs.declared.naming.NamePart.{NamePart}
use Rattle.tx_command.specs.declared.naming.NamePart.TheVariants.{Equals, Blank, Name, Over}
use Rattle.tx_command.specs.Commands.{is_named_next, is_unnamed}
use Rattle.tx_command.specs.Naming.{behind, behind_blank, behind_name, is_name, is_named_by, part_behind}

-- whether these items leave the name unread, where they begin so
abbrev names_from : NamePart → List Item → Bool
names_from Equals items = is_named_next (equals items)
names_from Blank items = is_unnamed (file_name items)
names_from Name items = is_unnamed (name_from [] items)
names_from Over items = false

-- a name goes on alike, whatever was read of it
abbrev IsAlike : List Item → Type 0
IsAlike rest = (letters : List ℕ) → is_unnamed (name_from letters rest) ≡ is_unnamed (name_from [] rest)

code-by : (blank : Bool) (letters more : List ℕ) (rest : List Item) → IsAlike rest → is_unnamed (if blank then Done letters rest else name_from more rest) ≡ names_from (if not (not blank) then Over else Name) rest
code-by true letters more rest k = refl
code-by false letters more rest k = k more

name-by : (u s : Bool) (m : Meaning) (t : Seen) (letters : List ℕ) (rest : List Item) → IsAlike rest → is_unnamed (if u then Wrong Undefined else if s then Done letters rest else with_code (code_of m) (λ code. name_from (letters ++ code ∷ []) rest) (Done letters rest) (Done letters (Took t ∷ rest))) ≡ names_from (if u || (s || not (is_named_by m)) then Over else Name) rest
name-by true s m t letters rest k = refl
name-by false true m t letters rest k = refl
name-by false false (meaning.Character code category) t letters rest k = code-by (code == character " ") letters (letters ++ code ∷ []) rest k
name-by false false meaning.Undefined t letters rest k = refl
name-by false false (meaning.Command primitive) t letters rest k = refl
name-by false false (meaning.CharacterNumber n) t letters rest k = refl
name-by false false (meaning.MathNumber n) t letters rest k = refl
name-by false false (meaning.CountRegister n) t letters rest k = refl
name-by false false (meaning.DimenRegister n) t letters rest k = refl
name-by false false (meaning.SkipRegister n) t letters rest k = refl
name-by false false (meaning.MuskipRegister n) t letters rest k = refl
name-by false false (meaning.ToksRegister n) t letters rest k = refl
name-by false false (meaning.Font n) t letters rest k = refl
name-by false false (meaning.Expandable e) t letters rest k = refl
name-by false false (meaning.Macro m) t letters rest k = refl
name-by false false meaning.Held t letters rest k = refl

name-step : (t : Seen) (letters : List ℕ) (rest : List Item) → IsAlike rest → is_unnamed (name_from letters (Took t ∷ rest)) ≡ names_from (behind_name t) rest
name-step t letters rest k = name-by (is_undefined t) (is_space t) t.meaning t letters rest k

name-alike : (items : List Item) → IsAlike items
name-alike [] letters = refl
name-alike (Gave v ∷ rest) letters = refl
name-alike (Took t ∷ rest) letters = name-step t letters rest (name-alike rest) ∙ sym (name-step t [] rest (name-alike rest))

blank-by : (s : Bool) (t : Seen) (rest : List Item) → is_unnamed (if s then file_name rest else name_from [] (Took t ∷ rest)) ≡ names_from (if s then Blank else behind_name t) rest
blank-by true t rest = refl
blank-by false t rest = name-step t [] rest (name-alike rest)

equals-by : (u s o : Bool) (t : Seen) (rest : List Item) → is_named_next (if u then Wrong Undefined else if s then equals rest else if o then Done true rest else Done false (Took t ∷ rest)) ≡ names_from (if u then Over else if s then Equals else if o then Blank else behind_blank t) rest
equals-by true s o t rest = refl
equals-by false true o t rest = refl
equals-by false false true t rest = refl
equals-by false false false t rest = blank-by (is_space t) t rest

-- one more item
name-part : (part : NamePart) (item : Item) (rest : List Item) → names_from part (item ∷ rest) ≡ names_from (behind part item) rest
name-part Equals (Took t) rest = equals-by (is_undefined t) (is_space t) (is_other (character "=") t) t rest
name-part Blank (Took t) rest = blank-by (is_space t) t rest
name-part Name (Took t) rest = name-step t [] rest (name-alike rest)
name-part Over (Took t) rest = refl
name-part Equals (Gave v) rest = refl
name-part Blank (Gave v) rest = refl
name-part Name (Gave v) rest = refl
name-part Over (Gave v) rest = refl

-- all of them, and then none
names-read : (part : NamePart) (items : List Item) → names_from part items ≡ names_from (fold behind part items) []
names-read part [] = refl
names-read part (item ∷ items) = name-part part item items ∙ names-read (behind part item) items

names-none : (part : NamePart) → names_from part [] ≡ is_name part
names-none Equals = refl
names-none Blank = refl
names-none Name = refl
names-none Over = refl

-- what comes next is the name where that is being read
pub naming-is : (part : NamePart) (items : List Item) (answer : Bool) → part ≡ part_behind items → answer ≡ is_name part → answer ≡ is_named_next (equals items)
naming-is part items answer is told = told ∙ (ap is_name is ∙ (sym (names-none (part_behind items)) ∙ sym (names-read Equals items)))

-- what comes next behind one more item
pub part_more : (items : List Item) (item : Item) → part_behind (items ++ item ∷ []) ≡ behind (part_behind items) item
part_more items item = fold_push behind Equals items item
