-- Small things that commands take beside numbers (The TeXbook, chapter 24; TeX: The Program, sections 403 to 405 and 1215).
use Rattle.std.specs.Prelude.{◌∷◌, [], ◌||◌, Bool, true, false, List, if◌then◌else◌}
use Rattle.tx_char.specs.Character.{character}
use Rattle.tx_char.specs.declared.category.Cat.TheVariants.{Active, Space}
use Rattle.tx_char.specs.declared.tokens.Token.{Token}
use Rattle.tx_char.specs.declared.tokens.Token.TheVariants as token
use Rattle.tx_seen.specs.declared.place.Place.{Place}
use Rattle.tx_seen.specs.declared.place.Place.TheVariants as place
use Rattle.tx_seen.specs.declared.error.TexError.TheVariants.{MissingBeginGroup, MissingName}
use Rattle.tx_seen.specs.declared.fed.Want.TheVariants.{Raw, Expanded}
use Rattle.tx_seen.specs.Seen.{is_space, is_other, is_relax, is_begin_group}
use Rattle.tx_seen.specs.declared.item.Item.{Item}
use Rattle.tx_seen.specs.declared.item.Item.TheVariants.{Took, Gave}
use Rattle.tx_seen.specs.Readings.{Reading, More, Done, Wrong}
use Rattle.tx_scan.specs.Integers.{expanded}

-- an optional `=`, with spaces before it
abbrev pub equals : List Item → Reading Bool
equals [] = More Expanded
equals (Gave v ∷ rest) = Done false (Gave v ∷ rest)
equals (Took t ∷ rest) = expanded t (
    if is_space t then equals rest else if is_other (character "=") t then Done true rest else Done false (Took t ∷ rest))

-- a begin-group token must be there, with spaces and \relax before it
abbrev pub left_brace : List Item → Reading (Unit {0})
left_brace [] = More Expanded
left_brace (Gave v ∷ rest) = Wrong MissingBeginGroup
left_brace (Took t ∷ rest) = expanded t (
    if is_space t || is_relax t then left_brace rest else if is_begin_group t then Done tt rest else Wrong MissingBeginGroup)

-- a token where a name is needed, which isn't expanded: a control sequence or an active character is one, and spaces
-- before it are skipped
abbrev pub named : Token → Reading Place → List Item → Reading Place
named (token.Name n) later rest = Done (place.Name n) rest
named (token.Character code Space) later rest = later
named (token.Character code Active) later rest = Done (place.Active code) rest
named (token.Character code _) later rest = Wrong MissingName
named token.FrozenRelax later rest = Wrong MissingName
named (token.FontIdentifier font) later rest = Wrong MissingName

-- a name must be there (TeX: The Program, section 1215)
abbrev pub name : List Item → Reading Place
name [] = More Raw
name (Gave v ∷ rest) = Wrong MissingName
name (Took t ∷ rest) = named t.token (name rest) rest
