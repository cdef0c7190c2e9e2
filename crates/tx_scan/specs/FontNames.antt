-- Fonts, as documents tell them (The TeXbook, chapter 24; TeX: The Program, sections 577 and 578).
use Rattle.std.specs.Prelude.{ℕ, zero, suc, ◌∷◌, [], ◌++◌, ◌&&◌, ℤ, pos, int_le, unsigned_abs, List, Option, Some, None, if◌then◌else◌}
use Rattle.tx_seen.specs.declared.error.TexError.TheVariants.{MissingName, Undefined}
use Rattle.tx_seen.specs.declared.fed.Want.TheVariants.{Expanded}
use Rattle.tx_seen.specs.declared.item.Item.{Item}
use Rattle.tx_seen.specs.declared.item.Item.TheVariants.{Took, Gave}
use Rattle.tx_char.specs.declared.tokens.Token.TheVariants.{FrozenRelax}
use Rattle.tx_prim.specs.declared.primitive.Primitive.TheVariants.{LoadFont, NullFont, Relax}
use Rattle.tx_seen.specs.declared.meaning.Meaning.TheVariants.{Command, Font}
use Rattle.tx_seen.specs.declared.place.FontName.{FontName}
use Rattle.tx_seen.specs.declared.place.FontName.TheVariants.{Current, Number}
use Rattle.tx_seen.specs.declared.seen.Seen.{Seen}
use Rattle.tx_seen.specs.declared.place.Place.{Place}
use Rattle.tx_seen.specs.declared.place.Place.TheVariants as place
use Rattle.tx_seen.specs.Readings.{Reading, More, Done, Wrong}
use Rattle.tx_seen.specs.Seen.{font_name, is_space, is_undefined}
use Rattle.tx_scan.specs.declared.scans.FontSought.{FontSought}
use Rattle.tx_scan.specs.declared.scans.FontSought.TheVariants as sought

-- what a token tells where a font is needed
abbrev pub told : Option FontName → List Item → Reading FontName
told None rest = Wrong MissingName
told (Some font) rest = Done font rest

-- a font must be there, with spaces before it: \font is the current one (section 577)
abbrev pub font : List Item → Reading FontName
font [] = More Expanded
font (Gave v ∷ rest) = Wrong MissingName
font (Took t ∷ rest) =
    if is_undefined t then Wrong Undefined
    else if is_space t then font rest
    else told (font_name t) rest

-- a font behind a number: where the number ended at a token, that is the font's
abbrev pub font_behind : List Item → List Item → Reading FontName
font_behind behind rest = font (behind ++ rest)

-- the same, where it is known what font that token tells
abbrev pub font_held : Option FontName → List Item → List Item → Reading FontName
font_held tells [] rest = font rest
font_held tells (item ∷ behind) rest = told tells (behind ++ rest)

-- a token that tells a font, or none, as if it were the one that does: all that is kept of a token that is held
abbrev pub stand_in : Option FontName → Seen
stand_in None = record { token = FrozenRelax; meaning = Command Relax }
stand_in (Some Current) = record { token = FrozenRelax; meaning = Command LoadFont }
stand_in (Some (Number zero)) = record { token = FrozenRelax; meaning = Command NullFont }
stand_in (Some (Number (suc n))) = record { token = FrozenRelax; meaning = Font (suc n) }

abbrev pub told_items : ℕ → Option FontName → List Item
told_items zero tells = []
told_items (suc n) tells = Took (stand_in tells) ∷ []

-- a number as that of a parameter of a font; 0 stands for all that no parameter can have
abbrev pub parameter_number : ℤ → ℕ
parameter_number n = if int_le (pos 0) n && int_le n (pos 65535) then unsigned_abs n else 0

-- where that stands which is needed of a font
abbrev pub place_of_font : FontSought → FontName → Place
place_of_font (sought.Dimen n) font = place.FontDimen font n
place_of_font (sought.Integer kind) font = place.FontInteger kind font
