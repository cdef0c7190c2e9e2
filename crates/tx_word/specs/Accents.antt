-- Accents over characters (TeX: The Program, sections 1123 to 1125).
use Rattle.std.specs.Prelude.{ℕ, Bool, not, ◌&&◌, ℤ, pos, neg_ℤ, ◌+ℤ◌, ◌-ℤ◌, ◌*ℤ◌, unsigned_abs, ◌==◌, if◌then◌else◌, List, [], ◌∷◌, Option, Some, None}
use Rattle.std.specs.Int.{int_max}
use Rattle.tx_node.specs.declared.character.Character.{Character as CharacterItem}
use Rattle.tx_node.specs.declared.head.Direction.TheVariants.{Horizontal}
use Rattle.tx_node.specs.declared.head.Setting.TheVariants.{Natural}
use Rattle.tx_node.specs.declared.plain.KernKind.TheVariants as kind
use Rattle.tx_node.specs.declared.plain.Plain.TheVariants.{Character, Kern}
use Rattle.tx_node.specs.Items.{Item, PackedBox, box_item, plain}
use Rattle.tx_num.specs.Fractions.{nearest_signed}
use Rattle.tx_num.specs.Limits.{fits}
use Rattle.tx_tfm.specs.declared.state.FontState.{FontState}
use Rattle.tx_tfm.specs.Fonts.{font_parameter}
use Rattle.tx_word.specs.declared.accent.Accent.{Accent}
use Rattle.tx_word.specs.Words.{character_of}

-- a size that is stored has to be a dimension
unfoldable pub stored : ℤ → Option ℤ
stored size = if fits size then Some size else None

-- a character as an accent, with the x-height and the slant of its font as they are where it stands
abbrev pub accent_of : List FontState → ℕ → ℕ → Accent
accent_of fonts font code = record {
  character = character_of fonts font code;
  x_height = font_parameter fonts font 5;
  slant = font_parameter fonts font 1;
}

-- how far the accent stands to the right of where the character below it begins, in 65536ths of 1sp: its middle stands above the
-- middle, and the slants move it by the height of the character and against the x-height
unfoldable pub leaning : Accent → CharacterItem → ℤ → ℤ
leaning accent base slant =
    ((base.width -ℤ accent.character.width) *ℤ pos 32768) +ℤ ((base.height *ℤ slant) -ℤ (accent.x_height *ℤ accent.slant))

-- the same in sp, to the nearest, halves away from zero
unfoldable pub offset : Accent → CharacterItem → ℤ → ℤ
offset accent base slant = nearest_signed (leaning accent base slant) (pos 65536)

-- how far the list goes on behind the accent, back to where the character begins
unfoldable pub back : Accent → CharacterItem → ℤ → ℤ
back accent base slant = (neg_ℤ accent.character.width) -ℤ offset accent base slant

-- the kerns around the accent
abbrev pub kern : ℤ → Item
kern size = plain (Kern kind.Accent size)

-- the accent in a box of its own, as \hbox would make it
abbrev pub accent_box : CharacterItem → PackedBox
accent_box c = record {
  head = record { direction = Horizontal; width = c.width; height = int_max c.height (pos 0); depth = int_max c.depth (pos 0); setting = Natural };
  list = plain (Character c) ∷ [];
}

-- the accent, so much further down than it stands by itself; in the box unless that is nothing
unfoldable pub lowered : CharacterItem → ℤ → Item
lowered c shift = if unsigned_abs shift == 0 then plain (Character c) else box_item shift (accent_box c)

-- how far down that is over a character, by the x-height of the accent's font
unfoldable pub shift_over : Accent → CharacterItem → ℤ
shift_over accent base = accent.x_height -ℤ base.height

-- whether the accent is in its box there
abbrev pub is_boxed : Accent → CharacterItem → Bool
is_boxed accent base = not (unsigned_abs (shift_over accent base) == 0)

abbrev pub is_boxed_at : List FontState → Accent → ℕ → ℕ → Bool
is_boxed_at fonts accent font code = is_boxed accent (character_of fonts font code)

-- the sizes of a box have to be dimensions, and so has how far it is shifted
abbrev pub has_box : CharacterItem → Bool
has_box c = fits c.width && (fits c.height && fits c.depth)

abbrev pub shifted : CharacterItem → ℤ → Option ℤ
shifted c shift = if has_box c then stored shift else None

unfoldable pub lowering : CharacterItem → ℤ → Option ℤ
lowering c shift = if unsigned_abs shift == 0 then Some (pos 0) else shifted c shift

-- an accent and the character below it, by its kerns and how far it is lowered; None where a size would be no dimension
abbrev pub arranged : CharacterItem → CharacterItem → Option ℤ → Option ℤ → Option ℤ → Option (List Item)
arranged accent base None behind shift = None
arranged accent base (Some before) None shift = None
arranged accent base (Some before) (Some behind) None = None
arranged accent base (Some before) (Some behind) (Some shift) = Some (kern before ∷ lowered accent shift ∷ kern behind ∷ plain (Character base) ∷ [])

abbrev pub accented : Accent → CharacterItem → ℤ → Option (List Item)
accented accent base slant =
    arranged accent.character base (stored (offset accent base slant)) (stored (back accent base slant)) (lowering accent.character (shift_over accent base))

-- the same with a character of the font of a number
abbrev pub accented_at : List FontState → Accent → ℕ → ℕ → Option (List Item)
accented_at fonts accent font code = accented accent (character_of fonts font code) (font_parameter fonts font 1)
