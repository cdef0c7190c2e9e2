-- \mathaccent (The TeXbook, appendix G, rule 12; TeX: The Program, sections 738 to 742).
use Rattle.std.specs.Prelude.{ℕ, nat_le, nat_lt, ℤ, pos, negsuc, ◌+ℤ◌, ◌-ℤ◌, neg_ℤ, int_lt, [], ◌∷◌, Option, Some, None, Result, if◌then◌else◌}
use Rattle.tx_node.specs.declared.character.Character.{Character as CharacterItem}
use Rattle.tx_node.specs.Items.{Item, PackedBox, box_item}
use Rattle.tx_prim.specs.declared.family.FontNumber.TheVariants.{Skew}
use Rattle.tx_tfm.specs.declared.file.Word.{Word}
use Rattle.tx_tfm.specs.Fonts.{font_integer, font_parameter}
use Rattle.tx_delim.specs.Boxes.{character_box, full_width}
use Rattle.tx_delim.specs.Fitting.{fitting}
use Rattle.tx_math.specs.declared.error.MathError.{MathError}
use Rattle.tx_math.specs.declared.signs.AccentPlace.{AccentPlace}
use Rattle.tx_math.specs.Boxes.{drawn, framed, kern, shifted, stored, vbox, with_width}
use Rattle.tx_math.specs.Composing.{command_in, kern_in}
use Rattle.tx_math.specs.Outcomes.{passed}
use Rattle.tx_math.specs.Parameters.{Math, half}

-- the kern of a character with the \skewchar of its font (section 741)
abbrev pub code_of : ℤ → Option ℕ
code_of (negsuc n) = None
code_of (pos n) = if nat_lt n 256 then Some n else None

abbrev pub command_kern : Math → ℕ → Option Word → ℤ
command_kern m font None = pos 0
command_kern m font (Some w) = if nat_le 128 w.c then kern_in m.fonts font w else pos 0

abbrev pub skew_by : Math → CharacterItem → Option ℕ → ℤ
skew_by m c None = pos 0
skew_by m c (Some code) = command_kern m c.font (command_in m.fonts c.font c.code code)

abbrev pub skew_of : Math → CharacterItem → ℤ
skew_of m c = skew_by m c (code_of (font_integer Skew m.fonts c.font))

-- the accent is the widest of its successors that is no wider than what it stands on; it is centred on that, and moved by the skew; and
-- it is lowered by the x-height of its font, or by the height of what is lower
abbrev pub widest_accent : Math → CharacterItem → PackedBox → ℕ
widest_accent m c x = fitting m.fonts x.head.width c.font c.code

unfoldable pub moved_right : Math → ℕ → ℕ → ℤ → PackedBox → ℤ
moved_right m font code skew x = skew +ℤ half (x.head.width -ℤ full_width m.fonts font code)

abbrev pub lesser : ℤ → ℤ → ℤ
lesser height other = if int_lt height other then height else other

abbrev pub lowered_by : Math → ℕ → PackedBox → ℤ
lowered_by m font x = lesser x.head.height (font_parameter m.fonts font 5)

unfoldable pub accent_place : Math → CharacterItem → ℤ → PackedBox → AccentPlace
accent_place m c skew x = record {
  font = c.font;
  code = widest_accent m c x;
  right = moved_right m c.font (widest_accent m c x) skew x;
  down = lowered_by m c.font x;
}

-- where scripts have come into what it stands on, it is lowered by less or more, as that has grown (section 742)
unfoldable pub place_on : AccentPlace → PackedBox → PackedBox → AccentPlace
place_on p x grown = record p { down = p.down +ℤ (grown.head.height -ℤ x.head.height) }

-- the accent's box counts as having no width
unfoldable pub accent_item : Math → AccentPlace → Result Item MathError
accent_item m p =
    passed (drawn (character_box m.fonts p.font p.code)) (λ y. passed (with_width y (pos 0)) (λ narrow. shifted p.right narrow))

-- it stands above the other box, with a kern between them that brings it down
unfoldable pub accent_above : Math → AccentPlace → ℤ → PackedBox → Result PackedBox MathError
accent_above m p space x = passed (accent_item m p) (λ y. vbox m (y ∷ kern space ∷ box_item (pos 0) x ∷ []))

unfoldable pub accent_stack : Math → AccentPlace → PackedBox → Result PackedBox MathError
accent_stack m p x = passed (stored (neg_ℤ p.down)) (λ space. accent_above m p space x)

-- the whole is as wide as what it stands on, and at least as high: a kern fills it up
abbrev pub filled_up : ℤ → ℤ → PackedBox → Result PackedBox MathError
filled_up width height b =
    passed (stored (height -ℤ b.head.height)) (λ space. framed width height b.head.depth (kern space ∷ b.list))

unfoldable pub as_high : ℤ → ℤ → PackedBox → Result PackedBox MathError
as_high width height b = if int_lt b.head.height height then filled_up width height b else with_width b width

unfoldable pub accent_box : Math → AccentPlace → PackedBox → Result PackedBox MathError
accent_box m p x = passed (accent_stack m p x) (as_high x.head.width x.head.height)
