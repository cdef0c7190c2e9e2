-- Delimiters in a style (The TeXbook, appendix B, "How TeX makes delimiters", and appendix G; TeX: The Program, sections 706 and 707).
use Rattle.std.specs.Prelude.{ℕ, ◌==◌, Bool, ◌&&◌, ℤ, Result, Ok, if◌then◌else◌}
use Rattle.tx_node.specs.Items.{Item, PackedBox, box_item}
use Rattle.tx_delim.specs.declared.search.Search.{Search}
use Rattle.tx_delim.specs.Delimiters.{delimiter_box}
use Rattle.tx_delim.specs.Searching.{beginning, searched}
use Rattle.tx_mlist.specs.declared.kinds.Delimiter.{Delimiter}
use Rattle.tx_mlist.specs.declared.kinds.MathCharacter.{MathCharacter}
use Rattle.tx_math.specs.declared.error.MathError.{MathError}
use Rattle.tx_math.specs.declared.params.MathSize.{MathSize}
use Rattle.tx_math.specs.declared.params.MathSize.TheVariants.{Text, Script, ScriptScript}
use Rattle.tx_math.specs.declared.signs.Sign.{Sign}
use Rattle.tx_math.specs.Boxes.{drawn, stored}
use Rattle.tx_math.specs.Operators.{about_axis}
use Rattle.tx_math.specs.Outcomes.{passed}
use Rattle.tx_math.specs.Parameters.{Math, family_font}
use Rattle.tx_math.specs.Styles.{size_of}

-- a character that is as tall as is asked is looked for from one of a family on, in the fonts of a size and of the larger ones up to
-- text size
abbrev pub looked_in : Math → ℤ → MathCharacter → MathSize → Search → Search
looked_in m asked c size s = searched m.fonts asked (family_font m size c.family) c.code s

abbrev pub looked_from : Math → ℤ → MathCharacter → MathSize → Search → Search
looked_from m asked c Text s = looked_in m asked c Text s
looked_from m asked c Script s = looked_in m asked c Text (looked_in m asked c Script s)
looked_from m asked c ScriptScript s = looked_in m asked c Text (looked_in m asked c Script (looked_in m asked c ScriptScript s))

-- but not from one whose family and code are 0, which is none
abbrev pub is_absent : MathCharacter → Bool
is_absent c = c.family == 0 && c.code == 0

abbrev pub looked_for : Math → ℤ → MathSize → MathCharacter → Search → Search
looked_for m asked size c s = if is_absent c then s else looked_from m asked c size s

-- from the small one first, and then from the large one
abbrev pub search_for : Math → ℤ → MathSize → Delimiter → Search
search_for m asked size d = looked_for m asked size d.large (looked_for m asked size d.small beginning)

-- the box of a delimiter that is to be as tall as is asked, shifted so that it is centred about the axis
unfoldable pub sign_box : Math → ℕ → Delimiter → ℤ → Result PackedBox MathError
sign_box m style d asked =
    drawn (delimiter_box m.fonts asked m.params.null_delimiter_space (search_for m asked (size_of style) d).found)

abbrev pub centred_sign : Math → ℕ → PackedBox → Result Sign MathError
centred_sign m style b = passed (stored (about_axis m style b)) (λ shift. Ok (record { shift = shift; inner = b }))

unfoldable pub sign_of : Math → ℕ → Delimiter → ℤ → Result Sign MathError
sign_of m style d asked = passed (sign_box m style d asked) (centred_sign m style)

-- as an item
unfoldable pub delimiter_item : Math → ℕ → Delimiter → ℤ → Result Item MathError
delimiter_item m style d asked = passed (sign_of m style d asked) (λ sign. Ok (box_item sign.shift sign.inner))
