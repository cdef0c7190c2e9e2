-- The parameters of the symbol fonts, those of family 2, and of the extension fonts, those of family 3, by their numbers (The TeXbook,
-- appendix G; TeX: The Program, sections 700 and 701).
use Rattle.std.specs.Prelude.{ℕ, suc, ◌*◌, ◌/◌, Bool, ◌&&◌, nat_le, ℤ, pos, neg_ℤ, int_lt, unsigned_abs, List, slice_index, if◌then◌else◌}
use Rattle.tx_tfm.specs.declared.state.FontState.{FontState}
use Rattle.tx_tfm.specs.Fonts.{font_parameter, font_parameter_count}
use Rattle.tx_math.specs.declared.params.FamilyFonts.{FamilyFonts}
use Rattle.tx_math.specs.declared.params.MathParams.{MathParams}
use Rattle.tx_math.specs.declared.params.MathSize.{MathSize}
use Rattle.tx_math.specs.declared.params.MathSize.TheVariants.{Text, Script, ScriptScript}
use Rattle.tx_math.specs.Styles.{size_of}

-- what all of a formula is set by: the fonts of the run, and the parameters as they stand
pub record Math : Type 0 where
  pub fonts : List FontState
  pub params : MathParams

-- the number of the font of a family at a size: \textfont, \scriptfont or \scriptscriptfont; 0 is \nullfont
abbrev pub fonts_at : FamilyFonts → MathSize → List ℕ
fonts_at families Text = families.text
fonts_at families Script = families.script
fonts_at families ScriptScript = families.script_script

abbrev pub family_font : Math → MathSize → ℕ → ℕ
family_font m size family = slice_index (fonts_at m.params.families size) family

-- parameter n of the symbol font and of the extension font of a size
abbrev pub symbol : Math → MathSize → ℕ → ℤ
symbol m size n = font_parameter m.fonts (family_font m size 2) n

abbrev pub extension : Math → MathSize → ℕ → ℤ
extension m size n = font_parameter m.fonts (family_font m size 3) n

-- by their names, in a style
abbrev pub x_height : Math → ℕ → ℤ
x_height m style = symbol m (size_of style) 5

abbrev pub quad : Math → ℕ → ℤ
quad m style = symbol m (size_of style) 6

-- how far a numerator is raised: in display style, in others, and in others without a line
abbrev pub num1 : Math → ℕ → ℤ
num1 m style = symbol m (size_of style) 8

abbrev pub num2 : Math → ℕ → ℤ
num2 m style = symbol m (size_of style) 9

abbrev pub num3 : Math → ℕ → ℤ
num3 m style = symbol m (size_of style) 10

-- how far a denominator is lowered: in display style, and in others
abbrev pub denom1 : Math → ℕ → ℤ
denom1 m style = symbol m (size_of style) 11

abbrev pub denom2 : Math → ℕ → ℤ
denom2 m style = symbol m (size_of style) 12

-- how far a superscript is raised at least: in display style, in others, and in cramped ones
abbrev pub sup1 : Math → ℕ → ℤ
sup1 m style = symbol m (size_of style) 13

abbrev pub sup2 : Math → ℕ → ℤ
sup2 m style = symbol m (size_of style) 14

abbrev pub sup3 : Math → ℕ → ℤ
sup3 m style = symbol m (size_of style) 15

-- how far a subscript is lowered at least: alone, and below a superscript
abbrev pub sub1 : Math → ℕ → ℤ
sub1 m style = symbol m (size_of style) 16

abbrev pub sub2 : Math → ℕ → ℤ
sub2 m style = symbol m (size_of style) 17

-- how far below the top of a box a superscript's baseline is, and how far below its bottom a subscript's; of the scripts' size
abbrev pub sup_drop : Math → MathSize → ℤ
sup_drop m size = symbol m size 18

abbrev pub sub_drop : Math → MathSize → ℤ
sub_drop m size = symbol m size 19

-- how tall the delimiters of a fraction are at least: in display style, and in others
abbrev pub delim1 : Math → ℕ → ℤ
delim1 m style = symbol m (size_of style) 20

abbrev pub delim2 : Math → ℕ → ℤ
delim2 m style = symbol m (size_of style) 21

-- how far the axis is above the baseline
abbrev pub axis : Math → ℕ → ℤ
axis m style = symbol m (size_of style) 22

-- how thick lines are
abbrev pub rule_thickness : Math → ℕ → ℤ
rule_thickness m style = extension m (size_of style) 8

-- the spaces about the limits of an operator: the least above and below it, the least between their baselines and it, and beyond them
abbrev pub big_op_spacing1 : Math → ℕ → ℤ
big_op_spacing1 m style = extension m (size_of style) 9

abbrev pub big_op_spacing2 : Math → ℕ → ℤ
big_op_spacing2 m style = extension m (size_of style) 10

abbrev pub big_op_spacing3 : Math → ℕ → ℤ
big_op_spacing3 m style = extension m (size_of style) 11

abbrev pub big_op_spacing4 : Math → ℕ → ℤ
big_op_spacing4 m style = extension m (size_of style) 12

abbrev pub big_op_spacing5 : Math → ℕ → ℤ
big_op_spacing5 m style = extension m (size_of style) 13

-- the symbol font of a size has 22 parameters at least, and its extension font 13 (section 1195)
abbrev pub has_parameters : Math → MathSize → Bool
has_parameters m size = nat_le 22 (font_parameter_count m.fonts (family_font m size 2)) && nat_le 13 (font_parameter_count m.fonts (family_font m size 3))

abbrev pub has_all_parameters : Math → Bool
has_all_parameters m = has_parameters m Text && (has_parameters m Script && has_parameters m ScriptScript)

-- half of a size; an odd one is made greater by 1 first (section 100)
abbrev pub half : ℤ → ℤ
half size = if int_lt size (pos 0) then neg_ℤ (pos (unsigned_abs size / 2)) else pos (suc (unsigned_abs size) / 2)

-- four fifths of a height, and a quarter of it, rounded down, of either sign (sections 757 to 759)
abbrev pub four_fifths : ℤ → ℤ
four_fifths height = pos (4 * unsigned_abs height / 5)

abbrev pub quarter : ℤ → ℤ
quarter height = pos (unsigned_abs height / 4)
