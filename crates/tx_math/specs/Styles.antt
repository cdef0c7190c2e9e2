-- Styles (The TeXbook, chapter 17; TeX: The Program, sections 688, 702 and 703): 0 is display style, 2 text, 4 script and 6
-- scriptscript style, and the number after each is that of the cramped style.
use Rattle.std.specs.Prelude.{ℕ, ◌+◌, ◌-◌, ◌*◌, ◌/◌, ◌%◌, Bool, nat_lt, if◌then◌else◌}
use Rattle.tx_math.specs.declared.params.MathSize.{MathSize}
use Rattle.tx_math.specs.declared.params.MathSize.TheVariants.{Text, Script, ScriptScript}

-- the same style, cramped
abbrev pub cramped : ℕ → ℕ
cramped style = 2 * (style / 2) + 1

-- the style of a subscript, which is cramped, and of a superscript, which is where the nucleus is
abbrev pub subscript_style : ℕ → ℕ
subscript_style style = 2 * (style / 4) + 5

abbrev pub superscript_style : ℕ → ℕ
superscript_style style = 2 * (style / 4) + 4 + style % 2

-- the style above the line of a fraction, and below it, which is cramped: one size smaller, but for the smallest and for display
abbrev pub numerator_style : ℕ → ℕ
numerator_style style = style + 2 - 2 * (style / 6)

abbrev pub denominator_style : ℕ → ℕ
denominator_style style = 2 * (style / 2) + 3 - 2 * (style / 6)

-- display style, cramped or not; and display or text style, in which all spaces count
abbrev pub is_display : ℕ → Bool
is_display style = nat_lt style 2

abbrev pub is_large : ℕ → Bool
is_large style = nat_lt style 4

-- whether it is cramped
abbrev pub is_cramped : ℕ → Bool
is_cramped style = nat_lt 0 (style % 2)

-- the size of the fonts in a style
abbrev pub size_of : ℕ → MathSize
size_of style = if nat_lt style 4 then Text else if nat_lt style 6 then Script else ScriptScript

-- the size of the fonts of a style's scripts
abbrev pub script_size : ℕ → MathSize
script_size style = if nat_lt style 4 then Script else ScriptScript
