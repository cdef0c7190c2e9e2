-- Characters that are tall enough for a delimiter (TeX: The Program, sections 706 to 708).
use Rattle.std.specs.Prelude.{ℕ, zero, suc, true, false, not, ℤ, pos, ◌+ℤ◌, int_lt, List, Option, Some, None, option_and_then, if◌then◌else◌}
use Rattle.tx_tfm.specs.declared.file.Word.{Word}
use Rattle.tx_tfm.specs.declared.named.NamedFont.{NamedFont}
use Rattle.tx_tfm.specs.declared.state.FontState.{FontState}
use Rattle.tx_tfm.specs.Fonts.{character_depth, character_height, font_at, has_character}
use Rattle.tx_tfm.specs.Metrics.{recipe_of, successor_of}
use Rattle.tx_delim.specs.declared.search.Search.{Search}

-- how tall a character is: its height and its depth (section 712)
abbrev pub tallness : List FontState → ℕ → ℕ → ℤ
tallness fonts font code = character_height fonts font code +ℤ character_depth fonts font code

-- the next larger character of one, and the recipe by which one is built, if the font has it
abbrev pub successor_in : List FontState → ℕ → ℕ → Option ℕ
successor_in fonts font code = option_and_then (λ (f : NamedFont). successor_of f.font code) (font_at fonts font)

abbrev pub recipe_in : List FontState → ℕ → ℕ → Option Word
recipe_in fonts font code = option_and_then (λ (f : NamedFont). recipe_of f.font code) (font_at fonts font)

-- at first no character is found, and what is to be found has to be taller than nothing
abbrev pub beginning : Search
beginning = record { found = None; tall = pos 0; over = false }

-- a character is found that is taller than those before it; and no other one is looked for where it is as tall as is asked
abbrev pub taller : ℤ → ℕ → ℕ → ℤ → Search → Search
taller asked font code tall s =
    if int_lt s.tall tall then record { found = Some (record { font = font; code = code }); tall = tall; over = not (int_lt tall asked) } else s

-- one with a recipe is taken at once
abbrev pub looked_by : List FontState → ℤ → ℕ → ℕ → Option Word → Search → Search
looked_by fonts asked font code None s = taller asked font code (tallness fonts font code) s
looked_by fonts asked font code (Some recipe) s = record { found = Some (record { font = font; code = code }); tall = s.tall; over = true }

abbrev pub looked_at : List FontState → ℤ → ℕ → ℕ → Search → Search
looked_at fonts asked font code s = looked_by fonts asked font code (recipe_in fonts font code) s

-- the character behind one, which is looked at next, if any
abbrev pub next_in : List FontState → ℕ → ℕ → Search → Option ℕ
next_in fonts font code s = if s.over then None else successor_in fonts font code

-- the characters of a font from one on along the successors, as far as they are there, and so many at most
unfoldable pub along : ℕ → List FontState → ℤ → ℕ → Option ℕ → Search → Search
along zero fonts asked font at s = s
along (suc n) fonts asked font None s = s
along (suc n) fonts asked font (Some code) s =
    if has_character fonts font code
    then along n fonts asked font (next_in fonts font code (looked_at fonts asked font code s)) (looked_at fonts asked font code s)
    else s

-- all of them: a font has 256 at most, and no font that is read has successors that go in a circle
abbrev pub searched : List FontState → ℤ → ℕ → ℕ → Search → Search
searched fonts asked font code s = if s.over then s else along 256 fonts asked font (Some code) s
