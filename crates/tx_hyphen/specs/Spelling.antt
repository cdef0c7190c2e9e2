-- What the text of a pattern or an exception spells.
use Rattle.std.specs.Prelude.{ℕ, List, [], ◌∷◌, Option, None, Some, option_map, unwrap_or, is_some, take}
use Rattle.tx_hyphen.specs.declared.spelling.Kind.{Kind}
use Rattle.tx_hyphen.specs.declared.spelling.Sign.TheVariants.{Level, Letter}
use Rattle.tx_hyphen.specs.declared.spelling.Spelling.{Spelling}
use Rattle.tx_hyphen.specs.Sign.{sign}

-- a spelling with one more letter in front, and the level of the place before that
abbrev pub led_by : ℕ → ℕ → Spelling → Spelling
led_by level letter spelling = record { letters = letter ∷ spelling.letters; levels = level ∷ spelling.levels }

-- what the rest of a text spells, where the place before it has this level, or has none yet and so has level 0;
-- None where a character may not stand in it
abbrev pub rest_spells : Kind → List ℕ → Option ℕ → List ℕ → Option Spelling
rest_spells kind lower level [] = Some (record { letters = []; levels = unwrap_or level 0 ∷ [] })
rest_spells kind lower level (character ∷ text) =
    elim (sign kind lower (is_some level) character) [
      | None ↦ None
      | Some said ↦ elim said [
        | Level given ↦ rest_spells kind lower (Some given) text
        | Letter letter ↦ option_map (led_by (unwrap_or level 0) letter) (rest_spells kind lower None text)
      ]
    ]

-- letters past the 63rd are passed over, with the levels of their places
abbrev pub shortened : Spelling → Spelling
shortened spelling = record { letters = take 63 spelling.letters; levels = take 63 spelling.levels }

-- what a whole text spells (TeX: The Program, 937 and 962)
abbrev pub spelled : Kind → List ℕ → List ℕ → Option Spelling
spelled kind lower text = option_map shortened (rest_spells kind lower None text)
