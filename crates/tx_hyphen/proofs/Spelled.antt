-- The steps of reading a text.
use Rattle.std.proofs.Common.{◌≡◌, ℕ, List, [], ◌∷◌, ◌++◌, refl, append_assoc}
use Rattle.std.specs.Prelude.{Option, None, Some, is_some, unwrap_or, option_map}
use Rattle.tx_hyphen.specs.declared.spelling.Kind.{Kind}
use Rattle.tx_hyphen.specs.declared.spelling.Sign.TheVariants.{Level, Letter}
use Rattle.tx_hyphen.specs.declared.spelling.Spelling.{Spelling}
use Rattle.tx_hyphen.specs.Sign.{sign}
use Rattle.tx_hyphen.specs.Spelling.{led_by, rest_spells}

-- what has been read, in front of what is still to be read
abbrev pub joined : List ℕ → List ℕ → Option Spelling → Option Spelling
joined letters levels None = None
joined letters levels (Some s) = Some (record { letters = letters ++ s.letters; levels = levels ++ s.levels })

joined-led : (letters levels : List ℕ) (level letter : ℕ) (rest : Option Spelling)
    → joined letters levels (option_map (led_by level letter) rest) ≡ joined (letters ++ letter ∷ []) (levels ++ level ∷ []) rest
joined-led letters levels level letter None = refl
joined-led letters levels level letter (Some s) = simp append_assoc

-- a character that may not stand there
pub spells-none : (kind : Kind) (lower : List ℕ) (level : Option ℕ) (c : ℕ) (text : List ℕ)
    → sign kind lower (is_some level) c ≡ None → rest_spells kind lower level (c ∷ text) ≡ None
spells-none kind lower level c text h = rw (h, rest_spells) refl

-- a level
pub spells-level : (kind : Kind) (lower : List ℕ) (level : Option ℕ) (c given : ℕ) (text : List ℕ)
    → sign kind lower (is_some level) c ≡ Some (Level given)
    → rest_spells kind lower level (c ∷ text) ≡ rest_spells kind lower (Some given) text
spells-level kind lower level c given text h = rw (h, rest_spells) refl

-- a letter
pub spells-letter : (kind : Kind) (lower : List ℕ) (level : Option ℕ) (c letter : ℕ) (text letters levels : List ℕ)
    → sign kind lower (is_some level) c ≡ Some (Letter letter)
    → joined letters levels (rest_spells kind lower level (c ∷ text))
    ≡ joined (letters ++ letter ∷ []) (levels ++ unwrap_or level 0 ∷ []) (rest_spells kind lower None text)
spells-letter kind lower level c letter text letters levels h =
    rw (h, rest_spells) (joined-led letters levels (unwrap_or level 0) letter (rest_spells kind lower None text))
