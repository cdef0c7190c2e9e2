-- Glue as \the prints it (TeX: The Program, sections 177 and 178).
use Rattle.std.specs.Prelude.{ℕ, ℤ, ◌==◌, unsigned_abs, Bool, List, [], ◌++◌, codes, if◌then◌else◌}
use Rattle.tx_num.specs.Decimals.{scaled_text_of}
use Rattle.tx_num.specs.Glue.{GlueSpec}

-- the unit of a size of this order: that of the width, or an infinite one
abbrev pub unit_of : Bool → ℕ → List ℕ
unit_of mu order =
    if order == 0 then (if mu then codes "mu" else codes "pt")
    else if order == 1 then codes "fil"
    else if order == 2 then codes "fill"
    else codes "filll"

-- a size with its unit
abbrev pub told : Bool → ℤ → ℕ → List ℕ
told mu size order = scaled_text_of size ++ unit_of mu order

-- how far it stretches or shrinks, behind a word; nothing where it doesn't
abbrev pub elastic_text : List ℕ → Bool → ℤ → ℕ → List ℕ
elastic_text word mu size order = if unsigned_abs size == 0 then [] else word ++ told mu size order

abbrev pub glue_text : Bool → GlueSpec → List ℕ
glue_text mu g =
    told mu g.width 0
    ++ elastic_text (codes " plus ") mu g.stretch g.stretch_order
    ++ elastic_text (codes " minus ") mu g.shrink g.shrink_order
