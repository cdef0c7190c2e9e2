-- The magnification is used from the moment on at which `true` stands before a unit (TeX: The Program, sections 288 and 457).
use Rattle.std.specs.Prelude.{ℕ, ℤ, pos, List, [], ◌∷◌, Option, Some, None}
use Rattle.tx_seen.specs.declared.fed.Value.TheVariants.{Magnification}
use Rattle.tx_seen.specs.declared.item.Item.{Item}
use Rattle.tx_seen.specs.declared.item.Item.TheVariants.{Gave}

abbrev pub magnification_of : Item → Option ℕ
magnification_of (Gave (Magnification mag)) = Some mag
magnification_of other = None

-- the one that was taken last
abbrev pub magnification_in : List Item → Option ℕ
magnification_in [] = None
magnification_in (item ∷ []) = magnification_of item
magnification_in (item ∷ next ∷ more) = magnification_in (next ∷ more)

-- the magnification that is used, where this was taken
abbrev pub noted : Option ℤ → Option ℕ → Option ℤ
noted used None = used
noted used (Some mag) = Some (pos mag)
