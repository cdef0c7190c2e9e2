-- A reader in the midst of an element, and the definitions of fonts once more.
use Rattle.std.proofs.Common.{◌≡◌, ℕ, zero, suc, ◌==◌, Bool, true, false, cond, List, [], ◌∷◌, ◌++◌, map, refl, ap}
use Rattle.std.specs.List.{flat_map}
use Rattle.tx_dvi.specs.declared.font.FontDefinition.{FontDefinition}
use Rattle.tx_dvitype.specs.declared.reader.Reader.{Reader}
use Rattle.tx_dvi.specs.Dvi.{definition_bytes, definitions_below, numbered}
use Rattle.tx_dvitype.specs.Files.{numbered_as, all_bytes, again_below}

-- a reader in the midst of an element
abbrev pub at_byte : Reader → List ℕ → Reader
at_byte r begun = record r { page = record r.page { begun = begun } }

-- the definitions again are those of the fonts
numbered-again : (number : ℕ) (fonts : List FontDefinition) → all_bytes (numbered_as number (map definition_bytes fonts)) ≡ flat_map definition_bytes (numbered number fonts)
unfolding definition_bytes
numbered-again number [] = refl
numbered-again number (font ∷ fonts) = by (numbered-again number fonts) (font.number == number)
  where
    by : all_bytes (numbered_as number (map definition_bytes fonts)) ≡ flat_map definition_bytes (numbered number fonts) → (b : Bool)
        → all_bytes (cond {A = List (List ℕ)} b (definition_bytes font ∷ numbered_as number (map definition_bytes fonts)) (numbered_as number (map definition_bytes fonts)))
        ≡ flat_map definition_bytes (cond {A = List FontDefinition} b (font ∷ numbered number fonts) (numbered number fonts))
    by others true = ap (λ bytes. definition_bytes font ++ bytes) others
    by others false = others

pub definitions-again : (bound : ℕ) (fonts : List FontDefinition) → again_below bound (map definition_bytes fonts) ≡ definitions_below bound fonts
unfolding again_below definitions_below
definitions-again zero fonts = refl
definitions-again (suc number) fonts = λ i. numbered-again number fonts i ++ definitions-again number fonts i
