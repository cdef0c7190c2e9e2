-- The word `to` of \vsplit, letter by letter.
use Rattle.std.proofs.Common.{◌≡◌, ℕ, Bool, true, false, if◌then◌else◌, List, [], ◌∷◌, codes, refl, ap, ◌∙◌}
use Rattle.tx_char.specs.Character.{character}
use Rattle.tx_seen.specs.declared.error.TexError.TheVariants.{MissingUnit, Undefined}
use Rattle.tx_seen.specs.declared.fed.Fed.TheVariants as fed
use Rattle.tx_seen.specs.declared.fed.Want.TheVariants.{Expanded}
use Rattle.tx_seen.specs.declared.item.Item.{Item}
use Rattle.tx_seen.specs.declared.item.Item.TheVariants.{Took, Gave}
use Rattle.tx_seen.specs.declared.seen.Seen.{Seen}
use Rattle.tx_seen.specs.Seen.{is_key, is_undefined, is_space}
use Rattle.tx_seen.specs.Readings.{Reading, Done, Wrong, next}
use Rattle.tx_scan.specs.Integers.{expanded}
use Rattle.tx_scan.specs.Keywords.{letters}
use Rattle.tx_shape.specs.declared.scans.Plain.TheVariants as plain
use Rattle.tx_shape.specs.declared.scans.ShapeScan.{ShapeScan}
use Rattle.tx_shape.specs.declared.scans.Stage.TheVariants as stage
use Rattle.tx_shape.specs.declared.types.BoxContext.{BoxContext}
use Rattle.tx_shape.specs.declared.types.Shaped.{Shaped}
use Rattle.tx_shape.specs.Boxes.{split_by, split_letter, split_size, split_to}
use Rattle.tx_shape.specs.Rests.{Begins}
use Rattle.tx_shape.proofs.Parts.{plain-on}
use Rattle.tx_shape.proofs.Wording.{expanded-by, keyword-key, keyword-space, letter-by}

abbrev split_on : ℕ → BoxContext → Reading Bool → Reading Shaped
split_on n context r = next r (split_by n context)

-- its second letter
second-letter : (n : ℕ) (context : BoxContext) (whole items : List Item) → split_on n context (letters (codes "o") whole items) ≡ split_letter n context items
second-letter n context whole [] = refl
second-letter n context whole (Gave v ∷ rest) = refl
second-letter n context whole (Took t ∷ rest) =
    letter-by (split_on n context) refl (is_undefined t) (is_key (character "o") t) (Done true rest) (Done false whole) (split_size n context rest) (Wrong MissingUnit) (λ u. refl) refl

-- its first letter
split-begun : (n : ℕ) (context : BoxContext) (t : Seen) (more : List Item) → is_key (character "t") t ≡ true → split_to n context (Took t ∷ more) ≡ expanded t (split_letter n context more)
split-begun n context t more k =
    ap (split_on n context) (keyword-key (character "t") (codes "o") t more k)
    ∙ expanded-by (split_on n context) refl (is_undefined t) (letters (codes "o") (Took t ∷ more) more) _
    (λ u. second-letter n context (Took t ∷ more) more)

defined-by : (u : Bool) (x : Reading Shaped) → u ≡ false → (if u then Wrong Undefined else x) ≡ x
defined-by false x e = refl
defined-by true x e = cc

pub to-letter : (n : ℕ) (context : BoxContext) (t : Seen) (new : ShapeScan) → is_key (character "t") t ≡ true → is_undefined t ≡ false → new.stage ≡ stage.Plain (plain.ToLetter n context) → Begins (λ more. split_to n context (Took t ∷ more)) new (fed.More Expanded)
to-letter n context t new k u was =
    plain-on _ (plain.ToLetter n context) new was (λ more. split-begun n context t more k ∙ defined-by (is_undefined t) (split_letter n context more) u)

-- a space before it
pub to-space : (n : ℕ) (context : BoxContext) (t : Seen) (new : ShapeScan) → is_key (character "t") t ≡ false → is_space t ≡ true → new.stage ≡ stage.Plain (plain.To n context) → Begins (λ more. split_to n context (Took t ∷ more)) new (fed.More Expanded)
to-space n context t new k s was =
    plain-on _ (plain.To n context) new was (λ more. ap (split_on n context) (keyword-space (character "t") (codes "o") t more s k))
