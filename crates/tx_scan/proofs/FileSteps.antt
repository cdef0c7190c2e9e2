-- Spaces before and behind the name of a file.
use Rattle.std.proofs.Common.{◌≡◌, ℕ, true, false, List, [], ◌∷◌, refl}
use Rattle.tx_seen.specs.declared.seen.Seen.{Seen}
use Rattle.tx_seen.specs.Seen.{is_undefined, is_space}
use Rattle.tx_seen.specs.declared.item.Item.{Item}
use Rattle.tx_seen.specs.declared.item.Item.TheVariants.{Took}
use Rattle.tx_seen.specs.Readings.{Done}
use Rattle.tx_scan.specs.FileNames.{file_name, rest_from}

pub ends_at_space : (letters : List ℕ) (t : Seen) (more : List Item) → (letters ≡ [] → ⊥) → is_undefined t ≡ false → is_space t ≡ true → rest_from letters (Took t ∷ more) ≡ Done letters more
ends_at_space [] t more some u s = absurd (some refl)
ends_at_space (code ∷ letters) t more some u s = rw (u, s) refl

pub skips_space : (letters : List ℕ) (t : Seen) (more : List Item) → letters ≡ [] → is_space t ≡ true → rest_from letters (Took t ∷ more) ≡ file_name more
skips_space letters t more none s = rw (none, s) refl
