-- Copies of entries stand for the same map.
use Rattle.std.proofs.Common.{◌≡◌, ℕ, List, [], ◌∷◌, map, refl, ap}
use Rattle.std.specs.Global.{Vec}
use Rattle.std.specs.List.{AllZip}
use Rattle.std.specs.Prelude.{vec_len}
use Rattle.tx_files.specs.Entries.{files_of}
use Rattle.std.specs.FinMap.{from_entries}

same_bytes : (xs ys : List ℕ) → AllZip (λ a b. b ≡ a) xs ys → ys ≡ xs
same_bytes [] [] zip = refl
same_bytes (x ∷ xs) (y ∷ ys) zip = λ i. zip.0 i ∷ same_bytes xs ys zip.1 i
same_bytes [] (y ∷ ys) zip = absurd zip
same_bytes (x ∷ xs) [] zip = absurd zip

-- an entry and its copy
abbrev pub IsCopied : Vec ℕ × List ℕ → Vec ℕ × List ℕ → Type 0
IsCopied p q = (AllZip (λ a b. b ≡ a) p.0.items q.0.items × (vec_len q.0 ≡ vec_len p.0)) × (q.1 ≡ p.1)

same_entries : (es fs : List (Vec ℕ × List ℕ)) → AllZip IsCopied es fs → ◌≡◌ {A = List (List ℕ × List ℕ)} (map (λ e. (e.0.items, e.1)) fs) (map (λ e. (e.0.items, e.1)) es)
same_entries [] [] zip = refl
same_entries (e ∷ es) (f ∷ fs) zip = λ i. (same_bytes e.0.items f.0.items zip.0.0.0 i, zip.0.1 i) ∷ same_entries es fs zip.1 i
same_entries [] (f ∷ fs) zip = absurd zip
same_entries (e ∷ es) [] zip = absurd zip

pub copied-files : (es fs : List (Vec ℕ × List ℕ)) → AllZip IsCopied es fs → files_of fs ≡ files_of es
copied-files es fs zip = ap from_entries (same_entries es fs zip)
