-- What of some bytes isn't there.
use Rattle.std.proofs.Common.{◌≡◌, ℕ, zero, suc, ◌≤◌, List, [], ◌∷◌, length, drop, refl, sym, ◌∙◌, arith}
use Rattle.tx_dvi.specs.Meaning.{signed}
use Rattle.tx_dvitype.specs.Partial.{padded}

-- behind the last of them there is nothing, wherever one looks
drop_past : {A : Type 0} (n : ℕ) (xs : List A) → length xs ≤ n → drop n xs ≡ []
drop_past zero [] h = refl
drop_past zero (x ∷ xs) h = absurd (omega (arith, h))
drop_past (suc n) [] h = refl
drop_past (suc n) (x ∷ xs) h = drop_past n xs (omega (arith, h))

pub drop_both : {A : Type 0} (n : ℕ) (xs : List A) → length xs ≤ n → drop (length xs) xs ≡ drop n xs
drop_both n xs h = drop_past (length xs) xs (omega arith) ∙ sym (drop_past n xs h)

-- as a number, bytes that aren't there are 0
pub signed_padded : (size : ℕ) (bytes : List ℕ) → size ≤ 4 → signed size (padded 0 bytes) ≡ signed size bytes
signed_padded zero bytes h = refl
signed_padded (suc zero) bytes h = refl
signed_padded (suc (suc zero)) bytes h = refl
signed_padded (suc (suc (suc zero))) bytes h = refl
signed_padded (suc (suc (suc (suc zero)))) bytes h = refl
signed_padded (suc (suc (suc (suc (suc size))))) bytes h = absurd (omega (arith, h))
