-- What two words of 14 bytes say.
use Rattle.std.proofs.Common.{◌≡◌, ℕ, List, ◌++◌, length, take, drop, ap, sym, ◌∙◌, arith, length-drop}
use Rattle.std.specs.Int.{to_le_bytes, w64}
use Rattle.std.proofs.lemmas.List.{take-append-drop, take-take, take_all}

-- 14 bytes whose words at 0 and at 6 are the same are the same
pub alike : (xs ys : List ℕ) (a b c d : ℕ) → length xs ≡ 14 → length ys ≡ 14 → to_le_bytes w64 a ≡ take 8 (drop 0 xs) → to_le_bytes w64 b ≡ take 8 (drop 0 ys) → to_le_bytes w64 c ≡ take 8 (drop 6 xs) → to_le_bytes w64 d ≡ take 8 (drop 6 ys) → a ≡ b → c ≡ d → xs ≡ ys
alike xs ys a b c d x y xa yb xc yd front back =
    let first : take 8 xs ≡ take 8 ys = sym xa ∙ (ap (λ (n : ℕ). to_le_bytes w64 n) front ∙ yb) in
    let last : take 8 (drop 6 xs) ≡ take 8 (drop 6 ys) = sym xc ∙ (ap (λ (n : ℕ). to_le_bytes w64 n) back ∙ yd) in
    let few : take 6 xs ≡ take 6 ys = sym (take-take 6 8 xs (omega arith)) ∙ (ap (λ (them : List ℕ). take 6 them) first ∙ take-take 6 8 ys (omega arith)) in
    let rest : drop 6 xs ≡ drop 6 ys = sym (take_all 8 (drop 6 xs) (omega (arith, length-drop 6 xs))) ∙ (last ∙ take_all 8 (drop 6 ys) (omega (arith, length-drop 6 ys))) in
    sym (take-append-drop 6 xs) ∙ (ap (λ (them : List ℕ). them ++ drop 6 xs) few ∙ (ap (λ (them : List ℕ). take 6 ys ++ them) rest ∙ take-append-drop 6 ys))
