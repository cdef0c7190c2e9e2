-- Lists in parts, and the bytes and rules of elements.
use Rattle.std.proofs.Common.{◌≡◌, ℕ, zero, suc, ◌+◌, ◌<◌, List, [], ◌∷◌, ◌++◌, length, refl, sym, ap, ◌∙◌, zero-add, suc-add, arith, ◌⊎◌, inl, inr}
use Rattle.std.specs.Prelude.{Some, replicate, slice_get}
use Rattle.std.proofs.lemmas.List.{length-append, length-replicate}
use Rattle.std.proofs.lemmas.Grind.{flat_map-append}
use Rattle.tx_script.specs.declared.error.Rule.{Rule}
use Rattle.tx_script.specs.Text.{bytes_of, rules_of}

-- where a list is parted in two ways, and the second goes on after its first part: that part ends within the first part
-- of the other, or not before it
pub two_fronts : (a b front : List ℕ) (c : ℕ) (after : List ℕ) → a ++ b ≡ front ++ c ∷ after
    → ((m : List ℕ) × (a ≡ front ++ c ∷ m)) ⊎ ((m : List ℕ) × (front ≡ a ++ m))
two_fronts [] b front c after e = inr (front, refl)
two_fronts (x ∷ a) b [] c after e = let same : x ≡ c = cc in inl (a, ap (λ (y : ℕ). y ∷ a) same)
two_fronts (x ∷ a) b (y ∷ front) c after e =
    let same : x ≡ y = cc in
    let rest : a ++ b ≡ front ++ c ∷ after = cc in
    elim (two_fronts a b front c after rest) [
      | inl f ↦ inl (f.0, cc (f.1, same))
      | inr f ↦ inr (f.0, cc (f.1, same))
    ]

pub slice_get-append_left : {X : Type 0} (xs ys : List X) (i : ℕ) (x : X) → slice_get xs i ≡ Some x → slice_get (xs ++ ys) i ≡ Some x
slice_get-append_left [] ys i x e = absurd cc
slice_get-append_left (z ∷ xs) ys zero x e = e
slice_get-append_left (z ∷ xs) ys (suc i) x e = slice_get-append_left xs ys i x e

pub slice_get-append_right : {X : Type 0} (xs ys : List X) (i : ℕ) → slice_get (xs ++ ys) (length xs + i) ≡ slice_get ys i
slice_get-append_right [] ys i = simp zero-add refl
slice_get-append_right (z ∷ xs) ys i = simp suc-add (slice_get-append_right xs ys i)

pub slice_get-replicate : {X : Type 0} (n : ℕ) (x : X) (i : ℕ) → i < n → slice_get (replicate n x) i ≡ Some x
slice_get-replicate zero x i h = absurd (omega arith)
slice_get-replicate (suc n) x zero h = refl
slice_get-replicate (suc n) x (suc i) h = slice_get-replicate n x i (omega arith)

pub bytes_of-append : (ps qs : List (Rule × List ℕ)) → bytes_of (ps ++ qs) ≡ bytes_of ps ++ bytes_of qs
bytes_of-append ps qs = flat_map-append (λ (e : Rule × List ℕ). e.1) ps qs

pub rules_of-append : (ps qs : List (Rule × List ℕ)) → rules_of (ps ++ qs) ≡ rules_of ps ++ rules_of qs
rules_of-append ps qs = flat_map-append (λ (e : Rule × List ℕ). replicate (length e.1) e.0) ps qs

pub length-rules_of : (ps : List (Rule × List ℕ)) → length (rules_of ps) ≡ length (bytes_of ps)
length-rules_of [] = refl
length-rules_of (p ∷ ps) =
    length-append (replicate (length p.1) p.0) (rules_of ps)
    ∙ (λ i. length-replicate (length p.1) p.0 i + length-rules_of ps i)
    ∙ sym (length-append p.1 (bytes_of ps))
