-- Steps of a composition, one at a time.
use Rattle.std.proofs.Common.{◌≡◌, ℕ, zero, suc, ◌-◌, ◌<◌, true, false, Option, Some, None, List, [], ◌∷◌, ◌++◌, reverse, length, refl, sym, ap, ◌∙◌, arith}
use Rattle.std.proofs.lemmas.List.{reverse-append}
use Rattle.tx_tfm.specs.declared.file.Tfm.{Tfm}
use Rattle.tx_tfm.specs.declared.file.Word.{Word}
use Rattle.tx_tfm.specs.Rewriting.{ligature_of, rewritten, is_empty, first_pair, after_command, ends_within}

-- nothing is left to do
ends_within-nil : (t : Tfm) (n : ℕ) → ends_within t n [] ≡ true
unfolding ends_within first_pair after_command
ends_within-nil t zero = refl
ends_within-nil t (suc n) = ends_within-nil t n

-- nothing follows the cursor
pub ends_within-one : (t : Tfm) (n : ℕ) (x : Option ℕ) → ends_within t n (x ∷ []) ≡ true
unfolding ends_within first_pair after_command
ends_within-one t zero x = refl
ends_within-one t (suc n) x = ends_within-nil t n

-- a pair without a ligature command is passed over
first_pair-pass : (t : Tfm) (x y : Option ℕ) (r : List (Option ℕ)) → ligature_of t x y ≡ None → first_pair t (x ∷ y ∷ r) ≡ first_pair t (y ∷ r)
unfolding first_pair
first_pair-pass t x y r e = rw e refl

pub ends_within-pass : (t : Tfm) (n : ℕ) (x y : Option ℕ) (r : List (Option ℕ)) → ligature_of t x y ≡ None → ends_within t n (x ∷ y ∷ r) ≡ ends_within t n (y ∷ r)
unfolding ends_within
ends_within-pass t zero x y r e = ap is_empty (first_pair-pass t x y r e)
ends_within-pass t (suc n) x y r e = ap (λ (l : List (Option ℕ)). ends_within t n (after_command t l)) (first_pair-pass t x y r e)

-- a ligature command is carried out
first_pair-stay : (t : Tfm) (x y : Option ℕ) (r : List (Option ℕ)) (w : Word) → ligature_of t x y ≡ Some w → first_pair t (x ∷ y ∷ r) ≡ x ∷ y ∷ r
unfolding first_pair
first_pair-stay t x y r w e = rw e refl

after_command-by : (t : Tfm) (x y : Option ℕ) (r : List (Option ℕ)) (w : Word) → ligature_of t x y ≡ Some w → after_command t (x ∷ y ∷ r) ≡ rewritten w x y r
unfolding after_command
after_command-by t x y r w e = rw e refl

pub ends_within-command : (t : Tfm) (n : ℕ) (x y : Option ℕ) (r : List (Option ℕ)) (w : Word) → 0 < n → ligature_of t x y ≡ Some w → ends_within t n (x ∷ y ∷ r) ≡ ends_within t (n - 1) (rewritten w x y r)
unfolding ends_within
ends_within-command t zero x y r w h e = absurd (omega arith)
ends_within-command t (suc n) x y r w h e =
    let less : suc n - 1 ≡ n = omega arith in
    ap (λ (l : List (Option ℕ)). ends_within t n (after_command t l)) (first_pair-stay t x y r w e)
    ∙ ap (ends_within t n) (after_command-by t x y r w e)
    ∙ ap (λ m. ends_within t m (rewritten w x y r)) (sym less)

pub ends_within-spent : (t : Tfm) (x y : Option ℕ) (r : List (Option ℕ)) (w : Word) → ligature_of t x y ≡ Some w → ends_within t 0 (x ∷ y ∷ r) ≡ false
unfolding ends_within
ends_within-spent t x y r w e = ap is_empty (first_pair-stay t x y r w e)

-- a list whose last element was taken, from its end
pub reverse-last : (xs ys : List (Option ℕ)) (x : Option ℕ) → xs ≡ ys ++ x ∷ [] → reverse xs ≡ x ∷ reverse ys
reverse-last xs ys x e = ap reverse e ∙ reverse-append ys (x ∷ [])

pub empty : (xs : List (Option ℕ)) → length xs ≡ 0 → xs ≡ []
empty [] h = refl
empty (x ∷ xs) h = absurd (omega arith)
