-- The part in which two texts differ: exchanged, it makes one the other, and whatever else does that is no shorter.
use Rattle.std.proofs.Common.{◌≡◌, ℕ, zero, suc, ◌+◌, ◌-◌, ◌≤◌, ◌<◌, eqb, Bool, true, false, cond, List, [], ◌∷◌, ◌++◌, length, take, drop, get_or, min, refl, sym, ap, subst, ◌∙◌, append_assoc, arith}
use Rattle.std.specs.Prelude.{reverse}
use Rattle.std.proofs.lemmas.Bool.{eqb-true, eq-eqb, ne_eqb}
use Rattle.std.proofs.lemmas.List.{length-take-le, length-drop, length-append, length-reverse, reverse-append, reverse-reverse, take-append-drop, take-append-le, drop-drop, drop_at, drop_more, take_at}
use Rattle.tx_files.specs.Edits.{spliced}
use Rattle.tx_differing.specs.Differing.{common, common_end, differing, put_in, IsShortest}

-- it lies within both
pub common-within : (a b : List ℕ) → (common a b ≤ length a) × (common a b ≤ length b)
common-within [] b = (omega arith, omega arith)
common-within (x ∷ a) [] = (omega arith, omega arith)
common-within (x ∷ a) (y ∷ b) = by (eqb x y) (common-within a b)
  where
    by : (e : Bool) → (common a b ≤ length a) × (common a b ≤ length b) → (cond e (suc (common a b)) 0 ≤ length (x ∷ a)) × (cond e (suc (common a b)) 0 ≤ length (y ∷ b))
    by true rest = (omega (arith, rest.0), omega (arith, rest.1))
    by false rest = (omega arith, omega arith)

-- so many bytes are equal in both
pub common-take : (a b : List ℕ) → take (common a b) a ≡ take (common a b) b
common-take [] b = refl
common-take (x ∷ a) [] = refl
common-take (x ∷ a) (y ∷ b) = by (eqb x y) refl (common-take a b)
  where
    by : (e : Bool) → eqb x y ≡ e → take (common a b) a ≡ take (common a b) b → take (cond e (suc (common a b)) 0) (x ∷ a) ≡ take (cond e (suc (common a b)) 0) (y ∷ b)
    by true same rest = ap (λ (z : ℕ). z ∷ take (common a b) a) (eqb-true x y same) ∙ ap (λ (r : List ℕ). y ∷ r) rest
    by false other rest = refl

-- and whatever number of them is, is no greater
pub common-least : (m : ℕ) (a b : List ℕ) → m ≤ length a → m ≤ length b → take m a ≡ take m b → m ≤ common a b
common-least zero a b in_a in_b same = omega arith
common-least (suc m) [] b in_a in_b same = absurd (omega arith)
common-least (suc m) (x ∷ a) [] in_a in_b same = absurd (omega arith)
common-least (suc m) (x ∷ a) (y ∷ b) in_a in_b same =
    let first : x ≡ y = ap (λ (l : List ℕ). get_or l 0 0) same in
    let rest : take m a ≡ take m b = ap (λ (l : List ℕ). drop 1 l) same in
    let behind : m ≤ common a b = common-least m a b (omega arith) (omega arith) rest in
    subst (λ (e : Bool). suc m ≤ cond e (suc (common a b)) 0) (sym (eq-eqb x y first)) (omega arith)

-- where one of both is over there are no more
pub common-over : (n : ℕ) (a b : List ℕ) → min (length a) (length b) ≤ n → n + common (drop n a) (drop n b) ≡ n
common-over n a b past =
    let within = common-within (drop n a) (drop n b) in
    let left_a = length-drop n a in
    let left_b = length-drop n b in
    omega (arith, within.0, within.1, left_a, left_b, past)

-- the first bytes at a place are equal, or not
pub common-on : (n : ℕ) (a b : List ℕ) → n < length a → n < length b → get_or a n 0 ≡ get_or b n 0 → n + common (drop n a) (drop n b) ≡ (n + 1) + common (drop (n + 1) a) (drop (n + 1) b)
common-on n a b in_a in_b same =
    (λ i. n + common (drop_more a n 0 in_a i) (drop_more b n 0 in_b i))
    ∙ ap (λ (e : Bool). n + cond e (suc (common (drop (n + 1) a) (drop (n + 1) b))) 0) (eq-eqb (get_or a n 0) (get_or b n 0) same)
    ∙ omega arith

pub common-stops : (n : ℕ) (a b : List ℕ) → n < length a → n < length b → (get_or a n 0 ≡ get_or b n 0 → ⊥) → n + common (drop n a) (drop n b) ≡ n
common-stops n a b in_a in_b other =
    (λ i. n + common (drop_more a n 0 in_a i) (drop_more b n 0 in_b i))
    ∙ ap (λ (e : Bool). n + cond e (suc (common (drop (n + 1) a) (drop (n + 1) b))) 0) (ne_eqb (get_or a n 0) (get_or b n 0) other)
    ∙ omega arith

-- the last bytes of a text, so many, are the first ones of it turned round, turned round again
last-reverse : (m : ℕ) (a : List ℕ) → m ≤ length a → take m (reverse a) ≡ reverse (drop (length a - m) a)
last-reverse m a within =
    let front = take (length a - m) a in
    let back = drop (length a - m) a in
    let whole : reverse a ≡ reverse back ++ reverse front = ap reverse (sym (take-append-drop (length a - m) a)) ∙ reverse-append front back in
    let size : length (reverse back) ≡ m = length-reverse back ∙ length-drop (length a - m) a ∙ omega arith in
    ap (take m) whole ∙ take_at (reverse back) (reverse front) m size

-- so many bytes at the end are equal in both
pub common_end-drop : (a b : List ℕ) → drop (length a - common_end a b) a ≡ drop (length b - common_end a b) b
common_end-drop a b =
    let within = common-within (reverse a) (reverse b) in
    let in_a : common_end a b ≤ length a = omega (arith, within.0, length-reverse a) in
    let in_b : common_end a b ≤ length b = omega (arith, within.1, length-reverse b) in
    let turned : reverse (drop (length a - common_end a b) a) ≡ reverse (drop (length b - common_end a b) b) =
    sym (last-reverse (common_end a b) a in_a) ∙ common-take (reverse a) (reverse b) ∙ last-reverse (common_end a b) b in_b in
    sym (reverse-reverse (drop (length a - common_end a b) a)) ∙ ap reverse turned ∙ reverse-reverse (drop (length b - common_end a b) b)

-- exchanged, the part makes the old text the new one
pub differing-gives : (old new : List ℕ) → spliced old (differing old new).place (differing old new).removed (put_in new (differing old new)) ≡ new
differing-gives old new =
    let p = common old new in
    let a = drop p old in
    let b = drop p new in
    let e = common_end a b in
    let k = length new - p - e in
    let size_a : length old - p - e ≡ length a - e = ap (λ (n : ℕ). n - e) (sym (length-drop p old)) in
    let size_b : length b - e ≡ k = ap (λ (n : ℕ). n - e) (length-drop p new) in
    let back : drop (p + (length old - p - e)) old ≡ drop k b =
    sym (drop-drop (length old - p - e) p old) ∙ ap (λ (n : ℕ). drop n a) size_a ∙ common_end-drop a b ∙ ap (λ (n : ℕ). drop n b) size_b in
    ap (λ (l : List ℕ). (l ++ take k b) ++ drop (p + (length old - p - e)) old) (common-take old new)
    ∙ ap (λ (l : List ℕ). (take p new ++ take k b) ++ l) back
    ∙ append_assoc (take p new) (take k b) (drop k b)
    ∙ ap (λ (l : List ℕ). take p new ++ l) (take-append-drop k b)
    ∙ take-append-drop p new

-- the last bytes of what follows a place are those of the whole text
back-reverse : (m n : ℕ) (l : List ℕ) → m ≤ length (drop n l) → take m (reverse (drop n l)) ≡ take m (reverse l)
back-reverse m n l within =
    let whole : reverse l ≡ reverse (drop n l) ++ reverse (take n l) = ap reverse (sym (take-append-drop n l)) ∙ reverse-append (take n l) (drop n l) in
    sym (ap (take m) whole ∙ take-append-le m (reverse (drop n l)) (reverse (take n l)) (omega (arith, length-reverse (drop n l))))

-- whoever exchanges a part keeps a common beginning and a common end behind it, which together are no longer than the longest ones
module _ (old new : List ℕ) (place removed : ℕ) (put : List ℕ) (fits : place + removed ≤ length old) (gives : spliced old place removed put ≡ new) where
  abbrev p : ℕ
  p = common old new

  abbrev z : List ℕ
  z = drop (place + removed) old

  size_x : length (take place old) ≡ place
  size_x = length-take-le place old (omega arith)

  size_z : length z ≡ length old - (place + removed)
  size_z = length-drop (place + removed) old

  size_new : length new ≡ place + (length put + length z)
  size_new =
      let all = length-append (take place old ++ put) z in
      let first = length-append (take place old) put in
      let same = ap length gives in
      omega (arith, all, first, same, size_x)

  before : place ≤ p
  before = common-least place old new (omega arith) (omega (arith, size_new))
      (sym (ap (take place) (sym gives ∙ append_assoc (take place old) put z) ∙ take_at (take place old) (put ++ z) place size_x))

  z_of_new : drop (place + length put) new ≡ z
  z_of_new = ap (drop (place + length put)) (sym gives)
      ∙ drop_at (take place old ++ put) z (place + length put) (length-append (take place old) put ∙ ap (λ (n : ℕ). n + length put) size_x)

  behind : (m : ℕ) → m ≤ length z → m ≤ length (drop p old) → m ≤ length (drop p new) → m ≤ common_end (drop p old) (drop p new)
  behind m in_z in_old in_new = common-least m (reverse (drop p old)) (reverse (drop p new))
      (omega (arith, in_old, length-reverse (drop p old))) (omega (arith, in_new, length-reverse (drop p new)))
      (back-reverse m p old in_old
      ∙ sym (back-reverse m (place + removed) old in_z)
      ∙ ap (λ (l : List ℕ). take m (reverse l)) (sym z_of_new)
      ∙ back-reverse m (place + length put) new (subst (λ (l : List ℕ). m ≤ length l) (sym z_of_new) in_z)
      ∙ sym (back-reverse m p new in_new))

  pub kept-most : place + length z ≤ p + common_end (drop p old) (drop p new)
  kept-most =
      let size_old = length-drop p old in
      let size_b = length-drop p new in
      let within = common-within old new in
      let m = min (length z) (min (length (drop p old)) (length (drop p new))) in
      let least : m ≤ common_end (drop p old) (drop p new) = behind m (omega arith) (omega arith) (omega arith) in
      omega (arith, before, size_z, size_new, within.0, within.1)

-- so the part is the shortest one
pub differing-shortest : (old new : List ℕ) → IsShortest old new (differing old new)
differing-shortest old new =
    let p = common old new in
    let a = drop p old in
    let b = drop p new in
    let within = common-within old new in
    let ends = common-within (reverse a) (reverse b) in
    let size_a = length-drop p old in
    let size_b = length-drop p new in
    record {
      fits = omega (arith, within.0, ends.0, size_a, length-reverse a);
      within = omega (arith, within.1, ends.1, size_b, length-reverse b);
      gives = differing-gives old new;
      removes = λ place removed put fits gives.
          omega (arith, kept-most old new place removed put fits gives, length-drop (place + removed) old);
      puts = λ place removed put fits gives.
          omega (arith, kept-most old new place removed put fits gives, size_new old new place removed put fits gives);
    }
