-- Parts of a list, put together anew.
use Rattle.std.proofs.Common.{◌≡◌, ℕ, zero, suc, ◌+◌, ◌-◌, ◌≤◌, List, [], ◌∷◌, ◌++◌, length, take, drop, refl, sym, ap, ◌∙◌, arith, append_assoc, length-append, length-drop}
use Rattle.std.proofs.lemmas.List.{take-take, take-append-le, length-take-le, take_all, drop-drop}
use Rattle.std.proofs.Math.Seq.{drop-append_seam}

module _ {X : Type 0} where
  -- a part of a list
  part_is : (from count : ℕ) (xs : List X) → drop from (take (from + count) xs) ≡ take count (drop from xs)
  part_is zero count xs = let same : 0 + count ≡ count = omega arith in ap (λ n. take n xs) same
  part_is (suc from) count [] = drop_none (suc from) (take (suc from + count) []) (taken (suc from + count)) ∙ sym (taken count)
    where
      taken : (n : ℕ) → ◌≡◌ {A = List X} (take n []) []
      taken zero = refl
      taken (suc n) = refl

      drop_none : (n : ℕ) (ys : List X) → ys ≡ [] → drop n ys ≡ []
      drop_none zero ys is = is
      drop_none (suc n) [] is = refl
      drop_none (suc n) (y ∷ ys) is = absurd (let some : (y ∷ ys) ≡ [] = is in cc)
  part_is (suc from) count (x ∷ xs) = let next : suc from + count ≡ suc (from + count) = omega arith in ap (λ n. drop (suc from) (take n (x ∷ xs))) next ∙ part_is from count xs

  seam_take : (n : ℕ) (xs ys : List X) → length xs ≡ n → take n (xs ++ ys) ≡ xs
  seam_take n xs ys is = take-append-le n xs ys (omega arith) ∙ take_all n xs (omega arith)

  seam_drop : (n : ℕ) (xs ys : List X) → length xs ≡ n → drop n (xs ++ ys) ≡ ys
  seam_drop n xs ys is = ap (λ k. drop k (xs ++ ys)) (sym is) ∙ drop-append_seam xs ys

  -- the items between those that are kept and the part that is reused go behind it and fall away, and others take their place
  pub spliced-so : (items middle later : List X) (kept from count : ℕ) {first second third fourth fifth sixth : List X} → kept ≤ from → from + count ≤ length items
      → first ≡ take (from + count) items → second ≡ take kept first ++ (drop (from - kept) (drop kept first) ++ take (from - kept) (drop kept first)) → third ≡ take (kept + count) second → fourth ≡ third ++ middle
      → fifth ≡ take kept fourth ++ (drop count (drop kept fourth) ++ take count (drop kept fourth)) → sixth ≡ fifth ++ later
      → sixth ≡ take kept items ++ (middle ++ (take count (drop from items) ++ later))
  spliced-so items middle later kept from count {first = first} {second = second} {third = third} {fourth = fourth} order within one two three four five six =
      let front : List X = take kept items in
      let part : List X = take count (drop from items) in
      let gone : List X = take (from - kept) (drop kept first) in
      let front_size : length front ≡ kept = length-take-le kept items (omega arith) in
      let size : length (drop from items) ≡ length items - from = length-drop from items in
      let part_size : length part ≡ count = length-take-le count (drop from items) (omega arith) in
      let sum : kept + (from - kept) ≡ from = omega arith in
      let second_is : second ≡ front ++ (part ++ gone) =
      two ∙ (λ i. (ap (take kept) one ∙ take-take kept (from + count) items (omega arith)) i
      ++ ((drop-drop (from - kept) kept first ∙ ap (λ n. drop n first) sum ∙ ap (drop from) one ∙ part_is from count items) i ++ gone)) in
      let third_is : third ≡ front ++ part =
      three ∙ ap (take (kept + count)) (second_is ∙ sym (append_assoc front part gone))
      ∙ seam_take (kept + count) (front ++ part) gone (length-append front part ∙ (λ i. front_size i + part_size i)) in
      let fourth_is : fourth ≡ front ++ (part ++ middle) = four ∙ ap (λ rest. rest ++ middle) third_is ∙ append_assoc front part middle in
      let behind : drop kept fourth ≡ part ++ middle = ap (drop kept) fourth_is ∙ seam_drop kept front (part ++ middle) front_size in
      six ∙ ap (λ rest. rest ++ later) (
      five ∙ (λ i. (ap (take kept) fourth_is ∙ seam_take kept front (part ++ middle) front_size) i
      ++ ((ap (drop count) behind ∙ seam_drop count part middle part_size) i ++ (ap (take count) behind ∙ seam_take count part middle part_size) i)))
      ∙ append_assoc front (middle ++ part) later ∙ ap (λ rest. front ++ rest) (append_assoc middle part later)

  -- where as many items are put in as fall away
  pub overwritten-so : (items middle later : List X) (kept from count : ℕ) {first second third : List X} → kept ≤ from → from + count ≤ length items → length middle ≡ from - kept
      → first ≡ take (from + count) items → second ≡ take kept first ++ (middle ++ drop (length middle) (drop kept first)) → third ≡ second ++ later
      → third ≡ take kept items ++ (middle ++ (take count (drop from items) ++ later))
  overwritten-so items middle later kept from count {first = first} order within size one two three =
      let part : List X = take count (drop from items) in
      let sum : kept + length middle ≡ from = omega (arith, size) in
      let front : take kept first ≡ take kept items = ap (take kept) one ∙ take-take kept (from + count) items (omega arith) in
      let behind : drop (length middle) (drop kept first) ≡ part = drop-drop (length middle) kept first ∙ ap (λ n. drop n first) sum ∙ ap (drop from) one ∙ part_is from count items in
      three ∙ ap (λ rest. rest ++ later) (two ∙ (λ i. front i ++ (middle ++ behind i)))
      ∙ append_assoc (take kept items) (middle ++ part) later ∙ ap (λ rest. take kept items ++ rest) (append_assoc middle part later)
