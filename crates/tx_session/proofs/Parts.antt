-- Pages in two parts: the n-th of them, and the fonts that the first of them define.
use Rattle.std.proofs.Common.{◌≡◌, ℕ, zero, suc, ◌-◌, ◌<◌, ◌≤◌, List, [], ◌∷◌, ◌++◌, length, take, Some, None, refl, sym, ap, ◌∙◌, arith}
use Rattle.std.specs.Prelude.{slice_get}
use Rattle.std.proofs.lemmas.List.Concat.{flat_map-append}
use Rattle.std.proofs.lemmas.Option.{slice_get_past, slice_get_within}
use Rattle.tx_dvi.specs.Dvi.{fonts_of}
use Rattle.tx_dvi.specs.Page.{Page}
use Rattle.tx_session.specs.Pages.{nth_of}

module _ {X : Type 0} where
  get-first : (n : ℕ) (xs ys : List X) → n < length xs → slice_get (xs ++ ys) n ≡ slice_get xs n
  get-first n [] ys less = absurd (omega arith)
  get-first zero (x ∷ xs) ys less = refl
  get-first (suc n) (x ∷ xs) ys less = get-first n xs ys (omega arith)

  get-behind : (n : ℕ) (xs ys : List X) → length xs ≤ n → slice_get (xs ++ ys) n ≡ slice_get ys (n - length xs)
  get-behind n [] ys past = let same : n ≡ n - 0 = omega arith in ap (slice_get ys) same
  get-behind zero (x ∷ xs) ys past = absurd (omega arith)
  get-behind (suc n) (x ∷ xs) ys past = let same : n - length xs ≡ suc n - length (x ∷ xs) = omega arith in get-behind n xs ys (omega arith) ∙ ap (slice_get ys) same

  -- counted from 1
  nth-is : (number : ℕ) (xs : List X) → 0 < number → nth_of xs number ≡ slice_get xs (number - 1)
  nth-is zero xs some = absurd (omega arith)
  nth-is (suc k) xs some = let same : k ≡ suc k - 1 = omega arith in ap (slice_get xs) same

  pub nth-first : (number : ℕ) (xs ys : List X) → 0 < number → number - 1 < length xs → nth_of (xs ++ ys) number ≡ slice_get xs (number - 1)
  nth-first number xs ys some less = nth-is number (xs ++ ys) some ∙ get-first (number - 1) xs ys less

  pub nth-behind : (number : ℕ) (xs ys : List X) → 0 < number → length xs ≤ number - 1 → nth_of (xs ++ ys) number ≡ slice_get ys (number - 1 - length xs)
  nth-behind number xs ys some past = nth-is number (xs ++ ys) some ∙ get-behind (number - 1) xs ys past

  pub nth-past : (number : ℕ) (xs ys : List X) → 0 < number → length xs ≤ number - 1 → length ys ≤ number - 1 - length xs → nth_of (xs ++ ys) number ≡ None
  nth-past number xs ys some past over = nth-behind number xs ys some past ∙ slice_get_past ys (number - 1 - length xs) over

  pub nth-within : (number : ℕ) (xs : List X) {x : X} → Some x ≡ nth_of xs number → (1 ≤ number) × (number ≤ length xs)
  nth-within zero xs {x} is = absurd (let no : Some x ≡ None = is in cc)
  nth-within (suc k) xs {x} is = let less : k < length xs = slice_get_within xs k x (sym is) in (omega arith, omega arith)

  -- more than the first of two parts
  pub take-both : (n : ℕ) (xs ys : List X) → length xs ≤ n → take n (xs ++ ys) ≡ xs ++ take (n - length xs) ys
  take-both n [] ys past = let same : n ≡ n - 0 = omega arith in ap (λ k. take k ys) same
  take-both zero (x ∷ xs) ys past = absurd (omega arith)
  take-both (suc n) (x ∷ xs) ys past =
      let same : n - length xs ≡ suc n - length (x ∷ xs) = omega arith in
      ap (λ rest. x ∷ rest) (take-both n xs ys (omega arith) ∙ ap (λ k. xs ++ take k ys) same)

pub fonts-append : (first others : List Page) → fonts_of (first ++ others) ≡ fonts_of first ++ fonts_of others
fonts-append first others = flat_map-append (λ (page : Page). page.fonts) first others
