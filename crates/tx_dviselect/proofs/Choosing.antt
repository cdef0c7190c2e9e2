-- The commands of a page are gone through byte by byte.
use Rattle.std.proofs.Common.{◌≡◌, ℕ, zero, suc, ◌+◌, ◌-◌, ◌<◌, ◌≤◌, ◌||◌, true, false, cond, List, [], ◌∷◌, ◌++◌, length, length-drop, get_or, take, drop, refl, sym, ap, ◌∙◌, arith}
use Rattle.std.proofs.lemmas.List.{drop_more, take_more, drop_all}
use Rattle.tx_dviselect.specs.Uses.{is_wanting, is_choice, chooses_from}

-- the bytes from a place on that are gathered before another
abbrev pub gathered : List ℕ → ℕ → ℕ → List ℕ
gathered body start at = take (at - start) (drop start body)

get-behind : (body : List ℕ) (start n : ℕ) → get_or (drop start body) n 0 ≡ get_or body (start + n) 0
get-behind body zero n = let same : n ≡ 0 + n = omega arith in ap (λ k. get_or body k 0) same
get-behind [] (suc start) n = refl
get-behind (b ∷ body) (suc start) n = let next : suc start + n ≡ suc (start + n) = omega arith in get-behind body start n ∙ sym (ap (λ k. get_or (b ∷ body) k 0) next)

-- one more is
gathered-more : (body : List ℕ) (start at : ℕ) → start ≤ at → at < length body → gathered body start at ++ get_or body at 0 ∷ [] ≡ gathered body start (at + 1)
gathered-more body start at order within =
    let next : at - start + 1 ≡ at + 1 - start = omega (arith, order) in
    let place : start + (at - start) ≡ at = omega (arith, order) in
    ap (λ b. gathered body start at ++ b ∷ []) (sym (get-behind body start (at - start) ∙ ap (λ k. get_or body k 0) place))
    ∙ sym (take_more (drop start body) (at - start) 0 (omega (arith, order, within, length-drop start body)))
    ∙ ap (λ n. take n (drop start body)) next

module _ (number : ℕ) (body : List ℕ) (start at : ℕ) (order : start ≤ at) (within : at < length body) where
  abbrev here : List ℕ
  here = gathered body start (at + 1)

  one-on : chooses_from number (gathered body start at) (drop at body) ≡ cond (is_wanting here) (chooses_from number here (drop (at + 1) body)) (is_choice number here || chooses_from number [] (drop (at + 1) body))
  unfolding chooses_from
  one-on =
      ap (chooses_from number (gathered body start at)) (drop_more body at 0 within)
      ∙ ap (λ bytes. cond (is_wanting bytes) (chooses_from number bytes (drop (at + 1) body)) (is_choice number bytes || chooses_from number [] (drop (at + 1) body))) (gathered-more body start at order within)

  -- more bytes of a command are wanted
  pub wanting-on : is_wanting here ≡ true → chooses_from number (gathered body start at) (drop at body) ≡ chooses_from number here (drop (at + 1) body)
  wanting-on is = one-on ∙ ap (λ b. cond b (chooses_from number here (drop (at + 1) body)) (is_choice number here || chooses_from number [] (drop (at + 1) body))) is

  -- a whole one chooses the font, or not
  pub choice-on : is_wanting here ≡ false → is_choice number here ≡ true → chooses_from number (gathered body start at) (drop at body) ≡ true
  choice-on whole is =
      one-on ∙ ap (λ b. cond b (chooses_from number here (drop (at + 1) body)) (is_choice number here || chooses_from number [] (drop (at + 1) body))) whole
      ∙ ap (λ b. b || chooses_from number [] (drop (at + 1) body)) is

  pub other-on : is_wanting here ≡ false → is_choice number here ≡ false → chooses_from number (gathered body start at) (drop at body) ≡ chooses_from number (gathered body (at + 1) (at + 1)) (drop (at + 1) body)
  other-on whole is =
      let none : 0 ≡ at + 1 - (at + 1) = omega arith in
      one-on ∙ ap (λ b. cond b (chooses_from number here (drop (at + 1) body)) (is_choice number here || chooses_from number [] (drop (at + 1) body))) whole
      ∙ ap (λ b. b || chooses_from number [] (drop (at + 1) body)) is
      ∙ ap (λ n. chooses_from number (take n (drop (at + 1) body)) (drop (at + 1) body)) none

-- at the end there are no more
pub chooses-over : (number : ℕ) (body : List ℕ) (start at : ℕ) → length body ≤ at → chooses_from number (gathered body start at) (drop at body) ≡ false
unfolding chooses_from
chooses-over number body start at past = ap (chooses_from number (gathered body start at)) (drop_all at body past)
