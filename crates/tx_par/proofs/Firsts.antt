-- Where lines begin.
use Rattle.std.proofs.Common.{◌≡◌, ℕ, suc, ◌+◌, ◌-◌, ◌<◌, ◌≤◌, min, Bool, true, false, cond, List, ◌∷◌, length, drop, take, get_or, ℤ, Option, Some, None, ◌⊎◌, inl, inr, sym, ap, ◌∙◌, arith, length-drop}
use Rattle.std.specs.Prelude.{slice_range}
use Rattle.std.proofs.lemmas.Bool.{cases_lt}
use Rattle.std.proofs.lemmas.List.{take_min}
use Rattle.std.proofs.Math.Seq.{drop-cons}
use Rattle.tx_linebreak.specs.declared.piece.Piece.{Piece}
use Rattle.tx_linebreak.specs.declared.piece.Discretionary.{Discretionary}
use Rattle.tx_linebreak.specs.Breaks.{discardables, discretionary_at, is_discardable, past_discardables, start_at, start_behind, start_of}

with_first : (piece : Piece) (pieces : List Piece) (b : Bool) → is_discardable piece ≡ b → discardables (piece ∷ pieces) ≡ cond b (suc (discardables pieces)) 0
with_first piece pieces b is = ap (λ (c : Bool). cond c (suc (discardables pieces)) 0) is

-- a discardable is passed
pub past-on : (pieces : List Piece) (at : ℕ) (d : Piece) → at < length pieces → is_discardable (get_or pieces at d) ≡ true → past_discardables pieces (at + 1) ≡ past_discardables pieces at
past-on pieces at d below is =
    let first : discardables (drop at pieces) ≡ suc (discardables (drop (suc at) pieces)) = ap discardables (drop-cons pieces at d below) ∙ with_first (get_or pieces at d) (drop (suc at) pieces) true is in
    let next : suc at ≡ at + 1 = omega arith in
    let same : discardables (drop (suc at) pieces) ≡ discardables (drop (at + 1) pieces) = ap (λ (k : ℕ). discardables (drop k pieces)) next in
    omega arith

-- all else is not
pub past-stop : (pieces : List Piece) (at : ℕ) (d : Piece) → at < length pieces → is_discardable (get_or pieces at d) ≡ false → past_discardables pieces at ≡ at
past-stop pieces at d below is =
    let first : discardables (drop at pieces) ≡ 0 = ap discardables (drop-cons pieces at d below) ∙ with_first (get_or pieces at d) (drop (suc at) pieces) false is in
    omega arith

counted : (b e l : ℕ) → min e l - min b (min e l) ≡ min (e - b) (l - b)
counted b e l = omega arith

drops : {A : Type 0} (xs : List A) (k i j : ℕ) → (i ≡ j) ⊎ (k ≡ 0) → take k (drop i xs) ≡ take k (drop j xs)
drops xs k i j (inl e) = ap (λ (n : ℕ). take k (drop n xs)) e
drops xs k i j (inr e) = ap (λ (n : ℕ). take n (drop i xs)) e ∙ sym (ap (λ (n : ℕ). take n (drop j xs)) e)

none-or : (b e l : ℕ) → (min b (min e l) ≡ b) ⊎ (min (e - b) (l - b) ≡ 0)
none-or b e l = elim (cases_lt (min e l) b) [
  | inl over ↦ inr (omega (arith, over))
  | inr within ↦ inl (omega (arith, within))
]

-- a part of a list, where its places are held within the list
pub part-held : {A : Type 0} (xs : List A) (begin end : ℕ) → slice_range xs (min begin (min end (length xs))) (min end (length xs)) ≡ slice_range xs begin end
part-held xs begin end =
    ap (λ (n : ℕ). take n (drop (min begin (min end (length xs))) xs)) (counted begin end (length xs))
    ∙ drops xs (min (end - begin) (length xs - begin)) (min begin (min end (length xs))) begin (none-or begin end (length xs))
    ∙ ap (λ (n : ℕ). take (min (end - begin) n) (drop begin xs)) (sym (length-drop begin xs))
    ∙ take_min (end - begin) (drop begin xs)

-- a place that is held within the next break
pub held-start : (pieces : List Piece) (begin end held : ℕ) → held ≡ min begin end → min (past_discardables pieces held) end ≡ min (past_discardables pieces begin) end
held-start pieces begin end held is = elim (cases_lt begin end) [
  | inl below ↦ let same : held ≡ begin = omega (arith, below, is) in ap (λ (k : ℕ). min (past_discardables pieces k) end) same
  | inr over ↦ omega (arith, over, is)
]

behind-least : (pieces : List Piece) (place : ℕ) (behind : Option ℤ) → place ≤ start_behind pieces place behind
behind-least pieces place None = omega arith
behind-least pieces place (Some width) = omega arith

at-least : (pieces : List Piece) (place : ℕ) (broken : Option Discretionary) → place ≤ start_at pieces place broken
at-least pieces place None = omega arith
at-least pieces place (Some d) = omega (arith, behind-least pieces (suc place + d.replaced) d.behind)

-- a line begins behind the break before it
pub start-over : (pieces : List Piece) (place end : ℕ) → end ≤ place → end ≡ min (start_of pieces place) end
unfolding start_of
start-over pieces place end over = omega (arith, over, at-least pieces place (discretionary_at pieces place))

pub start-by : (pieces : List Piece) (place end : ℕ) (broken : Option Discretionary) → broken ≡ discretionary_at pieces place → min (start_at pieces place broken) end ≡ min (start_of pieces place) end
unfolding start_of
start-by pieces place end broken is = ap (λ (o : Option Discretionary). min (start_at pieces place o) end) is
