-- Levels that are raised in turn.
use Rattle.std.proofs.Common.{◌≡◌, ℕ, ◌+◌, ◌-◌, ◌≤◌, ◌<◌, List, length, get_or, drop, arith, add-one}
use Rattle.std.specs.Prelude.{max, nat_le, if◌then◌else◌}
use Rattle.tx_hyphen.specs.declared.spelling.Spelling.{Spelling}
use Rattle.tx_hyphen.specs.declared.trie.Node.{Node}
use Rattle.tx_hyphen.specs.Along.{level_along}
use Rattle.tx_hyphen.specs.Levels.{IsRaised, greatest_below, level_at, level_here}
use Rattle.std.proofs.Common.{◌∙◌, ap, inl, inr, length-drop}
use Rattle.std.proofs.lemmas.Bool.Decides.{nat_tests}
use Rattle.std.proofs.lemmas.Bool.{cases_lt}
use Rattle.std.specs.List.{between}
use Rattle.std.proofs.lemmas.Slice.{between_to_end}
use Rattle.std.proofs.lemmas.Grind.{common_steps}
use borrow.Rule.Slice.PartMut.{put_mid}

raised-below : (n : ℕ) (levels part : List ℕ) (f : ℕ → ℕ)
    → n ≤ length levels
    → (k : ℕ) → k < n
    → get_or (put_mid n (length levels - n) levels part) k 0
    ≡ max (get_or levels k 0) (if nat_le n k then f (k - n) else 0)
raised-below n levels part f h k below = grind (arith, common_steps, nat_tests)

raised-above : (n : ℕ) (levels part : List ℕ) (f : ℕ → ℕ)
    → n ≤ length levels → length part ≡ length levels - n
    → (k : ℕ) → n ≤ k → k < length levels
    → get_or part (k - n) 0 ≡ max (get_or (drop n levels) (k - n) 0) (f (k - n))
    → get_or (put_mid n (length levels - n) levels part) k 0
    ≡ max (get_or levels k 0) (if nat_le n k then f (k - n) else 0)
raised-above n levels part f h e k above below raised = grind (arith, common_steps, nat_tests)

-- a part of a list, from an index on, raised
pub raised-from : (n : ℕ) (levels part : List ℕ) (f : ℕ → ℕ)
    → n ≤ length levels → length part ≡ length levels - n
    → IsRaised (drop n levels) part f
    → (k : ℕ) → k < length levels
    → get_or (put_mid n (length levels - n) levels part) k 0
    ≡ max (get_or levels k 0) (if nat_le n k then f (k - n) else 0)
raised-from n levels part f h e raised k below =
    elim (cases_lt k n) [
      | inl low ↦ raised-below n levels part f h k low
      | inr high ↦ raised-above n levels part f h e k high below (raised (k - n) (omega (arith, length-drop n levels)))
    ]

raised-step : (n : ℕ) (initial levels part text : List ℕ) (patterns : List Spelling)
    → n ≤ length levels → length part ≡ length levels - n → length levels ≡ length initial
    → IsRaised initial levels (λ place. greatest_below n (level_at patterns text place))
    → IsRaised (drop n levels) part (level_here patterns (drop n text))
    → IsRaised initial (put_mid n (length levels - n) levels part) (λ place. greatest_below (n + 1) (level_at patterns text place))
raised-step n initial levels part text patterns h e same so_far raised k below =
    rw (raised-from n levels part (level_here patterns (drop n text)) h e raised k (omega arith), so_far k below, add-one) (omega arith)

-- the levels that the patterns at one more offset of a text give
pub raised-next : (n : ℕ) (initial levels part text : List ℕ) (patterns : List Spelling)
    → n ≤ length levels → length levels ≡ length initial
    → length part ≡ length (between n (length levels) levels)
    → IsRaised initial levels (λ place. greatest_below n (level_at patterns text place))
    → IsRaised (between n (length levels) levels) part (level_here patterns (between n (length text) text))
    → IsRaised initial (put_mid n (length levels - n) levels part) (λ place. greatest_below (n + 1) (level_at patterns text place))
raised-next n initial levels part text patterns h same e so_far raised =
    let part_is = between_to_end levels n (length levels) (omega arith) in
    let text_is = between_to_end text n (length text) (omega arith) in
    raised-step n initial levels part text patterns h (e ∙ ap length part_is ∙ length-drop n levels) same so_far
    (rw (part_is, text_is) at raised)

-- the levels so far, raised by what a walk from a node will meet, are those that the whole walk gives
pub record IsRaisedAlong (nodes : List Node) (spellings : List Spelling) (initial levels : List ℕ) (at : ℕ) (rest text : List ℕ) : Type 0 where
  pub inside : at < length nodes
  pub whole : (k : ℕ) → k < length initial
      → max (get_or levels k 0) (level_along nodes spellings at rest k)
      ≡ max (get_or initial k 0) (level_along nodes spellings 0 text k)
