-- The last pass always has a chain.
use Rattle.std.proofs.Common.{◌≡◌, ℕ, zero, suc, ◌-◌, ◌<◌, ℤ, Bool, true, false, cond, Option, Some, None, List, [], ◌∷◌, map, length, ◌⊎◌, inl, inr, refl, sym, ap, subst, ◌∙◌, arith}
use Rattle.std.specs.Prelude.{filter, not, ◌&&◌, ◌||◌, slice_get}
use Rattle.std.specs.List.{list_all}
use Rattle.std.proofs.lemmas.Int.{ints}
use Rattle.tx_linebreak.specs.declared.line.Candidate.{Candidate}
use Rattle.tx_linebreak.specs.declared.params.BreakParams.{BreakParams}
use Rattle.tx_linebreak.specs.declared.params.Pass.{Pass}
use Rattle.tx_linebreak.specs.declared.piece.Piece.{Piece}
use Rattle.tx_linebreak.specs.declared.piece.Piece.TheVariants.{Penalty}
use Rattle.tx_linebreak.specs.Breaks.{context_from, is_forced, outset, penalty_at, piece_penalty, unless_forbidden}
use Rattle.tx_linebreak.specs.Chains.{Chain, candidate_of, dies_at, dies_by, from_living, is_feasible, is_last_pass, is_overfull, is_stuck, with_line, with_line_taken}
use Rattle.tx_linebreak.specs.Chosen.{IsEnded}
use Rattle.tx_linebreak.specs.Kept.{all_offered, kept_before, kept_by, last_by, last_chains, last_special}
use Rattle.tx_linebreak.specs.Lines.{Attempt, line_fit}
use Rattle.tx_linebreak.proofs.Kept.{all_offered-new}
use Rattle.tx_linebreak.proofs.Members.{Member, member-filter, member-left, member-map, member-right}

-- there is a chain in a list
abbrev pub SomeIn : List Chain → Type 0
SomeIn list = (x : Chain) × Member list x

-- where not all pass a test, one doesn't
one-fails : (p : Chain → Bool) (xs : List Chain) → list_all p xs ≡ false → (x : Chain) × Member xs x × (p x ≡ false)
one-fails p [] e = absurd cc
one-fails p (z ∷ xs) e = by (p z) refl (λ k. one-fails p xs k) e
  where
    by : (b : Bool) → p z ≡ b → (list_all p xs ≡ false → (x : Chain) × Member xs x × (p x ≡ false)) → (b && list_all p xs) ≡ false → (x : Chain) × Member (z ∷ xs) x × (p x ≡ false)
    by true is rest f = let k = rest f in (k.0, inr k.1, k.2)
    by false is rest f = (z, inl refl, is)

one-false : (l p q : Bool) → l ≡ true → (l && p && q) ≡ false → (p ≡ false) ⊎ (q ≡ false)
one-false true true true e f = absurd cc
one-false true true false e f = inr refl
one-false true false q e f = inl refl
one-false false p q e f = absurd cc

untrue : (b : Bool) → not b ≡ false → b ≡ true
untrue true e = refl
untrue false e = absurd cc

-- in the last pass, of chains that are kept, one is made or one lives on
made-or-lives : (a : Attempt) (place : ℕ) (penalty : ℤ) (kept : List Chain) → is_last_pass a.params a.pass ≡ true → SomeIn kept → SomeIn (from_living a place penalty kept) ⊎ ((x : Chain) × Member kept x × (dies_at a (candidate_of x) place ≡ false))
made-or-lives a place penalty kept last some = by (is_stuck a place kept) refl
  where
    by : (b : Bool) → is_stuck a place kept ≡ b → SomeIn (cond b (map (with_line_taken a place penalty) kept) (map (with_line a place penalty) (filter (λ chain. is_feasible a (candidate_of chain) place) kept))) ⊎ ((x : Chain) × Member kept x × (dies_at a (candidate_of x) place ≡ false))
    by true e = inl (with_line_taken a place penalty some.0, member-map (with_line_taken a place penalty) kept some.0 some.1)
    by false e = elim (one-false (is_last_pass a.params a.pass) (list_all (λ chain. not (is_feasible a (candidate_of chain) place)) kept) (list_all (λ chain. dies_at a (candidate_of chain) place) kept) last e) [
      | inl f ↦
          let k = one-fails (λ chain. not (is_feasible a (candidate_of chain) place)) kept f in
          inl (with_line a place penalty k.0, member-map (with_line a place penalty) (filter (λ chain. is_feasible a (candidate_of chain) place) kept) k.0 (member-filter (λ chain. is_feasible a (candidate_of chain) place) kept k.0 k.1 (untrue (is_feasible a (candidate_of k.0) place) k.2)))
      | inr f ↦ inr (one-fails (λ chain. dies_at a (candidate_of chain) place) kept f)
    ]

-- in the last pass some chain is kept before each place
kept-some : (a : Attempt) (place : ℕ) → is_last_pass a.params a.pass ≡ true → SomeIn (kept_before a place)
kept-some a zero last = ([], inl refl)
kept-some a (suc place) last = by (penalty_at a.params a.pass a.pieces place) (kept-some a place last)
  where
    by : (o : Option ℤ) → SomeIn (kept_before a place) → SomeIn (kept_by a place o (kept_before a place))
    by None some = some
    by (Some penalty) some =
        let kept = kept_before a place in
        let old = filter (λ chain. not (dies_at a (candidate_of chain) place)) kept in
        let new = all_offered (last_special a) [] (from_living a place penalty kept) in
        elim (made-or-lives a place penalty kept last some) [
          | inl k ↦ let g = all_offered-new (last_special a) [] (from_living a place penalty kept) k.0 k.1 in (g.one, member-right old new g.one g.there)
          | inr k ↦ (k.0, member-left old new k.0 (member-filter (λ chain. not (dies_at a (candidate_of chain) place)) kept k.0 k.1 (ap not k.2)))
        ]

-- at a break that has to be taken all die
forced-dies : (a : Attempt) (c : Candidate) (place : ℕ) (penalty : ℤ) → penalty_at a.params a.pass a.pieces place ≡ Some penalty → is_forced penalty ≡ true → dies_at a c place ≡ true
unfolding dies_at
forced-dies a c place penalty legal forced =
    ap (dies_by a c place) legal ∙ ap (λ (b : Bool). b || is_overfull (line_fit a c place)) forced

last-some : (a : Attempt) (penalty : ℤ) → is_last_pass a.params a.pass ≡ true → penalty_at a.params a.pass a.pieces (length a.pieces - 1) ≡ Some penalty → is_forced penalty ≡ true → SomeIn (last_chains a)
unfolding last_chains
last-some a penalty last legal forced =
    let place = length a.pieces - 1 in
    subst (λ (o : Option ℤ). SomeIn (last_by a place o (kept_before a place))) (sym legal)
    (elim (made-or-lives a place penalty (kept_before a place) last (kept-some a place last)) [
      | inl k ↦ k
      | inr k ↦ absurd (clash (dies_at a (candidate_of k.0) place) (forced-dies a (candidate_of k.0) place penalty legal forced) k.2)
    ])
  where
    clash : (b : Bool) → b ≡ true → b ≡ false → ⊥
    clash true e f = absurd cc
    clash false e f = absurd cc

-- ---- the list's end

forced-legal : (penalty : ℤ) → is_forced penalty ≡ true → unless_forbidden penalty ≡ Some penalty
forced-legal penalty e = grind (arith, ints)

end-penalty : (params : BreakParams) (pass : Pass) (pieces : List Piece) → (e : IsEnded pieces) → penalty_at params pass pieces (length pieces - 1) ≡ Some e.penalty
unfolding penalty_at
end-penalty params pass pieces e =
    let place = length pieces - 1 in
    (λ i. piece_penalty params pass (e.taken i) (context_from outset pieces place) (e.last_is i) (slice_get pieces (suc place))) ∙ forced-legal e.penalty e.forces

none-some : (p : Piece) → None ≡ Some p → ⊥
none-some p h = cc

pub ended-some : (pieces : List Piece) → IsEnded pieces → 0 < length pieces
ended-some [] e = absurd (none-some (Penalty e.penalty) e.last_is)
ended-some (p ∷ pieces) e = omega arith

pub ends-some : (a : Attempt) → IsEnded a.pieces → is_last_pass a.params a.pass ≡ true → SomeIn (all_offered (last_special a) [] (last_chains a))
ends-some a e last =
    let k = last-some a e.penalty last (end-penalty a.params a.pass a.pieces e) e.forces in
    let g = all_offered-new (last_special a) [] (last_chains a) k.0 k.1 in
    (g.one, g.there)
