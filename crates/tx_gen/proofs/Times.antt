-- Lists that are made one behind another.
use Rattle.std.proofs.Common.{◌≡◌, ℕ, zero, suc, ◌+◌, ◌<◌, List, [], ◌++◌, sym, ap, ◌∙◌, subst, inl, inr, arith, append_assoc}
use Rattle.std.proofs.lemmas.List.{append-nil}
use Rattle.std.proofs.lemmas.Bool.{cases_lt}
use Rattle.tx_gen.specs.Draws.{with_more, times}

-- one more
pub times-more : {X : Type 0} (making : ℕ → List X × ℕ) (count state : ℕ) → times (count + 1) making state ≡ with_more (times count making state) making
unfolding times
times-more making count state =
    let one_up : count + 1 ≡ suc count = omega arith in
    ap (λ n. times n making state) one_up

-- behind a text stand so many that were made from a state on, and this is the state after them
pub record Grown (making : ℕ → List ℕ × ℕ) (count : ℕ) (begun : List ℕ) (first : ℕ) (text : List ℕ) (state : ℕ) : Type 0 where
  pub text_is : text ≡ begun ++ (times count making first).0
  pub state_is : state ≡ (times count making first).1

pub grown-none : {making : ℕ → List ℕ × ℕ} {begun text : List ℕ} {first state : ℕ} → text ≡ begun → state ≡ first → Grown making 0 begun first text state
unfolding times
grown-none {begun = begun} same still = record { text_is = same ∙ sym (append-nil begun); state_is = still }

pub grown-more : {making : ℕ → List ℕ × ℕ} {count : ℕ} {begun text text' : List ℕ} {first state state' : ℕ}
    → Grown making count begun first text state → text' ≡ text ++ (making state).0 → state' ≡ (making state).1
    → Grown making (count + 1) begun first text' state'
grown-more {making = making} {count = count} {begun = begun} {first = first} so_far puts leaves =
    let front : List ℕ × ℕ = times count making first in
    record {
      text_is = puts ∙ (λ i. so_far.text_is i ++ (making (so_far.state_is i)).0) ∙ append_assoc begun front.0 (making front.1).0
          ∙ ap (λ (made : List ℕ × ℕ). begun ++ made.0) (sym (times-more making count first));
      state_is = leaves ∙ ap (λ n. (making n).1) so_far.state_is ∙ ap (λ (made : List ℕ × ℕ). made.1) (sym (times-more making count first));
    }

pub grown-all : {making : ℕ → List ℕ × ℕ} {made count : ℕ} {begun text : List ℕ} {first state : ℕ} → Grown making made begun first text state → made ≡ count → Grown making count begun first text state
grown-all {making = making} {begun = begun} {text = text} {first = first} {state = state} so_far all =
    subst (λ n. Grown making n begun first text state) all so_far

-- a list goes on with a piece behind a front
pub record Continues (front piece whole : List ℕ) : Type 0 where
  pub behind : List ℕ
  pub are : whole ≡ front ++ (piece ++ behind)

further : {front piece whole : List ℕ} (more : List ℕ) → Continues front piece whole → Continues front piece (whole ++ more)
further {front = front} {piece = piece} more goes = record {
  behind = goes.behind ++ more;
  are = ap (λ (t : List ℕ). t ++ more) goes.are ∙ append_assoc front (piece ++ goes.behind) more ∙ ap (λ (t : List ℕ). front ++ t) (append_assoc piece goes.behind more);
}

last_made : (making : ℕ → List ℕ × ℕ) (count state : ℕ) → Continues (times count making state).0 (making (times count making state).1).0 (times (suc count) making state).0
unfolding times
last_made making count state =
    let front : List ℕ × ℕ = times count making state in
    record { behind = []; are = ap (λ (t : List ℕ). front.0 ++ t) (sym (append-nil (making front.1).0)) }

-- each of so many stands behind those before it
pub times-continues : (making : ℕ → List ℕ × ℕ) (made count state : ℕ) → made < count
    → Continues (times made making state).0 (making (times made making state).1).0 (times count making state).0
unfolding times
times-continues making made zero state less = absurd (omega arith)
times-continues making made (suc count) state less =
    elim (cases_lt made count) [
      | inl before ↦ further (making (times count making state).1).0 (times-continues making made count state before)
      | inr past ↦
          let same : count ≡ made = omega arith in
          subst (λ n. Continues (times n making state).0 (making (times n making state).1).0 (times (suc count) making state).0) same (last_made making count state)
    ]
