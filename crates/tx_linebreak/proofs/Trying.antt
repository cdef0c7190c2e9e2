-- The lines that are tried at a break, and the chains that are kept.
use Rattle.std.proofs.Common.{◌≡◌, ℕ, zero, suc, ◌+◌, ◌<◌, ◌≤◌, ℤ, Bool, true, false, cond, Option, Some, None, List, [], ◌∷◌, ◌++◌, map, take, drop, length, get_or, set, ◌⊎◌, inl, inr, refl, sym, ap, subst, ◌∙◌, arith, length-set, get_or-set_other, get_or-set_same}
use Rattle.std.specs.Prelude.{filter, not, ◌&&◌, ◌||◌, All, IfSome}
use Rattle.std.specs.List.{list_all}
use Rattle.std.proofs.lemmas.Bool.{cases_lt}
use Rattle.std.proofs.Math.Seq.{take-append_seam}
use Rattle.std.proofs.lemmas.List.Elements.{All-cons, All-head, All-tail}
use Rattle.tx_linebreak.specs.declared.line.Candidate.{Candidate}
use Rattle.tx_linebreak.specs.declared.line.Fit.{Fit}
use Rattle.tx_linebreak.specs.declared.trial.Trial.{Trial}
use Rattle.tx_linebreak.specs.Breaks.{is_forced, penalty_at}
use Rattle.tx_linebreak.specs.Chains.{Chain, candidate_of, dies_at, dies_by, is_feasible, is_last_pass, is_overfull, is_stuck, is_tolerable, next_place, tolerance_of}
use Rattle.tx_linebreak.specs.Lines.{Attempt, line_fit}
use Rattle.tx_linebreak.specs.Shared.{chain_at}
use Rattle.tx_linebreak.specs.Trials.{AreMeasured, IsKept, IsTrial, chain_tried, is_stuck_by}

-- what lies before a place is a place of the list
pub within : (o : Option ℕ) (place n : ℕ) → next_place o ≤ place → place < n → IfSome o (λ p. p < n)
within None place n h k = tt
within (Some p) place n h k = omega arith

-- how the line that is tried fits
fits : (a : Attempt) (chains : List Chain) (place : ℕ) (t : Trial) → IsTrial a chains place t → t.fit ≡ line_fit a (candidate_of (chain_tried chains t)) place
fits a chains place t is = is.fit_is ∙ ap (λ (c : Candidate). line_fit a c place) is.kept.from_is

-- it may be taken, by its fit
pub feasible-by : (a : Attempt) (chains : List Chain) (place : ℕ) (t : Trial) → IsTrial a chains place t → is_tolerable (tolerance_of a.params a.pass) t.fit ≡ is_feasible a (candidate_of (chain_tried chains t)) place
unfolding is_feasible
feasible-by a chains place t is = ap (is_tolerable (tolerance_of a.params a.pass)) (fits a chains place t is)

-- its candidate dies, by its fit
pub dies-by : (a : Attempt) (chains : List Chain) (place : ℕ) (penalty : ℤ) (t : Trial) → penalty_at a.params a.pass a.pieces place ≡ Some penalty → IsTrial a chains place t → (is_forced penalty || is_overfull t.fit) ≡ dies_at a (candidate_of (chain_tried chains t)) place
unfolding dies_at
dies-by a chains place penalty t legal is =
    ap (λ (f : Fit). is_forced penalty || is_overfull f) (fits a chains place t is)
    ∙ sym (ap (dies_by a (candidate_of (chain_tried chains t)) place) legal)

none-feasible : (a : Attempt) (chains : List Chain) (place : ℕ) (ts : List Trial) → All (IsTrial a chains place) ts → list_all (λ t. not (is_tolerable (tolerance_of a.params a.pass) t.fit)) ts ≡ list_all (λ chain. not (is_feasible a (candidate_of chain) place)) (map (chain_tried chains) ts)
none-feasible a chains place [] all = refl
none-feasible a chains place (t ∷ ts) all =
    let here = feasible-by a chains place t (All-head (IsTrial a chains place) t ts all) in
    let rest = none-feasible a chains place ts (All-tail (IsTrial a chains place) t ts all) in
    λ i. not (here i) && rest i

all-die : (a : Attempt) (chains : List Chain) (place : ℕ) (penalty : ℤ) (ts : List Trial) → penalty_at a.params a.pass a.pieces place ≡ Some penalty → All (IsTrial a chains place) ts → list_all (λ t. is_forced penalty || is_overfull t.fit) ts ≡ list_all (λ chain. dies_at a (candidate_of chain) place) (map (chain_tried chains) ts)
all-die a chains place penalty [] legal all = refl
all-die a chains place penalty (t ∷ ts) legal all =
    let here = dies-by a chains place penalty t legal (All-head (IsTrial a chains place) t ts all) in
    let rest = all-die a chains place penalty ts legal (All-tail (IsTrial a chains place) t ts all) in
    λ i. here i && rest i

-- whether all is stuck, by the lines that are tried
pub stuck-by : (a : Attempt) (chains : List Chain) (place : ℕ) (penalty : ℤ) (ts : List Trial) → penalty_at a.params a.pass a.pieces place ≡ Some penalty → All (IsTrial a chains place) ts → is_stuck_by a penalty ts ≡ is_stuck a place (map (chain_tried chains) ts)
stuck-by a chains place penalty ts legal all =
    let feasible = none-feasible a chains place ts all in
    let die = all-die a chains place penalty ts legal all in
    λ i. is_last_pass a.params a.pass && feasible i && die i

-- the chains that survive, by the lines that are tried
pub survive-by : (a : Attempt) (chains : List Chain) (place : ℕ) (penalty : ℤ) (ts : List Trial) → penalty_at a.params a.pass a.pieces place ≡ Some penalty → All (IsTrial a chains place) ts → map (chain_tried chains) (filter (λ t. not (is_forced penalty || is_overfull t.fit)) ts) ≡ filter (λ chain. not (dies_at a (candidate_of chain) place)) (map (chain_tried chains) ts)
survive-by a chains place penalty [] legal all = refl
survive-by a chains place penalty (t ∷ ts) legal all =
    by (is_forced penalty || is_overfull t.fit) (dies_at a (candidate_of (chain_tried chains t)) place)
    (dies-by a chains place penalty t legal (All-head (IsTrial a chains place) t ts all))
    (survive-by a chains place penalty ts legal (All-tail (IsTrial a chains place) t ts all))
  where
    by : (b d : Bool) → b ≡ d → map (chain_tried chains) (filter (λ t. not (is_forced penalty || is_overfull t.fit)) ts) ≡ filter (λ chain. not (dies_at a (candidate_of chain) place)) (map (chain_tried chains) ts) → map (chain_tried chains) (cond (not b) (t ∷ filter (λ t. not (is_forced penalty || is_overfull t.fit)) ts) (filter (λ t. not (is_forced penalty || is_overfull t.fit)) ts)) ≡ cond (not d) (chain_tried chains t ∷ filter (λ chain. not (dies_at a (candidate_of chain) place)) (map (chain_tried chains) ts)) (filter (λ chain. not (dies_at a (candidate_of chain) place)) (map (chain_tried chains) ts))
    by true true e rest = rest
    by true false e rest = absurd cc
    by false true e rest = absurd cc
    by false false e rest = ap (λ (l : List Chain). chain_tried chains t ∷ l) rest

-- those that pass a test are of the chains that are kept
pub passing-kept : (a : Attempt) (chains : List Chain) (place : ℕ) (p : Trial → Bool) (ts : List Trial) → All (IsTrial a chains place) ts → All (IsKept a chains) (filter p ts)
passing-kept a chains place p [] all = λ k d h. absurd (omega arith)
passing-kept a chains place p (t ∷ ts) all =
    by (p t) (passing-kept a chains place p ts (All-tail (IsTrial a chains place) t ts all))
  where
    by : (b : Bool) → All (IsKept a chains) (filter p ts) → All (IsKept a chains) (cond b (t ∷ filter p ts) (filter p ts))
    by true rest = All-cons (IsKept a chains) t (filter p ts) (All-head (IsTrial a chains place) t ts all).kept rest
    by false rest = rest

-- how far lines are measured
pub record IsMeasuring (a : Attempt) (place : ℕ) (before trials : List Trial) (at : ℕ) : Type 0 where
  pub length_is : length trials ≡ length before
  pub done : (k : ℕ) (d : Trial) → k < at → k < length before → get_or trials k d ≡ record (get_or before k d) { fit = line_fit a (get_or before k d).from place }
  pub left : (k : ℕ) (d : Trial) → at ≤ k → k < length before → get_or trials k d ≡ get_or before k d

pub measuring-none : (a : Attempt) (place : ℕ) (before : List Trial) → IsMeasuring a place before before 0
measuring-none a place before = record {
  length_is = refl;
  done = λ k d h below. absurd (omega arith);
  left = λ k d h below. refl;
}

pub measuring-on : (a : Attempt) (place : ℕ) (before trials : List Trial) (at : ℕ) (e new : Trial) → at < length before → new ≡ record (get_or trials at e) { fit = line_fit a (get_or trials at e).from place } → IsMeasuring a place before trials at → IsMeasuring a place before (set trials at new) (at + 1)
measuring-on a place before trials at e new below new_is m = record {
  length_is = length-set trials at new ∙ m.length_is;
  done = λ k d h inside. by k d inside (cases_lt k at) (omega arith);
  left = λ k d h inside. get_or-set_other trials at k new d (λ e. omega arith) ∙ m.left k d (omega arith) inside;
}
  where
    get_or-any : (xs : List Trial) (k : ℕ) (d e : Trial) → k < length xs → get_or xs k d ≡ get_or xs k e
    get_or-any [] k d e h = absurd (omega arith)
    get_or-any (x ∷ xs) zero d e h = refl
    get_or-any (x ∷ xs) (suc k) d e h = get_or-any xs k d e (omega arith)

    by : (k : ℕ) (d : Trial) → k < length before → (k < at) ⊎ (at ≤ k) → k < at + 1 → get_or (set trials at new) k d ≡ record (get_or before k d) { fit = line_fit a (get_or before k d).from place }
    by k d inside (inl low) h = get_or-set_other trials at k new d (λ e. omega arith) ∙ m.done k d low inside
    by k d inside (inr high) h =
        let same : k ≡ at = omega arith in
        let there : at < length trials = let l = m.length_is in omega arith in
        ap (λ (n : ℕ). get_or (set trials at new) n d) same
        ∙ get_or-set_same trials at new d there
        ∙ new_is
        ∙ ap (λ (t : Trial). record t { fit = line_fit a t.from place }) (m.left at e (omega arith) below ∙ get_or-any before at e d below)
        ∙ ap (λ (n : ℕ). record (get_or before n d) { fit = line_fit a (get_or before n d).from place }) (sym same)

pub measuring-all : (a : Attempt) (place : ℕ) (before trials : List Trial) (at : ℕ) → length before ≤ at → IsMeasuring a place before trials at → AreMeasured a place before trials
measuring-all a place before trials at over m = record {
  length_is = m.length_is;
  trials_are = λ k d h. m.done k d (omega arith) h;
}

-- lines of chains that are kept, when they are measured
pub measured-trials : (a : Attempt) (chains : List Chain) (place : ℕ) (before trials : List Trial) → AreMeasured a place before trials → All (IsKept a chains) before → All (λ t. next_place t.from.place ≤ place) before → All (IsTrial a chains place) trials
measured-trials a chains place before trials m kept ends = λ k d h.
    let below : k < length before = let l = m.length_is in omega arith in
    subst (IsTrial a chains place) (sym (m.trials_are k d below)) (record { kept = as-kept (get_or before k d) (line_fit a (get_or before k d).from place) (kept k d below); before = ends k d below; fit_is = refl })
  where
    as-kept : (t : Trial) (fit : Fit) → IsKept a chains t → IsKept a chains (record t { fit = fit })
    as-kept t fit is = record { there = is.there; from_is = is.from_is; few = is.few; total_is = is.total_is; small = is.small; start_is = is.start_is }

pub measured-same : (a : Attempt) (chains : List Chain) (place : ℕ) (before trials : List Trial) → AreMeasured a place before trials → map (chain_tried chains) trials ≡ map (chain_tried chains) before
measured-same a chains place before trials m = alike before trials m.length_is (λ k d h. ap (λ (t : Trial). t.chain) (m.trials_are k d h))
  where
    alike : (xs ys : List Trial) → length ys ≡ length xs → ((k : ℕ) (d : Trial) → k < length xs → (get_or ys k d).chain ≡ (get_or xs k d).chain) → map (chain_tried chains) ys ≡ map (chain_tried chains) xs
    alike [] [] l h = refl
    alike [] (y ∷ ys) l h = absurd (omega arith)
    alike (x ∷ xs) [] l h = absurd (omega arith)
    alike (x ∷ xs) (y ∷ ys) l h =
        let here : y.chain ≡ x.chain = h 0 y (omega arith) in
        let rest = alike xs ys (omega arith) (λ k d below. h (suc k) d (omega arith)) in
        λ i. chain_at chains (here i) ∷ rest i

-- a list of which all has been written
pub written-back : (n : ℕ) (before new : List Trial) → length new ≡ n → take n (new ++ drop (length new) before) ≡ new
written-back n before new is =
    ap (λ (n : ℕ). take n (new ++ drop (length new) before)) (sym is) ∙ take-append_seam new (drop (length new) before)
