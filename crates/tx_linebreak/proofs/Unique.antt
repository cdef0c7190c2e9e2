-- There is but one chain to choose: two chains of a pass that don't beat each other have the same steps, and those with the same
-- steps are the same. So a pass has one best chain, and one that is asked for.
use Rattle.std.proofs.Common.{◌≡◌, ℕ, zero, suc, ◌-◌, ℤ, Bool, true, false, cond, Option, Some, None, List, [], ◌∷◌, map, length, drop, ◌⊎◌, inl, inr, refl, sym, ap, subst, ◌∙◌, arith}
use Rattle.std.specs.Prelude.{filter, ◌&&◌, ◌||◌, ◌==◌, nat_lt, int_lt, IfSome}
use Rattle.std.specs.Ordering.{int_eq}
use Rattle.std.proofs.lemmas.Bool.Decides.{nat_tests}
use Rattle.std.proofs.lemmas.Int.{ints}
use Rattle.tx_linebreak.specs.declared.answer.Chosen.{Chosen}
use Rattle.tx_linebreak.specs.declared.params.BreakParams.{BreakParams}
use Rattle.tx_linebreak.specs.declared.params.LineShape.{LineShape}
use Rattle.tx_linebreak.specs.declared.params.Pass.{Pass}
use Rattle.tx_linebreak.specs.declared.piece.Piece.{Piece}
use Rattle.tx_linebreak.specs.Breaks.{penalty_at}
use Rattle.tx_linebreak.specs.Lines.{Attempt, line_fit}
use Rattle.tx_linebreak.specs.Chains.{Chain, candidate_of, chains_before, chains_of, ending_at, ending_by, from_living, is_feasible, is_stuck, lives_at, next_place, with_line, with_line_taken}
use Rattle.tx_linebreak.specs.declared.found.Found.{Found}
use Rattle.tx_linebreak.specs.Chosen.{IsAnswer, IsAsked, IsBest, answer_by_trial, answer_from, answer_in, answer_of, answers, answers_by, asked_in, asked_of, attempt, beats, best_of, better_of, is_below, is_enough, is_preferred, line_count, lines_asked, steps_of, total}
use Rattle.tx_linebreak.specs.Shared.{IsFound, chain_at}
use Rattle.tx_linebreak.proofs.Asking.{IsAskedIn, asked-is_in, unbeaten-so}
use Rattle.tx_linebreak.proofs.Kept.{ends-chains_before}
use Rattle.tx_linebreak.proofs.Members.{Member, contains-member, member-cases, member-contains, member-of_filter, member-of_map}
use Rattle.tx_linebreak.proofs.Reaching.{place-by}

-- ---- chains by their steps

-- those of a list with the same steps are the same
abbrev AreKnownBySteps : List Chain → Type 0
AreKnownBySteps list = (x y : Chain) → Member list x → Member list y → steps_of x ≡ steps_of y → x ≡ y

-- one more line changes nothing, as long as the steps before it are the same
known-map : (f : Chain → Chain) (list : List Chain) → ((x : Chain) → drop 3 (steps_of (f x)) ≡ steps_of x) → AreKnownBySteps list → AreKnownBySteps (map f list)
known-map f list more known x y h k e =
    let m = member-of_map f list x h in
    let n = member-of_map f list y k in
    let same : steps_of (f m.0) ≡ steps_of (f n.0) = ap steps_of m.2 ∙ e ∙ sym (ap steps_of n.2) in
    sym m.2 ∙ ap f (known m.0 n.0 m.1 n.1 (sym (more m.0) ∙ ap (drop 3) same ∙ more n.0)) ∙ n.2

known-filter : (p : Chain → Bool) (list : List Chain) → AreKnownBySteps list → AreKnownBySteps (filter p list)
known-filter p list known x y h k e = known x y (member-of_filter p list x h).0 (member-of_filter p list y k).0 e

known-from_living : (a : Attempt) (place : ℕ) (penalty : ℤ) (list : List Chain) → AreKnownBySteps list → AreKnownBySteps (from_living a place penalty list)
unfolding with_line with_line_taken
known-from_living a place penalty list known = by (is_stuck a place list)
  where
    feasible : Chain → Bool
    feasible x = is_feasible a (candidate_of x) place

    by : (b : Bool) → AreKnownBySteps (cond b (map (with_line_taken a place penalty) list) (map (with_line a place penalty) (filter feasible list)))
    by true = known-map (with_line_taken a place penalty) list (λ x. refl) known
    by false = known-map (with_line a place penalty) (filter feasible list) (λ x. refl) (known-filter feasible list known)

known-ending_by : (a : Attempt) (place : ℕ) (o : Option ℤ) (list : List Chain) → AreKnownBySteps list → AreKnownBySteps (ending_by a place o list)
known-ending_by a place None list known = λ x y h k e. absurd h
known-ending_by a place (Some penalty) list known =
    let lives : Chain → Bool = λ x. lives_at a (candidate_of x) place in
    known-from_living a place penalty (filter lives list) (known-filter lives list known)

known-ending_at : (a : Attempt) (place : ℕ) (list : List Chain) → AreKnownBySteps list → AreKnownBySteps (ending_at a place list)
unfolding ending_at
known-ending_at a place list known = known-ending_by a place (penalty_at a.params a.pass a.pieces place) list known

-- ---- where chains end

-- the place behind a chain's last break
abbrev behind_end : Chain → ℕ
behind_end x = next_place (candidate_of x).place

-- the same by its steps
behind_steps : List ℕ → ℕ
behind_steps [] = 0
behind_steps (place ∷ steps) = suc place

end-by_steps : (x : Chain) → behind_steps (steps_of x) ≡ behind_end x
unfolding behind_steps
end-by_steps [] = refl
end-by_steps (line ∷ x) = refl

same-end : (x y : Chain) → steps_of x ≡ steps_of y → behind_end x ≡ behind_end y
same-end x y e = sym (end-by_steps x) ∙ ap behind_steps e ∙ end-by_steps y

end-map : (f : Chain → Chain) (place : ℕ) (list : List Chain) → ((x : Chain) → behind_end (f x) ≡ suc place) → (x : Chain) → Member (map f list) x → behind_end x ≡ suc place
end-map f place list ends x h = let m = member-of_map f list x h in sym (ap behind_end m.2) ∙ ends m.0

end-from_living : (a : Attempt) (place : ℕ) (penalty : ℤ) (list : List Chain) (x : Chain) → Member (from_living a place penalty list) x → behind_end x ≡ suc place
unfolding with_line with_line_taken
end-from_living a place penalty list x h = by (is_stuck a place list) h
  where
    ends : (y : Chain) → behind_end (with_line a place penalty y) ≡ suc place
    ends y = ap suc (place-by a (candidate_of y) place penalty (line_fit a (candidate_of y) place))

    by : (b : Bool) → Member (cond b (map (with_line_taken a place penalty) list) (map (with_line a place penalty) (filter (λ y. is_feasible a (candidate_of y) place) list))) x → behind_end x ≡ suc place
    by true k = end-map (with_line_taken a place penalty) place list ends x k
    by false k = end-map (with_line a place penalty) place (filter (λ y. is_feasible a (candidate_of y) place) list) ends x k

end-ending_by : (a : Attempt) (place : ℕ) (o : Option ℤ) (list : List Chain) (x : Chain) → Member (ending_by a place o list) x → behind_end x ≡ suc place
end-ending_by a place None list x h = absurd h
end-ending_by a place (Some penalty) list x h = end-from_living a place penalty (filter (λ y. lives_at a (candidate_of y) place) list) x h

end-ending_at : (a : Attempt) (place : ℕ) (list : List Chain) (x : Chain) → Member (ending_at a place list) x → behind_end x ≡ suc place
unfolding ending_at
end-ending_at a place list x h = end-ending_by a place (penalty_at a.params a.pass a.pieces place) list x h

-- ---- all chains of a pass

known-before : (a : Attempt) (place : ℕ) → AreKnownBySteps (chains_before a place)
known-before a zero x y (inl h) (inl k) e = sym h ∙ k
known-before a zero x y (inr h) k e = absurd h
known-before a zero x y h (inr k) e = absurd k
known-before a (suc place) x y h k e =
    by (known-before a place) (member-cases earlier (ending_at a place earlier) x h) (member-cases earlier (ending_at a place earlier) y k)
  where
    earlier : List Chain
    earlier = chains_before a place

    by : AreKnownBySteps earlier → Member earlier x ⊎ Member (ending_at a place earlier) x → Member earlier y ⊎ Member (ending_at a place earlier) y → x ≡ y
    by known (inl m) (inl n) = known x y m n e
    by known (inl m) (inr n) = absurd (omega (arith, ends-chains_before a place x m, end-ending_at a place earlier y n, same-end x y e))
    by known (inr m) (inl n) = absurd (omega (arith, ends-chains_before a place y n, end-ending_at a place earlier x m, same-end x y e))
    by known (inr m) (inr n) = known-ending_at a place earlier known x y m n e

known-all : (a : Attempt) → AreKnownBySteps (chains_of a)
unfolding chains_of
known-all a = let last = length a.pieces - 1 in known-ending_at a last (chains_before a last) (known-before a last)

-- ---- chains that don't beat each other

same-number : (m n : ℕ) (p q : Bool) → (nat_lt m n || (m == n && p)) ≡ false → (nat_lt n m || (n == m && q)) ≡ false → m ≡ n
same-number m n p q e f = grind (arith, nat_tests)

same-rest : (m n : ℕ) (p q : Bool) → (nat_lt m n || (m == n && p)) ≡ false → (nat_lt n m || (n == m && q)) ≡ false → p ≡ false
same-rest m n p q e f = grind (arith, nat_tests)

level : (xs ys : List ℕ) → is_below xs ys ≡ false → is_below ys xs ≡ false → xs ≡ ys
level [] [] e f = refl
level [] (n ∷ ns) e f = absurd cc
level (m ∷ ms) [] e f = absurd cc
level (m ∷ ms) (n ∷ ns) e f =
    let first : m ≡ n = same-number m n (is_below ms ns) (is_below ns ms) e f in
    let rest : ms ≡ ns = level ms ns (same-rest m n (is_below ms ns) (is_below ns ms) e f) (same-rest n m (is_below ns ms) (is_below ms ns) f e) in
    λ i. first i ∷ rest i

same-total : (s t : ℤ) (p q : Bool) → (int_lt s t || (int_eq s t && p)) ≡ false → (int_lt t s || (int_eq t s && q)) ≡ false → p ≡ false
same-total s t p q e f = grind (arith, ints)

same-steps : (x y : Chain) → beats x y ≡ false → beats y x ≡ false → steps_of x ≡ steps_of y
unfolding beats
same-steps x y e f =
    let under : Bool = is_below (steps_of x) (steps_of y) in
    let over : Bool = is_below (steps_of y) (steps_of x) in
    level (steps_of x) (steps_of y) (same-total (total y) (total x) under over f e) (same-total (total x) (total y) over under e f)

-- ---- the best one

-- what is found doesn't beat a chain that none of the list beats
found-level : (x : Chain) (list : List Chain) → ((y : Chain) → Member list y → beats y x ≡ false) → IfSome (best_of list) (λ y. beats y x ≡ false)
found-level x [] none = tt
found-level x (chain ∷ chains) none = by (best_of chains) (found-level x chains (λ y h. none y (inr h)))
  where
    either : (b : Bool) (other : Chain) → beats other x ≡ false → beats (cond b other chain) x ≡ false
    either true other e = e
    either false other e = none chain (inl refl)

    by : (o : Option Chain) → IfSome o (λ y. beats y x ≡ false) → beats (better_of chain o) x ≡ false
    by None e = none chain (inl refl)
    by (Some other) e = either (beats other chain) other e

-- a chain that none of the list beats, and that beats all others of it, is found
found-is : (x : Chain) (list : List Chain) → Member list x → ((y : Chain) → Member list y → beats y x ≡ false) → ((y : Chain) → Member list y → beats x y ≡ false → y ≡ x) → best_of list ≡ Some x
found-is x [] h none others = absurd h
found-is x (chain ∷ chains) (inl e) none others =
    subst (λ (w : Chain). Some (better_of w (best_of chains)) ≡ Some x) (sym e) (by (best_of chains) (found-level x chains (λ y h. none y (inr h))))
  where
    by : (o : Option Chain) → IfSome o (λ y. beats y x ≡ false) → Some (better_of x o) ≡ Some x
    by None h = refl
    by (Some other) h = ap (λ (b : Bool). Some (cond b other x)) h
found-is x (chain ∷ chains) (inr h) none others =
    ap (λ (o : Option Chain). Some (better_of chain o)) (found-is x chains h (λ y k. none y (inr k)) (λ y k. others y (inr k)))
    ∙ by (beats x chain) refl
  where
    by : (b : Bool) → beats x chain ≡ b → Some (cond b x chain) ≡ Some x
    by true e = refl
    by false e = ap Some (others chain (inl refl) e)

pub best-found : (a : Attempt) (chain : Chain) → IsBest a chain → best_of (chains_of a) ≡ Some chain
best-found a chain best = found-is chain (chains_of a) there none others
  where
    there : Member (chains_of a) chain
    there = member-contains (chains_of a) chain best.is_one

    none : (y : Chain) → Member (chains_of a) y → beats y chain ≡ false
    none y h = best.unbeaten y (contains-member (chains_of a) y h)

    others : (y : Chain) → Member (chains_of a) y → beats chain y ≡ false → y ≡ chain
    others y h e = known-all a y chain h there (same-steps y chain (none y h) e)

-- ---- the one that is asked for

-- it is the one that is found by looking at every chain
pub asked-found : (a : Attempt) (best chain : Chain) → IsBest a best → IsAsked a best chain → asked_in a best ≡ chain
asked-found a best chain b k = known-all a found chain there one-there (same-steps found chain over under)
  where
    asked : ℕ
    asked = lines_asked a.params.looseness (line_count best)

    found : Chain
    found = asked_of asked best (chains_of a)

    is_in : IsAskedIn asked best (chains_of a) found
    is_in = asked-is_in asked best (chains_of a)

    there : Member (chains_of a) found
    there = elim is_in.there [
      | inl e ↦ subst (λ (x : Chain). Member (chains_of a) x) e (member-contains (chains_of a) best b.is_one)
      | inr h ↦ h
    ]

    one-there : Member (chains_of a) chain
    one-there = member-contains (chains_of a) chain k.is_one

    not-found : is_preferred asked found chain ≡ false
    not-found = k.unpreferred found (contains-member (chains_of a) found there)

    not-one : is_preferred asked chain found ≡ false
    not-one = is_in.unpreferred chain one-there

    over : beats found chain ≡ false
    over = unbeaten-so (line_count best) asked found chain is_in.between k.between not-found not-one

    under : beats chain found ≡ false
    under = unbeaten-so (line_count best) asked chain found k.between is_in.between not-one not-found

-- a pass gives the answer where the lines of the chain that it finds are enough
answers-by : (a : Attempt) (best chain : Chain) → IsBest a best → IsAsked a best chain → answers a ≡ is_enough a (line_count best) (line_count chain)
unfolding answers
answers-by a best chain b k =
    ap (answers_by a) (best-found a best b) ∙ ap (λ (x : Chain). is_enough a (line_count best) (line_count x)) (asked-found a best chain b k)

pub answers-found : (a : Attempt) (chains : List Chain) (found : Found) → IsFound a chains found → answers a ≡ is_enough a found.best found.lines
answers-found a chains found f =
    answers-by a f.best (chain_at chains found.chain) f.is_best f.is_asked
    ∙ (λ i. is_enough a (sym f.best_has i) (sym f.lines_are i))

pub answers-none : (a : Attempt) → chains_of a ≡ [] → answers a ≡ false
unfolding answers
answers-none a none = ap (λ (list : List Chain). answers_by a (best_of list)) none

-- the answer is the one that is found by looking at every chain
pub answer-found : (pieces : List Piece) (shape : List LineShape) (params : BreakParams) (answer : Chosen) → IsAnswer pieces shape params answer → answer_by_trial pieces shape params ≡ Some answer
unfolding answer_by_trial
answer-found pieces shape params answer h =
    let a : Attempt = attempt pieces shape params h.pass in
    ap (answer_from pieces shape params) h.is_chosen.is_first
    ∙ ap (answer_in a) (best-found a h.best h.is_chosen.is_best)
    ∙ ap (λ (x : Chain). Some (answer_of h.pass (line_count h.best) x)) (asked-found a h.best h.chain h.is_chosen.is_best h.is_chosen.is_asked)
    ∙ ap Some (sym h.answer_is)
