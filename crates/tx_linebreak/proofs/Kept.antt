-- Keeping one chain for each candidate is enough, where those that go on alike are one.
use Rattle.std.proofs.Common.{◌≡◌, ℕ, zero, suc, ◌-◌, min, max, ◌≤◌, ℤ, Bool, true, false, cond, Option, Some, None, List, [], ◌∷◌, ◌++◌, map, length, ◌⊎◌, inl, inr, refl, sym, ap, subst, ◌∙◌, arith}
use Rattle.std.specs.Prelude.{filter, pos, unsigned_abs, ◌&&◌, ◌||◌, ◌==◌, not}
use Rattle.std.specs.List.{list_all}
use Rattle.std.proofs.lemmas.Bool.{lt-ltb, le-ltb, eqb-true}
use Rattle.tx_linebreak.specs.declared.line.Candidate.{Candidate}
use Rattle.tx_linebreak.specs.declared.line.Fit.{Fit}
use Rattle.tx_linebreak.specs.declared.line.Fit.TheVariants.{Overfull, Set}
use Rattle.tx_linebreak.specs.declared.line.Line.{Line}
use Rattle.tx_linebreak.specs.declared.piece.Class.{Class}
use Rattle.tx_linebreak.specs.declared.piece.Class.TheVariants.{VeryLoose, Loose, Decent, Tight}
use Rattle.tx_linebreak.specs.Breaks.{is_forced, penalty_at}
use Rattle.tx_linebreak.specs.Lines.{Attempt, demerits_of, fit_of, line_fit, line_totals}
use Rattle.tx_linebreak.specs.Classes.{class_number}
use Rattle.tx_linebreak.specs.Chains.{Chain, candidate_of, chains_before, chains_of, dies_at, dies_by, ending_at, ending_by, from_living, is_feasible, is_last_pass, is_overfull, is_stuck, is_tolerable, line_set, line_taken, lives_at, next_place, tolerance_of, with_line, with_line_taken}
use Rattle.tx_linebreak.specs.Chosen.{beats, best_of, better_of}
use Rattle.tx_linebreak.specs.Kept.{FindsBest, OneIsEnough, all_offered, as_seen, better, go_on_alike, kept_before, kept_by, last_by, last_chains, last_special, offered, same_candidate, same_place}
use Rattle.tx_linebreak.proofs.Members.{Member, all-member, contains-member, member-all, member-cases, member-contains, member-filter, member-left, member-map, member-of_filter, member-of_map, member-right, same_bool}
use Rattle.tx_linebreak.proofs.Order.{DifferInNumber, beats_both, beats_itself, beats_more, not_beaten_through}
use Rattle.tx_linebreak.proofs.Shapes.{width-seen}

-- the candidate that a chain ends with, as the lines behind it depend on it
abbrev pub end_seen : ℕ → Chain → Candidate
end_seen special chain = as_seen special (candidate_of chain)

-- a chain of a list that goes on as another chain, and isn't beaten by that one
pub record AsGood (special : ℕ) (list : List Chain) (chain : Chain) : Type 0 where
  pub one : Chain
  pub there : Member list one
  pub same : end_seen special one ≡ end_seen special chain
  pub unbeaten : beats chain one ≡ false

-- ---- offers

and_both : (a b : Bool) → (a && b) ≡ true → (a ≡ true) × (b ≡ true)
and_both true b h = (refl, h)
and_both false b h = absurd cc

same-class : (c d : Class) → class_number c ≡ class_number d → c ≡ d
same-class VeryLoose VeryLoose e = refl
same-class VeryLoose Loose e = absurd (omega arith)
same-class VeryLoose Decent e = absurd (omega arith)
same-class VeryLoose Tight e = absurd (omega arith)
same-class Loose VeryLoose e = absurd (omega arith)
same-class Loose Loose e = refl
same-class Loose Decent e = absurd (omega arith)
same-class Loose Tight e = absurd (omega arith)
same-class Decent VeryLoose e = absurd (omega arith)
same-class Decent Loose e = absurd (omega arith)
same-class Decent Decent e = refl
same-class Decent Tight e = absurd (omega arith)
same-class Tight VeryLoose e = absurd (omega arith)
same-class Tight Loose e = absurd (omega arith)
same-class Tight Decent e = absurd (omega arith)
same-class Tight Tight e = refl

same-place : (p q : Option ℕ) → same_place p q ≡ true → p ≡ q
same-place None None e = refl
same-place None (Some q) e = absurd cc
same-place (Some p) None e = absurd cc
same-place (Some p) (Some q) e = ap Some (eqb-true p q e)

pub same-candidate : (c d : Candidate) → same_candidate c d ≡ true → c ≡ d
same-candidate c d e =
    let outer = and_both (same_place c.place d.place && c.lines == d.lines) (class_number c.class == class_number d.class) e in
    let inner = and_both (same_place c.place d.place) (c.lines == d.lines) outer.0 in
    let place : c.place ≡ d.place = same-place c.place d.place inner.0 in
    let lines : c.lines ≡ d.lines = eqb-true c.lines d.lines inner.1 in
    let class : c.class ≡ d.class = same-class c.class d.class (eqb-true (class_number c.class) (class_number d.class) outer.1) in
    λ i. record { place = place i; lines = lines i; class = class i }

-- the better one of two is one of them, and neither beats it
better-is : (x y : Chain) → (better x y ≡ x) ⊎ (better x y ≡ y)
better-is x y = by (beats x y)
  where
    by : (b : Bool) → (cond b x y ≡ x) ⊎ (cond b x y ≡ y)
    by true = inl refl
    by false = inr refl

better-first : (x y : Chain) → beats x (better x y) ≡ false
better-first x y = by (beats x y) refl
  where
    by : (b : Bool) → beats x y ≡ b → beats x (cond b x y) ≡ false
    by true e = beats_itself x
    by false e = e

better-second : (x y : Chain) → beats y (better x y) ≡ false
better-second x y = by (beats x y) refl
  where
    by : (b : Bool) → beats x y ≡ b → beats y (cond b x y) ≡ false
    by true e = beats_both x y e
    by false e = beats_itself y

-- what is offered is there, or the better one of those that go on alike; what was there stays, or a better one
pub offered-among : (special : ℕ) (ys : List Chain) (x w : Chain) → Member (offered special ys x) w → Member ys w ⊎ (x ≡ w)
offered-among special [] x w (inl e) = inr e
offered-among special [] x w (inr h) = absurd h
offered-among special (y ∷ ys) x w h = by (go_on_alike special (candidate_of y) (candidate_of x)) (λ k. offered-among special ys x w k) h
  where
    by : (b : Bool) → (Member (offered special ys x) w → Member ys w ⊎ (x ≡ w)) → Member (cond b (better x y ∷ ys) (y ∷ offered special ys x)) w → Member (y ∷ ys) w ⊎ (x ≡ w)
    by true rest (inl e) = elim (better-is x y) [ inl is ↦ inr (sym is ∙ e) | inr is ↦ inl (inl (sym is ∙ e)) ]
    by true rest (inr k) = inl (inr k)
    by false rest (inl e) = inl (inl e)
    by false rest (inr k) = elim (rest k) [ inl m ↦ inl (inr m) | inr e ↦ inr e ]

itself : (special : ℕ) (list : List Chain) (x : Chain) → Member list x → AsGood special list x
itself special list x h = record { one = x; there = h; same = refl; unbeaten = beats_itself x }

behind : (special : ℕ) (y : Chain) (ys : List Chain) (x : Chain) → AsGood special ys x → AsGood special (y ∷ ys) x
behind special y ys x g = record { one = g.one; there = inr g.there; same = g.same; unbeaten = g.unbeaten }

-- the end of the better one of two that go on alike
better-same : (special : ℕ) (x y z : Chain) → end_seen special y ≡ end_seen special x → end_seen special x ≡ end_seen special z → end_seen special (better x y) ≡ end_seen special z
better-same special x y z e f = by (beats x y)
  where
    by : (b : Bool) → end_seen special (cond b x y) ≡ end_seen special z
    by true = f
    by false = e ∙ f

pub offered-old : (special : ℕ) (ys : List Chain) (x z : Chain) → Member ys z → AsGood special (offered special ys x) z
offered-old special [] x z h = absurd h
offered-old special (y ∷ ys) x z (inl e) = by (go_on_alike special (candidate_of y) (candidate_of x)) refl
  where
    by : (b : Bool) → go_on_alike special (candidate_of y) (candidate_of x) ≡ b → AsGood special (cond b (better x y ∷ ys) (y ∷ offered special ys x)) z
    by true t =
        let alike = same-candidate (end_seen special y) (end_seen special x) t in
        record {
          one = better x y;
          there = inl refl;
          same = better-same special x y z alike (sym alike ∙ ap (end_seen special) e);
          unbeaten = subst (λ (w : Chain). beats w (better x y) ≡ false) e (better-second x y);
        }
    by false t = itself special (y ∷ offered special ys x) z (inl e)
offered-old special (y ∷ ys) x z (inr h) = by (go_on_alike special (candidate_of y) (candidate_of x)) (offered-old special ys x z h)
  where
    by : (b : Bool) → AsGood special (offered special ys x) z → AsGood special (cond b (better x y ∷ ys) (y ∷ offered special ys x)) z
    by true rest = itself special (better x y ∷ ys) z (inr h)
    by false rest = behind special y (offered special ys x) z rest

pub offered-new : (special : ℕ) (ys : List Chain) (x : Chain) → AsGood special (offered special ys x) x
offered-new special [] x = itself special (x ∷ []) x (inl refl)
offered-new special (y ∷ ys) x = by (go_on_alike special (candidate_of y) (candidate_of x)) refl (offered-new special ys x)
  where
    by : (b : Bool) → go_on_alike special (candidate_of y) (candidate_of x) ≡ b → AsGood special (offered special ys x) x → AsGood special (cond b (better x y ∷ ys) (y ∷ offered special ys x)) x
    by true t rest = record {
      one = better x y;
      there = inl refl;
      same = better-same special x y x (same-candidate (end_seen special y) (end_seen special x) t) refl;
      unbeaten = better-first x y;
    }
    by false t rest = behind special y (offered special ys x) x rest

-- as good as what is as good
pub good-through : (special : ℕ) (list : List Chain) (y x : Chain) → end_seen special y ≡ end_seen special x → beats x y ≡ false → AsGood special list y → AsGood special list x
good-through special list y x same unbeaten g = record {
  one = g.one;
  there = g.there;
  same = g.same ∙ same;
  unbeaten = not_beaten_through x y g.one unbeaten g.unbeaten;
}

pub all_offered-among : (special : ℕ) (ys xs : List Chain) (w : Chain) → Member (all_offered special ys xs) w → Member ys w ⊎ Member xs w
all_offered-among special ys [] w h = inl h
all_offered-among special ys (x ∷ xs) w h = elim (all_offered-among special (offered special ys x) xs w h) [
  | inl k ↦ elim (offered-among special ys x w k) [ inl m ↦ inl m | inr e ↦ inr (inl e) ]
  | inr k ↦ inr (inr k)
]

pub all_offered-old : (special : ℕ) (ys xs : List Chain) (z : Chain) → Member ys z → AsGood special (all_offered special ys xs) z
all_offered-old special ys [] z h = itself special ys z h
all_offered-old special ys (x ∷ xs) z h =
    let g = offered-old special ys x z h in
    good-through special (all_offered special (offered special ys x) xs) g.one z g.same g.unbeaten (all_offered-old special (offered special ys x) xs g.one g.there)

pub all_offered-new : (special : ℕ) (ys xs : List Chain) (z : Chain) → Member xs z → AsGood special (all_offered special ys xs) z
all_offered-new special ys [] z h = absurd h
all_offered-new special ys (x ∷ xs) z (inl e) =
    let g = offered-new special ys x in
    subst (λ (w : Chain). AsGood special (all_offered special (offered special ys x) xs) w) e
    (good-through special (all_offered special (offered special ys x) xs) g.one x g.same g.unbeaten (all_offered-old special (offered special ys x) xs g.one g.there))
all_offered-new special ys (x ∷ xs) z (inr h) = all_offered-new special (offered special ys x) xs z h

-- ---- what the lines behind a candidate depend on

-- what is said of a candidate is said of it as the lines behind it depend on it
abbrev pub Sees : {X : Type 0} → ℕ → (Candidate → X) → Type 0
Sees special f = (c : Candidate) → f c ≡ f (as_seen special c)

seen-same : {X : Type 0} (special : ℕ) (f : Candidate → X) (c d : Candidate) → Sees special f → as_seen special c ≡ as_seen special d → f c ≡ f d
seen-same special f c d sees e = sees c ∙ ap f e ∙ sym (sees d)

-- a line without its number
abbrev pub unnumbered : Line → Line
unnumbered l = record l { number = 0 }

-- a line from each candidate, of which only the number depends on more
pub record GoesOn (special : ℕ) (f : Candidate → Line) : Type 0 where
  pub number : (c : Candidate) → (f c).number ≡ suc c.lines
  pub sees : Sees special (λ c. unnumbered (f c))

-- all shapes but the last one are those of special lines
special-far : (a : Attempt) → length a.shape - 1 ≤ last_special a
unfolding last_special
special-far a = by (unsigned_abs a.params.looseness == 0)
  where
    by : (b : Bool) → length a.shape - 1 ≤ cond b (length a.shape - 1) (max (length a.shape - 1) (length a.pieces))
    by true = omega arith
    by false = omega arith

fit-sees : (a : Attempt) (place : ℕ) → Sees (last_special a) (λ c. line_fit a c place)
unfolding line_fit
fit-sees a place c = ap (λ (w : ℤ). fit_of w (line_totals a c.place place)) (width-seen a.shape c.lines (last_special a) (special-far a))

feasible-sees : (a : Attempt) (place : ℕ) → Sees (last_special a) (λ c. is_feasible a c place)
unfolding is_feasible
feasible-sees a place c = ap (is_tolerable (tolerance_of a.params a.pass)) (fit-sees a place c)

dies-sees : (a : Attempt) (place : ℕ) → Sees (last_special a) (λ c. dies_at a c place)
unfolding dies_at
dies-sees a place c = by (penalty_at a.params a.pass a.pieces place)
  where
    by : (o : Option ℤ) → dies_by a c place o ≡ dies_by a (as_seen (last_special a) c) place o
    by None = refl
    by (Some penalty) = ap (λ (f : Fit). is_forced penalty || is_overfull f) (fit-sees a place c)

set-number : (a : Attempt) (c : Candidate) (place : ℕ) (penalty : ℤ) (f : Fit) → (line_set a c place penalty f).number ≡ suc c.lines
set-number a c place penalty Overfull = refl
set-number a c place penalty (Set badness class) = refl

set-sees : (a : Attempt) (special : ℕ) (c : Candidate) (place : ℕ) (penalty : ℤ) (f : Fit) → unnumbered (line_set a c place penalty f) ≡ unnumbered (line_set a (as_seen special c) place penalty f)
unfolding demerits_of
set-sees a special c place penalty Overfull = refl
set-sees a special c place penalty (Set badness class) = refl

pub set-goes_on : (a : Attempt) (place : ℕ) (penalty : ℤ) → GoesOn (last_special a) (λ c. line_set a c place penalty (line_fit a c place))
set-goes_on a place penalty = record {
  number = λ c. set-number a c place penalty (line_fit a c place);
  sees = λ c.
      set-sees a (last_special a) c place penalty (line_fit a c place)
      ∙ ap (λ (f : Fit). unnumbered (line_set a (as_seen (last_special a) c) place penalty f)) (fit-sees a place c);
}

pub taken-goes_on : (a : Attempt) (place : ℕ) (penalty : ℤ) → GoesOn (last_special a) (λ c. line_taken a c place penalty)
taken-goes_on a place penalty = record {
  number = λ c. set-number a c place penalty (line_fit a c place);
  sees = λ c. ap (λ (l : Line). record l { demerits = pos 0; forced = true }) ((set-goes_on a place penalty).sees c);
}

-- such lines behind two chains that go on alike
differ-in-number : (special : ℕ) (f : Candidate → Line) (x y : Chain) → GoesOn special f → end_seen special x ≡ end_seen special y → DifferInNumber (f (candidate_of x)) (f (candidate_of y)) x y
differ-in-number special f x y goes same =
    let line = seen-same special (λ c. unnumbered (f c)) (candidate_of x) (candidate_of y) goes.sees same in
    record {
      place = ap (λ (l : Line). l.place) line;
      class = ap (λ (l : Line). class_number l.class) line;
      demerits = ap (λ (l : Line). l.demerits) line;
      number = goes.number (candidate_of x);
      other = goes.number (candidate_of y);
      before = ap (λ (c : Candidate). c.place) same;
    }

one-more : (m n special : ℕ) → min m special ≡ min n special → min (suc m) special ≡ min (suc n) special
one-more m n special e = omega arith

-- and they go on alike with them
more-alike : (special : ℕ) (f : Candidate → Line) (x y : Chain) → GoesOn special f → end_seen special x ≡ end_seen special y → end_seen special (f (candidate_of x) ∷ x) ≡ end_seen special (f (candidate_of y) ∷ y)
more-alike special f x y goes same =
    let line = seen-same special (λ c. unnumbered (f c)) (candidate_of x) (candidate_of y) goes.sees same in
    let lines : min (f (candidate_of x)).number special ≡ min (f (candidate_of y)).number special =
    ap (λ (n : ℕ). min n special) (goes.number (candidate_of x))
    ∙ one-more (candidate_of x).lines (candidate_of y).lines special (ap (λ (c : Candidate). c.lines) same)
    ∙ sym (ap (λ (n : ℕ). min n special) (goes.number (candidate_of y))) in
    λ i. record { place = Some (line i).place; lines = lines i; class = (line i).class }

-- ---- one more line

-- some chains are among others, and one of them is as good as each of the others
pub record Stands (special : ℕ) (kept others : List Chain) : Type 0 where
  pub among : (y : Chain) → Member kept y → Member others y
  pub good : (x : Chain) → Member others x → AsGood special kept x

-- a test of candidates passes for all of these where it passes for all of the others
all-stands : (special : ℕ) (r : Candidate → Bool) (kept others : List Chain) → Sees special r → Stands special kept others → list_all (λ x. r (candidate_of x)) kept ≡ list_all (λ x. r (candidate_of x)) others
all-stands special r kept others sees s =
    same_bool (list_all (λ x. r (candidate_of x)) kept) (list_all (λ x. r (candidate_of x)) others)
    (λ e. member-all (λ x. r (candidate_of x)) others (λ x h. let g = s.good x h in sym (seen-same special r (candidate_of g.one) (candidate_of x) sees g.same) ∙ all-member (λ x. r (candidate_of x)) kept e g.one g.there))
    (λ e. member-all (λ x. r (candidate_of x)) kept (λ y h. all-member (λ x. r (candidate_of x)) others e y (s.among y h)))

-- those that pass a test of candidates
filter-stands : (special : ℕ) (r : Candidate → Bool) (kept others : List Chain) → Sees special r → Stands special kept others → Stands special (filter (λ x. r (candidate_of x)) kept) (filter (λ x. r (candidate_of x)) others)
filter-stands special r kept others sees s = record {
  among = λ y h. let k = member-of_filter (λ x. r (candidate_of x)) kept y h in member-filter (λ x. r (candidate_of x)) others y (s.among y k.0) k.1;
  good = λ x h.
      let k = member-of_filter (λ x. r (candidate_of x)) others x h in
      let g = s.good x k.0 in
      record {
        one = g.one;
        there = member-filter (λ x. r (candidate_of x)) kept g.one g.there (seen-same special r (candidate_of g.one) (candidate_of x) sees g.same ∙ k.1);
        same = g.same;
        unbeaten = g.unbeaten;
      };
}

-- with a line from each candidate
map-stands : (special : ℕ) (f : Candidate → Line) (kept others : List Chain) → GoesOn special f → Stands special kept others → Stands special (map (λ x. f (candidate_of x) ∷ x) kept) (map (λ x. f (candidate_of x) ∷ x) others)
map-stands special f kept others goes s = record {
  among = λ y h.
      let k = member-of_map (λ (x : Chain). f (candidate_of x) ∷ x) kept y h in
      subst (λ (w : Chain). Member (map (λ x. f (candidate_of x) ∷ x) others) w) k.2 (member-map (λ (x : Chain). f (candidate_of x) ∷ x) others k.0 (s.among k.0 k.1));
  good = λ x h.
      let k = member-of_map (λ (x : Chain). f (candidate_of x) ∷ x) others x h in
      let g = s.good k.0 k.1 in
      subst (λ (w : Chain). AsGood special (map (λ x. f (candidate_of x) ∷ x) kept) w) k.2
      (record {
        one = f (candidate_of g.one) ∷ g.one;
        there = member-map (λ (x : Chain). f (candidate_of x) ∷ x) kept g.one g.there;
        same = more-alike special f g.one k.0 goes g.same;
        unbeaten = beats_more (f (candidate_of k.0)) (f (candidate_of g.one)) k.0 g.one (differ-in-number special f k.0 g.one goes (sym g.same)) g.unbeaten;
      });
}

stuck-stands : (a : Attempt) (place : ℕ) (kept others : List Chain) → Stands (last_special a) kept others → is_stuck a place kept ≡ is_stuck a place others
stuck-stands a place kept others s =
    ap (λ (b : Bool). is_last_pass a.params a.pass && b && list_all (λ x. dies_at a (candidate_of x) place) kept) (all-stands (last_special a) (λ c. not (is_feasible a c place)) kept others (λ c. ap not (feasible-sees a place c)) s)
    ∙ ap (λ (b : Bool). is_last_pass a.params a.pass && list_all (λ x. not (is_feasible a (candidate_of x) place)) others && b) (all-stands (last_special a) (λ c. dies_at a c place) kept others (dies-sees a place) s)

pub from_living-stands : (a : Attempt) (place : ℕ) (penalty : ℤ) (kept others : List Chain) → Stands (last_special a) kept others → Stands (last_special a) (from_living a place penalty kept) (from_living a place penalty others)
unfolding with_line with_line_taken
from_living-stands a place penalty kept others s = by (is_stuck a place kept) (is_stuck a place others) (stuck-stands a place kept others s)
  where
    by : (b c : Bool) → b ≡ c → Stands (last_special a) (cond b (map (with_line_taken a place penalty) kept) (map (with_line a place penalty) (filter (λ x. is_feasible a (candidate_of x) place) kept))) (cond c (map (with_line_taken a place penalty) others) (map (with_line a place penalty) (filter (λ x. is_feasible a (candidate_of x) place) others)))
    by true true e = map-stands (last_special a) (λ c. line_taken a c place penalty) kept others (taken-goes_on a place penalty) s
    by true false e = absurd cc
    by false true e = absurd cc
    by false false e = map-stands (last_special a) (λ c. line_set a c place penalty (line_fit a c place)) _ _ (set-goes_on a place penalty) (filter-stands (last_special a) (λ c. is_feasible a c place) kept others (feasible-sees a place) s)

-- ---- from place to place

-- a chain that ends at or before a place lives there, if that is the next place or before
lives-ahead : (a : Attempt) (c : Candidate) (place : ℕ) → place ≤ next_place c.place → lives_at a c place ≡ true
lives-ahead a c zero h = refl
lives-ahead a c (suc place) h =
    rw (lives-ahead a c place (omega arith), lt-ltb place (next_place c.place) (omega arith)) refl

-- behind the places that it passes over, it lives as long as it doesn't die
lives-on : (a : Attempt) (c : Candidate) (place : ℕ) → next_place c.place ≤ place → lives_at a c (suc place) ≡ (lives_at a c place && not (dies_at a c place))
lives-on a c place h = rw (le-ltb place (next_place c.place) h) refl

-- each chain of these ends before the place
abbrev pub EndsBefore : ℕ → List Chain → Type 0
EndsBefore place list = (x : Chain) → Member list x → next_place (candidate_of x).place ≤ place

-- each of these ends there
ends-from_living : (a : Attempt) (place : ℕ) (penalty : ℤ) (list : List Chain) (x : Chain) → Member (from_living a place penalty list) x → next_place (candidate_of x).place ≡ suc place
unfolding with_line with_line_taken
ends-from_living a place penalty list x h = by (is_stuck a place list) h
  where
    set-place : (c : Candidate) (f : Fit) → (line_set a c place penalty f).place ≡ place
    set-place c Overfull = refl
    set-place c (Set badness class) = refl

    by : (b : Bool) → Member (cond b (map (with_line_taken a place penalty) list) (map (with_line a place penalty) (filter (λ x. is_feasible a (candidate_of x) place) list))) x → next_place (candidate_of x).place ≡ suc place
    by true k =
        let m = member-of_map (with_line_taken a place penalty) list x k in
        subst (λ (w : Chain). next_place (candidate_of w).place ≡ suc place) m.2 (ap suc (set-place (candidate_of m.0) (line_fit a (candidate_of m.0) place)))
    by false k =
        let m = member-of_map (with_line a place penalty) (filter (λ x. is_feasible a (candidate_of x) place) list) x k in
        subst (λ (w : Chain). next_place (candidate_of w).place ≡ suc place) m.2 (ap suc (set-place (candidate_of m.0) (line_fit a (candidate_of m.0) place)))

ends-ending_by : (a : Attempt) (place : ℕ) (o : Option ℤ) (list : List Chain) (x : Chain) → Member (ending_by a place o list) x → next_place (candidate_of x).place ≡ suc place
ends-ending_by a place None list x h = absurd h
ends-ending_by a place (Some penalty) list x h = ends-from_living a place penalty (filter (λ x. lives_at a (candidate_of x) place) list) x h

pub ends-chains_before : (a : Attempt) (place : ℕ) (x : Chain) → Member (chains_before a place) x → next_place (candidate_of x).place ≤ place
unfolding ending_at
ends-chains_before a zero x (inl e) = subst (λ (w : Chain). next_place (candidate_of w).place ≤ 0) e (omega arith)
ends-chains_before a zero x (inr h) = absurd h
ends-chains_before a (suc place) x h =
    elim (member-cases (chains_before a place) (ending_at a place (chains_before a place)) x h) [
      | inl k ↦ let before = ends-chains_before a place x k in omega arith
      | inr k ↦ let there = ends-ending_by a place (penalty_at a.params a.pass a.pieces place) (chains_before a place) x k in omega arith
    ]

-- the chains of which a living candidate is the end
abbrev living : Attempt → ℕ → List Chain → List Chain
living a place list = filter (λ x. lives_at a (candidate_of x) place) list

good-left : (special : ℕ) (list others : List Chain) (x : Chain) → AsGood special list x → AsGood special (list ++ others) x
good-left special list others x g = record { one = g.one; there = member-left list others g.one g.there; same = g.same; unbeaten = g.unbeaten }

good-right : (special : ℕ) (list others : List Chain) (x : Chain) → AsGood special others x → AsGood special (list ++ others) x
good-right special list others x g = record { one = g.one; there = member-right list others g.one g.there; same = g.same; unbeaten = g.unbeaten }

stands-itself : (special : ℕ) (list : List Chain) → Stands special list list
stands-itself special list = record { among = λ y h. h; good = λ x h. itself special list x h }

-- where there is no break nothing dies
dies-nowhere : (a : Attempt) (c : Candidate) (place : ℕ) → penalty_at a.params a.pass a.pieces place ≡ None → dies_at a c place ≡ false
unfolding dies_at
dies-nowhere a c place e = ap (λ (o : Option ℤ). dies_by a c place o) e

-- what is in the living ones behind a place, of chains that end before it
old-lives : (a : Attempt) (place : ℕ) (all new : List Chain) (y : Chain) → EndsBefore place all → Member (living a place all) y → dies_at a (candidate_of y) place ≡ false → Member (living a (suc place) (all ++ new)) y
old-lives a place all new y ends h dies =
    let k = member-of_filter (λ x. lives_at a (candidate_of x) place) all y h in
    member-filter (λ x. lives_at a (candidate_of x) (suc place)) (all ++ new) y (member-left all new y k.0)
    (lives-on a (candidate_of y) place (ends y k.0) ∙ rw (k.1, dies) refl)

lived : (a : Attempt) (place : ℕ) (all : List Chain) (x : Chain) → EndsBefore place all → Member all x → lives_at a (candidate_of x) (suc place) ≡ true → Member (living a place all) x × (dies_at a (candidate_of x) place ≡ false)
lived a place all x ends h lives =
    let parts = and_both (lives_at a (candidate_of x) place) (not (dies_at a (candidate_of x) place)) (sym (lives-on a (candidate_of x) place (ends x h)) ∙ lives) in
    (member-filter (λ x. lives_at a (candidate_of x) place) all x h parts.0, untrue (dies_at a (candidate_of x) place) parts.1)
  where
    untrue : (b : Bool) → not b ≡ true → b ≡ false
    untrue true e = absurd cc
    untrue false e = refl

stands-on : (a : Attempt) (place : ℕ) (all kept : List Chain) (o : Option ℤ) → penalty_at a.params a.pass a.pieces place ≡ o → EndsBefore place all → Stands (last_special a) kept (living a place all) → Stands (last_special a) (kept_by a place o kept) (living a (suc place) (all ++ ending_by a place o all))
stands-on a place all kept None is ends s = record {
  among = λ y h. old-lives a place all [] y ends (s.among y h) (dies-nowhere a (candidate_of y) place is);
  good = λ x h.
      let k = member-of_filter (λ x. lives_at a (candidate_of x) (suc place)) (all ++ []) x h in
      elim (member-cases all [] x k.0) [ inl m ↦ s.good x (lived a place all x ends m k.1).0 | inr m ↦ absurd m ];
}
stands-on a place all kept (Some penalty) is ends s =
    let special = last_special a in
    let new = from_living a place penalty (living a place all) in
    let made = from_living a place penalty kept in
    let t = from_living-stands a place penalty kept (living a place all) s in
    let old = filter (λ chain. not (dies_at a (candidate_of chain) place)) kept in
    record {
      among = λ y h. elim (member-cases old (all_offered special [] made) y h) [
        | inl k ↦ let m = member-of_filter (λ chain. not (dies_at a (candidate_of chain) place)) kept y k in old-lives a place all new y ends (s.among y m.0) (untrue (dies_at a (candidate_of y) place) m.1)
        | inr k ↦ elim (all_offered-among special [] made y k) [
          | inl m ↦ absurd m
          | inr m ↦
              let n = t.among y m in
              member-filter (λ x. lives_at a (candidate_of x) (suc place)) (all ++ new) y (member-right all new y n)
              (lives-ahead a (candidate_of y) (suc place) (let there = ends-from_living a place penalty (living a place all) y n in omega arith))
        ]
      ];
      good = λ x h.
          let k = member-of_filter (λ x. lives_at a (candidate_of x) (suc place)) (all ++ new) x h in
          elim (member-cases all new x k.0) [
            | inl m ↦
                let l = lived a place all x ends m k.1 in
                let g = s.good x l.0 in
                good-left special old (all_offered special [] made) x (record {
                  one = g.one;
                  there = member-filter (λ chain. not (dies_at a (candidate_of chain) place)) kept g.one g.there (ap not (seen-same special (λ c. dies_at a c place) (candidate_of g.one) (candidate_of x) (dies-sees a place) g.same ∙ l.1));
                  same = g.same;
                  unbeaten = g.unbeaten;
                })
            | inr m ↦
                let g = t.good x m in
                good-right special old (all_offered special [] made) x (good-through special (all_offered special [] made) g.one x g.same g.unbeaten (all_offered-new special [] made g.one g.there))
          ];
    }
  where
    untrue : (b : Bool) → not b ≡ true → b ≡ false
    untrue true e = absurd cc
    untrue false e = refl

-- what is kept before a place stands for all chains that live there
pub kept-stands : (a : Attempt) (place : ℕ) → Stands (last_special a) (kept_before a place) (living a place (chains_before a place))
unfolding ending_at
kept-stands a zero = stands-itself (last_special a) ([] ∷ [])
kept-stands a (suc place) =
    stands-on a place (chains_before a place) (kept_before a place) (penalty_at a.params a.pass a.pieces place) refl (ends-chains_before a place) (kept-stands a place)

pub last-stands : (a : Attempt) → Stands (last_special a) (last_chains a) (chains_of a)
unfolding last_chains chains_of ending_at
last-stands a = by (length a.pieces - 1) (penalty_at a.params a.pass a.pieces (length a.pieces - 1))
  where
    by : (last : ℕ) (o : Option ℤ) → Stands (last_special a) (last_by a last o (kept_before a last)) (ending_by a last o (chains_before a last))
    by last None = stands-itself (last_special a) []
    by last (Some penalty) = from_living-stands a last penalty (kept_before a last) (living a last (chains_before a last)) (kept-stands a last)

-- ---- the best one

-- a chain of a list that no other one beats; of an empty list there is none
pub record IsTop (list : List Chain) (best : Chain) : Type 0 where
  pub there : Member list best
  pub unbeaten : (x : Chain) → Member list x → beats x best ≡ false

abbrev pub TopOf : List Chain → Option Chain → Type 0
TopOf list None = list ≡ []
TopOf list (Some best) = IsTop list best

top-more : (chain : Chain) (chains : List Chain) (o : Option Chain) → TopOf chains o → IsTop (chain ∷ chains) (better_of chain o)
top-more chain chains None none = record {
  there = inl refl;
  unbeaten = λ x h. elim h [
    | inl e ↦ subst (λ (w : Chain). beats w chain ≡ false) e (beats_itself chain)
    | inr m ↦ absurd (subst (λ (l : List Chain). Member l x) none m)
  ];
}
top-more chain chains (Some other) top = by (beats other chain) refl
  where
    by : (b : Bool) → beats other chain ≡ b → IsTop (chain ∷ chains) (cond b other chain)
    by true is = record {
      there = inr top.there;
      unbeaten = λ x h. elim h [
        | inl e ↦ subst (λ (w : Chain). beats w other ≡ false) e (beats_both other chain is)
        | inr m ↦ top.unbeaten x m
      ];
    }
    by false is = record {
      there = inl refl;
      unbeaten = λ x h. elim h [
        | inl e ↦ subst (λ (w : Chain). beats w chain ≡ false) e (beats_itself chain)
        | inr m ↦ not_beaten_through x other chain (top.unbeaten x m) is
      ];
    }

top-best_of : (list : List Chain) → TopOf list (best_of list)
top-best_of [] = refl
top-best_of (chain ∷ chains) = top-more chain chains (best_of chains) (top-best_of chains)

none-among : (list : List Chain) → ((x : Chain) → Member list x → ⊥) → list ≡ []
none-among [] h = refl
none-among (x ∷ list) h = absurd (h x (inl refl))

-- chains that stand for all others have the best one of all
pub top-stands : (a : Attempt) (list : List Chain) (o : Option Chain) → TopOf list o → Stands (last_special a) list (chains_of a) → FindsBest a o
top-stands a list None none s = none-among (chains_of a) (λ x h. let g = s.good x h in subst (λ (l : List Chain). Member l g.one) none g.there)
top-stands a list (Some best) top s = record {
  is_one = contains-member (chains_of a) best (s.among best top.there);
  unbeaten = λ other h.
      let g = s.good other (member-contains (chains_of a) other h) in
      not_beaten_through other g.one best g.unbeaten (top.unbeaten g.one g.there);
}

-- of those that go on alike one each stands for those that stand for others
pub offered-stands : (special : ℕ) (xs others : List Chain) → Stands special xs others → Stands special (all_offered special [] xs) others
offered-stands special xs others s = record {
  among = λ y h. elim (all_offered-among special [] xs y h) [ inl k ↦ absurd k | inr k ↦ s.among y k ];
  good = λ x h.
      let g = s.good x h in
      good-through special (all_offered special [] xs) g.one x g.same g.unbeaten (all_offered-new special [] xs g.one g.there);
}

pub one-is-enough : (a : Attempt) → OneIsEnough a
one-is-enough a = top-stands a (last_chains a) (best_of (last_chains a)) (top-best_of (last_chains a)) (last-stands a)
