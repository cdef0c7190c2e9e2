-- The chain that \looseness asks for: which one of two is preferred is an order, in which the kept chains have the greatest of all.
use Rattle.std.proofs.Common.{◌≡◌, ℕ, zero, suc, ◌+◌, ◌-◌, ◌<◌, ◌≤◌, min, max, ℤ, Bool, true, false, cond, Option, Some, None, List, [], ◌∷◌, map, length, take, get_or, ◌⊎◌, inl, inr, refl, sym, ap, subst, arith}
use Rattle.std.specs.Prelude.{All, Contains, filter, unsigned_abs, int_lt, pos, ◌==◌, ◌&&◌, ◌||◌}
use Rattle.std.proofs.lemmas.Bool.{eqb-true}
use Rattle.std.proofs.lemmas.Bool.Decides.{nat_tests}
use Rattle.std.proofs.lemmas.List.Elements.{All-contains, All-more, All-nil, All-weaker, Contains-get_or}
use Rattle.tx_linebreak.specs.declared.line.Candidate.{Candidate}
use Rattle.tx_linebreak.specs.declared.link.Link.{Link}
use Rattle.tx_linebreak.specs.Breaks.{penalty_at}
use Rattle.tx_linebreak.specs.Chains.{Chain, candidate_of, chains_before, chains_of, ending_at, ending_by, from_living, is_feasible, is_stuck, lives_at, with_line, with_line_taken}
use Rattle.tx_linebreak.specs.Chosen.{IsAsked, IsBest, asked_of, beats, is_between, is_nearer, is_preferred, line_count, lines_asked, preferred_of}
use Rattle.tx_linebreak.specs.Kept.{all_offered, last_chains, last_special}
use Rattle.tx_linebreak.specs.Lines.{Attempt, line_fit}
use Rattle.tx_linebreak.specs.Shared.{chain_of}
use Rattle.tx_linebreak.proofs.Kept.{Stands, last-stands, offered-stands}
use Rattle.tx_linebreak.proofs.Members.{Member, contains-member, member-cases, member-contains, member-map, member-of_filter, member-of_map}
use Rattle.tx_linebreak.proofs.Order.{beats_both, beats_itself, not_beaten_through}
use Rattle.tx_linebreak.proofs.Reaching.{number-by}

-- ---- the order, by numbers of lines

-- what is preferred, with what stands for the comparison of chains that have equally many lines
abbrev by_lines : ℕ → ℕ → ℕ → Bool → Bool
by_lines asked m n under = is_nearer asked m n || (m == n && under)

by_lines_itself : (asked m : ℕ) (p : Bool) → p ≡ false → by_lines asked m m p ≡ false
by_lines_itself asked m p e = grind (arith, nat_tests)

by_lines_through : (asked l o k : ℕ) (p q r : Bool) → (p ≡ false → q ≡ true → r ≡ false) → by_lines asked l o p ≡ false → by_lines asked k o q ≡ true → by_lines asked l k r ≡ false
by_lines_through asked l o k p q r h e f = grind (arith, nat_tests)

by_lines_worse : (asked l m n : ℕ) (p q : Bool) → l ≡ m → (p ≡ false → q ≡ false) → by_lines asked l n p ≡ false → by_lines asked m n q ≡ false
by_lines_worse asked l m n p q same h e = grind (arith, nat_tests)

by_lines_unbeaten : (n m : ℕ) (p : Bool) → p ≡ false → by_lines n m n p ≡ false
by_lines_unbeaten n m p e = grind (arith, nat_tests)

between_itself : (n asked : ℕ) → is_between n asked n ≡ true
between_itself n asked = grind (arith, nat_tests)

between_more : (from asked m n : ℕ) (p : Bool) → is_between from asked n ≡ true → by_lines asked m n p ≡ true → is_between from asked m ≡ true
between_more from asked m n p e f = grind (arith, nat_tests)

-- two between which neither is preferred have equally many lines, and then neither beats the other
between_level : (from asked m n : ℕ) (p q : Bool) → is_between from asked m ≡ true → is_between from asked n ≡ true → by_lines asked m n p ≡ false → by_lines asked n m q ≡ false → p ≡ false
between_level from asked m n p q e f g h = grind (arith, nat_tests)

-- ---- the order of chains

pub preferred-itself : (asked : ℕ) (x : Chain) → is_preferred asked x x ≡ false
unfolding is_preferred
preferred-itself asked x = by_lines_itself asked (line_count x) (beats x x) (beats_itself x)

pub preferred-through : (asked : ℕ) (x y z : Chain) → is_preferred asked x y ≡ false → is_preferred asked z y ≡ true → is_preferred asked x z ≡ false
unfolding is_preferred
preferred-through asked x y z e f =
    by_lines_through asked (line_count x) (line_count y) (line_count z) (beats x y) (beats z y) (beats x z) (λ p q. not_beaten_through x y z p (beats_both z y q)) e f

-- with equally many lines, what isn't beaten is preferred to no more
pub preferred-worse : (asked : ℕ) (x y z : Chain) → line_count x ≡ line_count y → beats y x ≡ false → is_preferred asked x z ≡ false → is_preferred asked y z ≡ false
unfolding is_preferred
preferred-worse asked x y z same unbeaten e =
    by_lines_worse asked (line_count x) (line_count y) (line_count z) (beats x z) (beats y z) same (λ p. not_beaten_through y x z unbeaten p) e

pub between-preferred : (from asked : ℕ) (x y : Chain) → is_between from asked (line_count y) ≡ true → is_preferred asked x y ≡ true → is_between from asked (line_count x) ≡ true
unfolding is_preferred
between-preferred from asked x y e f = between_more from asked (line_count x) (line_count y) (beats x y) e f

pub unbeaten-so : (from asked : ℕ) (x y : Chain) → is_between from asked (line_count x) ≡ true → is_between from asked (line_count y) ≡ true → is_preferred asked x y ≡ false → is_preferred asked y x ≡ false → beats x y ≡ false
unfolding is_preferred
unbeaten-so from asked x y e f g h = between_level from asked (line_count x) (line_count y) (beats x y) (beats y x) e f g h

-- ---- the chain of a list that is asked for

-- it is one of the list, or the best one, and no other one of the list is preferred to it
pub record IsAskedIn (asked : ℕ) (best : Chain) (list : List Chain) (chosen : Chain) : Type 0 where
  pub there : (best ≡ chosen) ⊎ Member list chosen
  pub between : is_between (line_count best) asked (line_count chosen) ≡ true
  pub unpreferred : (x : Chain) → Member list x → is_preferred asked x chosen ≡ false

asked-more : (asked : ℕ) (best chain : Chain) (chains : List Chain) (other : Chain) → IsAskedIn asked best chains other → IsAskedIn asked best (chain ∷ chains) (preferred_of asked chain other)
asked-more asked best chain chains other i = by (is_preferred asked chain other) refl
  where
    by : (b : Bool) → is_preferred asked chain other ≡ b → IsAskedIn asked best (chain ∷ chains) (cond b chain other)
    by true is = record {
      there = inr (inl refl);
      between = between-preferred (line_count best) asked chain other i.between is;
      unpreferred = λ x h. elim h [
        | inl e ↦ subst (λ (w : Chain). is_preferred asked w chain ≡ false) e (preferred-itself asked chain)
        | inr m ↦ preferred-through asked x other chain (i.unpreferred x m) is
      ];
    }
    by false is = record {
      there = elim i.there [ inl e ↦ inl e | inr m ↦ inr (inr m) ];
      between = i.between;
      unpreferred = λ x h. elim h [
        | inl e ↦ subst (λ (w : Chain). is_preferred asked w other ≡ false) e is
        | inr m ↦ i.unpreferred x m
      ];
    }

pub asked-is_in : (asked : ℕ) (best : Chain) (list : List Chain) → IsAskedIn asked best list (asked_of asked best list)
asked-is_in asked best [] = record { there = inl refl; between = between_itself (line_count best) asked; unpreferred = λ x h. absurd h }
asked-is_in asked best (chain ∷ chains) = asked-more asked best chain chains (asked_of asked best chains) (asked-is_in asked best chains)

-- ---- where \looseness is 0

lines_as_many : (z : ℤ) (n : ℕ) → unsigned_abs z ≡ 0 → lines_asked z n ≡ n
lines_as_many z n none = by (int_lt z (pos 0))
  where
    by : (b : Bool) → cond b (n - unsigned_abs z) (n + unsigned_abs z) ≡ n
    by true = omega (arith, none)
    by false = omega (arith, none)

unbeaten-only : (best other : Chain) → beats other best ≡ false → is_preferred (line_count best) other best ≡ false
unfolding is_preferred
unbeaten-only best other e = by_lines_unbeaten (line_count best) (line_count other) (beats other best) e

-- the best chain is asked for
pub best-asked : (a : Attempt) (best : Chain) → (unsigned_abs a.params.looseness == 0) ≡ true → IsBest a best → IsAsked a best best
best-asked a best none b =
    let n : ℕ = line_count best in
    let same : lines_asked a.params.looseness n ≡ n = lines_as_many a.params.looseness n (eqb-true (unsigned_abs a.params.looseness) 0 none) in
    record {
      is_one = b.is_one;
      between = between_itself n (lines_asked a.params.looseness n);
      unpreferred = λ other h.
          subst (λ (asked : ℕ). is_preferred asked other best ≡ false) (sym same) (unbeaten-only best other (b.unbeaten other h));
    }

-- ---- how many lines chains have

-- each of these has at most so many
abbrev HasAtMost : ℕ → List Chain → Type 0
HasAtMost most list = (x : Chain) → Member list x → line_count x ≤ most

few-from_living : (a : Attempt) (place : ℕ) (penalty : ℤ) (list : List Chain) → HasAtMost place list → HasAtMost (suc place) (from_living a place penalty list)
unfolding with_line with_line_taken
few-from_living a place penalty list few x h = by (is_stuck a place list) h
  where
    next : (y : Chain) → line_count y ≤ place → line_count (with_line a place penalty y) ≤ suc place
    next y l = subst (λ (n : ℕ). n ≤ suc place) (sym (number-by a (candidate_of y) place penalty (line_fit a (candidate_of y) place))) (omega (arith, l))

    by : (b : Bool) → Member (cond b (map (with_line_taken a place penalty) list) (map (with_line a place penalty) (filter (λ y. is_feasible a (candidate_of y) place) list))) x → line_count x ≤ suc place
    by true k =
        let m = member-of_map (with_line_taken a place penalty) list x k in
        subst (λ (w : Chain). line_count w ≤ suc place) m.2 (next m.0 (few m.0 m.1))
    by false k =
        let m = member-of_map (with_line a place penalty) (filter (λ y. is_feasible a (candidate_of y) place) list) x k in
        subst (λ (w : Chain). line_count w ≤ suc place) m.2 (next m.0 (few m.0 (member-of_filter (λ y. is_feasible a (candidate_of y) place) list m.0 m.1).0))

few-ending_by : (a : Attempt) (place : ℕ) (o : Option ℤ) (list : List Chain) → HasAtMost place list → HasAtMost (suc place) (ending_by a place o list)
few-ending_by a place None list few x h = absurd h
few-ending_by a place (Some penalty) list few x h =
    few-from_living a place penalty (filter (λ y. lives_at a (candidate_of y) place) list)
    (λ y k. few y (member-of_filter (λ y. lives_at a (candidate_of y) place) list y k).0) x h

few-before : (a : Attempt) (place : ℕ) → HasAtMost place (chains_before a place)
unfolding ending_at
few-before a zero x (inl e) = subst (λ (w : Chain). line_count w ≤ 0) e (omega arith)
few-before a zero x (inr h) = absurd h
few-before a (suc place) x h =
    elim (member-cases (chains_before a place) (ending_at a place (chains_before a place)) x h) [
      | inl k ↦ let before = few-before a place x k in omega (arith, before)
      | inr k ↦ few-ending_by a place (penalty_at a.params a.pass a.pieces place) (chains_before a place) (few-before a place) x k
    ]

-- no chain has more lines than there are pieces
few-of : (a : Attempt) → 0 < length a.pieces → HasAtMost (length a.pieces) (chains_of a)
unfolding chains_of ending_at
few-of a some x h =
    let last = length a.pieces - 1 in
    let few = few-ending_by a last (penalty_at a.params a.pass a.pieces last) (chains_before a last) (few-before a last) x h in
    omega (arith, few, some)

-- ---- where \looseness isn't 0

-- the number of the last special line is past all of them
far : (a : Attempt) → (unsigned_abs a.params.looseness == 0) ≡ false → length a.pieces ≤ last_special a
unfolding last_special
far a some = subst (λ (b : Bool). length a.pieces ≤ cond b (length a.shape - 1) (max (length a.shape - 1) (length a.pieces))) (sym some) (omega arith)

same-count : (m n most special : ℕ) → min m special ≡ min n special → m ≤ most → n ≤ most → most ≤ special → m ≡ n
same-count m n most special e f g h = omega (arith, e, f, g, h)

-- so chains that go on alike have equally many lines, and the kept ones stand for all others
pub asked-of-all : (a : Attempt) (chains : List Chain) (links : List Link) (best chosen : Link) → 0 < length a.pieces → (unsigned_abs a.params.looseness == 0) ≡ false
    → map (chain_of chains) links ≡ all_offered (last_special a) [] (last_chains a)
    → Contains links chosen → is_between best.line.number (lines_asked a.params.looseness best.line.number) chosen.line.number ≡ true
    → All (λ link. is_preferred (lines_asked a.params.looseness best.line.number) (chain_of chains link) (chain_of chains chosen) ≡ false) links
    → IsAsked a (chain_of chains best) (chain_of chains chosen)
asked-of-all a chains links best chosen some apart is among between unpreferred =
    let special : ℕ = last_special a in
    let kept : List Chain = map (chain_of chains) links in
    let asked : ℕ = lines_asked a.params.looseness best.line.number in
    let one : Chain = chain_of chains chosen in
    let s : Stands special kept (chains_of a) =
    subst (λ (list : List Chain). Stands special list (chains_of a)) (sym is) (offered-stands special (last_chains a) (chains_of a) (last-stands a)) in
    record {
      is_one = contains-member (chains_of a) one (s.among one (member-map (chain_of chains) links chosen (member-contains links chosen among)));
      between = between;
      unpreferred = λ other h.
          let there : Member (chains_of a) other = member-contains (chains_of a) other h in
          let g = s.good other there in
          let k = member-of_map (chain_of chains) links g.one g.there in
          let not : is_preferred asked g.one one ≡ false =
          subst (λ (y : Chain). is_preferred asked y one ≡ false) k.2 (All-contains (λ link. is_preferred asked (chain_of chains link) one ≡ false) links k.0 unpreferred (contains-member links k.0 k.1)) in
          let alike : min (line_count g.one) special ≡ min (line_count other) special = ap (λ (c : Candidate). c.lines) g.same in
          let same : line_count g.one ≡ line_count other =
          same-count (line_count g.one) (line_count other) (length a.pieces) special alike (few-of a some g.one (s.among g.one g.there)) (few-of a some other there) (far a apart) in
          preferred-worse asked g.one other one same g.unbeaten not;
    }

-- ---- one of some links

-- to the chain of this link none of the first links' is preferred
pub record IsAskedTo (chains : List Chain) (asked : ℕ) (best : Link) (links : List Link) (at : ℕ) (chosen : Link) : Type 0 where
  pub among : Contains links chosen
  pub between : is_between best.line.number asked chosen.line.number ≡ true
  pub unpreferred : All (λ link. is_preferred asked (chain_of chains link) (chain_of chains chosen) ≡ false) (take at links)

pub asked-begins : (chains : List Chain) (asked : ℕ) (best : Link) (links : List Link) → Contains links best → IsAskedTo chains asked best links 0 best
asked-begins chains asked best links among = record {
  among = among;
  between = between_itself best.line.number asked;
  unpreferred = All-nil (λ link. is_preferred asked (chain_of chains link) (chain_of chains best) ≡ false);
}

pub asked-stays : (chains : List Chain) (asked : ℕ) (best : Link) (links : List Link) (at : ℕ) (chosen d : Link) → at < length links
    → is_preferred asked (chain_of chains (get_or links at d)) (chain_of chains chosen) ≡ false → IsAskedTo chains asked best links at chosen → IsAskedTo chains asked best links (at + 1) chosen
asked-stays chains asked best links at chosen d below worse b = record {
  among = b.among;
  between = b.between;
  unpreferred = All-more (λ l. is_preferred asked (chain_of chains l) (chain_of chains chosen) ≡ false) links at d below b.unpreferred worse;
}

pub asked-changes : (chains : List Chain) (asked : ℕ) (best : Link) (links : List Link) (at : ℕ) (chosen d : Link) → at < length links
    → is_preferred asked (chain_of chains (get_or links at d)) (chain_of chains chosen) ≡ true → IsAskedTo chains asked best links at chosen → IsAskedTo chains asked best links (at + 1) (get_or links at d)
asked-changes chains asked best links at chosen d below better b =
    let link : Link = get_or links at d in
    record {
      among = Contains-get_or links at d below;
      between = between-preferred best.line.number asked (chain_of chains link) (chain_of chains chosen) b.between better;
      unpreferred =
          All-more (λ l. is_preferred asked (chain_of chains l) (chain_of chains link) ≡ false) links at d below
          (All-weaker (λ l. is_preferred asked (chain_of chains l) (chain_of chains chosen) ≡ false) (λ l. is_preferred asked (chain_of chains l) (chain_of chains link) ≡ false)
          (λ l h. preferred-through asked (chain_of chains l) (chain_of chains chosen) (chain_of chains link) h better) (take at links) b.unpreferred)
          (preferred-itself asked (chain_of chains link));
    }
