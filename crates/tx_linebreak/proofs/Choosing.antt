-- The best chain of a pass, and the pass that is chosen.
use Rattle.std.proofs.Common.{◌≡◌, ℕ, ℤ, ◌+◌, ◌<◌, Bool, true, false, cond, Option, Some, None, List, [], ◌∷◌, ◌++◌, map, length, take, get_or, ◌⊎◌, inl, inr, refl, sym, ap, subst, ◌∙◌, arith, length-append}
use Rattle.std.specs.Prelude.{All, Contains, IfNone, IfSome, ◌==◌, ◌&&◌, pos, int_le, int_lt}
use Rattle.std.proofs.lemmas.Bool.Decides.{nat_tests}
use Rattle.std.proofs.lemmas.Int.{ints}
use Rattle.std.proofs.lemmas.List.Elements.{All-contains, All-more, All-weaker, Contains-get_or}
use Rattle.tx_linebreak.specs.declared.answer.Chosen.{Chosen}
use Rattle.tx_linebreak.specs.declared.found.Found.{Found}
use Rattle.tx_linebreak.specs.declared.link.Link.{Link}
use Rattle.tx_linebreak.specs.declared.params.BreakParams.{BreakParams}
use Rattle.tx_linebreak.specs.declared.params.LineShape.{LineShape}
use Rattle.tx_linebreak.specs.declared.params.Pass.{Pass}
use Rattle.tx_linebreak.specs.declared.params.Pass.TheVariants.{First, Second, Emergency}
use Rattle.tx_linebreak.specs.declared.piece.Piece.{Piece}
use Rattle.tx_linebreak.specs.Chains.{Chain, chains_of, is_last_pass}
use Rattle.tx_linebreak.specs.Chosen.{IsAnswer, IsAnswerOf, IsAsked, IsBest, IsEnded, answer_of, answers, attempt, beats, first_succeeds, first_to_answer, is_enough, line_count, passes_of}
use Rattle.tx_linebreak.specs.Kept.{all_offered, last_chains, last_special}
use Rattle.tx_linebreak.specs.Lines.{Attempt}
use Rattle.tx_linebreak.specs.Shared.{IsFound, chain_at, chain_of}
use Rattle.tx_linebreak.proofs.Ending.{ends-some}
use Rattle.tx_linebreak.proofs.Kept.{Stands, last-stands, offered-stands, top-stands}
use Rattle.tx_linebreak.proofs.Members.{Member, contains-member, member-contains, member-map, member-of_map}
use Rattle.tx_linebreak.proofs.Links.{comes}
use Rattle.tx_linebreak.proofs.Order.{beats_both, beats_itself, not_beaten_through}
use Rattle.tx_linebreak.proofs.Unique.{answers-found}

-- ---- the best of some links

-- of the first links, none beats this one
pub record IsBestTo (chains : List Chain) (links : List Link) (at : ℕ) (best : Link) : Type 0 where
  pub among : Contains links best
  pub unbeaten : All (λ link. beats (chain_of chains link) (chain_of chains best) ≡ false) (take at links)

pub best-stays : (chains : List Chain) (links : List Link) (at : ℕ) (best d : Link) → at < length links → beats (chain_of chains (get_or links at d)) (chain_of chains best) ≡ false → IsBestTo chains links at best → IsBestTo chains links (at + 1) best
best-stays chains links at best d below worse b = record {
  among = b.among;
  unbeaten = All-more (λ l. beats (chain_of chains l) (chain_of chains best) ≡ false) links at d below b.unbeaten worse;
}

pub best-changes : (chains : List Chain) (links : List Link) (at : ℕ) (best d : Link) → at < length links → beats (chain_of chains (get_or links at d)) (chain_of chains best) ≡ true → IsBestTo chains links at best → IsBestTo chains links (at + 1) (get_or links at d)
best-changes chains links at best d below better b =
    let link : Link = get_or links at d in
    record {
      among = Contains-get_or links at d below;
      unbeaten =
          All-more (λ l. beats (chain_of chains l) (chain_of chains link) ≡ false) links at d below
          (All-weaker (λ l. beats (chain_of chains l) (chain_of chains best) ≡ false) (λ l. beats (chain_of chains l) (chain_of chains link) ≡ false)
          (λ l h. not_beaten_through (chain_of chains l) (chain_of chains best) (chain_of chains link) h (beats_both (chain_of chains link) (chain_of chains best) better)) (take at links) b.unbeaten)
          (beats_itself (chain_of chains link));
    }

-- the best of the links of a pass's last chains is the best of all its chains
pub best-of-all : (a : Attempt) (chains : List Chain) (links : List Link) (best : Link) → map (chain_of chains) links ≡ all_offered (last_special a) [] (last_chains a) → Contains links best → All (λ link. beats (chain_of chains link) (chain_of chains best) ≡ false) links → IsBest a (chain_of chains best)
best-of-all a chains links best is among unbeaten =
    top-stands a (map (chain_of chains) links) (Some (chain_of chains best))
    (record {
      there = member-map (chain_of chains) links best (member-contains links best among);
      unbeaten = λ x h.
          let k = member-of_map (chain_of chains) links x h in
          subst (λ (y : Chain). beats y (chain_of chains best) ≡ false) k.2 (All-contains (λ link. beats (chain_of chains link) (chain_of chains best) ≡ false) links k.0 unbeaten (contains-member links k.0 k.1));
    })
    (subst (λ (list : List Chain). Stands (last_special a) list (chains_of a)) (sym is) (offered-stands (last_special a) (last_chains a) (chains_of a) (last-stands a)))

-- where there is no link, there is no chain
pub none-of-all : (a : Attempt) (chains : List Chain) (links : List Link) → map (chain_of chains) links ≡ all_offered (last_special a) [] (last_chains a) → links ≡ [] → chains_of a ≡ []
none-of-all a chains links is none =
    top-stands a [] None refl
    (subst (λ (list : List Chain). Stands (last_special a) list (chains_of a)) (sym is ∙ ap (map (chain_of chains)) none) (offered-stands (last_special a) (last_chains a) (chains_of a) (last-stands a)))

-- in the last pass there is a link
pub not-none : (a : Attempt) (chains : List Chain) (links : List Link) → IsEnded a.pieces → is_last_pass a.params a.pass ≡ true → map (chain_of chains) links ≡ all_offered (last_special a) [] (last_chains a) → links ≡ [] → ⊥
not-none a chains links ended last is none =
    let some = ends-some a ended last in
    subst (λ (list : List Chain). Member list some.0) (sym is ∙ ap (map (chain_of chains)) none) some.1

zero-left : (n : ℕ) → true ≡ (n == 0) → n ≡ 0
zero-left n e = grind (arith, nat_tests)

pub emptied : (links : List Link) (n : ℕ) → n ≡ length links → true ≡ (n == 0) → links ≡ []
emptied [] n len e = refl
emptied (link ∷ links) n len e = let none = zero-left n e in absurd (omega arith)

-- ---- the pass

-- what stands behind all chains is found
pub found-behind : (a : Attempt) (chains : List Chain) (best asked : Link) (n : ℕ) → n ≡ length chains → IsBest a (chain_of chains best) → IsAsked a (chain_of chains best) (chain_of chains asked)
    → IsFound a (chains ++ chain_of chains asked ∷ []) (record { chain = n; lines = asked.line.number; best = best.line.number })
found-behind a chains best asked n behind b k =
    let here : chain_at (chains ++ chain_of chains asked ∷ []) n ≡ chain_of chains asked = comes chains (chain_of chains asked) n behind in
    let long : length (chains ++ chain_of chains asked ∷ []) ≡ length chains + 1 = length-append chains (chain_of chains asked ∷ []) in
    record {
      there = omega (arith, behind, long);
      lines_are = sym (ap line_count here);
      best = chain_of chains best;
      best_has = refl;
      is_best = b;
      is_asked = subst (λ (x : Chain). IsAsked a (chain_of chains best) x) (sym here) k;
    }

-- what a pass found tells what the answer is, if it is enough
pub found-gives : (a : Attempt) (chains : List Chain) (found : Found) (b : Bool) → IsFound a chains found → b ≡ is_enough a found.best found.lines → answers a ≡ b
found-gives a chains found b f is = answers-found a chains found f ∙ sym is

pub found-answer : (a : Attempt) (chains : List Chain) (found : Found) (chosen : Chosen) → IsFound a chains found → answers a ≡ true → chosen ≡ answer_of a.pass found.best (chain_at chains found.chain) → IsAnswerOf a chosen
found-answer a chains found chosen f gives is = record {
  gives = gives;
  best = f.best;
  chain = chain_at chains found.chain;
  is_best = f.is_best;
  is_asked = f.is_asked;
  answer_is = is ∙ ap (λ (n : ℕ). answer_of a.pass n (chain_at chains found.chain)) f.best_has;
}

-- in the last pass any number of lines is enough
pub last-enough : (a : Attempt) (best lines : ℕ) → is_last_pass a.params a.pass ≡ true → is_enough a best lines ≡ true
last-enough a best lines last = rw last refl

gives-some : (a b : Attempt) (found : Option Chosen) (chosen : Chosen) → a ≡ b → found ≡ Some chosen → IfSome found (IsAnswerOf a) → IsAnswerOf b chosen
gives-some a b found chosen is found_is some =
    subst (λ (x : Attempt). IsAnswerOf x chosen) is (subst (λ (o : Option Chosen). IfSome o (IsAnswerOf a)) found_is some)

gives-none : (a b : Attempt) (found : Option Chosen) → a ≡ b → found ≡ None → IfNone found (answers a ≡ false) → answers b ≡ false
gives-none a b found is found_is none =
    subst (λ (x : Attempt). answers x ≡ false) is (subst (λ (o : Option Chosen). IfNone o (answers a ≡ false)) found_is none)

pub positive : (z : ℤ) → int_le z (pos 0) ≡ false → int_lt (pos 0) z ≡ true
positive z e = grind (arith, ints)

module _ (pieces : List Piece) (shape : List LineShape) (params : BreakParams) where
  -- the first pass isn't made, or doesn't give the answer
  abbrev pub Passes : Type 0
  Passes = (int_le (pos 0) params.pretolerance ≡ false) ⊎ (answers (attempt pieces shape params First) ≡ false)

  pub passes-first : (rest : List Pass) → Passes → first_to_answer pieces shape params (cond (int_le (pos 0) params.pretolerance) (First ∷ []) [] ++ rest) ≡ first_to_answer pieces shape params rest
  passes-first rest (inl skipped) = rw skipped refl
  passes-first rest (inr none) = by (int_le (pos 0) params.pretolerance)
    where
      by : (b : Bool) → first_to_answer pieces shape params (cond b (First ∷ []) [] ++ rest) ≡ first_to_answer pieces shape params rest
      by true = rw none refl
      by false = refl

  pub second-chosen : Passes → answers (attempt pieces shape params Second) ≡ true → first_to_answer pieces shape params (passes_of params) ≡ Some Second
  second-chosen passes some = passes-first (Second ∷ cond (int_lt (pos 0) params.emergency_stretch) (Emergency ∷ []) []) passes ∙ rw some refl

  pub third-chosen : Passes → answers (attempt pieces shape params Second) ≡ false → int_lt (pos 0) params.emergency_stretch ≡ true → answers (attempt pieces shape params Emergency) ≡ true → first_to_answer pieces shape params (passes_of params) ≡ Some Emergency
  third-chosen passes none so some = passes-first (Second ∷ cond (int_lt (pos 0) params.emergency_stretch) (Emergency ∷ []) []) passes ∙ rw (none, so, some) refl

  -- an answer of the pass that is the first to give one
  chosen-answer : (pass : Pass) (chosen : Chosen) → first_to_answer pieces shape params (passes_of params) ≡ Some pass → IsAnswerOf (attempt pieces shape params pass) chosen → IsAnswer pieces shape params chosen
  chosen-answer pass chosen first given = record {
    pass = pass;
    best = given.best;
    chain = given.chain;
    is_chosen = record { is_first = first; is_best = given.is_best; is_asked = given.is_asked };
    answer_is = given.answer_is;
  }

  -- the answers of the passes
  pub second-answer : (a : Attempt) (found : Option Chosen) (chosen : Chosen) → a ≡ attempt pieces shape params Second → found ≡ Some chosen → IfSome found (IsAnswerOf a) → Passes → IsAnswer pieces shape params chosen
  second-answer a found chosen is found_is some passes =
      let given = gives-some a (attempt pieces shape params Second) found chosen is found_is some in
      chosen-answer Second chosen (second-chosen passes given.gives) given

  pub third-answer : (a b : Attempt) (first found : Option Chosen) (chosen : Chosen) → a ≡ attempt pieces shape params Second → first ≡ None → IfNone first (answers a ≡ false) → b ≡ attempt pieces shape params Emergency → found ≡ Some chosen → IfSome found (IsAnswerOf b) → int_lt (pos 0) params.emergency_stretch ≡ true → Passes → IsAnswer pieces shape params chosen
  third-answer a b first found chosen a_is first_is none b_is found_is some so passes =
      let given = gives-some b (attempt pieces shape params Emergency) found chosen b_is found_is some in
      chosen-answer Emergency chosen (third-chosen passes (gives-none a (attempt pieces shape params Second) first a_is first_is none) so given.gives) given

  -- the first pass isn't made, or doesn't give the answer, where it doesn't succeed
  pub passes-unless : first_succeeds pieces shape params ≡ false → Passes
  passes-unless fails = by (int_le (pos 0) params.pretolerance) refl fails
    where
      by : (b : Bool) → int_le (pos 0) params.pretolerance ≡ b → (b && answers (attempt pieces shape params First)) ≡ false → Passes
      by true is none = inr none
      by false is none = inl is

  -- the first pass is made: its answer, or that it gives none
  pub first-some : (a : Attempt) (found : Option Chosen) → a ≡ attempt pieces shape params First → int_le (pos 0) params.pretolerance ≡ true → IfSome found (IsAnswerOf a) → IfSome found (λ chosen. (first_succeeds pieces shape params ≡ true) × IsAnswer pieces shape params chosen)
  first-some a None is made some = tt
  first-some a (Some chosen) is made some =
      let given = gives-some a (attempt pieces shape params First) (Some chosen) chosen is refl some in
      let has : answers (attempt pieces shape params First) ≡ true = given.gives in
      (rw (made, has) refl, chosen-answer First chosen (rw (made, has) refl) given)

  pub first-none : (a : Attempt) (found : Option Chosen) → a ≡ attempt pieces shape params First → int_le (pos 0) params.pretolerance ≡ true → IfNone found (answers a ≡ false) → IfNone found (first_succeeds pieces shape params ≡ false)
  first-none a (Some chosen) is made none = tt
  first-none a None is made none =
      let not : answers (attempt pieces shape params First) ≡ false = gives-none a (attempt pieces shape params First) None is refl none in
      rw (made, not) refl

  -- it isn't made
  pub first-skipped : int_le (pos 0) params.pretolerance ≡ false → first_succeeds pieces shape params ≡ false
  first-skipped skipped = rw skipped refl
