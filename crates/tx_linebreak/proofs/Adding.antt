-- Chains that are put behind others, and their numbers.
use Rattle.std.proofs.Common.{◌≡◌, ℕ, ◌+◌, ◌*◌, ◌^◌, ◌<◌, ◌≤◌, ℤ, unsigned_abs, Some, List, [], ◌∷◌, ◌++◌, length, map, drop, get_or, refl, sym, ap, subst, ◌∙◌, arith, length-append}
use Rattle.std.specs.Prelude.{All}
use Rattle.std.proofs.lemmas.List.{drop_more, map-append}
use Rattle.std.proofs.lemmas.List.Elements.{All-drop, All-get_or, All-head, All-push, All-tail, All-weaker}
use Rattle.tx_linebreak.specs.declared.line.Candidate.{Candidate}
use Rattle.tx_linebreak.specs.declared.link.Link.{Link}
use Rattle.tx_linebreak.specs.declared.trial.Trial.{Trial}
use Rattle.tx_linebreak.specs.Chains.{Chain, candidate_of, next_place}
use Rattle.tx_linebreak.specs.Chosen.{total}
use Rattle.tx_linebreak.specs.Lines.{Attempt}
use Rattle.tx_linebreak.specs.Shared.{IsMade, chain_of, with_link}
use Rattle.tx_linebreak.specs.Trials.{IsKept, IsStart, chain_tried}
use Rattle.tx_linebreak.proofs.Links.{comes, stays}

-- how far the links are put there
pub record IsAdding (a : Attempt) (whole chains : List Chain) (trials : List Trial) (links : List Link) (at : ℕ) : Type 0 where
  pub made : All (IsMade chains) links
  pub kept : All (IsKept a chains) trials
  pub whole_is : map (chain_tried chains) trials ++ map (chain_of chains) (drop at links) ≡ whole

link-stays : (chains : List Chain) (chain : Chain) (link : Link) → IsMade chains link → chain_of (chains ++ chain ∷ []) link ≡ chain_of chains link
link-stays chains chain link made = ap (λ (c : Chain). link.line ∷ c) (stays chains chain link.before made.within)

made-stays : (chains : List Chain) (chain : Chain) (link : Link) → IsMade chains link → IsMade (chains ++ chain ∷ []) link
made-stays chains chain link made = record {
  within = let l = length-append chains (chain ∷ []) in let w = made.within in omega arith;
  total_is = made.total_is ∙ ap total (sym (link-stays chains chain link made));
  counted = made.counted;
}

kept-stays : (a : Attempt) (chains : List Chain) (chain : Chain) (t : Trial) → IsKept a chains t → IsKept a (chains ++ chain ∷ []) t
kept-stays a chains chain t is =
    let same = stays chains chain t.chain is.there in
    record {
      there = let l = length-append chains (chain ∷ []) in let h = is.there in omega arith;
      from_is = is.from_is ∙ ap candidate_of (sym same);
      few = is.few;
      total_is = is.total_is ∙ ap total (sym same);
      small = is.small;
      start_is = is.start_is;
    }

trials-stay : (a : Attempt) (chains : List Chain) (chain : Chain) (trials : List Trial) → All (IsKept a chains) trials → map (chain_tried (chains ++ chain ∷ [])) trials ≡ map (chain_tried chains) trials
trials-stay a chains chain [] all = refl
trials-stay a chains chain (t ∷ trials) all =
    let here = stays chains chain t.chain (All-head (IsKept a chains) t trials all).there in
    let rest = trials-stay a chains chain trials (All-tail (IsKept a chains) t trials all) in
    λ i. here i ∷ rest i

-- the line behind the chain of a link
abbrev pub behind-link : Link → Candidate
behind-link link = record { place = Some link.line.place; lines = link.line.number; class = link.line.class }

trial-comes : (a : Attempt) (chains : List Chain) (link : Link) (t : Trial) → IsMade chains link → t.chain ≡ length chains → t.from ≡ behind-link link → t.total ≡ link.total → IsStart a t.from.place t.from.lines t.start → IsKept a (chains ++ chain_of chains link ∷ []) t
trial-comes a chains link t made chain_is from_is total_is start_is =
    let at = comes chains (chain_of chains link) t.chain chain_is in
    let grown = length-append chains (chain_of chains link ∷ []) in
    let lines : t.from.lines ≡ link.line.number = ap (λ (c : Candidate). c.lines) from_is in
    let place : t.from.place ≡ Some link.line.place = ap (λ (c : Candidate). c.place) from_is in
    record {
      there = omega (arith, grown);
      from_is = from_is ∙ ap candidate_of (sym at);
      few = subst (λ (c : Candidate). c.lines ≤ next_place c.place) (sym from_is) made.counted.few;
      total_is = total_is ∙ made.total_is ∙ ap total (sym at);
      small = subst (λ (n : ℕ). unsigned_abs t.total ≤ n * 2 ^ 63) (sym lines) (subst (λ (z : ℤ). unsigned_abs z ≤ link.line.number * 2 ^ 63) (sym total_is) made.counted.small);
      start_is = start_is;
    }

links-stay : (chains : List Chain) (chain : Chain) (links : List Link) → All (IsMade chains) links → map (chain_of (chains ++ chain ∷ [])) links ≡ map (chain_of chains) links
links-stay chains chain [] all = refl
links-stay chains chain (l ∷ links) all =
    let here = link-stays chains chain l (All-head (IsMade chains) l links all) in
    let rest = links-stay chains chain links (All-tail (IsMade chains) l links all) in
    λ i. here i ∷ rest i

behind-one : (xs ys : List Chain) (x : Chain) → (xs ++ x ∷ []) ++ ys ≡ xs ++ x ∷ ys
behind-one [] ys x = refl
behind-one (z ∷ xs) ys x = ap (λ (l : List Chain). z ∷ l) (behind-one xs ys x)

-- one more chain
pub adding-on : (a : Attempt) (whole chains more : List Chain) (trials longer : List Trial) (links : List Link) (at : ℕ) (link d : Link) (t : Trial) → at < length links → link ≡ get_or links at d → more ≡ with_link chains link → longer ≡ trials ++ t ∷ [] → t.chain ≡ length chains → t.from ≡ behind-link link → t.total ≡ link.total → IsStart a t.from.place t.from.lines t.start → IsAdding a whole chains trials links at → IsAdding a whole more longer links (at + 1)
adding-on a whole chains more trials longer links at link d t below is more_is longer_is chain_is from_is total_is start_is adding =
    let made : IsMade chains link = subst (IsMade chains) (sym is) (All-get_or (IsMade chains) links at d below adding.made) in
    let chain : Chain = chain_of chains link in
    let all : List Chain = chains ++ chain ∷ [] in
    record {
      made = subst (λ (c : List Chain). All (IsMade c) links) (sym more_is) (All-weaker (IsMade chains) (IsMade all) (λ l m. made-stays chains chain l m) links adding.made);
      kept =
          subst (λ (c : List Chain). All (IsKept a c) longer) (sym more_is)
          (subst (λ (ts : List Trial). All (IsKept a all) ts) (sym longer_is)
          (All-push (IsKept a all) trials t (All-weaker (IsKept a chains) (IsKept a all) (λ u k. kept-stays a chains chain u k) trials adding.kept) (trial-comes a chains link t made chain_is from_is total_is start_is)));
      whole_is =
          (λ i. map (chain_tried (more_is i)) (longer_is i) ++ map (chain_of (more_is i)) (drop (at + 1) links))
          ∙ ap (λ (l : List Chain). l ++ map (chain_of all) (drop (at + 1) links)) (map-append (chain_tried all) trials (t ∷ []))
          ∙ (λ i. (trials-stay a chains chain trials adding.kept i ++ comes chains chain t.chain chain_is i ∷ []) ++ links-stay chains chain (drop (at + 1) links) (rest-made at) i)
          ∙ behind-one (map (chain_tried chains) trials) (map (chain_of chains) (drop (at + 1) links)) chain
          ∙ (λ i. map (chain_tried chains) trials ++ chain_of chains (is i) ∷ map (chain_of chains) (drop (at + 1) links))
          ∙ ap (λ (ls : List Link). map (chain_tried chains) trials ++ map (chain_of chains) ls) (sym (drop_more links at d below))
          ∙ adding.whole_is;
    }
  where
    rest-made : (n : ℕ) → All (IsMade chains) (drop (n + 1) links)
    rest-made n = All-drop (IsMade chains) (n + 1) links adding.made
