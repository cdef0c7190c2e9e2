-- From place to place: what the pieces before say, and the chains that are kept.
use Rattle.std.proofs.Common.{◌≡◌, ℕ, zero, suc, ◌+◌, ◌-◌, ◌*◌, ◌^◌, ◌<◌, ◌≤◌, ℤ, pos, unsigned_abs, Option, None, Some, List, [], ◌∷◌, ◌++◌, map, length, get_or, inl, inr, refl, sym, ap, subst, ◌∙◌, arith}
use Rattle.std.specs.Prelude.{All, filter, not, ◌||◌}
use Rattle.std.proofs.lemmas.List.Elements.{All-cons}
use Rattle.tx_linebreak.specs.declared.legal.Context.{Context}
use Rattle.tx_linebreak.specs.declared.line.Candidate.{Candidate}
use Rattle.tx_linebreak.specs.declared.link.Link.{Link}
use Rattle.tx_linebreak.specs.declared.piece.Piece.{Piece}
use Rattle.tx_linebreak.specs.declared.trial.Trial.{Trial}
use Rattle.tx_linebreak.specs.Breaks.{behind, context_from, is_forced, penalty_at}
use Rattle.tx_linebreak.specs.Chains.{Chain, candidate_of, chains_before, dies_at, from_living, is_overfull, lives_at, next_place}
use Rattle.tx_linebreak.specs.Chosen.{total}
use Rattle.tx_linebreak.specs.Kept.{all_offered, kept_before, kept_by, last_by, last_chains, last_special}
use Rattle.tx_linebreak.specs.Lines.{Attempt}
use Rattle.tx_linebreak.specs.Shared.{chain_at, chain_of}
use Rattle.tx_linebreak.specs.Trials.{IsKept, IsStart, IsTrial, chain_tried}
use Rattle.tx_linebreak.proofs.Kept.{ends-chains_before, kept-stands}
use Rattle.tx_linebreak.proofs.Members.{Member, member-of_filter}
use Rattle.tx_linebreak.proofs.Trying.{survive-by}

pub context-here : (context : Context) (pieces : List Piece) → context_from context pieces 0 ≡ context
context-here context [] = refl
context-here context (p ∷ pieces) = refl

pub context-on : (context : Context) (pieces : List Piece) (place : ℕ) (d : Piece) → place < length pieces → behind (context_from context pieces place) (get_or pieces place d) ≡ context_from context pieces (suc place)
context-on context [] place d h = absurd (omega arith)
context-on context (p ∷ pieces) zero d h = sym (context-here (behind context p) pieces)
context-on context (p ∷ pieces) (suc place) d h = context-on (behind context p) pieces place d (omega arith)

-- what is kept before a place ends before it
kept-ends : (a : Attempt) (place : ℕ) (x : Chain) → Member (kept_before a place) x → next_place (candidate_of x).place ≤ place
kept-ends a place x h =
    ends-chains_before a place x (member-of_filter (λ x. lives_at a (candidate_of x) place) (chains_before a place) x ((kept-stands a place).among x h)).0

at-mapped : (f : Trial → Chain) (list : List Trial) (k : ℕ) (d : Trial) → k < length list → Member (map f list) (f (get_or list k d))
at-mapped f [] k d h = absurd (omega arith)
at-mapped f (t ∷ list) zero d h = inl refl
at-mapped f (t ∷ list) (suc k) d h = inr (at-mapped f list k d (omega arith))

-- the chains that are kept end before the place
pub kept-earlier : (a : Attempt) (place : ℕ) (chains : List Chain) (trials : List Trial) → map (chain_tried chains) trials ≡ kept_before a place → All (IsKept a chains) trials → All (λ t. next_place t.from.place ≤ place) trials
kept-earlier a place chains trials is kept = λ k d h.
    subst (λ (c : Candidate). next_place c.place ≤ place) (sym (kept k d h).from_is)
    (kept-ends a place (chain_tried chains (get_or trials k d)) (subst (λ (l : List Chain). Member l (chain_tried chains (get_or trials k d))) is (at-mapped (chain_tried chains) trials k d h)))

-- the chains that are kept behind a break, of those whose lines are tried
pub kept-made : (a : Attempt) (place : ℕ) (penalty : ℤ) (chains : List Chain) (before trials living : List Trial) (links : List Link) → penalty_at a.params a.pass a.pieces place ≡ Some penalty → All (IsTrial a chains place) trials → map (chain_tried chains) trials ≡ map (chain_tried chains) before → living ≡ filter (λ t. not (is_forced penalty || is_overfull t.fit)) trials → map (chain_of chains) links ≡ all_offered (last_special a) [] (from_living a place penalty (map (chain_tried chains) before)) → map (chain_tried chains) living ++ map (chain_of chains) links ≡ kept_by a place (Some penalty) (map (chain_tried chains) before)
kept-made a place penalty chains before trials living links legal all same living_are links_are =
    let old = ap (map (chain_tried chains)) living_are ∙ survive-by a chains place penalty trials legal all ∙ ap (filter (λ chain. not (dies_at a (candidate_of chain) place))) same in
    λ i. old i ++ links_are i

-- what is kept before the next place
pub kept-next : (a : Attempt) (place : ℕ) (o : Option ℤ) → penalty_at a.params a.pass a.pieces place ≡ o → kept_before a (place + 1) ≡ kept_by a place o (kept_before a place)
kept-next a place o is =
    let e : place + 1 ≡ suc place = omega arith in
    ap (kept_before a) e ∙ ap (λ (p : Option ℤ). kept_by a place p (kept_before a place)) is

-- at the beginning
pub starts : (chains : List Chain) (trials : List Trial) (t : Trial) → chains ≡ [] ∷ [] → trials ≡ t ∷ [] → t.chain ≡ 0 → map (chain_tried chains) trials ≡ [] ∷ []
starts chains trials t chains_are trials_are chain_is =
    ap (map (chain_tried chains)) trials_are ∙ (λ i. chain_at (chains_are i) (chain_is i) ∷ [])

pub starts-kept : (a : Attempt) (chains : List Chain) (trials : List Trial) (t : Trial) → chains ≡ [] ∷ [] → trials ≡ t ∷ [] → t.chain ≡ 0 → t.from ≡ candidate_of [] → t.total ≡ pos 0 → IsStart a None 0 t.start → All (IsKept a chains) trials
starts-kept a chains trials t chains_are trials_are chain_is from_is total_is start_is =
    let at : chain_at chains t.chain ≡ [] = λ i. chain_at (chains_are i) (chain_is i) in
    subst (All (IsKept a chains)) (sym trials_are)
    (All-cons (IsKept a chains) t [] (record {
      there = let l = ap length chains_are in omega arith;
      from_is = from_is ∙ ap candidate_of (sym at);
      few = subst (λ (c : Candidate). c.lines ≤ next_place c.place) (sym from_is) (omega arith);
      total_is = total_is ∙ ap total (sym at);
      small = subst (λ (z : ℤ). unsigned_abs z ≤ t.from.lines * 2 ^ 63) (sym total_is) (omega arith);
      start_is = subst (λ (c : Candidate). IsStart a c.place c.lines t.start) (sym from_is) start_is;
    }) (λ k d h. absurd (omega arith)))

-- the chains that end at the list's end
pub last-are : (a : Attempt) → last_chains a ≡ last_by a (length a.pieces - 1) (penalty_at a.params a.pass a.pieces (length a.pieces - 1)) (kept_before a (length a.pieces - 1))
unfolding last_chains
last-are a = refl
