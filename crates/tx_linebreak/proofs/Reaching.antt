-- The chains that are made at a break, one after another.
use Rattle.std.proofs.Common.{◌≡◌, ℕ, suc, ◌+◌, ◌*◌, ◌^◌, ◌<◌, ◌≤◌, ℤ, ◌+ℤ◌, unsigned_abs, Bool, true, false, cond, List, [], ◌∷◌, map, length, get_or, drop, refl, sym, ap, subst, ◌∙◌, arith}
use Rattle.std.specs.Prelude.{All, filter, ◌||◌}
use Rattle.std.proofs.lemmas.Int.{ints}
use Rattle.std.proofs.lemmas.List.{at_drop_all, at_drop_more}
use Rattle.std.proofs.lemmas.List.Elements.{All-get_or}
use Rattle.tx_linebreak.specs.declared.line.Candidate.{Candidate}
use Rattle.tx_linebreak.specs.declared.line.Fit.{Fit}
use Rattle.tx_linebreak.specs.declared.line.Fit.TheVariants.{Overfull, Set}
use Rattle.tx_linebreak.specs.declared.line.Line.{Line}
use Rattle.tx_linebreak.specs.declared.link.Link.{Link}
use Rattle.tx_linebreak.specs.declared.trial.Trial.{Trial}
use Rattle.tx_linebreak.specs.Chains.{Chain, candidate_of, from_living, is_feasible, is_stuck, is_tolerable, line_set, tolerance_of, with_line, with_line_taken}
use Rattle.tx_linebreak.specs.Chosen.{total}
use Rattle.tx_linebreak.specs.Kept.{all_offered, last_special, offered}
use Rattle.tx_linebreak.specs.Lines.{Attempt}
use Rattle.tx_linebreak.specs.Shared.{IsMade, chain_at, chain_of}
use Rattle.tx_linebreak.specs.Trials.{IsTrial, chain_tried, line_by}
use Rattle.tx_linebreak.proofs.Trying.{feasible-by}

-- a chain with its line
abbrev pub with_line_by : Attempt → ℕ → ℤ → Bool → Chain → Chain
with_line_by a place penalty stuck chain = line_by a (candidate_of chain) place penalty stuck ∷ chain

-- the chains that are made of some
abbrev pub reached : Attempt → ℕ → ℤ → Bool → List Chain → List Chain
reached a place penalty stuck [] = []
reached a place penalty stuck (x ∷ xs) =
    cond (stuck || is_feasible a (candidate_of x) place) (with_line_by a place penalty stuck x ∷ reached a place penalty stuck xs) (reached a place penalty stuck xs)

reached-by : (a : Attempt) (place : ℕ) (penalty : ℤ) (b : Bool) (xs : List Chain) → reached a place penalty b xs ≡ cond b (map (with_line_taken a place penalty) xs) (map (with_line a place penalty) (filter (λ chain. is_feasible a (candidate_of chain) place) xs))
unfolding with_line with_line_taken
reached-by a place penalty true [] = refl
reached-by a place penalty false [] = refl
reached-by a place penalty true (x ∷ xs) = ap (λ (l : List Chain). with_line_by a place penalty true x ∷ l) (reached-by a place penalty true xs)
reached-by a place penalty false (x ∷ xs) = by (is_feasible a (candidate_of x) place) (reached-by a place penalty false xs)
  where
    by : (f : Bool) → reached a place penalty false xs ≡ map (with_line a place penalty) (filter (λ chain. is_feasible a (candidate_of chain) place) xs) → cond f (with_line_by a place penalty false x ∷ reached a place penalty false xs) (reached a place penalty false xs) ≡ map (with_line a place penalty) (cond f (x ∷ filter (λ chain. is_feasible a (candidate_of chain) place) xs) (filter (λ chain. is_feasible a (candidate_of chain) place) xs))
    by true rest = ap (λ (l : List Chain). with_line_by a place penalty false x ∷ l) rest
    by false rest = rest

pub reached-living : (a : Attempt) (place : ℕ) (penalty : ℤ) (living : List Chain) → reached a place penalty (is_stuck a place living) living ≡ from_living a place penalty living
reached-living a place penalty living = reached-by a place penalty (is_stuck a place living) living

-- a line has the number after its candidate's, and its own place
pub number-by : (a : Attempt) (c : Candidate) (place : ℕ) (penalty : ℤ) (f : Fit) → (line_set a c place penalty f).number ≡ suc c.lines
number-by a c place penalty Overfull = refl
number-by a c place penalty (Set badness class) = refl

pub place-by : (a : Attempt) (c : Candidate) (place : ℕ) (penalty : ℤ) (f : Fit) → (line_set a c place penalty f).place ≡ place
place-by a c place penalty Overfull = refl
place-by a c place penalty (Set badness class) = refl

-- how far chains are made of the lines that are tried
pub record IsReaching (a : Attempt) (place : ℕ) (penalty : ℤ) (stuck : Bool) (whole chains : List Chain) (links : List Link) (trials : List Trial) (at : ℕ) : Type 0 where
  pub made : All (IsMade chains) links
  pub placed : All (λ l. l.line.place ≡ place) links
  pub whole_is : all_offered (last_special a) (map (chain_of chains) links) (reached a place penalty stuck (map (chain_tried chains) (drop at trials))) ≡ whole

-- the front of what is left
front : (a : Attempt) (place : ℕ) (penalty : ℤ) (stuck taken : Bool) (chains others : List Chain) (trials : List Trial) (at : ℕ) (d : Trial) → at < length trials → (stuck || is_feasible a (candidate_of (chain_tried chains (get_or trials at d))) place) ≡ taken → all_offered (last_special a) others (reached a place penalty stuck (map (chain_tried chains) (drop at trials))) ≡ all_offered (last_special a) others (cond taken (with_line_by a place penalty stuck (chain_tried chains (get_or trials at d)) ∷ reached a place penalty stuck (map (chain_tried chains) (drop (at + 1) trials))) (reached a place penalty stuck (map (chain_tried chains) (drop (at + 1) trials))))
front a place penalty stuck taken chains others trials at d below is =
    let rest : List Chain = reached a place penalty stuck (map (chain_tried chains) (drop (at + 1) trials)) in
    at_drop_more (λ (ts : List Trial). all_offered (last_special a) others (reached a place penalty stuck (map (chain_tried chains) ts))) trials at d below
    ∙ ap (λ (b : Bool). all_offered (last_special a) others (cond b (with_line_by a place penalty stuck (chain_tried chains (get_or trials at d)) ∷ rest) rest)) is

-- whether a line is taken, by its fit
taken-by : (a : Attempt) (chains : List Chain) (place : ℕ) (stuck tolerable taken : Bool) (trials : List Trial) (at : ℕ) (d : Trial) → All (IsTrial a chains place) trials → at < length trials → tolerable ≡ is_tolerable (tolerance_of a.params a.pass) (get_or trials at d).fit → (stuck || tolerable) ≡ taken → (stuck || is_feasible a (candidate_of (chain_tried chains (get_or trials at d))) place) ≡ taken
taken-by a chains place stuck tolerable taken trials at d all below tolerable_is taken_is =
    ap (λ (b : Bool). stuck || b) (sym (tolerable_is ∙ feasible-by a chains place (get_or trials at d) (All-get_or (IsTrial a chains place) trials at d below all))) ∙ taken_is

-- the same tolerance
pub tolerable-by : (z t : ℤ) (f : Fit) (b : Bool) → z ≡ t → b ≡ is_tolerable z f → b ≡ is_tolerable t f
tolerable-by z t f b same is = is ∙ ap (λ (n : ℤ). is_tolerable n f) same

pub reaching-takes : (a : Attempt) (place : ℕ) (penalty z : ℤ) (stuck tolerable : Bool) (whole chains : List Chain) (links more : List Link) (trials : List Trial) (at : ℕ) (d : Trial) (line : Line) (link : Link) → All (IsTrial a chains place) trials → at < length trials → tolerable ≡ is_tolerable (tolerance_of a.params a.pass) (get_or trials at d).fit → (stuck || tolerable) ≡ true → z ≡ penalty → line ≡ line_by a (get_or trials at d).from place z stuck → chain_of chains link ≡ line ∷ chain_tried chains (get_or trials at d) → map (chain_of chains) more ≡ offered (last_special a) (map (chain_of chains) links) (chain_of chains link) → All (IsMade chains) more → All (λ l. l.line.place ≡ place) more → IsReaching a place penalty stuck whole chains links trials at → IsReaching a place penalty stuck whole chains more trials (at + 1)
reaching-takes a place penalty z stuck tolerable whole chains links more trials at d line link all below tolerable_is taken penalty_is line_is link_is more_is made placed r = record {
  made = made;
  placed = placed;
  whole_is =
      (λ i. all_offered (last_special a) (more_is i) rest)
      ∙ (λ i. all_offered (last_special a) (offered (last_special a) (map (chain_of chains) links) (link_is i)) rest)
      ∙ (λ i. all_offered (last_special a) (offered (last_special a) (map (chain_of chains) links) (line_is i ∷ chain_tried chains trial)) rest)
      ∙ (λ i. all_offered (last_special a) (offered (last_special a) (map (chain_of chains) links) (line_by a (from_is i) place (penalty_is i) stuck ∷ chain_tried chains trial)) rest)
      ∙ sym (front a place penalty stuck true chains (map (chain_of chains) links) trials at d below (taken-by a chains place stuck tolerable true trials at d all below tolerable_is taken))
      ∙ r.whole_is;
}
  where
    trial : Trial
    trial = get_or trials at d

    rest : List Chain
    rest = reached a place penalty stuck (map (chain_tried chains) (drop (at + 1) trials))

    from_is : (get_or trials at d).from ≡ candidate_of (chain_tried chains (get_or trials at d))
    from_is = (All-get_or (IsTrial a chains place) trials at d below all).kept.from_is

pub reaching-leaves : (a : Attempt) (place : ℕ) (penalty : ℤ) (stuck tolerable : Bool) (whole chains : List Chain) (links more : List Link) (trials : List Trial) (at : ℕ) (d : Trial) → more ≡ links → All (IsTrial a chains place) trials → at < length trials → tolerable ≡ is_tolerable (tolerance_of a.params a.pass) (get_or trials at d).fit → (stuck || tolerable) ≡ false → IsReaching a place penalty stuck whole chains links trials at → IsReaching a place penalty stuck whole chains more trials (at + 1)
reaching-leaves a place penalty stuck tolerable whole chains links more trials at d same all below tolerable_is left r = subst (λ (ls : List Link). IsReaching a place penalty stuck whole chains ls trials (at + 1)) (sym same) (record {
  made = r.made;
  placed = r.placed;
  whole_is = sym (front a place penalty stuck false chains (map (chain_of chains) links) trials at d below (taken-by a chains place stuck tolerable false trials at d all below tolerable_is left)) ∙ r.whole_is;
})

-- at the beginning, and at the end
pub reaching-none : (a : Attempt) (place : ℕ) (penalty : ℤ) (stuck : Bool) (chains : List Chain) (links : List Link) (trials : List Trial) → links ≡ [] → stuck ≡ is_stuck a place (map (chain_tried chains) trials) → IsReaching a place penalty stuck (all_offered (last_special a) [] (from_living a place penalty (map (chain_tried chains) trials))) chains links trials 0
reaching-none a place penalty stuck chains links trials none is = record {
  made = subst (All (IsMade chains)) (sym none) (λ k d h. absurd (omega arith));
  placed = subst (All (λ l. l.line.place ≡ place)) (sym none) (λ k d h. absurd (omega arith));
  whole_is =
      (λ i. all_offered (last_special a) (map (chain_of chains) (none i)) (reached a place penalty (is i) (map (chain_tried chains) trials)))
      ∙ ap (all_offered (last_special a) []) (reached-living a place penalty (map (chain_tried chains) trials));
}

pub reaching-all : (a : Attempt) (place : ℕ) (penalty : ℤ) (stuck : Bool) (whole chains : List Chain) (links : List Link) (trials : List Trial) (at : ℕ) → length trials ≤ at → IsReaching a place penalty stuck whole chains links trials at → map (chain_of chains) links ≡ whole
reaching-all a place penalty stuck whole chains links trials at over r =
    sym (at_drop_all (λ (ts : List Trial). all_offered (last_special a) (map (chain_of chains) links) (reached a place penalty stuck (map (chain_tried chains) ts))) trials at over) ∙ r.whole_is

-- the chain whose line was tried, with that line
pub link-made : (a : Attempt) (chains : List Chain) (place : ℕ) (t : Trial) (line : Line) (link : Link) → IsTrial a chains place t → link.line ≡ line → link.before ≡ t.chain → link.total ≡ t.total +ℤ line.demerits → line.number ≡ suc t.from.lines → line.place ≡ place → unsigned_abs line.demerits ≤ 2 ^ 63 → IsMade chains link
link-made a chains place t line link is line_is before_is total_is number_is place_is small = record {
  within = let there = is.kept.there in omega arith;
  total_is =
      let own : total (chain_at chains link.before) +ℤ link.line.demerits ≡ total (chain_at chains t.chain) +ℤ line.demerits =
      λ i. total (chain_at chains (before_is i)) +ℤ (line_is i).demerits in
      total_is ∙ (λ i. is.kept.total_is i +ℤ line.demerits) ∙ sym own;
  counted = record {
    few =
        let few = is.kept.few in
        let before = is.before in
        let number : link.line.number ≡ suc t.from.lines = ap (λ (l : Line). l.number) line_is ∙ number_is in
        let at : link.line.place ≡ place = ap (λ (l : Line). l.place) line_is ∙ place_is in
        omega arith;
    small =
        let number : link.line.number ≡ suc t.from.lines = ap (λ (l : Line). l.number) line_is ∙ number_is in
        subst (λ (z : ℤ). unsigned_abs z ≤ link.line.number * 2 ^ 63) (sym total_is)
        (subst (λ (n : ℕ). unsigned_abs (t.total +ℤ line.demerits) ≤ n * 2 ^ 63) (sym number) (abs-more t.total line.demerits t.from.lines is.kept.small small));
  };
}
  where
    abs-more : (x y : ℤ) (n : ℕ) → unsigned_abs x ≤ n * 2 ^ 63 → unsigned_abs y ≤ 2 ^ 63 → unsigned_abs (x +ℤ y) ≤ suc n * 2 ^ 63
    abs-more x y n h k = omega (arith, ints)

pub link-chain : (chains : List Chain) (t : Trial) (line : Line) (link : Link) → link.line ≡ line → link.before ≡ t.chain → chain_of chains link ≡ line ∷ chain_tried chains t
link-chain chains t line link line_is before_is = λ i. line_is i ∷ chain_at chains (before_is i)
