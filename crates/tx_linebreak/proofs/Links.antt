-- Chains that share their beginnings, when one more is put behind them.
use Rattle.std.proofs.Common.{◌≡◌, ℕ, suc, ◌<◌, List, [], ◌∷◌, ◌++◌, length, get_or, inl, inr, refl, sym, ap, subst, ◌∙◌, arith, length-append}
use Rattle.std.proofs.lemmas.Bool.{cases_lt}
use Rattle.std.proofs.Math.ListN.{get_or-append}
use Rattle.std.proofs.Math.Seq.{get_or-append_seam}
use Rattle.std.proofs.lemmas.List.Sums.{fold-append}
use Rattle.tx_linebreak.specs.declared.link.Link.{Link}
use Rattle.tx_linebreak.specs.Chains.{Chain}
use Rattle.tx_linebreak.specs.Chosen.{total}
use Rattle.tx_linebreak.specs.Shared.{IsLinkOf, IsMade, IsShared, chain_at, chain_of, chains_in, with_link}

pub chains_in-none : chains_in [] ≡ [] ∷ []
unfolding chains_in
chains_in-none = refl

pub chains_in-push : (links : List Link) (link : Link) → chains_in (links ++ link ∷ []) ≡ with_link (chains_in links) link
unfolding chains_in
chains_in-push links link = fold-append with_link ([] ∷ []) links (link ∷ [])

pub stays : (chains : List Chain) (chain : Chain) (n : ℕ) → n < length chains → chain_at (chains ++ chain ∷ []) n ≡ chain_at chains n
stays chains chain n h = get_or-append chains (chain ∷ []) [] n h

pub comes : (chains : List Chain) (chain : Chain) (n : ℕ) → n ≡ length chains → chain_at (chains ++ chain ∷ []) n ≡ chain
comes chains chain n e = ap (chain_at (chains ++ chain ∷ [])) e ∙ get_or-append_seam chains chain [] []

-- a chain with one more line is that of its link still
link-stays : (chains : List Chain) (chain : Chain) (n : ℕ) (link : Link) → n < length chains → IsLinkOf chains n link → IsLinkOf (chains ++ chain ∷ []) n link
link-stays chains chain n link h is = record {
  earlier = is.earlier;
  chain_is = stays chains chain n h ∙ is.chain_is ∙ ap (λ (c : Chain). link.line ∷ c) (sym (stays chains chain link.before (let e = is.earlier in omega arith)));
  total_is = is.total_is ∙ ap total (sym (stays chains chain n h));
  counted = is.counted;
}

link-comes : (chains : List Chain) (n : ℕ) (link : Link) → n ≡ length chains → IsMade chains link → IsLinkOf (chains ++ chain_of chains link ∷ []) n link
link-comes chains n link e made = record {
  earlier = let w = made.within in omega arith;
  chain_is = comes chains (chain_of chains link) n e ∙ ap (λ (c : Chain). link.line ∷ c) (sym (stays chains (chain_of chains link) link.before made.within));
  total_is = made.total_is ∙ ap total (sym (comes chains (chain_of chains link) n e));
  counted = made.counted;
}

pub shared-none : IsShared []
unfolding chains_in
shared-none = record { length_is = refl; start_is = refl; links_are = λ k d h. absurd (omega arith) }

pub shared-push : (links : List Link) (link : Link) → IsShared links → IsMade (chains_in links) link → IsShared (links ++ link ∷ [])
shared-push links link s made =
    let chains = chains_in links in
    let is = chains_in-push links link in
    record {
      length_is = ap length is ∙ length-append chains (chain_of chains link ∷ []) ∙ (let l = s.length_is in let m = length-append links (link ∷ []) in omega arith);
      start_is = ap (λ (c : List Chain). chain_at c 0) is ∙ stays chains (chain_of chains link) 0 (let l = s.length_is in omega arith) ∙ s.start_is;
      links_are = λ k d h. subst (λ (c : List Chain). IsLinkOf c (suc k) (get_or (links ++ link ∷ []) k d)) (sym is) (at k d h);
    }
  where
    at : (k : ℕ) (d : Link) → k < length (links ++ link ∷ []) → IsLinkOf (chains_in links ++ chain_of (chains_in links) link ∷ []) (suc k) (get_or (links ++ link ∷ []) k d)
    at k d h = elim (cases_lt k (length links)) [
      | inl below ↦
          subst (λ (l : Link). IsLinkOf (chains_in links ++ chain_of (chains_in links) link ∷ []) (suc k) l) (sym (get_or-append links (link ∷ []) d k below))
          (link-stays (chains_in links) (chain_of (chains_in links) link) (suc k) (get_or links k d) (let l = s.length_is in omega arith) (s.links_are k d below))
      | inr above ↦
          let m = length-append links (link ∷ []) in
          let same : k ≡ length links = omega (arith, m) in
          subst (λ (l : Link). IsLinkOf (chains_in links ++ chain_of (chains_in links) link ∷ []) (suc k) l)
          (sym (ap (λ (n : ℕ). get_or (links ++ link ∷ []) n d) same ∙ get_or-append_seam links link [] d))
          (link-comes (chains_in links) (suc k) link (let l = s.length_is in omega arith) made)
    ]
