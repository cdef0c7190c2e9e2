-- Chains that share their beginnings, as a list of links. No public clause speaks of it.
use Rattle.std.specs.Prelude.{◌≡◌, ℕ, suc, ◌*◌, ◌<◌, ◌≤◌, ◌^◌, unsigned_abs, List, [], ◌∷◌, ◌++◌, length, fold, slice_index_or}
use Rattle.tx_linebreak.specs.declared.found.Found.{Found}
use Rattle.tx_linebreak.specs.declared.link.Link.{Link}
use Rattle.tx_linebreak.specs.Chains.{Chain}
use Rattle.tx_linebreak.specs.Chosen.{IsAsked, IsBest, line_count, total}
use Rattle.tx_linebreak.specs.Lines.{Attempt}

-- the chain of a number among chains
abbrev pub chain_at : List Chain → ℕ → Chain
chain_at chains number = slice_index_or chains number []

-- the chain of a link: its line behind one of the chains
abbrev pub chain_of : List Chain → Link → Chain
chain_of chains link = link.line ∷ chain_at chains link.before

-- chains, and that of a link behind them
abbrev pub with_link : List Chain → Link → List Chain
with_link chains link = chains ++ chain_of chains link ∷ []

-- the chains of links: the empty one, and one for each link
unfoldable pub chains_in : List Link → List Chain
chains_in links = fold with_link ([] ∷ []) links

-- a link's line has no greater number than its place allows, and its demerits are at most those of so many lines
pub record IsCounted (link : Link) : Type 0 where
  pub few : link.line.number ≤ suc link.line.place
  pub small : unsigned_abs link.total ≤ link.line.number * 2 ^ 63

-- a link stands behind one of the chains, and knows the demerits of its own
pub record IsMade (chains : List Chain) (link : Link) : Type 0 where
  pub within : link.before < length chains
  pub total_is : link.total ≡ total (chain_of chains link)
  pub counted : IsCounted link

-- a chain is that of a link, behind a chain of a lesser number
pub record IsLinkOf (chains : List Chain) (number : ℕ) (link : Link) : Type 0 where
  pub earlier : link.before < number
  pub chain_is : chain_at chains number ≡ chain_of chains link
  pub total_is : link.total ≡ total (chain_at chains number)
  pub counted : IsCounted link

-- what holds of the links of chains
pub record IsShared (links : List Link) : Type 0 where
  pub length_is : length (chains_in links) ≡ suc (length links)
  pub start_is : chain_at (chains_in links) 0 ≡ []
  pub links_are : (k : ℕ) (d : Link) → k < length links → IsLinkOf (chains_in links) (suc k) (slice_index_or links k d)

-- what a pass finds: one of the chains is the one that is asked for, and has so many lines, and the best one has so many
pub record IsFound (a : Attempt) (chains : List Chain) (found : Found) : Type 0 where
  pub there : found.chain < length chains
  pub lines_are : found.lines ≡ line_count (chain_at chains found.chain)
  pub best : Chain
  pub best_has : found.best ≡ line_count best
  pub is_best : IsBest a best
  pub is_asked : IsAsked a best (chain_at chains found.chain)
