-- A chain that is offered to others, by their links.
use Rattle.std.proofs.Common.{◌≡◌, ℕ, zero, suc, ◌+◌, ◌<◌, Bool, true, false, List, [], ◌∷◌, ◌++◌, length, map, get_or, refl, ap, arith}
use Rattle.std.proofs.Common.{cond, ltb, Some, None}
use Rattle.std.specs.Prelude.{not, position, slice_set}
use Rattle.std.specs.List.{position_or_len}
use Rattle.std.proofs.lemmas.Bool.{ltb-false}
use Rattle.tx_linebreak.specs.declared.link.Link.{Link}
use Rattle.tx_linebreak.specs.Chains.{Chain}
use Rattle.tx_linebreak.specs.Chosen.{beats}
use Rattle.tx_linebreak.specs.Kept.{offered}
use Rattle.tx_linebreak.specs.Shared.{chain_of}
use Rattle.tx_linebreak.specs.Steps.{line_alike}

-- the first of these links that goes on as another
pub record IsFirst (special : ℕ) (links : List Link) (link : Link) (k : ℕ) (d : Link) : Type 0 where
  pub within : k < length links
  pub alike : line_alike special (get_or links k d).line link.line ≡ true
  pub before : (j : ℕ) → j < k → line_alike special (get_or links j d).line link.line ≡ false

later : (special : ℕ) (l : Link) (links : List Link) (link : Link) (k : ℕ) (d : Link) → IsFirst special (l ∷ links) link (suc k) d → IsFirst special links link k d
later special l links link k d first = record {
  within = let w = first.within in omega arith;
  alike = first.alike;
  before = λ j h. first.before (suc j) (omega arith);
}

pub offered-better : (special : ℕ) (chains : List Chain) (links : List Link) (link : Link) (k : ℕ) (d : Link) → IsFirst special links link k d → beats (chain_of chains link) (chain_of chains (get_or links k d)) ≡ true → map (chain_of chains) (slice_set links k link) ≡ offered special (map (chain_of chains) links) (chain_of chains link)
offered-better special chains [] link k d first b = absurd (let w = first.within in omega arith)
offered-better special chains (l ∷ links) link zero d first b = rw (first.alike, b) refl
offered-better special chains (l ∷ links) link (suc k) d first b =
    rw (first.before 0 (omega arith)) (ap (λ (list : List Chain). chain_of chains l ∷ list) (offered-better special chains links link k d (later special l links link k d first) b))

pub offered-worse : (special : ℕ) (chains : List Chain) (links : List Link) (link : Link) (k : ℕ) (d : Link) → IsFirst special links link k d → beats (chain_of chains link) (chain_of chains (get_or links k d)) ≡ false → map (chain_of chains) links ≡ offered special (map (chain_of chains) links) (chain_of chains link)
offered-worse special chains [] link k d first b = absurd (let w = first.within in omega arith)
offered-worse special chains (l ∷ links) link zero d first b = rw (first.alike, b) refl
offered-worse special chains (l ∷ links) link (suc k) d first b =
    rw (first.before 0 (omega arith)) (ap (λ (list : List Chain). chain_of chains l ∷ list) (offered-worse special chains links link k d (later special l links link k d first) b))

pub offered-first : (special : ℕ) (chains : List Chain) (links : List Link) (link : Link) (d : Link) → ((j : ℕ) → j < length links → line_alike special (get_or links j d).line link.line ≡ false) → map (chain_of chains) (links ++ link ∷ []) ≡ offered special (map (chain_of chains) links) (chain_of chains link)
offered-first special chains [] link d none = refl
offered-first special chains (l ∷ links) link d none =
    rw (none 0 (omega arith)) (ap (λ (list : List Chain). chain_of chains l ∷ list) (offered-first special chains links link d (λ j h. none (suc j) (omega arith))))

-- the first place of a list at which a test passes isn't past a place at which it does
first_up_to : (p : Link → Bool) (links : List Link) (j : ℕ) (d : Link) → j < length links → p (get_or links j d) ≡ true → position_or_len p links < length links
first_up_to p [] j d h e = absurd (omega arith)
first_up_to p (l ∷ links) zero d h e = rw e (omega arith)
first_up_to p (l ∷ links) (suc j) d h e = by (p l) (first_up_to p links j d (omega arith) e)
  where
    by : (b : Bool) → position_or_len p links < length links → cond (not b) (1 + position_or_len p links) 0 < suc (length links)
    by true k = omega arith
    by false k = omega arith

-- where none is found, none goes on so
pub none-alike : (special : ℕ) (links : List Link) (link : Link) (d : Link) → position (λ l. line_alike special l.line link.line) links ≡ None → (j : ℕ) → j < length links → line_alike special (get_or links j d).line link.line ≡ false
none-alike special links link d none j h = by (line_alike special (get_or links j d).line link.line) refl
  where
    found : (b : Bool) (k : ℕ) → cond b (Some k) None ≡ None → b ≡ false
    found true k e = absurd cc
    found false k e = refl

    by : (b : Bool) → line_alike special (get_or links j d).line link.line ≡ b → b ≡ false
    by false e = refl
    by true e =
        let under = first_up_to (λ l. line_alike special l.line link.line) links j d h e in
        let over = ltb-false (position_or_len (λ l. line_alike special l.line link.line) links) (length links) (found (ltb (position_or_len (λ l. line_alike special l.line link.line) links) (length links)) (position_or_len (λ l. line_alike special l.line link.line) links) none) in
        absurd (omega arith)
