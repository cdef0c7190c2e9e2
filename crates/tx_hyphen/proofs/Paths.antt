-- The path to a node, hung step by step.
use Rattle.std.proofs.Common.{◌≡◌, ℕ, ◌+◌, ◌-◌, ◌<◌, List, length, take, drop, drop-cons, get_or, refl, sym, ◌∙◌, arith, add-one}
use Rattle.std.specs.Prelude.{None, Some}
use Rattle.std.proofs.lemmas.List.{take_more}
use Rattle.tx_hyphen.specs.declared.trie.Node.{Node}
use Rattle.tx_hyphen.specs.Trie.{IsLinked, child_of, grown, hangs_by, kept, walk}
use Rattle.tx_hyphen.proofs.Grown.{length-grown, linked-grown}
use Rattle.tx_hyphen.proofs.Walks.{kept-grown, such-found, walk-grown, walk-more, child-hung}

-- the first letters lead to a node, and no place that was kept has changed
pub record IsOnPath (begun nodes : List Node) (letters : List ℕ) (i at : ℕ) : Type 0 where
  pub linked : IsLinked nodes
  pub same : (others : List ℕ) → kept nodes others ≡ kept begun others
  pub led : walk nodes 0 (take i letters) ≡ Some at
  pub inside : at < length nodes

pub path-begun : (nodes : List Node) (letters : List ℕ) → IsLinked nodes → IsOnPath nodes nodes letters 0 0
path-begun nodes letters linked = record { linked = linked; same = λ others. refl; led = refl; inside = linked.rooted }

-- a step to a node that is there
pub path-step : (begun nodes : List Node) (letters : List ℕ) (i at letter next : ℕ) → i < length letters
    → IsOnPath begun nodes letters i at → letter ≡ get_or letters i 0 → child_of nodes at letter ≡ Some next
    → IsOnPath begun nodes letters (i + 1) next
path-step begun nodes letters i at letter next more path read child =
    let found = such-found nodes (hangs_by at letter) (length nodes - 1) next child in
    record {
      linked = path.linked;
      same = path.same;
      led = rw (take_more letters i 0 more, ← read) (walk-more nodes (take i letters) 0 at letter next path.led child);
      inside = omega (arith, found.inside, path.linked.rooted);
    }

-- a step to a node that has been hung
pub path-hung : (begun nodes : List Node) (letters : List ℕ) (i at letter : ℕ) → i < length letters
    → IsOnPath begun nodes letters i at → letter ≡ get_or letters i 0 → child_of nodes at letter ≡ None
    → IsOnPath begun (grown nodes at letter) letters (i + 1) (length nodes)
path-hung begun nodes letters i at letter more path read absent =
    record {
      linked = linked-grown nodes at letter path.linked path.inside;
      same = λ others. kept-grown nodes at letter others 0 path.linked path.inside absent path.linked.rooted ∙ path.same others;
      led = rw (take_more letters i 0 more, ← read)
          (walk-more (grown nodes at letter) (take i letters) 0 at letter (length nodes)
          (walk-grown nodes at letter (take i letters) 0 at path.linked path.inside absent path.linked.rooted path.led)
          (child-hung nodes at letter path.inside));
      inside = omega (arith, length-grown nodes at letter);
    }

-- the rest of the letters leads from a node to where all of them lead from the root
pub record IsOnWay (nodes : List Node) (letters : List ℕ) (i at : ℕ) : Type 0 where
  pub inside : at < length nodes
  pub rest : walk nodes at (drop i letters) ≡ walk nodes 0 letters

pub way-step : (nodes : List Node) (letters : List ℕ) (i at letter next : ℕ) → i < length letters
    → IsOnWay nodes letters i at → letter ≡ get_or letters i 0 → child_of nodes at letter ≡ Some next → next < length nodes
    → IsOnWay nodes letters (i + 1) next
way-step nodes letters i at letter next more way read child inside =
    let cut = drop-cons letters i 0 more in
    record {
      inside = inside;
      rest = rw add-one (rw (cut, ← read, child) at (way.rest));
    }

pub way-lost : (nodes : List Node) (letters : List ℕ) (i at letter : ℕ) → i < length letters
    → IsOnWay nodes letters i at → letter ≡ get_or letters i 0 → child_of nodes at letter ≡ None
    → walk nodes 0 letters ≡ None
way-lost nodes letters i at letter more way read child =
    let cut = drop-cons letters i 0 more in
    sym way.rest ∙ rw (cut, ← read, child) refl
