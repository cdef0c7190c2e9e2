-- A tree of letters in a list of nodes, for the look-up alone: no public clause speaks of it. Node 0 is the root, and
-- every other one hangs on a node before it by a letter.
use Rattle.std.specs.Prelude.{◌≡◌, ℕ, zero, suc, ◌+◌, ◌-◌, ◌<◌, ◌==◌, Bool, ◌&&◌, if◌then◌else◌, List, [], ◌∷◌, ◌++◌, length, slice_index_or, slice_set, Option, None, Some, option_and_then}
use Rattle.tx_hyphen.specs.declared.trie.Node.{Node}

-- node k, and past the end a node that nothing hangs on
abbrev pub node : List Node → ℕ → Node
node nodes k = slice_index_or nodes k (record { letter = 0; parent = 0; sibling = None; child = None; place = None })

-- the last of nodes 1 to n that passes a test
abbrev pub last_such : List Node → (Node → Bool) → ℕ → Option ℕ
last_such nodes test zero = None
last_such nodes test (suc n) = if test (node nodes (suc n)) then Some (suc n) else last_such nodes test n

-- a node hangs on this one
abbrev pub hangs_on : ℕ → Node → Bool
hangs_on parent n = n.parent == parent

-- a node hangs on this one by this letter
abbrev pub hangs_by : ℕ → ℕ → Node → Bool
hangs_by parent letter n = n.parent == parent && n.letter == letter

-- the node to which a letter leads from another
abbrev pub child_of : List Node → ℕ → ℕ → Option ℕ
child_of nodes parent letter = last_such nodes (hangs_by parent letter) (length nodes - 1)

-- the node to which letters lead from another
abbrev pub walk : List Node → ℕ → List ℕ → Option ℕ
walk nodes from [] = Some from
walk nodes from (letter ∷ letters) = option_and_then (λ next. walk nodes next letters) (child_of nodes from letter)

-- the place that is kept at the node to which letters lead from the root
abbrev pub kept : List Node → List ℕ → Option ℕ
kept nodes letters = option_and_then (λ k. (node nodes k).place) (walk nodes 0 letters)

-- each node hangs on one before it; it names the last child of its parent before itself, and its own last child
pub record IsLinked (nodes : List Node) : Type 0 where
  pub rooted : 0 < length nodes
  pub before : (k : ℕ) → 0 < k → k < length nodes → (node nodes k).parent < k
  pub siblings : (k : ℕ) → k + 1 < length nodes → (node nodes (k + 1)).sibling ≡ last_such nodes (hangs_on (node nodes (k + 1)).parent) k
  pub children : (k : ℕ) → k < length nodes → (node nodes k).child ≡ last_such nodes (hangs_on k) (length nodes - 1)

-- one more node, hung on another by a letter
abbrev pub grown : List Node → ℕ → ℕ → List Node
grown nodes parent letter =
    let above = node nodes parent in
    slice_set
    (nodes ++ record { letter = letter; parent = parent; sibling = above.child; child = None; place = None } ∷ [])
    parent
    (record { letter = above.letter; parent = above.parent; sibling = above.sibling; child = Some (length nodes); place = above.place })

-- a place kept at a node
abbrev pub placed : List Node → ℕ → ℕ → List Node
placed nodes at place =
    let n = node nodes at in
    slice_set nodes at (record { letter = n.letter; parent = n.parent; sibling = n.sibling; child = n.child; place = Some place })
