-- The row of a node's children, from the last one on.
use Rattle.std.proofs.Common.{◌≡◌, ℕ, ◌+◌, ◌-◌, ◌≤◌, ◌<◌, Bool, true, false, List, length, refl, sym, ◌∙◌, arith}
use Rattle.std.specs.Prelude.{if◌then◌else◌, zero, suc, Option, None, Some}
use Rattle.std.specs.Option.{option_map_or}
use Rattle.std.proofs.Common.{◌≢◌, eq-eqb, add-one}
use Rattle.std.proofs.lemmas.Bool.{eqb-true, ne_eqb}
use Rattle.tx_hyphen.specs.declared.trie.Node.{Node}
use Rattle.tx_hyphen.specs.Trie.{IsLinked, child_of, hangs_by, hangs_on, last_such, node}

-- a row of children of a node in which one with a letter is still sought
pub record IsRowFrom (nodes : List Node) (parent letter k : ℕ) : Type 0 where
  pub positive : 0 < k
  pub inside : k < length nodes
  pub hangs : (node nodes k).parent ≡ parent
  pub rest : child_of nodes parent letter ≡ last_such nodes (hangs_by parent letter) k

abbrev pub IsRow : List Node → ℕ → ℕ → Option ℕ → Type 0
IsRow nodes parent letter None = child_of nodes parent letter ≡ None
IsRow nodes parent letter (Some k) = IsRowFrom nodes parent letter k

row-case : (nodes : List Node) (parent letter m : ℕ) → suc m < length nodes
    → child_of nodes parent letter ≡ last_such nodes (hangs_by parent letter) (suc m)
    → (child_of nodes parent letter ≡ last_such nodes (hangs_by parent letter) m
    → IsRow nodes parent letter (last_such nodes (hangs_on parent) m))
    → (b : Bool) → hangs_on parent (node nodes (suc m)) ≡ b
    → IsRow nodes parent letter (last_such nodes (hangs_on parent) (suc m))
row-case nodes parent letter m inside sought rest true h =
    rw h (record { positive = omega arith; inside = inside; hangs = eqb-true _ _ h; rest = sought })
row-case nodes parent letter m inside sought rest false h =
    rw h (rest (sought ∙ rw h refl))

-- the children among the nodes 1 to m, where none with the letter comes behind them
pub row-at : (nodes : List Node) (parent letter m : ℕ) → m < length nodes
    → child_of nodes parent letter ≡ last_such nodes (hangs_by parent letter) m
    → IsRow nodes parent letter (last_such nodes (hangs_on parent) m)
row-at nodes parent letter zero inside sought = sought
row-at nodes parent letter (suc m) inside sought =
    row-case nodes parent letter m inside sought (row-at nodes parent letter m (omega arith)) (hangs_on parent (node nodes (suc m))) refl

-- all children of a node
pub row-start : (nodes : List Node) (parent letter : ℕ) → IsLinked nodes → parent < length nodes
    → IsRow nodes parent letter (node nodes parent).child
row-start nodes parent letter linked inside =
    rw (linked.children parent inside) (row-at nodes parent letter (length nodes - 1) (omega (arith, linked.rooted)) refl)

-- the child that was sought
pub row-found : (nodes : List Node) (parent letter k : ℕ) → IsRowFrom nodes parent letter k
    → (node nodes k).letter ≡ letter → child_of nodes parent letter ≡ Some k
row-found nodes parent letter zero row same = absurd (omega (arith, row.positive))
row-found nodes parent letter (suc m) row same =
    row.rest ∙ rw (eq-eqb _ _ row.hangs, eq-eqb _ _ same) refl

-- the children before one that isn't sought
pub row-next : (nodes : List Node) (parent letter k : ℕ) → IsLinked nodes → IsRowFrom nodes parent letter k
    → (node nodes k).letter ≢ letter → IsRow nodes parent letter (node nodes k).sibling
row-next nodes parent letter zero linked row other = absurd (omega (arith, row.positive))
row-next nodes parent letter (suc m) linked row other =
    let inside : m + 1 < length nodes = omega (arith, row.inside) in
    let sibling = linked.siblings m inside in
    rw (← add-one m, sibling)
    (rw (add-one m, row.hangs)
    (row-at nodes parent letter m (omega arith)
    (row.rest ∙ rw (eq-eqb _ _ row.hangs, ne_eqb _ _ other) refl)))

such-case : (nodes : List Node) (test : Node → Bool) (m : ℕ) (b : Bool)
    → option_map_or suc (last_such nodes test m) 0 ≤ suc m
    → option_map_or suc (if b then Some (suc m) else last_such nodes test m) 0 ≤ suc (suc m)
such-case nodes test m true below = omega arith
such-case nodes test m false below = omega arith

such-below : (nodes : List Node) (test : Node → Bool) (m : ℕ) → option_map_or suc (last_such nodes test m) 0 ≤ suc m
such-below nodes test zero = omega arith
such-below nodes test (suc m) = such-case nodes test m (test (node nodes (suc m))) (such-below nodes test m)

-- .. and they come before it
pub row-falls : (nodes : List Node) (k : ℕ) → IsLinked nodes → 0 < k → k < length nodes
    → option_map_or suc (node nodes k).sibling 0 < suc k
row-falls nodes zero linked positive inside = absurd (omega arith)
row-falls nodes (suc m) linked positive inside =
    let inside' : m + 1 < length nodes = omega arith in
    let sibling = linked.siblings m inside' in
    rw (← add-one m, sibling) (omega (arith, such-below nodes (hangs_on (node nodes (m + 1)).parent) m))

-- the same, at a node that has been read
pub read-found : (nodes : List Node) (parent letter : ℕ) (next : Option ℕ) (k : ℕ) (candidate : Node)
    → IsRow nodes parent letter next → next ≡ Some k → candidate ≡ node nodes k → candidate.letter ≡ letter
    → Some k ≡ child_of nodes parent letter
read-found nodes parent letter next k candidate row is read same =
    sym (row-found nodes parent letter k (rw is at row) (rw read at same))

pub read-next : (nodes : List Node) (parent letter : ℕ) (next : Option ℕ) (k : ℕ) (candidate : Node) → IsLinked nodes
    → IsRow nodes parent letter next → next ≡ Some k → candidate ≡ node nodes k → candidate.letter ≢ letter
    → IsRow nodes parent letter candidate.sibling
read-next nodes parent letter next k candidate linked row is read other =
    rw read (row-next nodes parent letter k linked (rw is at row) (rw read at other))

pub read-falls : (nodes : List Node) (parent letter : ℕ) (next : Option ℕ) (k : ℕ) (candidate : Node) → IsLinked nodes
    → IsRow nodes parent letter next → next ≡ Some k → candidate ≡ node nodes k
    → option_map_or suc candidate.sibling 0 < option_map_or suc next 0
read-falls nodes parent letter next k candidate linked row is read =
    let row' : IsRowFrom nodes parent letter k = rw is at row in
    rw (read, is) (row-falls nodes k linked row'.positive row'.inside)
