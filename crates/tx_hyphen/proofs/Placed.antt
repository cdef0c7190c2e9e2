-- A tree with one more place, and the letters that lead to a node.
use Rattle.std.proofs.Common.{◌≡◌, ◌≢◌, ℕ, ◌+◌, ◌-◌, ◌≤◌, ◌<◌, Bool, List, [], ◌∷◌, ◌++◌, length, refl, sym, ◌∙◌, ap, arith, inl, inr, append_assoc, append-nil, get_or-set_other, get_or-set_same, length-set}
use Rattle.std.specs.Prelude.{zero, suc, Option, None, Some, option_and_then}
use Rattle.std.proofs.lemmas.Bool.{cases_eq}
use Rattle.std.proofs.lemmas.Bool.Decides.{nat_tests}
use Rattle.tx_hyphen.specs.declared.trie.Node.{Node}
use Rattle.tx_hyphen.specs.Trie.{IsLinked, child_of, hangs_by, hangs_on, kept, last_such, node, placed, walk}
use Rattle.tx_hyphen.proofs.Grown.{such-same}
use Rattle.tx_hyphen.proofs.Walks.{such-found}

-- the letters that lead from the root to a node, up to so many
abbrev pub name_by : List Node → ℕ → ℕ → List ℕ
name_by nodes zero k = []
name_by nodes (suc fuel) zero = []
name_by nodes (suc fuel) (suc k) = name_by nodes fuel (node nodes (suc k)).parent ++ (node nodes (suc k)).letter ∷ []

names-agree : (nodes : List Node) (f g k : ℕ) → IsLinked nodes → k < length nodes → k ≤ f → k ≤ g
    → name_by nodes f k ≡ name_by nodes g k
names-agree nodes zero zero k linked inside h h' = refl
names-agree nodes zero (suc g) zero linked inside h h' = refl
names-agree nodes zero (suc g) (suc k) linked inside h h' = absurd (omega arith)
names-agree nodes (suc f) zero zero linked inside h h' = refl
names-agree nodes (suc f) zero (suc k) linked inside h h' = absurd (omega arith)
names-agree nodes (suc f) (suc g) zero linked inside h h' = refl
names-agree nodes (suc f) (suc g) (suc k) linked inside h h' =
    let before = linked.before (suc k) (omega arith) inside in
    rw (names-agree nodes f g (node nodes (suc k)).parent linked (omega arith) (omega arith) (omega arith)) refl

name-root : (nodes : List Node) (f : ℕ) → name_by nodes f 0 ≡ []
name-root nodes zero = refl
name-root nodes (suc f) = refl

name-child : (nodes : List Node) (f q d m : ℕ) → IsLinked nodes → length nodes ≤ suc f
    → child_of nodes q d ≡ Some m → name_by nodes f m ≡ name_by nodes f q ++ d ∷ []
name-child nodes f q d zero linked enough child =
    absurd (omega (arith, (such-found nodes (hangs_by q d) (length nodes - 1) zero child).positive))
name-child nodes f q d (suc m) linked enough child =
    let found = such-found nodes (hangs_by q d) (length nodes - 1) (suc m) child in
    let inside : suc m < length nodes = omega (arith, found.inside, linked.rooted) in
    let parent_is : (node nodes (suc m)).parent ≡ q = grind (arith, nat_tests, found.passes) in
    let letter_is : (node nodes (suc m)).letter ≡ d = grind (arith, nat_tests, found.passes) in
    names-agree nodes f (suc f) (suc m) linked inside (omega arith) (omega arith)
    ∙ rw (parent_is, letter_is) refl

name-case : (nodes : List Node) (f q d r : ℕ) (letters : List ℕ) → IsLinked nodes → length nodes ≤ suc f
    → ((m : ℕ) → walk nodes m letters ≡ Some r → name_by nodes f r ≡ name_by nodes f m ++ letters)
    → (o : Option ℕ) → child_of nodes q d ≡ o → option_and_then (λ next. walk nodes next letters) o ≡ Some r
    → name_by nodes f r ≡ name_by nodes f q ++ d ∷ letters
name-case nodes f q d r letters linked enough rest None child led = absurd (cc)
name-case nodes f q d r letters linked enough rest (Some m) child led =
    rest m led ∙ ap (λ n. n ++ letters) (name-child nodes f q d m linked enough child)
    ∙ append_assoc (name_by nodes f q) (d ∷ []) letters

-- a walk leads to the node with its letters
walk-name : (nodes : List Node) (f : ℕ) (letters : List ℕ) (q r : ℕ) → IsLinked nodes → length nodes ≤ suc f
    → walk nodes q letters ≡ Some r → name_by nodes f r ≡ name_by nodes f q ++ letters
walk-name nodes f [] q r linked enough led =
    let same : q ≡ r = cc in rw (same, append-nil) refl
walk-name nodes f (d ∷ letters) q r linked enough led =
    name-case nodes f q d r letters linked enough
    (λ m led'. walk-name nodes f letters m r linked enough led')
    (child_of nodes q d) refl led

-- two walks from the root to one node have the same letters
pub walks-meet : (nodes : List Node) (some others : List ℕ) (r : ℕ) → IsLinked nodes
    → walk nodes 0 some ≡ Some r → walk nodes 0 others ≡ Some r → some ≡ others
walks-meet nodes some others r linked led led' =
    let f = length nodes in
    let e = walk-name nodes f some 0 r linked (omega arith) led in
    let e' = walk-name nodes f others 0 r linked (omega arith) led' in
    rw (name-root nodes f) at (sym e ∙ e')

-- a node that differs from another in its place alone
record IsReplaced (old new : Node) : Type 0 where
  letter : new.letter ≡ old.letter
  parent : new.parent ≡ old.parent
  sibling : new.sibling ≡ old.sibling
  child : new.child ≡ old.child

placed-at : (nodes : List Node) (at place : ℕ) → at < length nodes
    → node (placed nodes at place) at
    ≡ record {
      letter = (node nodes at).letter;
      parent = (node nodes at).parent;
      sibling = (node nodes at).sibling;
      child = (node nodes at).child;
      place = Some place;
    }
placed-at nodes at place inside = rw get_or-set_same refl

placed-other : (nodes : List Node) (at place k : ℕ) → k ≢ at → node (placed nodes at place) k ≡ node nodes k
placed-other nodes at place k other = rw get_or-set_other refl

replaced-same : (old new : Node) → new ≡ old → IsReplaced old new
replaced-same old new e = rw e (record { letter = refl; parent = refl; sibling = refl; child = refl })

placed-alike : (nodes : List Node) (at place k : ℕ) → at < length nodes
    → IsReplaced (node nodes k) (node (placed nodes at place) k)
placed-alike nodes at place k inside =
    elim (cases_eq k at) [
      | inl same ↦ rw (same, placed-at nodes at place inside) (record { letter = refl; parent = refl; sibling = refl; child = refl })
      | inr other ↦ replaced-same _ _ (placed-other nodes at place k other)
    ]

such-placed : (nodes : List Node) (at place : ℕ) (test : Node → Bool) (m : ℕ) → at < length nodes
    → ((old new : Node) → IsReplaced old new → test new ≡ test old)
    → last_such (placed nodes at place) test m ≡ last_such nodes test m
such-placed nodes at place test m inside blind =
    such-same nodes (placed nodes at place) test m (λ k positive below. blind _ _ (placed-alike nodes at place k inside))

child-placed : (nodes : List Node) (at place q d : ℕ) → at < length nodes
    → child_of (placed nodes at place) q d ≡ child_of nodes q d
child-placed nodes at place q d inside =
    rw length-set (such-placed nodes at place (hangs_by q d) (length nodes - 1) inside (λ old new alike. rw (alike.parent, alike.letter) refl))

-- the tree stays linked
pub linked-placed : (nodes : List Node) (at place : ℕ) → IsLinked nodes → at < length nodes → IsLinked (placed nodes at place)
linked-placed nodes at place linked inside =
    let long : length (placed nodes at place) ≡ length nodes = rw length-set refl in
    record {
      rooted = omega (arith, linked.rooted);
      before = λ k positive within.
          rw ((placed-alike nodes at place k inside).parent) (linked.before k positive (omega arith));
      siblings = λ k within.
          let alike = placed-alike nodes at place (k + 1) inside in
          rw (
            alike.sibling,
            alike.parent,
            such-placed nodes at place (hangs_on (node nodes (k + 1)).parent) k inside (λ old new alike'. rw alike'.parent refl),
          )
          (linked.siblings k (omega arith));
      children = λ k within.
          rw (
            (placed-alike nodes at place k inside).child,
            long,
            such-placed nodes at place (hangs_on k) (length nodes - 1) inside (λ old new alike. rw alike.parent refl),
          )
          (linked.children k (omega arith));
    }

option-same : (f g : ℕ → Option ℕ) → ((n : ℕ) → f n ≡ g n) → (o : Option ℕ) → option_and_then f o ≡ option_and_then g o
option-same f g same None = refl
option-same f g same (Some n) = same n

-- walks lead where they led
walk-placed : (nodes : List Node) (at place : ℕ) (letters : List ℕ) (q : ℕ) → at < length nodes
    → walk (placed nodes at place) q letters ≡ walk nodes q letters
walk-placed nodes at place [] q inside = refl
walk-placed nodes at place (d ∷ letters) q inside =
    rw (child-placed nodes at place q d inside)
    (option-same (λ next. walk (placed nodes at place) next letters) (λ next. walk nodes next letters)
    (λ next. walk-placed nodes at place letters next inside) (child_of nodes q d))

-- the place is kept where its letters lead
pub kept-placed : (nodes : List Node) (at place : ℕ) (letters : List ℕ) → at < length nodes
    → walk nodes 0 letters ≡ Some at → kept (placed nodes at place) letters ≡ Some place
kept-placed nodes at place letters inside led =
    rw (walk-placed nodes at place letters 0 inside, led) (ap (λ (n : Node). n.place) (placed-at nodes at place inside))

other-case : (nodes : List Node) (at place : ℕ) (letters others : List ℕ) → IsLinked nodes → at < length nodes
    → walk nodes 0 letters ≡ Some at → others ≢ letters
    → (o : Option ℕ) → walk nodes 0 others ≡ o
    → option_and_then (λ k. (node (placed nodes at place) k).place) o ≡ option_and_then (λ k. (node nodes k).place) o
other-case nodes at place letters others linked inside led apart None led' = refl
other-case nodes at place letters others linked inside led apart (Some k) led' =
    elim (cases_eq k at) [
      | inl same ↦ absurd (apart (walks-meet nodes others letters at linked (rw same at led') led))
      | inr other ↦ ap (λ (n : Node). n.place) (placed-other nodes at place k other)
    ]

-- .. and other letters lead to what they led to
pub kept-elsewhere : (nodes : List Node) (at place : ℕ) (letters others : List ℕ) → IsLinked nodes → at < length nodes
    → walk nodes 0 letters ≡ Some at → others ≢ letters
    → kept (placed nodes at place) others ≡ kept nodes others
kept-elsewhere nodes at place letters others linked inside led apart =
    rw (walk-placed nodes at place others 0 inside)
    (other-case nodes at place letters others linked inside led apart (walk nodes 0 others) refl)
