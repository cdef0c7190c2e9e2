-- A tree with one more node.
use Rattle.std.proofs.Common.{◌≡◌, ◌≢◌, ℕ, ◌+◌, ◌-◌, ◌≤◌, ◌<◌, Bool, false, List, [], ◌∷◌, ◌++◌, length, refl, sym, arith, inl, inr, eq-eqb, length-set, length-append, get_or-set_other, get_or-set_same}
use Rattle.std.specs.Prelude.{zero, suc, if◌then◌else◌, None, Some}
use Rattle.std.proofs.lemmas.Bool.{cases_eq, ne_eqb}
use Rattle.std.proofs.lemmas.List.{get_or_append_left, get_or_push}
use Rattle.tx_hyphen.specs.declared.trie.Node.{Node}
use Rattle.tx_hyphen.specs.Trie.{IsLinked, grown, hangs_by, hangs_on, last_such, node}

-- a test that tells the same of the nodes 1 to m of two trees finds the same of them
pub such-same : (nodes others : List Node) (test : Node → Bool) (m : ℕ)
    → ((k : ℕ) → 0 < k → k ≤ m → test (node others k) ≡ test (node nodes k))
    → last_such others test m ≡ last_such nodes test m
such-same nodes others test zero same = refl
such-same nodes others test (suc m) same =
    rw (
      same (suc m) (omega arith) (omega arith),
      such-same nodes others test m (λ k positive below. same k positive (omega arith)),
    ) refl

-- .. and one that none of them passes finds none
pub such-none : (nodes : List Node) (test : Node → Bool) (m : ℕ)
    → ((k : ℕ) → 0 < k → k ≤ m → test (node nodes k) ≡ false)
    → last_such nodes test m ≡ None
such-none nodes test zero fails = refl
such-none nodes test (suc m) fails =
    rw (
      fails (suc m) (omega arith) (omega arith),
      such-none nodes test m (λ k positive below. fails k positive (omega arith)),
    ) refl

pub length-grown : (nodes : List Node) (parent letter : ℕ) → length (grown nodes parent letter) ≡ length nodes + 1
length-grown nodes parent letter = simp (length-set, length-append) refl

-- another node than the parent stays as it was
grown-other : (nodes : List Node) (parent letter k : ℕ) → k < length nodes → k ≢ parent
    → node (grown nodes parent letter) k ≡ node nodes k
grown-other nodes parent letter k inside other =
    rw (get_or-set_other, get_or_append_left) refl

-- the parent itself
grown-parent : (nodes : List Node) (parent letter : ℕ) → parent < length nodes
    → node (grown nodes parent letter) parent
    ≡ record {
      letter = (node nodes parent).letter;
      parent = (node nodes parent).parent;
      sibling = (node nodes parent).sibling;
      child = Some (length nodes);
      place = (node nodes parent).place;
    }
grown-parent nodes parent letter inside =
    let longer : parent < length (nodes ++ record { letter = letter; parent = parent; sibling = (node nodes parent).child; child = None; place = None } ∷ []) =
    omega (arith, length-append nodes (record { letter = letter; parent = parent; sibling = (node nodes parent).child; child = None; place = None } ∷ [])) in
    rw get_or-set_same refl

-- the new node
pub grown-new : (nodes : List Node) (parent letter : ℕ) → parent < length nodes
    → node (grown nodes parent letter) (length nodes)
    ≡ record { letter = letter; parent = parent; sibling = (node nodes parent).child; child = None; place = None }
grown-new nodes parent letter inside =
    let other : length nodes ≢ parent = omega arith in
    let at_end : length nodes ≡ length nodes = refl in
    rw (get_or-set_other, get_or_push) refl

-- a node that differs from another in its children alone
pub record IsAlike (old new : Node) : Type 0 where
  pub letter : new.letter ≡ old.letter
  pub parent : new.parent ≡ old.parent
  pub sibling : new.sibling ≡ old.sibling
  pub place : new.place ≡ old.place

alike-same : (old new : Node) → new ≡ old → IsAlike old new
alike-same old new e = rw e (record { letter = refl; parent = refl; sibling = refl; place = refl })

pub grown-alike : (nodes : List Node) (parent letter k : ℕ) → parent < length nodes → k < length nodes
    → IsAlike (node nodes k) (node (grown nodes parent letter) k)
grown-alike nodes parent letter k hung inside =
    elim (cases_eq k parent) [
      | inl same ↦ rw (same, grown-parent nodes parent letter hung) (record { letter = refl; parent = refl; sibling = refl; place = refl })
      | inr other ↦ alike-same _ _ (grown-other nodes parent letter k inside other)
    ]

-- the old nodes that pass a test of how they hang
such-grown : (nodes : List Node) (parent letter : ℕ) (test : Node → Bool) (m : ℕ) → parent < length nodes → m < length nodes
    → ((old new : Node) → IsAlike old new → test new ≡ test old)
    → last_such (grown nodes parent letter) test m ≡ last_such nodes test m
such-grown nodes parent letter test m hung inside blind =
    such-same nodes (grown nodes parent letter) test m
    (λ k positive below. blind _ _ (grown-alike nodes parent letter k hung (omega arith)))

hangs_on-alike : (q : ℕ) (old new : Node) → IsAlike old new → hangs_on q new ≡ hangs_on q old
hangs_on-alike q old new alike = rw alike.parent refl

pub hangs_by-alike : (q d : ℕ) (old new : Node) → IsAlike old new → hangs_by q d new ≡ hangs_by q d old
hangs_by-alike q d old new alike = rw (alike.parent, alike.letter) refl

-- the last node of all is the new one
pub such-last : (nodes : List Node) (parent letter : ℕ) (test : Node → Bool) → parent < length nodes
    → ((old new : Node) → IsAlike old new → test new ≡ test old)
    → last_such (grown nodes parent letter) test (length (grown nodes parent letter) - 1)
    ≡ (if test (record { letter = letter; parent = parent; sibling = (node nodes parent).child; child = None; place = None })
    then Some (length nodes) else last_such nodes test (length nodes - 1))
such-last nodes parent letter test inside blind =
    let last : length (grown nodes parent letter) - 1 ≡ suc (length nodes - 1) = omega (arith, length-grown nodes parent letter) in
    let same : suc (length nodes - 1) ≡ length nodes = omega arith in
    rw (last, same, grown-new nodes parent letter inside, such-grown nodes parent letter test (length nodes - 1) inside (omega arith) blind) refl

-- nothing hangs on a node that isn't there yet
none-hangs : (nodes : List Node) (q : ℕ) → IsLinked nodes → length nodes ≤ q
    → last_such nodes (hangs_on q) (length nodes - 1) ≡ None
none-hangs nodes q linked outside =
    such-none nodes (hangs_on q) (length nodes - 1)
    (λ k positive below.
    let inside : k < length nodes = omega (arith, linked.rooted) in
    let before = linked.before k positive inside in
    ne_eqb _ _ (omega arith))

before-grown : (nodes : List Node) (parent letter k : ℕ) → IsLinked nodes → parent < length nodes
    → 0 < k → k < length (grown nodes parent letter) → (node (grown nodes parent letter) k).parent < k
before-grown nodes parent letter k linked hung positive inside =
    elim (cases_eq k (length nodes)) [
      | inl last ↦ rw (last, grown-new nodes parent letter hung) hung
      | inr other ↦
          let within : k < length nodes = omega (arith, length-grown nodes parent letter) in
          rw ((grown-alike nodes parent letter k hung within).parent) (linked.before k positive within)
    ]

siblings-grown : (nodes : List Node) (parent letter k : ℕ) → IsLinked nodes → parent < length nodes
    → k + 1 < length (grown nodes parent letter)
    → (node (grown nodes parent letter) (k + 1)).sibling
    ≡ last_such (grown nodes parent letter) (hangs_on (node (grown nodes parent letter) (k + 1)).parent) k
siblings-grown nodes parent letter k linked hung inside =
    elim (cases_eq (k + 1) (length nodes)) [
      | inl last ↦
          let k_is : k ≡ length nodes - 1 = omega arith in
          rw (
            last,
            grown-new nodes parent letter hung,
            k_is,
            such-grown nodes parent letter (hangs_on parent) (length nodes - 1) hung (omega arith) (hangs_on-alike parent),
          )
          (linked.children parent hung)
      | inr other ↦
          let within : k + 1 < length nodes = omega (arith, length-grown nodes parent letter) in
          let alike = grown-alike nodes parent letter (k + 1) hung within in
          rw (
            alike.sibling,
            alike.parent,
            such-grown nodes parent letter (hangs_on (node nodes (k + 1)).parent) k hung (omega arith) (hangs_on-alike (node nodes (k + 1)).parent),
          )
          (linked.siblings k within)
    ]

children-grown : (nodes : List Node) (parent letter k : ℕ) → IsLinked nodes → parent < length nodes
    → k < length (grown nodes parent letter)
    → (node (grown nodes parent letter) k).child
    ≡ last_such (grown nodes parent letter) (hangs_on k) (length (grown nodes parent letter) - 1)
children-grown nodes parent letter k linked hung inside =
    let last_is = such-last nodes parent letter (hangs_on k) hung (hangs_on-alike k) in
    elim (cases_eq k (length nodes)) [
      | inl last ↦
          let apart : hangs_on k (record { letter = letter; parent = parent; sibling = (node nodes parent).child; child = None; place = None }) ≡ false =
          ne_eqb _ _ (omega arith) in
          rw (last_is, apart, last, grown-new nodes parent letter hung) (sym (none-hangs nodes (length nodes) linked (omega arith)))
      | inr other ↦
          let within : k < length nodes = omega (arith, length-grown nodes parent letter) in
          elim (cases_eq k parent) [
            | inl same ↦
                rw (last_is, same, grown-parent nodes parent letter hung, eq-eqb parent parent refl) refl
            | inr apart ↦
                rw (last_is, grown-other nodes parent letter k within apart, ne_eqb parent k (λ e. apart (sym e)))
                (linked.children k within)
          ]
    ]

-- the tree stays linked
pub linked-grown : (nodes : List Node) (parent letter : ℕ) → IsLinked nodes → parent < length nodes
    → IsLinked (grown nodes parent letter)
linked-grown nodes parent letter linked hung =
    record {
      rooted = omega (arith, length-grown nodes parent letter);
      before = λ k. before-grown nodes parent letter k linked hung;
      siblings = λ k. siblings-grown nodes parent letter k linked hung;
      children = λ k. children-grown nodes parent letter k linked hung;
    }
