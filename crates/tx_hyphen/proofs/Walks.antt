-- Walks in a tree with one more node.
use Rattle.std.proofs.Common.{◌≡◌, ℕ, ◌-◌, ◌≤◌, ◌<◌, Bool, true, false, List, [], ◌∷◌, ◌++◌, length, refl, ap, arith, eq-eqb}
use Rattle.std.specs.Prelude.{zero, suc, ◌==◌, ◌&&◌, if◌then◌else◌, Option, None, Some, option_and_then}
use Rattle.std.proofs.lemmas.Bool.{eqb-true, ne_eqb}
use Rattle.tx_hyphen.specs.declared.trie.Node.{Node}
use Rattle.tx_hyphen.specs.Trie.{IsLinked, child_of, grown, hangs_by, last_such, node, walk}
use Rattle.tx_hyphen.proofs.Grown.{grown-alike, grown-new, hangs_by-alike, such-last, such-none}

-- what is found lies in the range, and passes the test
pub record IsFound (nodes : List Node) (test : Node → Bool) (m k : ℕ) : Type 0 where
  pub positive : 0 < k
  pub inside : k ≤ m
  pub passes : test (node nodes k) ≡ true

found-case : (nodes : List Node) (test : Node → Bool) (m k : ℕ) (b : Bool)
    → (last_such nodes test m ≡ Some k → IsFound nodes test m k)
    → test (node nodes (suc m)) ≡ b
    → (if b then Some (suc m) else last_such nodes test m) ≡ Some k → IsFound nodes test (suc m) k
found-case nodes test m k true rest is found =
    let k_is : suc m ≡ k = cc in
    record { positive = omega arith; inside = omega arith; passes = rw (← k_is) is }
found-case nodes test m k false rest is found =
    let r = rest found in
    record { positive = r.positive; inside = omega (arith, r.inside); passes = r.passes }

pub such-found : (nodes : List Node) (test : Node → Bool) (m k : ℕ)
    → last_such nodes test m ≡ Some k → IsFound nodes test m k
such-found nodes test zero k found = absurd (cc)
such-found nodes test (suc m) k found =
    found-case nodes test m k (test (node nodes (suc m))) (such-found nodes test m k) refl found

-- the children of an old node
pub child-grown : (nodes : List Node) (parent letter q d : ℕ) → parent < length nodes
    → child_of (grown nodes parent letter) q d
    ≡ (if parent == q && letter == d then Some (length nodes) else child_of nodes q d)
child-grown nodes parent letter q d hung = such-last nodes parent letter (hangs_by q d) hung (hangs_by-alike q d)

pub child-hung : (nodes : List Node) (parent letter : ℕ) → parent < length nodes
    → child_of (grown nodes parent letter) parent letter ≡ Some (length nodes)
child-hung nodes parent letter hung =
    rw (child-grown nodes parent letter parent letter hung, eq-eqb parent parent refl, eq-eqb letter letter refl) refl

-- the new node has none
no-child : (nodes : List Node) (parent letter d : ℕ) → IsLinked nodes → parent < length nodes
    → child_of (grown nodes parent letter) (length nodes) d ≡ None
no-child nodes parent letter d linked hung =
    let apart : (parent == length nodes) ≡ false = ne_eqb _ _ (omega arith) in
    rw (child-grown nodes parent letter (length nodes) d hung, apart)
    (such-none nodes (hangs_by (length nodes) d) (length nodes - 1)
    (λ k positive below.
    let inside : k < length nodes = omega (arith, linked.rooted) in
    let before = linked.before k positive inside in
    let other : ((node nodes k).parent == length nodes) ≡ false = ne_eqb _ _ (omega arith) in
    rw other refl))

-- the place that is kept where letters lead from a node
abbrev pub kept_at : List Node → ℕ → List ℕ → Option ℕ
kept_at nodes from letters = option_and_then (λ k. (node nodes k).place) (walk nodes from letters)

kept-new : (nodes : List Node) (parent letter : ℕ) (letters : List ℕ) → IsLinked nodes → parent < length nodes
    → kept_at (grown nodes parent letter) (length nodes) letters ≡ None
kept-new nodes parent letter [] linked hung = ap (λ (n : Node). n.place) (grown-new nodes parent letter hung)
kept-new nodes parent letter (d ∷ letters) linked hung = rw (no-child nodes parent letter d linked hung) refl

kept-same : (nodes : List Node) (parent letter : ℕ) (letters : List ℕ) → IsLinked nodes → parent < length nodes
    → child_of nodes parent letter ≡ None
    → kept_at (grown nodes parent letter) parent (letter ∷ letters) ≡ kept_at nodes parent (letter ∷ letters)
kept-same nodes parent letter letters linked hung absent =
    rw (child-grown nodes parent letter parent letter hung, eq-eqb parent parent refl, eq-eqb letter letter refl, absent)
    (kept-new nodes parent letter letters linked hung)

kept-other : (nodes : List Node) (parent letter q d : ℕ) (letters : List ℕ) → IsLinked nodes → parent < length nodes
    → ((m : ℕ) → m < length nodes → kept_at (grown nodes parent letter) m letters ≡ kept_at nodes m letters)
    → (parent == q && letter == d) ≡ false
    → (o : Option ℕ) → child_of nodes q d ≡ o
    → kept_at (grown nodes parent letter) q (d ∷ letters) ≡ kept_at nodes q (d ∷ letters)
kept-other nodes parent letter q d letters linked hung rest is None child =
    rw (child-grown nodes parent letter q d hung, is, child) refl
kept-other nodes parent letter q d letters linked hung rest is (Some m) child =
    let found = such-found nodes (hangs_by q d) (length nodes - 1) m child in
    rw (child-grown nodes parent letter q d hung, is, child)
    (rest m (omega (arith, found.inside, linked.rooted)))

kept-child : (nodes : List Node) (parent letter q d : ℕ) (letters : List ℕ) → IsLinked nodes → parent < length nodes
    → child_of nodes parent letter ≡ None
    → ((m : ℕ) → m < length nodes → kept_at (grown nodes parent letter) m letters ≡ kept_at nodes m letters)
    → (b : Bool) → (parent == q) ≡ b → (b' : Bool) → (letter == d) ≡ b'
    → kept_at (grown nodes parent letter) q (d ∷ letters) ≡ kept_at nodes q (d ∷ letters)
kept-child nodes parent letter q d letters linked hung absent rest true is true is' =
    rw (← eqb-true _ _ is, ← eqb-true _ _ is') (kept-same nodes parent letter letters linked hung absent)
kept-child nodes parent letter q d letters linked hung absent rest true is false is' =
    kept-other nodes parent letter q d letters linked hung rest (rw (is, is') refl) (child_of nodes q d) refl
kept-child nodes parent letter q d letters linked hung absent rest false is b' is' =
    kept-other nodes parent letter q d letters linked hung rest (rw is refl) (child_of nodes q d) refl

-- no place that is kept changes
pub kept-grown : (nodes : List Node) (parent letter : ℕ) (letters : List ℕ) (q : ℕ) → IsLinked nodes → parent < length nodes
    → child_of nodes parent letter ≡ None → q < length nodes
    → kept_at (grown nodes parent letter) q letters ≡ kept_at nodes q letters
kept-grown nodes parent letter [] q linked hung absent inside =
    (grown-alike nodes parent letter q hung inside).place
kept-grown nodes parent letter (d ∷ letters) q linked hung absent inside =
    kept-child nodes parent letter q d letters linked hung absent
    (λ m within. kept-grown nodes parent letter letters m linked hung absent within)
    (parent == q) refl (letter == d) refl

-- a walk to an old node stays: first a step
step-case : (nodes : List Node) (parent letter q d m : ℕ) → parent < length nodes
    → child_of nodes parent letter ≡ None → child_of nodes q d ≡ Some m
    → (b : Bool) → (parent == q) ≡ b → (b' : Bool) → (letter == d) ≡ b'
    → child_of (grown nodes parent letter) q d ≡ Some m
step-case nodes parent letter q d m hung absent found true is true is' =
    let none : child_of nodes q d ≡ None = rw (← eqb-true _ _ is, ← eqb-true _ _ is') absent in
    absurd (cc)
step-case nodes parent letter q d m hung absent found true is false is' =
    rw (child-grown nodes parent letter q d hung, is, is') found
step-case nodes parent letter q d m hung absent found false is b' is' =
    rw (child-grown nodes parent letter q d hung, is) found

walk-case : (nodes : List Node) (parent letter q d r : ℕ) (letters : List ℕ) → IsLinked nodes → parent < length nodes
    → child_of nodes parent letter ≡ None
    → ((m : ℕ) → m < length nodes → walk nodes m letters ≡ Some r → walk (grown nodes parent letter) m letters ≡ Some r)
    → (o : Option ℕ) → child_of nodes q d ≡ o
    → option_and_then (λ next. walk nodes next letters) o ≡ Some r
    → walk (grown nodes parent letter) q (d ∷ letters) ≡ Some r
walk-case nodes parent letter q d r letters linked hung absent rest None child led = absurd (cc)
walk-case nodes parent letter q d r letters linked hung absent rest (Some m) child led =
    let found = such-found nodes (hangs_by q d) (length nodes - 1) m child in
    rw (step-case nodes parent letter q d m hung absent child (parent == q) refl (letter == d) refl)
    (rest m (omega (arith, found.inside, linked.rooted)) led)

pub walk-grown : (nodes : List Node) (parent letter : ℕ) (letters : List ℕ) (q r : ℕ) → IsLinked nodes
    → parent < length nodes → child_of nodes parent letter ≡ None → q < length nodes
    → walk nodes q letters ≡ Some r → walk (grown nodes parent letter) q letters ≡ Some r
walk-grown nodes parent letter [] q r linked hung absent inside led = led
walk-grown nodes parent letter (d ∷ letters) q r linked hung absent inside led =
    walk-case nodes parent letter q d r letters linked hung absent
    (λ m within led'. walk-grown nodes parent letter letters m r linked hung absent within led')
    (child_of nodes q d) refl led

-- one more letter
more-case : (nodes : List Node) (letters : List ℕ) (q r d m x : ℕ)
    → ((n : ℕ) → walk nodes n letters ≡ Some r → walk nodes n (letters ++ d ∷ []) ≡ Some m)
    → (o : Option ℕ) → child_of nodes q x ≡ o
    → option_and_then (λ next. walk nodes next letters) o ≡ Some r
    → option_and_then (λ next. walk nodes next (letters ++ d ∷ [])) o ≡ Some m
more-case nodes letters q r d m x rest None child led = absurd (cc)
more-case nodes letters q r d m x rest (Some n) child led = rest n led

pub walk-more : (nodes : List Node) (letters : List ℕ) (q r d m : ℕ)
    → walk nodes q letters ≡ Some r → child_of nodes r d ≡ Some m → walk nodes q (letters ++ d ∷ []) ≡ Some m
walk-more nodes [] q r d m led child =
    let same : q ≡ r = cc in rw (same, child) refl
walk-more nodes (x ∷ letters) q r d m led child =
    more-case nodes letters q r d m x (λ n led'. walk-more nodes letters n r d m led' child) (child_of nodes q x) refl led
