-- The levels that are met along a walk are those of the spellings at the beginning of its text.
use Rattle.std.proofs.Common.{◌≡◌, ◌≢◌, ℕ, ◌+◌, ◌-◌, ◌≤◌, Bool, true, false, List, [], ◌∷◌, ◌++◌, length, take, refl, sym, ◌∙◌, ap, arith, append-nil, append_assoc, length-append, length-take}
use Rattle.std.specs.Prelude.{suc, max, ◌==◌, if◌then◌else◌, Option, None, Some, option_and_then, nat_eq, nat_le, slice_index}
use Rattle.std.specs.List.{starts_with}
use Rattle.std.proofs.lemmas.Bool.Decides.{nat_tests}
use Rattle.std.proofs.lemmas.Bool.{eqb-true, eqb-false, true≢false}
use Rattle.std.proofs.Math.Seq.{take-append-add, take-append_seam}
use Rattle.std.proofs.lemmas.List.{length-take-le}
use Rattle.tx_hyphen.specs.declared.spelling.Spelling.{Spelling}
use Rattle.tx_hyphen.specs.declared.trie.Node.{Node}
use Rattle.tx_hyphen.specs.Levels.{IsRaised, greatest_on, level_here, level_of}
use Rattle.tx_hyphen.specs.Trie.{child_of, node, walk}
use Rattle.tx_hyphen.specs.Along.{IsDistinct, IsIndexed, level_along, level_kept}
use Rattle.tx_hyphen.specs.Lexicon.{place_of}
use Rattle.tx_hyphen.proofs.Index.{absent-tail, letters-same, other-letters, same-letters, same_letters}
use Rattle.tx_hyphen.proofs.Walks.{walk-more}

greatest-same : {A : Type 0} (xs : List A) (f g : A → ℕ) → ((x : A) → f x ≡ g x) → greatest_on xs f ≡ greatest_on xs g
greatest-same [] f g same = refl
greatest-same (x ∷ xs) f g same = rw (same x, greatest-same xs f g same) refl

greatest-max : {A : Type 0} (xs : List A) (f g : A → ℕ)
    → greatest_on xs (λ x. max (f x) (g x)) ≡ max (greatest_on xs f) (greatest_on xs g)
greatest-max [] f g = omega arith
greatest-max (x ∷ xs) f g = omega (arith, greatest-max xs f g)

-- the level that a spelling of at least so many letters gives
abbrev level_from : ℕ → List ℕ → ℕ → Spelling → ℕ
level_from m text k p = if nat_le m (length p.letters) then level_of text k p else 0

-- .. and one of exactly so many
abbrev level_with : ℕ → List ℕ → ℕ → Spelling → ℕ
level_with m text k p = if length p.letters == m then level_of text k p else 0

lengths-part : (m n v : ℕ)
    → (if nat_le m n then v else 0) ≡ max (if n == m then v else 0) (if nat_le (suc m) n then v else 0)
lengths-part m n v = grind (arith, nat_tests)

levels-part : (spellings : List Spelling) (m : ℕ) (text : List ℕ) (k : ℕ)
    → greatest_on spellings (level_from m text k)
    ≡ max (greatest_on spellings (level_with m text k)) (greatest_on spellings (level_from (suc m) text k))
levels-part spellings m text k =
    greatest-same spellings _ _ (λ p. lengths-part m (length p.letters) (level_of text k p))
    ∙ greatest-max spellings (level_with m text k) (level_from (suc m) text k)

-- the level of a spelling with these letters
abbrev level_spelled : List ℕ → ℕ → Spelling → ℕ
level_spelled letters k p = if same_letters p.letters letters then slice_index p.levels k else 0

with-case : (m : ℕ) (text : List ℕ) (k : ℕ) (p : Spelling) → m ≤ length text
    → (b : Bool) → (length p.letters == m) ≡ b → level_with m text k p ≡ level_spelled (take m text) k p
with-case m text k p short true is = rw (is, eqb-true _ _ is) refl
with-case m text k p short false is =
    let apart : p.letters ≢ take m text = λ e. eqb-false _ _ is (ap length e ∙ length-take-le m text short) in
    rw (is, other-letters p.letters (take m text) apart) refl

-- of distinct spellings the one with these letters alone gives one
only-case : (s : Spelling) (spellings : List Spelling) (letters : List ℕ) (k : ℕ) → IsDistinct (s ∷ spellings)
    → greatest_on spellings (level_spelled letters k) ≡ level_kept spellings (place_of spellings letters) k
    → (b : Bool) → same_letters s.letters letters ≡ b → (o : Option ℕ) → place_of spellings letters ≡ o
    → greatest_on (s ∷ spellings) (level_spelled letters k) ≡ level_kept (s ∷ spellings) (place_of (s ∷ spellings) letters) k
only-case s spellings letters k distinct rest true same o is =
    let none : place_of spellings letters ≡ None = rw (letters-same s.letters letters same) at distinct.0 in
    rw (same, rest, none) (omega arith)
only-case s spellings letters k distinct rest false same None is = rw (same, rest, is) (omega arith)
only-case s spellings letters k distinct rest false same (Some m) is = rw (same, rest, is) (omega arith)

only : (spellings : List Spelling) (letters : List ℕ) (k : ℕ) → IsDistinct spellings
    → greatest_on spellings (level_spelled letters k) ≡ level_kept spellings (place_of spellings letters) k
only [] letters k distinct = refl
only (s ∷ spellings) letters k distinct =
    only-case s spellings letters k distinct (only spellings letters k distinct.1) (same_letters s.letters letters) refl
    (place_of spellings letters) refl

levels-with : (spellings : List Spelling) (m : ℕ) (text : List ℕ) (k : ℕ) → IsDistinct spellings → m ≤ length text
    → greatest_on spellings (level_with m text k) ≡ level_kept spellings (place_of spellings (take m text)) k
levels-with spellings m text k distinct short =
    greatest-same spellings _ _ (λ p. with-case m text k p short (length p.letters == m) refl)
    ∙ only spellings (take m text) k distinct

-- no spelling goes on where no node does
zero-case : (m : ℕ) (text : List ℕ) (k : ℕ) (p : Spelling)
    → (m ≤ length p.letters → p.letters ≡ take (length p.letters) text → ⊥)
    → (b : Bool) → nat_le m (length p.letters) ≡ b → (b' : Bool) → starts_with nat_eq text p.letters ≡ b'
    → level_from m text k p ≡ 0
zero-case m text k p never true long true stands =
    absurd (never (grind (arith, nat_tests)) (letters-same p.letters (take (length p.letters) text) stands))
zero-case m text k p never true long false stands = rw (long, stands) refl
zero-case m text k p never false long b' stands = rw long refl

-- a text that has ended
levels-ended : (spellings : List Spelling) (text : List ℕ) (k : ℕ)
    → greatest_on spellings (level_from (suc (length text)) text k) ≡ 0
levels-ended [] text k = refl
levels-ended (p ∷ spellings) text k =
    rw (
      zero-case (suc (length text)) text k p
          (λ long e. omega (arith, ap length e, length-take (length p.letters) text))
          (nat_le (suc (length text)) (length p.letters)) refl (starts_with nat_eq text p.letters) refl,
      levels-ended spellings text k,
    ) (omega arith)

longer : (begun rest q : List ℕ) (c : ℕ) → suc (length begun) ≤ length q
    → q ≡ take (length q) (begun ++ c ∷ rest)
    → q ≡ begun ++ c ∷ take (length q - suc (length begun)) rest
longer begun rest q c long e =
    let n_is : length q ≡ length begun + suc (length q - suc (length begun)) = omega arith in
    e ∙ ap (λ n. take n (begun ++ c ∷ rest)) n_is
    ∙ take-append-add begun (c ∷ rest) (suc (length q - suc (length begun)))

-- a text that goes on by a letter by which no spelling does
levels-lost : (spellings : List Spelling) (begun rest : List ℕ) (c k : ℕ)
    → ((more : List ℕ) → place_of spellings (begun ++ c ∷ more) ≡ None)
    → greatest_on spellings (level_from (suc (length begun)) (begun ++ c ∷ rest) k) ≡ 0
levels-lost [] begun rest c k absent = refl
levels-lost (p ∷ spellings) begun rest c k absent =
    let parts = λ (more : List ℕ). absent-tail p spellings (begun ++ c ∷ more) (same_letters p.letters (begun ++ c ∷ more)) refl
    (place_of spellings (begun ++ c ∷ more)) refl (absent more) in
    rw (
      zero-case (suc (length begun)) (begun ++ c ∷ rest) k p
          (λ long e.
          let more = take (length p.letters - suc (length begun)) rest in
          true≢false (sym (same-letters p.letters (begun ++ c ∷ more) (longer begun rest p.letters c long e)) ∙ (parts more).0))
          (nat_le (suc (length begun)) (length p.letters)) refl (starts_with nat_eq (begun ++ c ∷ rest) p.letters) refl,
      levels-lost spellings begun rest c k (λ more. (parts more).1),
    ) (omega arith)

-- a walk ends where a child lacks
cut-case : (nodes : List Node) (begun more : List ℕ) (at c : ℕ)
    → ((q : ℕ) → walk nodes q begun ≡ Some at → walk nodes q (begun ++ c ∷ more) ≡ None)
    → (o : Option ℕ) → option_and_then (λ next. walk nodes next begun) o ≡ Some at
    → option_and_then (λ next. walk nodes next (begun ++ c ∷ more)) o ≡ None
cut-case nodes begun more at c rest None led = refl
cut-case nodes begun more at c rest (Some n) led = rest n led

walk-cut : (nodes : List Node) (begun more : List ℕ) (q at c : ℕ)
    → walk nodes q begun ≡ Some at → child_of nodes at c ≡ None → walk nodes q (begun ++ c ∷ more) ≡ None
walk-cut nodes [] more q at c led absent = let same : q ≡ at = cc in rw (same, absent) refl
walk-cut nodes (d ∷ begun) more q at c led absent =
    cut-case nodes begun more at c (λ n led'. walk-cut nodes begun more n at c led' absent) (child_of nodes q d) led

-- the level at a node is that of the spelling with the letters that lead there
kept-here : (nodes : List Node) (spellings : List Spelling) (begun : List ℕ) (at : ℕ) → IsIndexed nodes spellings
    → walk nodes 0 begun ≡ Some at → (node nodes at).place ≡ place_of spellings begun
kept-here nodes spellings begun at indexed led =
    sym (ap (λ o. option_and_then (λ k. (node nodes k).place) o) led) ∙ indexed.places begun

level-here : (nodes : List Node) (spellings : List Spelling) (begun rest : List ℕ) (at k : ℕ) → IsIndexed nodes spellings
    → walk nodes 0 begun ≡ Some at
    → greatest_on spellings (level_with (length begun) (begun ++ rest) k) ≡ level_kept spellings (node nodes at).place k
level-here nodes spellings begun rest at k indexed led =
    levels-with spellings (length begun) (begun ++ rest) k indexed.distinct (omega (arith, length-append begun rest))
    ∙ rw (take-append_seam begun rest, kept-here nodes spellings begun at indexed led) refl

-- what a walk from a node meets is what the spellings with at least the letters before it give
along-case : (nodes : List Node) (spellings : List Spelling) (begun rest : List ℕ) (at c k : ℕ) → IsIndexed nodes spellings
    → walk nodes 0 begun ≡ Some at
    → ((next : ℕ) → walk nodes 0 (begun ++ c ∷ []) ≡ Some next
    → level_along nodes spellings next rest k
    ≡ greatest_on spellings (level_from (length (begun ++ c ∷ [])) ((begun ++ c ∷ []) ++ rest) k))
    → (o : Option ℕ) → child_of nodes at c ≡ o
    → elim o [ None ↦ 0 | Some next ↦ level_along nodes spellings next rest k ]
    ≡ greatest_on spellings (level_from (suc (length begun)) (begun ++ c ∷ rest) k)
along-case nodes spellings begun rest at c k indexed led more None child =
    sym (levels-lost spellings begun rest c k
    (λ v. sym (indexed.places (begun ++ c ∷ v))
    ∙ ap (λ o. option_and_then (λ n. (node nodes n).place) o) (walk-cut nodes begun v 0 at c led child)))
along-case nodes spellings begun rest at c k indexed led more (Some next) child =
    let long : length (begun ++ c ∷ []) ≡ suc (length begun) = omega (arith, length-append begun (c ∷ [])) in
    let text : (begun ++ c ∷ []) ++ rest ≡ begun ++ c ∷ rest = append_assoc begun (c ∷ []) rest in
    rw (long, text) at (more next (walk-more nodes begun 0 at c next led child))

along : (nodes : List Node) (spellings : List Spelling) (rest begun : List ℕ) (at k : ℕ) → IsIndexed nodes spellings
    → walk nodes 0 begun ≡ Some at
    → level_along nodes spellings at rest k ≡ greatest_on spellings (level_from (length begun) (begun ++ rest) k)
along nodes spellings [] begun at k indexed led =
    let text : begun ++ [] ≡ begun = append-nil begun in
    sym (levels-part spellings (length begun) (begun ++ []) k
    ∙ rw (level-here nodes spellings begun [] at k indexed led, text, levels-ended spellings begun k) (omega arith))
along nodes spellings (c ∷ rest) begun at k indexed led =
    sym (levels-part spellings (length begun) (begun ++ c ∷ rest) k
    ∙ rw (
      level-here nodes spellings begun (c ∷ rest) at k indexed led,
      ← along-case nodes spellings begun rest at c k indexed led
          (λ next led'. along nodes spellings rest (begun ++ c ∷ []) next k indexed led') (child_of nodes at c) refl,
    ) refl)

-- a walk from the root meets the greatest level that the spellings at the beginning of its text give
pub along-here : (nodes : List Node) (spellings : List Spelling) (text : List ℕ) (k : ℕ) → IsIndexed nodes spellings
    → level_along nodes spellings 0 text k ≡ level_here spellings text k
along-here nodes spellings text k indexed =
    along nodes spellings text [] 0 k indexed refl
    ∙ greatest-same spellings _ _ (λ p. grind (arith, nat_tests))

-- .. and so for levels that are raised by what a walk meets
pub raised-here : (nodes : List Node) (spellings lent held : List Spelling) (levels new text : List ℕ)
    → IsIndexed nodes spellings → lent ≡ spellings → spellings ≡ held
    → IsRaised levels new (level_along nodes lent 0 text) → IsRaised levels new (level_here held text)
raised-here nodes spellings lent held levels new text indexed lent_is held_is raised k below =
    rw (← held_is, ← along-here nodes spellings text k indexed, ← lent_is) (raised k below)
