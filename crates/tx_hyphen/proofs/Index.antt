-- A tree that keeps the places of spellings.
use Rattle.std.proofs.Common.{◌≡◌, ◌≢◌, ℕ, ◌<◌, Bool, true, false, List, [], ◌∷◌, ◌++◌, length, refl, sym, ◌∙◌, arith, inl, inr, ◌⊎◌}
use Rattle.std.proofs.lemmas.Bool.{true≢false}
use Rattle.std.specs.Prelude.{suc, if◌then◌else◌, Option, None, Some, option_map, nat_eq, slice_set, IfSome}
use Rattle.std.specs.Cmp.Lexicographic.{pointwise}
use lib.Pointwise.{bytes_decides}
use Rattle.tx_hyphen.specs.declared.spelling.Spelling.{Spelling}
use Rattle.tx_hyphen.specs.declared.trie.Node.{Node}
use Rattle.tx_hyphen.specs.Trie.{kept}
use Rattle.tx_hyphen.specs.Along.{IsDistinct, IsIndexed}
use Rattle.tx_hyphen.specs.Lexicon.{place_of}

-- the test of equal letters
abbrev pub same_letters : List ℕ → List ℕ → Bool
same_letters some others = pointwise nat_eq some others

pub letters-same : (some others : List ℕ) → same_letters some others ≡ true → some ≡ others
letters-same some others h = (bytes_decides some others).0 h

pub same-letters : (some others : List ℕ) → some ≡ others → same_letters some others ≡ true
same-letters some others e = (bytes_decides some others).1 e

bool-case : (b : Bool) → (b ≡ true) ⊎ (b ≡ false)
bool-case true = inl refl
bool-case false = inr refl

pub other-letters : (some others : List ℕ) → some ≢ others → same_letters some others ≡ false
other-letters some others apart =
    elim (bool-case (same_letters some others)) [
      | inl is ↦ absurd (apart (letters-same some others is))
      | inr is ↦ is
    ]

-- a place is one of the list
place-case : (s : Spelling) (spellings : List Spelling) (letters : List ℕ) (k : ℕ)
    → ((m : ℕ) → place_of spellings letters ≡ Some m → m < length spellings)
    → (b : Bool) → (o : Option ℕ) → place_of spellings letters ≡ o
    → (if b then Some 0 else option_map suc o) ≡ Some k → k < suc (length spellings)
place-case s spellings letters k rest true o is found = let e : 0 ≡ k = cc in omega arith
place-case s spellings letters k rest false None is found = absurd (cc)
place-case s spellings letters k rest false (Some m) is found = let e : suc m ≡ k = cc in omega (arith, rest m is)

pub place-inside : (spellings : List Spelling) (letters : List ℕ) (k : ℕ)
    → place_of spellings letters ≡ Some k → k < length spellings
place-inside [] letters k found = absurd (cc)
place-inside (s ∷ spellings) letters k found =
    place-case s spellings letters k (λ m is. place-inside spellings letters m is)
    (same_letters s.letters letters) (place_of spellings letters) refl found

-- one more spelling, with new letters
pushed-case : (s : Spelling) (spellings : List Spelling) (p : Spelling)
    → (place_of spellings p.letters ≡ None → place_of (spellings ++ p ∷ []) p.letters ≡ Some (length spellings))
    → (b : Bool) → same_letters s.letters p.letters ≡ b → (o : Option ℕ) → place_of spellings p.letters ≡ o
    → place_of (s ∷ spellings) p.letters ≡ None
    → place_of (s ∷ (spellings ++ p ∷ [])) p.letters ≡ Some (suc (length spellings))
pushed-case s spellings p rest true same o is absent =
    let first : place_of (s ∷ spellings) p.letters ≡ Some 0 = rw same refl in absurd (cc)
pushed-case s spellings p rest false same None is absent = rw (same, rest is) refl
pushed-case s spellings p rest false same (Some m) is absent =
    let later : place_of (s ∷ spellings) p.letters ≡ Some (suc m) = rw (same, is) refl in absurd (cc)

pub place-pushed : (spellings : List Spelling) (p : Spelling) → place_of spellings p.letters ≡ None
    → place_of (spellings ++ p ∷ []) p.letters ≡ Some (length spellings)
place-pushed [] p absent = rw (same-letters p.letters p.letters refl) refl
place-pushed (s ∷ spellings) p absent =
    pushed-case s spellings p (place-pushed spellings p) (same_letters s.letters p.letters) refl
    (place_of spellings p.letters) refl absent

pub place-elsewhere : (spellings : List Spelling) (p : Spelling) (letters : List ℕ) → letters ≢ p.letters
    → place_of (spellings ++ p ∷ []) letters ≡ place_of spellings letters
place-elsewhere [] p letters apart = rw (other-letters p.letters letters (λ e. apart (sym e))) refl
place-elsewhere (s ∷ spellings) p letters apart = rw (place-elsewhere spellings p letters apart) refl

-- the spellings stay apart
pub absent-tail : (s : Spelling) (spellings : List Spelling) (letters : List ℕ)
    → (b : Bool) → same_letters s.letters letters ≡ b → (o : Option ℕ) → place_of spellings letters ≡ o
    → place_of (s ∷ spellings) letters ≡ None → (b ≡ false) × (o ≡ None)
absent-tail s spellings letters true same o is absent =
    let first : place_of (s ∷ spellings) letters ≡ Some 0 = rw same refl in absurd (cc)
absent-tail s spellings letters false same None is absent = (refl, refl)
absent-tail s spellings letters false same (Some m) is absent =
    let later : place_of (s ∷ spellings) letters ≡ Some (suc m) = rw (same, is) refl in absurd (cc)

pub distinct-pushed : (spellings : List Spelling) (p : Spelling) → IsDistinct spellings
    → place_of spellings p.letters ≡ None → IsDistinct (spellings ++ p ∷ [])
distinct-pushed [] p distinct absent = (refl, tt)
distinct-pushed (s ∷ spellings) p distinct absent =
    let parts = absent-tail s spellings p.letters (same_letters s.letters p.letters) refl (place_of spellings p.letters) refl absent in
    let apart : s.letters ≢ p.letters = λ e. true≢false (sym (same-letters s.letters p.letters e) ∙ parts.0) in
    (place-elsewhere spellings p s.letters apart ∙ distinct.0, distinct-pushed spellings p distinct.1 parts.1)

-- a tree keeps one more spelling's place
pub indexed-pushed : (nodes grown : List Node) (spellings : List Spelling) (p : Spelling) → IsIndexed nodes spellings
    → place_of spellings p.letters ≡ None → kept grown p.letters ≡ Some (length spellings)
    → ((others : List ℕ) → others ≢ p.letters → kept grown others ≡ kept nodes others)
    → IsIndexed grown (spellings ++ p ∷ [])
indexed-pushed nodes grown spellings p indexed absent here elsewhere =
    record {
      places = λ letters. elim (bool-case (same_letters letters p.letters)) [
        | inl is ↦
            let e = letters-same letters p.letters is in
            rw (e, here, place-pushed spellings p absent) refl
        | inr is ↦
            let apart : letters ≢ p.letters = λ e. true≢false (sym (same-letters letters p.letters e) ∙ is) in
            elsewhere letters apart ∙ indexed.places letters ∙ sym (place-elsewhere spellings p letters apart)
      ];
      distinct = distinct-pushed spellings p indexed.distinct absent;
    }

pub indexed-same : (nodes others : List Node) (spellings : List Spelling) → IsIndexed nodes spellings
    → ((letters : List ℕ) → kept others letters ≡ kept nodes letters) → IsIndexed others spellings
indexed-same nodes others spellings indexed same =
    record { places = λ letters. same letters ∙ indexed.places letters; distinct = indexed.distinct }

-- a spelling in the place of one with its letters
set-case : (s : Spelling) (spellings : List Spelling) (p : Spelling) (k : ℕ)
    → ((m : ℕ) → place_of spellings p.letters ≡ Some m
    → (letters : List ℕ) → place_of (slice_set spellings m p) letters ≡ place_of spellings letters)
    → (b : Bool) → same_letters s.letters p.letters ≡ b → (o : Option ℕ) → place_of spellings p.letters ≡ o
    → place_of (s ∷ spellings) p.letters ≡ Some k
    → (letters : List ℕ) → place_of (slice_set (s ∷ spellings) k p) letters ≡ place_of (s ∷ spellings) letters
set-case s spellings p k rest true same o is found letters =
    let first : Some 0 ≡ Some k = sym (rw same refl) ∙ found in
    let k_is : 0 ≡ k = cc in
    rw (← k_is, letters-same s.letters p.letters same) refl
set-case s spellings p k rest false same None is found letters =
    let none : place_of (s ∷ spellings) p.letters ≡ None = rw (same, is) refl in absurd (cc)
set-case s spellings p k rest false same (Some m) is found letters =
    let later : place_of (s ∷ spellings) p.letters ≡ Some (suc m) = rw (same, is) refl in
    let k_is : suc m ≡ k = cc in
    rw (← k_is, rest m is letters) refl

pub place-set : (spellings : List Spelling) (p : Spelling) (k : ℕ) → place_of spellings p.letters ≡ Some k
    → (letters : List ℕ) → place_of (slice_set spellings k p) letters ≡ place_of spellings letters
place-set [] p k found letters = absurd (cc)
place-set (s ∷ spellings) p k found letters =
    set-case s spellings p k (λ m is. place-set spellings p m is) (same_letters s.letters p.letters) refl
    (place_of spellings p.letters) refl found letters

distinct-case : (s : Spelling) (spellings : List Spelling) (p : Spelling) (k : ℕ)
    → ((m : ℕ) → place_of spellings p.letters ≡ Some m → IsDistinct (slice_set spellings m p))
    → (b : Bool) → same_letters s.letters p.letters ≡ b → (o : Option ℕ) → place_of spellings p.letters ≡ o
    → IsDistinct (s ∷ spellings) → place_of (s ∷ spellings) p.letters ≡ Some k
    → IsDistinct (slice_set (s ∷ spellings) k p)
distinct-case s spellings p k rest true same o is distinct found =
    let first : Some 0 ≡ Some k = sym (rw same refl) ∙ found in
    let k_is : 0 ≡ k = cc in
    rw (← k_is) (rw (← letters-same s.letters p.letters same) distinct.0, distinct.1)
distinct-case s spellings p k rest false same None is distinct found =
    let none : place_of (s ∷ spellings) p.letters ≡ None = rw (same, is) refl in absurd (cc)
distinct-case s spellings p k rest false same (Some m) is distinct found =
    let later : place_of (s ∷ spellings) p.letters ≡ Some (suc m) = rw (same, is) refl in
    let k_is : suc m ≡ k = cc in
    rw (← k_is) (place-set spellings p m is s.letters ∙ distinct.0, rest m is)

distinct-set : (spellings : List Spelling) (p : Spelling) (k : ℕ) → IsDistinct spellings
    → place_of spellings p.letters ≡ Some k → IsDistinct (slice_set spellings k p)
distinct-set [] p k distinct found = tt
distinct-set (s ∷ spellings) p k distinct found =
    distinct-case s spellings p k (λ m is. distinct-set spellings p m distinct.1 is) (same_letters s.letters p.letters) refl
    (place_of spellings p.letters) refl distinct found

pub indexed-set : (nodes : List Node) (spellings : List Spelling) (p : Spelling) (k : ℕ) → IsIndexed nodes spellings
    → place_of spellings p.letters ≡ Some k → IsIndexed nodes (slice_set spellings k p)
indexed-set nodes spellings p k indexed found =
    record {
      places = λ letters. indexed.places letters ∙ sym (place-set spellings p k found letters);
      distinct = distinct-set spellings p k indexed.distinct found;
    }

pub indexed-empty : (nodes : List Node) → ((letters : List ℕ) → kept nodes letters ≡ None) → IsIndexed nodes []
indexed-empty nodes empty = record { places = empty; distinct = tt }

-- the same for values that are lent, or seen from outside
pub place-bound : (spellings : List Spelling) (letters : List ℕ) (found : Option ℕ)
    → found ≡ place_of spellings letters → IfSome found (λ k. k < length spellings)
place-bound spellings letters None is = tt
place-bound spellings letters (Some k) is = place-inside spellings letters k (sym is)

pub indexed-appended : (nodes grown : List Node) (spellings held items : List Spelling) (p : Spelling) (letters : List ℕ) (place : ℕ)
    → IsIndexed nodes spellings → spellings ≡ held → place_of held p.letters ≡ None
    → letters ≡ p.letters → place ≡ length spellings
    → kept grown letters ≡ Some place → ((others : List ℕ) → others ≢ letters → kept grown others ≡ kept nodes others)
    → items ≡ spellings ++ p ∷ [] → IsIndexed grown items
indexed-appended nodes grown spellings held items p letters place indexed held_is absent letters_is place_is here elsewhere items_is =
    rw items_is
    (indexed-pushed nodes grown spellings p indexed (rw held_is absent) (rw (letters_is, place_is) at here)
    (rw letters_is at elsewhere))

pub indexed-replaced : (nodes : List Node) (spellings held : List Spelling) (p : Spelling) (letters : List ℕ) (k : ℕ)
    → IsIndexed nodes spellings → spellings ≡ held → letters ≡ p.letters → Some k ≡ place_of held letters
    → IsIndexed nodes (slice_set spellings k p)
indexed-replaced nodes spellings held p letters k indexed held_is letters_is found =
    indexed-set nodes spellings p k indexed (sym (rw (letters_is, ← held_is) at found))
