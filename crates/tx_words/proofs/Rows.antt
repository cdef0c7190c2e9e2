-- Texts that are read one after the other.
use Rattle.std.proofs.Common.{◌≡◌, ◌&&◌, ◌+◌, ◌<◌, ℕ, not, Bool, true, false, cond, List, [], ◌∷◌, length, map, drop, get_or, zero, suc, Some, None, refl, sym, ap, ap₂, ◌∙◌, arith}
use Rattle.std.specs.Borrow.{Bor}
use Rattle.std.specs.List.{list_all, list_any}
use Rattle.std.specs.Str.{bytes_eq}
use Rattle.std.proofs.Math.Seq.{drop-cons}
use Rattle.tx_files.specs.Names.{is_name}
use Rattle.tx_words.specs.Values.{is_first_repeated, are_distinct, named}

abbrev all : List (Bor (List ℕ)) → List (List ℕ)
all = map (λ t. t.now)

cut : (texts : List (Bor (List ℕ))) (i : ℕ) (t : Bor (List ℕ)) → i < length texts → t ≡ get_or texts i t → drop i texts ≡ t ∷ drop (i + 1) texts
cut texts i t lt is =
    let next : suc i ≡ i + 1 = omega arith in
    drop-cons texts i t lt ∙ ap₂ (λ x n. x ∷ drop n texts) (sym is) next

-- a list by its first element and the others
pub first_of_all : (names : List (List ℕ)) (first : List ℕ) → 0 < length names → first ≡ get_or names 0 first → is_first_repeated names ≡ list_any (bytes_eq first) (drop 1 names)
first_of_all [] first lt is = absurd (omega arith)
first_of_all (name ∷ names) first lt is = ap (λ f. list_any (bytes_eq f) names) (sym is)

-- a name that is equal to one behind it
pub repeated : (texts : List (List ℕ)) → is_first_repeated texts ≡ true → are_distinct texts ≡ false
repeated [] is = absurd (let no : false ≡ true = is in cc)
repeated (text ∷ texts) is = ap (λ b. not b && are_distinct texts) is

-- or to none
single_here : (names : List (List ℕ)) (i : ℕ) → i < length names → is_first_repeated (drop i names) ≡ false → are_distinct (drop i names) ≡ are_distinct (drop (suc i) names)
single_here [] i lt none = absurd (omega arith)
single_here (name ∷ names) zero lt none = ap (λ b. not b && are_distinct names) none
single_here (name ∷ names) (suc i) lt none = single_here names i (omega arith) none

pub single : (names : List (List ℕ)) (i : ℕ) → i < length names → is_first_repeated (drop i names) ≡ false → are_distinct (drop i names) ≡ are_distinct (drop (i + 1) names)
single names i lt none =
    let one_up : suc i ≡ i + 1 = omega arith in
    single_here names i lt none ∙ ap (λ n. are_distinct (drop n names)) one_up

is_no_name : (text : List ℕ) → named text ≡ None → is_name text ≡ false
is_no_name text none = go (is_name text) none
  where
    go : (b : Bool) → cond b (Some text) None ≡ None → b ≡ false
    go false none = refl
    go true none = absurd (let no : Some text ≡ None = none in cc)

-- a text that is no name
pub unnamed : (texts : List (Bor (List ℕ))) (i : ℕ) (t : Bor (List ℕ)) → i < length texts → t ≡ get_or texts i t → named t.now ≡ None → list_all is_name (all (drop i texts)) ≡ false
unnamed texts i t lt is none =
    ap (λ ts. list_all is_name (all ts)) (cut texts i t lt is) ∙ ap (λ b. b && list_all is_name (all (drop (i + 1) texts))) (is_no_name t.now none)
