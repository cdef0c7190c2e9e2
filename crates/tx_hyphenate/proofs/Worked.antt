-- The definitions at words as Knuth's TeX finds them behind glue, in font 1; the characters from 97 on and A are letters.
use Rattle.std.proofs.Common.{◌≡◌, ℕ, pos, false, true, List, [], ◌∷◌, ◌++◌, Some, None, refl}
use Rattle.std.specs.Prelude.{codes, map, replicate}
use Rattle.std.specs.List.{range_with_len}
use Rattle.tx_node.specs.declared.plain.KernKind.TheVariants.{Implicit, Explicit}
use Rattle.tx_node.specs.declared.plain.Plain.TheVariants.{Character, Kern, Penalty}
use Rattle.tx_node.specs.declared.plain.Shared.TheVariants.{Ligature, Special}
use Rattle.tx_node.specs.Items.{Item, plain, shared, discretionary, none}
use Rattle.tx_hyphenate.specs.Finding.{may_end, word_length, word_start}
use Rattle.tx_hyphenate.specs.Hyphenated.{placed, run_before, run_behind}

-- \lccode is 0 below 97 but for A (65), whose is 97
abbrev lower : List ℕ
lower = replicate 65 0 ++ 97 ∷ replicate 31 0 ++ range_with_len 97 159

abbrev in_font : ℕ → ℕ → Item
in_font font code = plain (Character (record { font = font; code = code; width = pos 0; height = pos 0; depth = pos 0 }))

abbrev word : List ℕ → List Item
word text = map (in_font 1) text

abbrev ligature : List ℕ → Item
ligature from = shared (Ligature (record { character = record { font = 1; code = 12; width = pos 0; height = pos 0; depth = pos 0 }; from = from }))

abbrev font_kern : Item
font_kern = plain (Kern Implicit (pos 5))

abbrev kern : Item
kern = plain (Kern Explicit (pos 5))

-- the word behind (( begins at its first letter
pub behind-parentheses : word_start lower (pos 0) (word (codes "((ab")) ≡ Some 2
behind-parentheses = refl

pub behind-special : word_start lower (pos 0) (shared (Special []) ∷ font_kern ∷ word (codes "ab")) ≡ Some 2
behind-special = refl

-- none begins behind a kern of \kern, or with a capital where \uchyph is 0
pub behind-kern : word_start lower (pos 0) (kern ∷ word (codes "ab")) ≡ None
behind-kern = refl

pub with-capital : word_start lower (pos 0) (word (codes "Ab")) ≡ None
with-capital = refl

pub with-capital-allowed : word_start lower (pos 1) (word (codes "Ab")) ≡ Some 0
with-capital-allowed = refl

pub of-nothing : word_start lower (pos 1) [] ≡ None
of-nothing = refl

-- a word of five letters in four items, behind which stands a comma
pub with-ligature : word_length lower 1 0 (word (codes "a") ++ ligature (codes "ff") ∷ font_kern ∷ word (codes "ab,a")) ≡ 5
with-ligature = refl

-- a ligature that isn't all letters doesn't belong to it, and neither does a character of another font
pub before-ligature : word_length lower 1 0 (word (codes "a") ++ ligature (codes "f,") ∷ []) ≡ 1
before-ligature = refl

pub before-font : word_length lower 1 0 (word (codes "ab") ++ in_font 2 97 ∷ []) ≡ 2
before-font = refl

-- 63 letters and no more
pub long : word_length lower 1 0 (word (replicate 70 97)) ≡ 63
long = refl

pub long-ligature : word_length lower 1 0 (word (replicate 62 97) ++ ligature (codes "ff") ∷ []) ≡ 62
long-ligature = refl

-- it may be followed by a full stop and what ends it, or by the list's end, but not by a discretionary
pub before-penalty : may_end (word (codes ".)") ++ plain (Penalty (pos 0)) ∷ []) ≡ true
before-penalty = refl

pub before-end : may_end (word (codes ".")) ≡ true
before-end = refl

pub before-discretionary : may_end (word (codes ".") ++ discretionary (record { replaced = 0; hyphenated = false }) none none ∷ []) ≡ false
before-discretionary = refl

-- the run of a word reaches over the characters of its font around it
pub before-word : run_before 1 (in_font 2 97 ∷ word (codes "((")) ≡ 2
before-word = refl

pub behind-word : run_behind 1 (word (codes "ab,") ++ kern ∷ word (codes "a")) ≡ 3
behind-word = refl

-- places of a word with two characters before it in its run
pub moved : placed 2 6 (2 ∷ 3 ∷ []) ≡ 4 ∷ 5 ∷ []
moved = refl
