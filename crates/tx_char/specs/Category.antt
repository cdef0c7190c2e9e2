-- Categories of characters (The TeXbook, chapter 7; TeX: The Program, parts 15 and 17).
use Rattle.std.specs.Prelude.{ℕ, Bool, zero, suc, ◌++◌, ◌==◌, ◌&&◌, ◌||◌, nat_le, List, [], ◌∷◌, map, slice_index_or, if◌then◌else◌}
use Rattle.tx_char.specs.Character.{character}
use Rattle.tx_char.specs.declared.category.Cat.{Cat}
use Rattle.tx_char.specs.declared.category.Cat.TheVariants.{Escape, BeginGroup, EndGroup, MathShift, AlignmentTab, EndOfLine, Parameter, Superscript, Subscript, Ignored, Space, Letter, Other, Active, Comment, Invalid}

-- the number of a category, as \catcode assigns it
abbrev pub number_of : Cat → ℕ
number_of Escape = 0
number_of BeginGroup = 1
number_of EndGroup = 2
number_of MathShift = 3
number_of AlignmentTab = 4
number_of EndOfLine = 5
number_of Parameter = 6
number_of Superscript = 7
number_of Subscript = 8
number_of Ignored = 9
number_of Space = 10
number_of Letter = 11
number_of Other = 12
number_of Active = 13
number_of Comment = 14
number_of Invalid = 15

-- the category of a character code in a table of 256 categories
abbrev pub category : List Cat → ℕ → Cat
category codes code = slice_index_or codes code Other

-- whether a code is that of A to Z or a to z
abbrev pub is_ascii_letter : ℕ → Bool
is_ascii_letter code =
    (nat_le (character "A") code && nat_le code (character "Z")) || (nat_le (character "a") code && nat_le code (character "z"))

-- the category with which INITEX begins: a null (0) is ignored, a delete (127) is invalid
abbrev pub initial_category : ℕ → Cat
initial_category code =
    if code == character "\\" then Escape
    else if code == character "%" then Comment
    else if code == character "\r" then EndOfLine
    else if code == character " " then Space
    else if code == 0 then Ignored
    else if code == 127 then Invalid
    else if is_ascii_letter code then Letter
    else Other

-- the numbers below this one, in order
unfoldable pub numbers_below : ℕ → List ℕ
numbers_below zero = []
numbers_below (suc n) = numbers_below n ++ n ∷ []

-- the table with which INITEX begins (TeX: The Program, section 232)
unfoldable pub initial_codes : List Cat
initial_codes = map initial_category (numbers_below 256)
