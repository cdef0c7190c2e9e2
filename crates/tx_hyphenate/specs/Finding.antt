-- The word behind glue (TeX: The Program, sections 894 to 899): the items between the glue and the next glue are looked at.
use Rattle.std.specs.Prelude.{ℕ, suc, ◌+◌, ◌==◌, ◌&&◌, ◌||◌, not, nat_le, if◌then◌else◌, Bool, true, false, ℤ, pos, int_le, List, [], ◌∷◌, length, slice_get, slice_index, Option, Some, None}
use Rattle.std.specs.List.{prefix_len}
use Rattle.std.specs.Option.{option_map_or}
use Rattle.tx_node.specs.Items.{Item}
use Rattle.tx_hyphenate.specs.declared.kind.Kind.{Kind}
use Rattle.tx_hyphenate.specs.declared.kind.Kind.TheVariants.{Characters, Kern, Special, Glue, Ends, Other}
use Rattle.tx_hyphenate.specs.Kinds.{kind}
use Rattle.tx_hyphenate.specs.Letters.{codes_of, first_code, font_of}

-- a letter is a character whose \lccode isn't 0
abbrev pub is_letter : List ℕ → ℕ → Bool
is_letter lower code = not (slice_index lower code == 0)

-- what may stand between the glue and the word: kerns of a font, \special's, and characters and ligatures whose first character
-- is no letter
abbrev pub is_no_letter : List ℕ → Option ℕ → Bool
is_no_letter lower None = true
is_no_letter lower (Some code) = not (is_letter lower code)

abbrev pub comes_before_by : List ℕ → Option ℕ → Kind → Bool
comes_before_by lower first Characters = is_no_letter lower first
comes_before_by lower first Kern = true
comes_before_by lower first Special = true
comes_before_by lower first Glue = false
comes_before_by lower first Ends = false
comes_before_by lower first Other = false

abbrev pub comes_before : List ℕ → Item → Bool
comes_before lower item = comes_before_by lower (first_code item) (kind item)

-- the first letter begins a word where it is lower case, or \uchyph is positive
abbrev pub begins_by : List ℕ → ℤ → Option ℕ → Bool
begins_by lower uc_hyph None = false
begins_by lower uc_hyph (Some code) = is_letter lower code && (slice_index lower code == code || int_le (pos 1) uc_hyph)

abbrev pub begins : List ℕ → ℤ → Item → Bool
begins lower uc_hyph item = begins_by lower uc_hyph (first_code item)

-- where the word begins, by the items before it
abbrev pub word_start : List ℕ → ℤ → List Item → Option ℕ
word_start lower uc_hyph items =
    if option_map_or (begins lower uc_hyph) (slice_get items (prefix_len (comes_before lower) items)) false
    then Some (prefix_len (comes_before lower) items)
    else None

-- whether items are of one font: its characters and ligatures, and kerns of a font
abbrev pub is_font : ℕ → Option ℕ → Bool
is_font font None = false
is_font font (Some other) = other == font

abbrev pub is_in_run_by : ℕ → Option ℕ → Kind → Bool
is_in_run_by font own Characters = is_font font own
is_in_run_by font own Kern = true
is_in_run_by font own Special = false
is_in_run_by font own Glue = false
is_in_run_by font own Ends = false
is_in_run_by font own Other = false

abbrev pub is_in_run : ℕ → Item → Bool
is_in_run font item = is_in_run_by font (font_of item) (kind item)

-- all of these are letters
abbrev pub are_letters : List ℕ → List ℕ → Bool
are_letters lower [] = true
are_letters lower (code ∷ codes) = is_letter lower code && are_letters lower codes

-- how many letters an item is; None where it isn't letters alone
abbrev pub letters_of : List ℕ → Item → Option ℕ
letters_of lower item = if are_letters lower (codes_of item) then Some (length (codes_of item)) else None

-- how many items the word has, from its first one on, where it has so many letters already: items of its font, whose characters are
-- letters, at most 63 of them in all
abbrev pub word_length : List ℕ → ℕ → ℕ → List Item → ℕ
word_length lower font count [] = 0
word_length lower font count (item ∷ items) =
    if is_in_run font item && (are_letters lower (codes_of item) && nat_le (count + length (codes_of item)) 63)
    then suc (word_length lower font (count + length (codes_of item)) items)
    else 0

-- behind the word, characters, ligatures and kerns of a font may stand; what follows these has to be glue, or an item behind which a
-- word may end. A list's end is one, since a penalty follows it that ends the paragraph
abbrev pub comes_behind_by : Kind → Bool
comes_behind_by Characters = true
comes_behind_by Kern = true
comes_behind_by Special = false
comes_behind_by Glue = false
comes_behind_by Ends = false
comes_behind_by Other = false

abbrev pub comes_behind : Item → Bool
comes_behind item = comes_behind_by (kind item)

abbrev pub ends_by : Kind → Bool
ends_by Characters = false
ends_by Kern = false
ends_by Special = true
ends_by Glue = true
ends_by Ends = true
ends_by Other = false

abbrev pub ends : Item → Bool
ends item = ends_by (kind item)

abbrev pub may_end : List Item → Bool
may_end items = option_map_or ends (slice_get items (prefix_len comes_behind items)) true
