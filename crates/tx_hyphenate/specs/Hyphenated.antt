-- A list with its words hyphenated (TeX: The Program, sections 891 to 903 and 915). The run of characters, ligatures and kerns of one
-- font in which a word stands is composed anew as one word, with the places at which the word may be divided; for each place at
-- which a hyphen is put in that the font lacks, the transcript gets a line.
use Rattle.std.specs.Prelude.{ℕ, ◌+◌, ◌-◌, ◌==◌, ◌&&◌, not, nat_lt, if◌then◌else◌, Bool, true, false, List, [], ◌∷◌, ◌++◌, length, map, filter, take, drop, reverse, slice_get, slice_index, Option, Some, None, is_some}
use Rattle.std.specs.List.{flat_map, prefix_len}
use Rattle.std.specs.Option.{option_and_then, unwrap_or}
use Rattle.tx_hyphen.specs.Points.{points}
use Rattle.tx_hyphen.specs.Rules.{Rules}
use Rattle.tx_node.specs.Items.{Item}
use Rattle.tx_prim.specs.declared.family.FontNumber.TheVariants.{Hyphen}
use Rattle.tx_tfm.specs.declared.state.FontState.{FontState}
use Rattle.tx_tfm.specs.Fonts.{font_integer, has_character}
use Rattle.tx_word.specs.Divisions.{divided_list, hyphen_code}
use Rattle.tx_word.specs.Points.{hyphen_lacking}
use Rattle.tx_hyphenate.specs.declared.kind.Kind.{Kind}
use Rattle.tx_hyphenate.specs.declared.kind.Kind.TheVariants.{Characters, Kern, Special, Glue, Ends, Other}
use Rattle.tx_hyphenate.specs.declared.made.Made.{Made}
use Rattle.tx_hyphenate.specs.declared.params.HyphenParams.{HyphenParams}
use Rattle.tx_hyphenate.specs.Kinds.{is_formula_behind, kind}
use Rattle.tx_hyphenate.specs.Letters.{codes_of, font_of}
use Rattle.tx_hyphenate.specs.Finding.{is_in_run, may_end, word_length, word_start}
use Rattle.tx_hyphenate.specs.Lacking.{division_report, lacking_report}

-- what hyphenation goes by: the fonts, the patterns and exceptions, the \lccodes, and its parameters
pub record Ways : Type 0 where
  pub fonts : List FontState
  pub rules : Rules
  pub lower : List ℕ
  pub params : HyphenParams

abbrev pub ways : List FontState → Rules → List ℕ → HyphenParams → Ways
ways fonts rules lower params = record { fonts = fonts; rules = rules; lower = lower; params = params }

-- words in the font of a number are hyphenated where its \hyphenchar is a character
abbrev pub has_hyphen : List FontState → ℕ → Bool
has_hyphen fonts font = is_some (hyphen_code (font_integer Hyphen fonts font))

-- the places of the word at the beginning of items in a font, by the letters before each
abbrev pub word_places : Ways → ℕ → List Item → List ℕ
word_places w font items =
    if has_hyphen w.fonts font && may_end (drop (word_length w.lower font 0 items) items)
    then points w.rules (map (slice_index w.lower) (flat_map codes_of (take (word_length w.lower font 0 items) items))) w.params.left w.params.right
    else []

-- how many of the items before the word, the last ones, and how many from it on are in its run
abbrev pub run_before : ℕ → List Item → ℕ
run_before font before = prefix_len (is_in_run font) (reverse before)

abbrev pub run_behind : ℕ → List Item → ℕ
run_behind font items = prefix_len (is_in_run font) items

-- characters that are all in a font
abbrev pub are_there : List FontState → ℕ → List ℕ → Bool
are_there fonts font [] = true
are_there fonts font (code ∷ codes) = has_character fonts font code && are_there fonts font codes

-- the places of a word as those of its run, of which so many characters stand before the word: each between two of its characters
abbrev pub is_between : ℕ → ℕ → Bool
is_between length place = nat_lt 0 place && nat_lt place length

abbrev pub placed : ℕ → ℕ → List ℕ → List ℕ
placed count length places = filter (is_between length) (map (λ (place : ℕ). count + place) places)

-- the characters of the items from one place to another
abbrev pub codes_between : ℕ → ℕ → List Item → List ℕ
codes_between start end items = flat_map codes_of (take (end - start) (drop start items))

-- items that stay as they are, of which nothing is reported
abbrev pub kept : List Item → Made
kept items = record { items = items; report = [] }

-- what is made of items, and behind it what is made of others
abbrev pub joined : Made → Made → Made
joined before behind = record { items = before.items ++ behind.items; report = before.report ++ behind.report }

-- the items of a run, and a report for each discretionary among them, if the font lacks its hyphen
abbrev pub told : List FontState → ℕ → List Item → Made
told fonts font items = record { items = items; report = flat_map (division_report (lacking_report fonts font (hyphen_lacking fonts font))) items }

-- a run of these characters, composed anew with places
abbrev pub run_made : List FontState → ℕ → List ℕ → List ℕ → Made
run_made fonts font chars places = told fonts font (divided_list fonts font chars true true places (font_integer Hyphen fonts font))

-- what stands before `start` and from `end` on among items stays, around what is made of the others
abbrev pub put_between : ℕ → ℕ → List Item → Made → Made
put_between start end items made = record made { items = take start items ++ made.items ++ drop end items }

-- items of which those from `start` to `end` are a run: it is composed anew with places, where its font has all its characters, as in
-- each list that TeX makes
abbrev pub run_divided : List FontState → ℕ → ℕ → ℕ → List ℕ → List Item → Made
run_divided fonts font start end places items =
    if are_there fonts font (codes_between start end items)
    then put_between start end items (run_made fonts font (codes_between start end items) places)
    else kept items

-- items with a word before which so many stand, where its run begins behind `start` and ends with `end` of them
abbrev pub with_run : List FontState → ℕ → ℕ → ℕ → ℕ → List ℕ → List Item → Made
with_run fonts font start word end places items =
    run_divided fonts font start end (placed (length (codes_between start word items)) (length (codes_between start end items)) places) items

-- a list without places stays as it is
abbrev pub with_word : List FontState → ℕ → ℕ → List ℕ → List Item → Made
with_word fonts font word places items =
    if length places == 0 then kept items
    else with_run fonts font (word - run_before font (take word items)) word (word + run_behind font (drop word items)) places items

-- the font of the item at a place
abbrev pub font_at_place : ℕ → List Item → ℕ
font_at_place word items = unwrap_or (option_and_then font_of (slice_get items word)) 0

abbrev pub with_word_at : Ways → Option ℕ → List Item → Made
with_word_at w None items = kept items
with_word_at w (Some word) items =
    with_word w.fonts (font_at_place word items) word (word_places w (font_at_place word items) (drop word items)) items

-- the items from a glue to the next one, or to the list's end, with their word hyphenated
abbrev pub stretch_hyphenated : Ways → List Item → Made
stretch_hyphenated w items = with_word_at w (word_start w.lower w.params.uc_hyph items) items

-- items between two places of glue, or the ends of a list: a word is looked for where glue stands before them
abbrev pub finished : Ways → Bool → List Item → Made
finished w behind_glue items = if behind_glue then stretch_hyphenated w items else kept items

-- a list, parted at its first glue that stands in no formula: the items before it, and what is made of the list from it on
pub record Parted : Type 0 where
  pub first : List Item
  pub rest : Made

abbrev pub is_glue : Kind → Bool
is_glue Characters = false
is_glue Kern = false
is_glue Special = false
is_glue Glue = true
is_glue Ends = false
is_glue Other = false

abbrev pub parts : Bool → Item → Bool
parts formula item = not formula && is_glue (kind item)

abbrev pub with_item : Ways → Bool → Item → Parted → Parted
with_item w formula item parted =
    if parts formula item
    then record { first = []; rest = joined (kept (item ∷ [])) (joined (stretch_hyphenated w parted.first) parted.rest) }
    else record { first = item ∷ parted.first; rest = parted.rest }

unfoldable pub parted_at_glue : Ways → Bool → List Item → Parted
parted_at_glue w formula [] = record { first = []; rest = kept [] }
parted_at_glue w formula (item ∷ items) = with_item w formula item (parted_at_glue w (is_formula_behind formula item) items)

-- no word stands before the first glue, and no formula is open at the beginning
abbrev pub hyphenated : Ways → List Item → Made
hyphenated w items = joined (kept (parted_at_glue w false items).first) (parted_at_glue w false items).rest
