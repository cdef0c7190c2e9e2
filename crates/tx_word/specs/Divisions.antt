-- What the places of a word make, at which a hyphen may be put in: discretionaries that are marked as hyphenation's, so that the
-- first pass of line breaking doesn't break there (TeX: The Program, sections 891 to 918). At a seam, between what the characters on
-- both sides become, the hyphen stands before a break and a kern is the no-break text. A place inside a ligature lies between two
-- seams; what the characters between these become is the no-break text, and both parts of them stand around a break.
use Rattle.std.specs.Prelude.{◌≡◌, ◌<◌, ◌+◌, ◌-◌, ℕ, zero, suc, ℤ, pos, negsuc, Bool, true, false, ◌==◌, ◌&&◌, ◌||◌, nat_le, nat_lt, if◌then◌else◌, List, [], ◌∷◌, ◌++◌, length, map, filter, filter_map, take, drop, slice_range, Option, Some, None, option_map, unwrap_or}
use Rattle.std.specs.Coded.{coded_list}
use Rattle.std.specs.List.{All, list_all}
use Rattle.tx_ligkern.specs.contracts.item.LigItem as lig_item
use Rattle.tx_ligkern.specs.declared.item.LigItem.{LigItem}
use Rattle.tx_ligkern.specs.declared.item.LigItem.TheVariants.{Char, Lig, Kern}
use Rattle.tx_ligkern.specs.declared.seam.Seam.{Seam}
use Rattle.tx_list.specs.Same.{same_by}
use Rattle.tx_node.specs.Items.{Item, discretionary, items_of}
use Rattle.tx_tfm.specs.declared.state.FontState.{FontState}
use Rattle.tx_tfm.specs.Fonts.{font_at, has_character}
use Rattle.tx_word.specs.declared.division.Division.{Division}
use Rattle.tx_word.specs.Composed.{composed_in}
use Rattle.tx_word.specs.Words.{Composed, word_item}

-- whether items are the same
unfoldable pub same_items : List LigItem → List LigItem → Bool
same_items some others = same_by (coded_list lig_item.the_row.coded) some others

-- whether a kern stands before these, as how many items it is
abbrev pub kern_before : List LigItem → List LigItem → Option ℕ
kern_before behind (Kern size ∷ items) = if same_items items behind then Some 1 else None
kern_before behind (Char code ∷ items) = None
kern_before behind (Lig code from ∷ items) = None
kern_before behind [] = None

-- how many items, none or one kern, stand before those that are behind a place
abbrev pub replaced_before : List LigItem → List LigItem → Option ℕ
replaced_before behind items = if same_items items behind then Some 0 else kern_before behind items

-- the seam between what the characters on both sides of a place become: the whole word is composed of the one, a kern or nothing,
-- and the other
abbrev pub seam_between : ℕ → List LigItem → List LigItem → List LigItem → Option Seam
seam_between place before behind whole =
    if same_items (take (length before) whole) before
    then option_map (λ (n : ℕ). record { place = place; item = length before; replaced = n }) (replaced_before behind (drop (length before) whole))
    else None

-- the seam at a place of a word: no boundary counts there on either side
abbrev pub seam_at : List FontState → ℕ → List ℕ → Bool → Bool → ℕ → Option Seam
seam_at fonts font chars left right place =
    seam_between place (composed_in (font_at fonts font) (take place chars) left false) (composed_in (font_at fonts font) (drop place chars) false right) (composed_in (font_at fonts font) chars left right)

-- a word's ends are seams too
abbrev pub first_seam : Seam
first_seam = record { place = 0; item = 0; replaced = 0 }

abbrev pub last_seam : ℕ → ℕ → Seam
last_seam chars items = record { place = chars; item = items; replaced = 0 }

abbrev pub seam_of : List FontState → ℕ → List ℕ → Bool → Bool → ℕ → Option Seam
seam_of fonts font chars left right place = if place == 0 then Some first_seam else seam_at fonts font chars left right place

-- the greatest seam below a place
abbrev pub seam_below : (ℕ → Option Seam) → ℕ → Seam
seam_below seam zero = first_seam
seam_below seam (suc place) = unwrap_or (seam place) (seam_below seam place)

-- the least seam from a place on, where so many places come before that of the last one
abbrev pub seam_from : (ℕ → Option Seam) → Seam → ℕ → ℕ → Seam
seam_from seam last place zero = last
seam_from seam last place (suc more) = unwrap_or (seam place) (seam_from seam last (suc place) more)

-- the least seam above a place
abbrev pub seam_above : (ℕ → Option Seam) → Seam → ℕ → Seam
seam_above seam last place = seam_from seam last (suc place) (last.place - suc place)

-- a division at a seam
abbrev pub at_seam : Seam → Division
at_seam s = record { from = s.place; place = s.place; to = s.place; item = s.item; replaced = s.replaced }

-- one at a place between two seams: the items between these are its no-break text
abbrev pub between_seams : ℕ → Seam → Seam → Division
between_seams place a b = record { from = a.place; place = place; to = b.place; item = a.item + a.replaced; replaced = b.item - (a.item + a.replaced) }

-- of several places between the same seams only the least counts: each other one is at the first of these or before it, or isn't before
-- this one
abbrev pub is_least : List ℕ → ℕ → ℕ → Bool
is_least places from place = list_all (λ (other : ℕ). nat_le other from || nat_le place other) places

-- a discretionary's no-break text has at most 255 items; where there are more, there is no hyphen (TeX: The Program, section 918)
abbrev pub if_few : Division → Option Division
if_few d = if nat_le d.replaced 255 then Some d else None

abbrev pub inside : List ℕ → ℕ → Seam → Seam → Option Division
inside places place a b = if is_least places a.place place then if_few (between_seams place a b) else None

-- the division at a place
abbrev pub division_by : Option Seam → Option Division → Option Division
division_by None other = other
division_by (Some s) other = Some (at_seam s)

abbrev pub division_at : (ℕ → Option Seam) → Seam → List ℕ → ℕ → Option Division
division_at seam last places place = division_by (seam place) (inside places place (seam_below seam place) (seam_above seam last place))

-- the divisions at places, in their order
abbrev pub divisions_of : (ℕ → Option Seam) → Seam → List ℕ → List Division
divisions_of seam last places = filter_map (division_at seam last places) places

-- a hyphen character is a code of 0 to 255; by another one nothing is hyphenated
abbrev pub hyphen_code : ℤ → Option ℕ
hyphen_code (negsuc n) = None
hyphen_code (pos n) = if nat_lt n 256 then Some n else None

-- the hyphen character, nothing where the font lacks it
abbrev pub hyphen_codes : List FontState → ℕ → ℕ → List ℕ
hyphen_codes fonts font hyphen = if has_character fonts font hyphen then hyphen ∷ [] else []

-- the same as the text before a break
abbrev pub before_break : List FontState → ℕ → ℕ → List LigItem
before_break fonts font hyphen = if has_character fonts font hyphen then Char hyphen ∷ [] else []

-- the text before a break: at a seam the hyphen character, else what the characters from the seam before it up to the place become
-- with the hyphen character behind them. The word's left boundary counts where they begin the word, and no right one
abbrev pub text_before : List FontState → ℕ → List ℕ → Bool → ℕ → Division → List LigItem
text_before fonts font chars left hyphen d =
    if d.from == d.place then before_break fonts font hyphen
    else composed_in (font_at fonts font) (slice_range chars d.from d.place ++ hyphen_codes fonts font hyphen) (left && d.from == 0) false

-- the text behind a break: at a seam there is none, else it is what the characters up to the seam behind it become. The word's right
-- boundary counts where they end the word, and no left one
abbrev pub text_behind : List FontState → ℕ → List ℕ → Bool → Division → List LigItem
text_behind fonts font chars right d =
    if d.place == d.to then [] else composed_in (font_at fonts font) (slice_range chars d.place d.to) false (right && d.to == length chars)

-- a part of a word's list: an item, or a marked discretionary, with its texts before and behind a break, and how many items that
-- follow make its no-break text
pub data Part : Type 0 where
  Whole : LigItem → Part
  Parted : (before behind : List LigItem) (replaced : ℕ) → Part

abbrev pub parted : List FontState → ℕ → List ℕ → Bool → Bool → ℕ → Division → Part
parted fonts font chars left right hyphen d = Parted (text_before fonts font chars left hyphen d) (text_behind fonts font chars right d) d.replaced

-- the discretionaries before item n
abbrev pub parted_at : (Division → Part) → List Division → ℕ → List Part
parted_at part divisions n = map part (filter (λ (d : Division). d.item == n) divisions)

-- items from the n-th on, with the discretionaries before them
abbrev pub divided : (Division → Part) → List Division → ℕ → List LigItem → List Part
divided part divisions n [] = parted_at part divisions n
divided part divisions n (item ∷ items) = parted_at part divisions n ++ Whole item ∷ divided part divisions (suc n) items

-- what a part of a word's list is in a list
abbrev pub part_item : List FontState → ℕ → Part → Item
part_item fonts font (Whole item) = word_item fonts font item
part_item fonts font (Parted before behind replaced) =
    discretionary (record { replaced = replaced; hyphenated = true }) (items_of (map (word_item fonts font) before)) (items_of (map (word_item fonts font) behind))

-- a word's list, of the items of which it is composed: they have discretionaries at its divisions, if there is a hyphen character
abbrev pub divided_by : List FontState → ℕ → List ℕ → Bool → Bool → List ℕ → Option ℕ → List LigItem → List Item
divided_by fonts font chars left right places None items = map (word_item fonts font) items
divided_by fonts font chars left right places (Some hyphen) items =
    map (part_item fonts font) (divided (parted fonts font chars left right hyphen) (divisions_of (seam_of fonts font chars left right) (last_seam (length chars) (length items)) places) 0 items)

abbrev pub divided_items : List FontState → ℕ → List ℕ → Bool → Bool → List ℕ → ℤ → List LigItem → List Item
divided_items fonts font chars left right places hyphen items = divided_by fonts font chars left right places (hyphen_code hyphen) items

-- what a word with places is in the font of a number
abbrev pub divided_list : List FontState → ℕ → List ℕ → Bool → Bool → List ℕ → ℤ → List Item
divided_list fonts font chars left right places hyphen = divided_items fonts font chars left right places hyphen (composed_in (font_at fonts font) chars left right)

-- a place is between two characters of its word
abbrev pub IsBetween : List ℕ → ℕ → Type 0
IsBetween chars place = (0 < place) × (place < length chars)

-- what a word with places has to be: each character is in the font, and each place between two of them
pub record IsPlaced (fonts : List FontState) (font : ℕ) (chars places : List ℕ) : Type 0 where
  pub there : All (λ c. has_character fonts font c ≡ true) chars
  pub between : All (IsBetween chars) places

-- a list is what a word with places becomes
pub record IsDivided (fonts : List FontState) (font : ℕ) (chars : List ℕ) (left right : Bool) (places : List ℕ) (hyphen : ℤ) (list : List Item) : Type 0 where
  pub items : List LigItem
  pub composed : Composed (font_at fonts font) chars left right items
  pub list_is : list ≡ divided_items fonts font chars left right places hyphen items

-- a list with such a word at its end
pub record WithDivided (fonts : List FontState) (font : ℕ) (chars : List ℕ) (left right : Bool) (places : List ℕ) (hyphen : ℤ) (before after : List Item) : Type 0 where
  pub word : List Item
  pub is_word : IsDivided fonts font chars left right places hyphen word
  pub after_is : after ≡ before ++ word
