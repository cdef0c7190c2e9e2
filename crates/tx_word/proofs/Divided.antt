-- Seams and divisions, and parts of a word.
use Rattle.std.proofs.Common.{◌≡◌, ◌↔◌, ◌<◌, ◌≤◌, ◌+◌, ℕ, zero, suc, Option, Some, None, Bool, true, false, cond, IsTrue, Result, Ok, Err, IfOk, length, take, drop, get_or, append_assoc, drop-cons, length-append, length-take, arith, List, [], ◌∷◌, ◌++◌, ◌⊎◌, inl, inr, refl, sym, ap, subst, ◌∙◌, true≢false}
use Rattle.std.specs.Prelude.{Contains, IfSome, min, option_map, unwrap_or, slice_range, ◌-◌}
use Rattle.std.specs.List.{All, cons_option, filter_map}
use Rattle.std.proofs.lemmas.Bool.{cases_lt}
use Rattle.std.proofs.lemmas.List.{append-nil, drop_all, length-drop, take_min}
use Rattle.std.proofs.lemmas.List.Elements.{All-append, All-cons, All-contains, All-drop, All-nil, All-take, All-weaker}
use Rattle.std.proofs.Math.Seq.{drop-append_seam, take-append_seam}
use Rattle.std.specs.Coded.{coded_list}
use Rattle.tx_ligkern.specs.contracts.item.LigItem as lig_item
use Rattle.tx_ligkern.specs.declared.item.LigItem.{LigItem}
use Rattle.tx_ligkern.specs.declared.item.LigItem.TheVariants as lig
use Rattle.tx_ligkern.specs.declared.pair.Met.{Met}
use Rattle.tx_ligkern.specs.declared.pair.Met.TheVariants.{Nothing, Kern, Ligature}
use Rattle.tx_ligkern.specs.declared.seam.Seam.{Seam}
use Rattle.tx_ligkern.specs.Composed.{composed}
use Rattle.tx_ligkern.specs.Pairs.{kern_in}
use Rattle.tx_ligkern.specs.Seams.{IsSeam}
use Rattle.tx_list.specs.Same.{same-tells}
use Rattle.tx_tfm.specs.declared.named.NamedFont.{NamedFont}
use Rattle.tx_tfm.specs.declared.state.FontState.{FontState}
use Rattle.tx_tfm.specs.Fonts.{font_at, has_character}
use Rattle.tx_word.specs.declared.dividing.Dividing.{Dividing}
use Rattle.tx_word.specs.declared.division.Division.{Division}
use Rattle.tx_word.specs.Composed.{composed_in}
use Rattle.tx_word.specs.Dividing.{IsDividing, IsNoted}
use Rattle.tx_word.specs.Divisions.{between_seams, hyphen_codes, if_few, inside, is_least, kern_before, replaced_before, same_items, seam_at, seam_below, seam_between, seam_from}

-- what tells whether items are the same is the definition's test
pub same-is : (b : Bool) (some others : List LigItem) → (IsTrue b ↔ (some ≡ others)) → b ≡ same_items some others
unfolding same_items
same-is true some others h = sym ((same-tells (coded_list lig_item.the_row.coded) some others).1 (h.0 refl))
same-is false some others h = by (same_items some others) refl
  where
    by : (x : Bool) → same_items some others ≡ x → false ≡ x
    by true e = absurd (true≢false (sym (h.1 ((same-tells (coded_list lig_item.the_row.coded) some others).0 e))))
    by false e = refl

-- fewer items don't begin with more
pub short-not : (items first : List LigItem) → length items < length first → false ≡ same_items (take (length first) items) first
short-not items first less =
    same-is false (take (length first) items) first
    (λ e. absurd (true≢false (sym e)), λ e. absurd (let same : length (take (length first) items) ≡ length first = ap length e in let taken = length-take (length first) items in omega (arith, same, taken, less)))

-- the same items are
same-self : (xs : List LigItem) → same_items xs xs ≡ true
same-self xs = sym (same-is true xs xs (λ e. refl, λ e. refl))

-- and with one more they aren't
same-more : (x : LigItem) (xs : List LigItem) → same_items (x ∷ xs) xs ≡ false
same-more x xs = sym (same-is false (x ∷ xs) xs (λ e. absurd (true≢false (sym e)), λ e. absurd (let long : suc (length xs) ≡ length xs = ap length e in omega (arith, long))))

-- ---- seams that were noted

-- a kern or nothing stands before items
replaced-kern : (met : Met) (behind : List LigItem) → replaced_before behind (kern_in met ++ behind) ≡ Some (length (kern_in met))
replaced-kern Nothing behind = ap (λ (b : Bool). cond b (Some 0) (kern_before behind behind)) (same-self behind)
replaced-kern (Kern size) behind =
    ap (λ (b : Bool). cond b (Some 0) (kern_before behind (lig.Kern size ∷ behind))) (same-more (lig.Kern size) behind)
    ∙ ap (λ (b : Bool). cond b (Some 1) None) (same-self behind)
replaced-kern Ligature behind = ap (λ (b : Bool). cond b (Some 0) (kern_before behind behind)) (same-self behind)

-- there is a seam between items of which the whole is composed so
between-is : (place : ℕ) (before behind : List LigItem) (met : Met) → seam_between place before behind (before ++ (kern_in met ++ behind)) ≡ Some (record { place = place; item = length before; replaced = length (kern_in met) })
between-is place before behind met =
    let whole : List LigItem = before ++ (kern_in met ++ behind) in
    let found : Option Seam = option_map (λ (n : ℕ). record { place = place; item = length before; replaced = n }) (replaced_before behind (drop (length before) whole)) in
    let front : same_items (take (length before) whole) before ≡ true = ap (λ (l : List LigItem). same_items l before) (take-append_seam before (kern_in met ++ behind)) ∙ same-self before in
    ap (λ (b : Bool). cond b found None) front
    ∙ ap (λ (l : List LigItem). option_map (λ (n : ℕ). record { place = place; item = length before; replaced = n }) (replaced_before behind l)) (drop-append_seam before (kern_in met ++ behind))
    ∙ ap (option_map (λ (n : ℕ). record { place = place; item = length before; replaced = n })) (replaced-kern met behind)

-- a seam of a word of a font is the one at its place
seam-noted : (fonts : List FontState) (font : ℕ) (f : NamedFont) (chars : List ℕ) (left right : Bool) → font_at fonts font ≡ Some f → (items : List LigItem) → items ≡ composed f.font chars left right
    → (seam : Seam) → IsSeam f.font chars left right seam → IsNoted fonts font chars left right items seam
seam-noted fonts font f chars left right at items items_are seam is =
    let before : List LigItem = composed f.font (take seam.place chars) left false in
    let behind : List LigItem = composed f.font (drop seam.place chars) false right in
    let long = length-append before (kern_in is.met ++ behind) in
    let whole : length items ≡ length (before ++ (kern_in is.met ++ behind)) = ap length (items_are ∙ is.whole_is) in
    record {
      is_seam =
          ap (λ (o : Option NamedFont). seam_between seam.place (composed_in o (take seam.place chars) left false) (composed_in o (drop seam.place chars) false right) (composed_in o chars left right)) at
          ∙ ap (seam_between seam.place before behind) is.whole_is
          ∙ between-is seam.place before behind is.met
          ∙ (λ i. Some (record { place = seam.place; item = sym is.item_is i; replaced = sym is.replaced_is i }));
      few = omega (arith, long, whole, is.item_is);
    }

pub seams-noted : (fonts : List FontState) (font : ℕ) (f : NamedFont) (chars : List ℕ) (left right : Bool) → font_at fonts font ≡ Some f → (items : List LigItem) → items ≡ composed f.font chars left right
    → (seams : List Seam) → All (IsSeam f.font chars left right) seams → All (IsNoted fonts font chars left right items) seams
seams-noted fonts font f chars left right at items items_are seams all =
    All-weaker (IsSeam f.font chars left right) (IsNoted fonts font chars left right items) (seam-noted fonts font f chars left right at items items_are) seams all

-- what two facts of a value tell together
pub ok-both : {T E : Type 0} (r : Result T E) (P Q R : T → Type 0) → ((x : T) → P x → Q x → R x) → IfOk r P → IfOk r Q → IfOk r R
ok-both (Ok x) P Q R f p q = f x p q
ok-both (Err e) P Q R f p q = tt

-- the seam that was found among the noted ones
pub noted-there : (w : Dividing) (place : ℕ) (o : Option Seam) (seam : Seam) → IsDividing w → o ≡ Some seam → IfSome o (λ s. Contains w.seams.now s × (s.place ≡ place))
    → (seam_at w.fonts.now w.font w.chars.now w.left w.right place ≡ Some seam) × (seam.item ≤ length w.items.now)
noted-there w place o seam d is some =
    let k = subst (λ (x : Option Seam). IfSome x (λ s. Contains w.seams.now s × (s.place ≡ place))) is some in
    let n = All-contains (IsNoted w.fonts.now w.font w.chars.now w.left w.right w.items.now) w.seams.now seam d.noted k.0 in
    (ap (seam_at w.fonts.now w.font w.chars.now w.left w.right) (sym k.1) ∙ n.is_seam, n.few)

-- ---- seams below and above a place

pub below-found : (seam : ℕ → Option Seam) (at : ℕ) (s : Seam) → 0 < at → seam (at - 1) ≡ Some s → seam_below seam at ≡ s
below-found seam zero s h e = absurd (omega (arith, h))
below-found seam (suc at) s h e =
    let same : suc at - 1 ≡ at = omega arith in
    ap (λ (o : Option Seam). unwrap_or o (seam_below seam at)) (ap seam (sym same) ∙ e)

pub below-more : (seam : ℕ → Option Seam) (at : ℕ) → 0 < at → seam (at - 1) ≡ None → seam_below seam at ≡ seam_below seam (at - 1)
below-more seam zero h e = absurd (omega (arith, h))
below-more seam (suc at) h e =
    let same : suc at - 1 ≡ at = omega arith in
    ap (λ (o : Option Seam). unwrap_or o (seam_below seam at)) (ap seam (sym same) ∙ e) ∙ ap (seam_below seam) (sym same)

pub from-found : (seam : ℕ → Option Seam) (last : Seam) (at end : ℕ) (s : Seam) → at < end → seam at ≡ Some s → seam_from seam last at (end - at) ≡ s
from-found seam last at end s h e =
    let more : end - at ≡ suc (end - suc at) = omega (arith, h) in
    ap (seam_from seam last at) more ∙ ap (λ (o : Option Seam). unwrap_or o (seam_from seam last (suc at) (end - suc at))) e

pub from-more : (seam : ℕ → Option Seam) (last : Seam) (at end : ℕ) → at < end → seam at ≡ None → seam_from seam last at (end - at) ≡ seam_from seam last (at + 1) (end - (at + 1))
from-more seam last at end h e =
    let more : end - at ≡ suc (end - suc at) = omega (arith, h) in
    let next : suc at ≡ at + 1 = omega arith in
    ap (seam_from seam last at) more ∙ ap (λ (o : Option Seam). unwrap_or o (seam_from seam last (suc at) (end - suc at))) e
    ∙ ap (λ (n : ℕ). seam_from seam last n (end - n)) next

pub from-over : (seam : ℕ → Option Seam) (last : Seam) (at end : ℕ) → end ≤ at → seam_from seam last at (end - at) ≡ last
from-over seam last at end h = let none : end - at ≡ 0 = omega (arith, h) in ap (seam_from seam last at) none

-- ---- divisions

-- inside a ligature, by the seams that were found
pub inside-not : (places : List ℕ) (place : ℕ) (from a b : Seam) → from ≡ a → is_least places from.place place ≡ false → inside places place a b ≡ None
inside-not places place from a b is not =
    ap (λ (s : Seam). inside places place s b) (sym is) ∙ ap (λ (x : Bool). cond x (if_few (between_seams place from b)) None) not

pub inside-so : (places : List ℕ) (place : ℕ) (from to a b : Seam) → from ≡ a → to ≡ b → is_least places from.place place ≡ true → if_few (between_seams place from to) ≡ inside places place a b
inside-so places place from to a b is to_is holds =
    ap (λ (x : Bool). cond x (if_few (between_seams place from to)) None) (sym holds) ∙ (λ i. inside places place (is i) (to_is i))

-- what is left from a place on
from-place : (k : ℕ) (places : List ℕ) → k < length places → drop k places ≡ get_or places k 0 ∷ drop (k + 1) places
from-place k places here = let next : suc k ≡ k + 1 = omega arith in drop-cons places k 0 here ∙ ap (λ (n : ℕ). get_or places k 0 ∷ drop n places) next

-- one place more: no division, or a division
module _ (f : ℕ → Option Division) (places : List ℕ) (k : ℕ) (here : k < length places) (divisions whole : List Division) (so_far : divisions ++ filter_map f (drop k places) ≡ whole) where
  pub division-not : f (get_or places k 0) ≡ None → divisions ++ filter_map f (drop (k + 1) places) ≡ whole
  division-not is =
      ap (λ (o : Option Division). divisions ++ cons_option o (filter_map f (drop (k + 1) places))) (sym is)
      ∙ (ap (λ (rest : List ℕ). divisions ++ filter_map f rest) (sym (from-place k places here)) ∙ so_far)

  pub division-more : (d : Division) → f (get_or places k 0) ≡ Some d → (after : List Division) → after ≡ divisions ++ d ∷ [] → after ++ filter_map f (drop (k + 1) places) ≡ whole
  division-more d is after e =
      ap (λ (x : List Division). x ++ filter_map f (drop (k + 1) places)) e
      ∙ (append_assoc divisions (d ∷ []) (filter_map f (drop (k + 1) places))
      ∙ (ap (λ (o : Option Division). divisions ++ cons_option o (filter_map f (drop (k + 1) places))) (sym is)
      ∙ (ap (λ (rest : List ℕ). divisions ++ filter_map f rest) (sym (from-place k places here)) ∙ so_far)))

-- all places
pub divisions-all : (f : ℕ → Option Division) (places : List ℕ) (k : ℕ) (divisions whole : List Division) → length places ≤ k → divisions ++ filter_map f (drop k places) ≡ whole → divisions ≡ whole
divisions-all f places k divisions whole over so_far =
    sym (append-nil divisions) ∙ (ap (λ (rest : List ℕ). divisions ++ filter_map f rest) (sym (drop_all k places over)) ∙ so_far)

-- ---- parts of a word

counted : (b e l : ℕ) → min e l - min b (min e l) ≡ min (e - b) (l - b)
counted b e l = omega arith

drops : (xs : List ℕ) (k i j : ℕ) → (i ≡ j) ⊎ (k ≡ 0) → take k (drop i xs) ≡ take k (drop j xs)
drops xs k i j (inl e) = ap (λ (n : ℕ). take k (drop n xs)) e
drops xs k i j (inr e) = ap (λ (n : ℕ). take n (drop i xs)) e ∙ sym (ap (λ (n : ℕ). take n (drop j xs)) e)

none-or : (b e l : ℕ) → (min b (min e l) ≡ b) ⊎ (min (e - b) (l - b) ≡ 0)
none-or b e l = elim (cases_lt (min e l) b) [
  | inl over ↦ inr (omega (arith, over))
  | inr within ↦ inl (omega (arith, within))
]

part-held : (xs : List ℕ) (begin end : ℕ) → slice_range xs (min begin (min end (length xs))) (min end (length xs)) ≡ slice_range xs begin end
part-held xs begin end =
    ap (λ (n : ℕ). take n (drop (min begin (min end (length xs))) xs)) (counted begin end (length xs))
    ∙ drops xs (min (end - begin) (length xs - begin)) (min begin (min end (length xs))) begin (none-or begin end (length xs))
    ∙ ap (λ (n : ℕ). take (min (end - begin) n) (drop begin xs)) (sym (length-drop begin xs))
    ∙ take_min (end - begin) (drop begin xs)

-- a part, where its places are held within the word
pub part-is : (xs : List ℕ) (from to begin end : ℕ) → end ≡ min to (length xs) → begin ≡ min from end → slice_range xs begin end ≡ slice_range xs from to
part-is xs from to begin end end_is begin_is =
    let all : begin ≡ min from (min to (length xs)) = begin_is ∙ ap (min from) end_is in
    (λ i. slice_range xs (all i) (end_is i)) ∙ part-held xs from to

-- its characters are in the font, and with the hyphen character they are too
abbrev pub AllIn : List FontState → ℕ → List ℕ → Type 0
AllIn fonts font chars = All (λ c. has_character fonts font c ≡ true) chars

pub part-there : (fonts : List FontState) (font : ℕ) (chars : List ℕ) (from to : ℕ) → All (λ c. has_character fonts font c ≡ true) chars → All (λ c. has_character fonts font c ≡ true) (slice_range chars from to)
part-there fonts font chars from to all =
    let there : ℕ → Type 0 = λ c. has_character fonts font c ≡ true in
    All-take there (to - from) (drop from chars) (All-drop there from chars all)

pub hyphened-there : (fonts : List FontState) (font : ℕ) (chars : List ℕ) (from to hyphen : ℕ) → All (λ c. has_character fonts font c ≡ true) chars
    → All (λ c. has_character fonts font c ≡ true) (slice_range chars from to ++ hyphen_codes fonts font hyphen)
hyphened-there fonts font chars from to hyphen all =
    All-append there (slice_range chars from to) (hyphen_codes fonts font hyphen) (part-there fonts font chars from to all) (by (has_character fonts font hyphen) refl)
  where
    there : ℕ → Type 0
    there c = has_character fonts font c ≡ true

    by : (b : Bool) → has_character fonts font hyphen ≡ b → All there (cond b (hyphen ∷ []) [])
    by true is = All-cons there hyphen [] is (All-nil there)
    by false is = All-nil there
