-- A word that is put at the end of a list from its front: a pair at a time, as long as no ligature comes.
use Rattle.std.proofs.Common.{◌≡◌, ℕ, suc, ◌+◌, ◌<◌, ◌≤◌, Bool, true, false, Option, Some, None, List, [], ◌∷◌, ◌++◌, length, drop, get_or, refl, sym, ap, subst, ◌∙◌, add-one, append_assoc, arith}
use Rattle.std.specs.List.{All, flat_map}
use Rattle.std.proofs.Math.Seq.{drop-cons}
use Rattle.std.proofs.lemmas.Grind.{flat_map-append}
use Rattle.std.proofs.lemmas.List.{append-nil, drop_all}
use Rattle.std.proofs.lemmas.List.Elements.{All-drop}
use Rattle.tx_ligkern.specs.declared.item.LigItem.{LigItem}
use Rattle.tx_ligkern.specs.declared.item.LigItem.TheVariants as lig
use Rattle.tx_ligkern.specs.Composed.{composed}
use Rattle.tx_ligkern.specs.Pairs.{kern_in, met_of}
use Rattle.tx_ligkern.proofs.Fronts.{front-met, left-met, last-met, last-alone}
use Rattle.tx_ligkern.proofs.Within.{composed-is}
use Rattle.tx_node.specs.Items.{Item}
use Rattle.tx_tfm.specs.declared.named.NamedFont.{NamedFont}
use Rattle.tx_tfm.specs.declared.state.FontState.{FontState}
use Rattle.tx_tfm.specs.Fonts.{font_at, has_character}
use Rattle.tx_tfm.specs.Sound.{IsSound}
use Rattle.tx_word.specs.Composed.{composed_in, word_list, IsPaired}
use Rattle.tx_word.specs.Words.{Composed, WithWord, word_items}
use Rattle.tx_word.proofs.Made.{there-in}

-- one item
pub one-item : (f : LigItem → List Item) (before : List Item) (item : LigItem) → before ++ f item ≡ before ++ flat_map f (item ∷ [])
one-item f before item = ap (λ (items : List Item). before ++ items) (sym (append-nil (f item)))

-- some items, and more behind them
pub two-parts : (f : LigItem → List Item) (before between after : List Item) (some more : List LigItem) → between ≡ before ++ flat_map f some → after ≡ between ++ flat_map f more → after ≡ before ++ flat_map f (some ++ more)
two-parts f before between after some more first second =
    second ∙ ap (λ (items : List Item). items ++ flat_map f more) first ∙ append_assoc before (flat_map f some) (flat_map f more)
    ∙ ap (λ (items : List Item). before ++ items) (sym (flat_map-append f some more))

-- what is put of a whole, and what is still to come
put-on : (f : LigItem → List Item) (before after : List Item) (front others whole : List LigItem) → after ≡ before ++ flat_map f front → whole ≡ front ++ others
    → after ++ flat_map f others ≡ before ++ flat_map f whole
put-on f before after front others whole put is =
    ap (λ (items : List Item). items ++ flat_map f others) put ∙ append_assoc before (flat_map f front) (flat_map f others)
    ∙ ap (λ (items : List Item). before ++ items) (sym (flat_map-append f front others) ∙ ap (flat_map f) (sym is))

-- characters that a font has
abbrev pub AllHad : List FontState → ℕ → List ℕ → Type 0
AllHad fonts font chars = All (λ c. has_character fonts font c ≡ true) chars

-- a list from a place on, by its first elements
from-one : (xs : List ℕ) (k : ℕ) → k < length xs → length xs ≤ k + 1 → drop k xs ≡ get_or xs k 0 ∷ []
from-one xs k here last = drop-cons xs k 0 here ∙ ap (λ (ys : List ℕ). get_or xs k 0 ∷ ys) (drop_all (suc k) xs (omega (arith, last)))

from-two : (xs : List ℕ) (k : ℕ) → k + 1 < length xs → drop k xs ≡ get_or xs k 0 ∷ drop (k + 1) xs
from-two xs k here = drop-cons xs k 0 (omega (arith, here)) ∙ ap (λ (n : ℕ). get_or xs k 0 ∷ drop n xs) (sym (add-one k))

-- in a font that breaks no rule
module _ (fonts : List FontState) (font : ℕ) (f : NamedFont) (hyphen : Option ℕ) (is : font_at fonts font ≡ Some f) (sound : IsSound f.font) where
  word-is : (chars : List ℕ) (left right : Bool) → word_list fonts font chars left right hyphen ≡ flat_map (word_items fonts font hyphen) (composed f.font chars left right)
  word-is chars left right = ap (λ (o : Option NamedFont). flat_map (word_items fonts font hyphen) (composed_in o chars left right)) is

  -- words, by what they are composed to
  step : (before after : List Item) (whole others : List ℕ) (left right : Bool) (front : List LigItem) → after ≡ before ++ flat_map (word_items fonts font hyphen) front
      → composed f.font whole left right ≡ front ++ composed f.font others false right
      → after ++ word_list fonts font others false right hyphen ≡ before ++ word_list fonts font whole left right hyphen
  step before after whole others left right front put front_is =
      ap (λ (items : List Item). after ++ items) (word-is others false right)
      ∙ put-on (word_items fonts font hyphen) before after front (composed f.font others false right) (composed f.font whole left right) put front_is
      ∙ ap (λ (items : List Item). before ++ items) (sym (word-is whole left right))

  pair-of : (c d : ℕ) (rest : List ℕ) (right : Bool) (before after : List Item) → AllHad fonts font (c ∷ d ∷ rest) → IsPaired fonts font hyphen f.font (Some c) (Some d) true before after
      → after ++ word_list fonts font (d ∷ rest) false right hyphen ≡ before ++ word_list fonts font (c ∷ d ∷ rest) false right hyphen
  pair-of c d rest right before after had paired =
      step before after (c ∷ d ∷ rest) (d ∷ rest) false right (lig.Char c ∷ kern_in (met_of f.font (Some c) (Some d))) paired.1
      (front-met f.font sound c d rest right (there-in fonts font f (c ∷ d ∷ rest) is had) paired.0)

  -- a pair within a word
  pub on-pair : (chars : List ℕ) (k : ℕ) (right : Bool) (before after : List Item) → k + 1 < length chars → AllHad fonts font chars
      → IsPaired fonts font hyphen f.font (Some (get_or chars k 0)) (Some (get_or chars (k + 1) 0)) true before after
      → after ++ word_list fonts font (drop (k + 1) chars) false right hyphen ≡ before ++ word_list fonts font (drop k chars) false right hyphen
  on-pair chars k right before after here had paired =
      let c : ℕ = get_or chars k 0 in
      let d : ℕ = get_or chars (k + 1) 0 in
      let rest : List ℕ = drop (suc (k + 1)) chars in
      let behind : drop (k + 1) chars ≡ d ∷ rest = drop-cons chars (k + 1) 0 here in
      let whole : drop k chars ≡ c ∷ d ∷ rest = from-two chars k here ∙ ap (λ (ys : List ℕ). c ∷ ys) behind in
      ap (λ (ys : List ℕ). after ++ word_list fonts font ys false right hyphen) behind
      ∙ pair-of c d rest right before after (subst (AllHad fonts font) whole (All-drop (λ x. has_character fonts font x ≡ true) k chars had)) paired
      ∙ ap (λ (ys : List ℕ). before ++ word_list fonts font ys false right hyphen) (sym whole)

  -- its left boundary
  pub on-left : (chars : List ℕ) (right : Bool) (before after : List Item) → 0 < length chars → AllHad fonts font chars
      → IsPaired fonts font hyphen f.font None (Some (get_or chars 0 0)) true before after
      → after ++ word_list fonts font chars false right hyphen ≡ before ++ word_list fonts font chars true right hyphen
  on-left [] right before after here had paired = absurd (omega (arith, here))
  on-left (c ∷ rest) right before after here had paired =
      step before after (c ∷ rest) (c ∷ rest) true right (kern_in (met_of f.font None (Some c))) paired.1
      (left-met f.font sound c rest right (there-in fonts font f (c ∷ rest) is had) paired.0)

  -- its last character, before a boundary that counts and one that doesn't
  pub on-last : (c : ℕ) (before after : List Item) → AllHad fonts font (c ∷ []) → IsPaired fonts font hyphen f.font (Some c) None true before after
      → after ≡ before ++ word_list fonts font (c ∷ []) false true hyphen
  on-last c before after had paired =
      paired.1
      ∙ ap (λ (items : List LigItem). before ++ flat_map (word_items fonts font hyphen) items) (sym (last-met f.font sound c (there-in fonts font f (c ∷ []) is had) paired.0))
      ∙ ap (λ (items : List Item). before ++ items) (sym (word-is (c ∷ []) false true))

  pub on-last-alone : (c : ℕ) (before : List Item) → AllHad fonts font (c ∷ []) → before ++ word_items fonts font hyphen (lig.Char c) ≡ before ++ word_list fonts font (c ∷ []) false false hyphen
  on-last-alone c before had =
      one-item (word_items fonts font hyphen) before (lig.Char c)
      ∙ ap (λ (items : List LigItem). before ++ flat_map (word_items fonts font hyphen) items) (sym (last-alone f.font sound c (there-in fonts font f (c ∷ []) is had)))
      ∙ ap (λ (items : List Item). before ++ items) (sym (word-is (c ∷ []) false false))

  -- where one character is left, the rest of the word is that
  pub last-left : (chars : List ℕ) (k : ℕ) (right : Bool) (before : List Item) → k < length chars → length chars ≤ k + 1
      → before ++ word_list fonts font (get_or chars k 0 ∷ []) false right hyphen ≡ before ++ word_list fonts font (drop k chars) false right hyphen
  last-left chars k right before here last = ap (λ (ys : List ℕ). before ++ word_list fonts font ys false right hyphen) (sym (from-one chars k here last))

  -- what a word is as a function it is by the rules
  pub with-word : (chars : List ℕ) (left right : Bool) (before after : List Item) → AllHad fonts font chars → after ≡ before ++ word_list fonts font chars left right hyphen
      → WithWord fonts font chars left right hyphen before after
  with-word chars left right before after had value = record {
    word = word_list fonts font chars left right hyphen;
    is_word = record {
      items = composed_in (font_at fonts font) chars left right;
      composed = subst (λ (o : Option NamedFont). Composed o chars left right (composed_in o chars left right)) (sym is) (composed-is f.font chars left right sound (there-in fonts font f chars is had));
      list_is = refl;
    };
    after_is = value;
  }

-- the one character that is left is one that the font has
pub last-had : (fonts : List FontState) (font : ℕ) (chars : List ℕ) (k : ℕ) → k < length chars → length chars ≤ k + 1 → AllHad fonts font chars → AllHad fonts font (get_or chars k 0 ∷ [])
last-had fonts font chars k here last had = subst (AllHad fonts font) (from-one chars k here last) (All-drop (λ x. has_character fonts font x ≡ true) k chars had)
