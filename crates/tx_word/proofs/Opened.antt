-- The characters of the open word stay in its font.
use Rattle.std.proofs.Common.{◌≡◌, ℕ, ℤ, true, false, ◌⊎◌, inl, inr, Option, Some, None, Result, Ok, Err, OnOk, OnErr, List, [], ◌++◌, get_or, refl, sym, ap, subst, ◌∙◌}
use Rattle.std.specs.Option.{option_map_or}
use Rattle.std.proofs.lemmas.List.Elements.{All-push, All-nil}
use Rattle.tx_prim.specs.declared.family.FontNumber.{FontNumber}
use Rattle.tx_prim.specs.declared.family.FontNumber.TheVariants.{Hyphen, Skew}
use Rattle.tx_tfm.specs.declared.named.NamedFont.{NamedFont}
use Rattle.tx_tfm.specs.declared.state.FontState.{FontState}
use Rattle.tx_tfm.specs.Format.{is_there}
use Rattle.tx_tfm.specs.Fonts.{font_at, has_character, with_font_identifier, with_font_integer, with_identifier, with_integer}
use Rattle.tx_tfm.proofs.Numbered.{font_at_changed, has_more}
use Rattle.tx_word.specs.declared.accent.Accent.{Accent}
use Rattle.tx_word.specs.declared.open.OpenWord.{OpenWord}
use Rattle.tx_word.specs.Collecting.{AreCollecting, Collecting, IsOpen, font_of, joined}

-- a character of its font joins it
pub open-joined : (fonts : List FontState) (word : Option OpenWord) (font code : ℕ) → AreCollecting fonts word → has_character fonts (font_of word font) code ≡ true → IsOpen fonts (joined word font code)
open-joined fonts None font code opened has = All-push (λ c. has_character fonts font c ≡ true) [] code (All-nil (λ c. has_character fonts font c ≡ true)) has
open-joined fonts (Some word) font code opened has = All-push (λ c. has_character fonts word.font c ≡ true) word.chars code opened has

abbrev collecting : List FontState → Option OpenWord → Option Accent → Collecting
collecting fonts word accent = record { fonts = fonts; word = word; accent = accent }

-- other fonts are put behind those that are there
pub open-more : (fonts more : List FontState) (word : Option OpenWord) → AreCollecting fonts word → AreCollecting (fonts ++ more) word
open-more fonts more None opened = opened
open-more fonts more (Some word) opened = λ k d within. has_more fonts more word.font (get_or word.chars k d) (opened k d within)

-- fonts are changed, but for their files and sizes
pub open-files : (old new : List FontState) (word : Option OpenWord) → ((number : ℕ) → font_at new number ≡ font_at old number) → AreCollecting old word → AreCollecting new word
open-files old new None same opened = opened
open-files old new (Some word) same opened = λ k d within.
    ap (λ (o : Option NamedFont). option_map_or (λ (f : NamedFont). is_there f.font.file (get_or word.chars k d)) o false) (same word.font) ∙ opened k d within

-- a font is put behind the others, or want of memory leaves them as they are
pub open-pushed : {T E : Type 0} (r : Result T E) (old new more : List FontState) (word : Option OpenWord) → OnOk r (new ≡ old ++ more) → OnErr r (new ≡ old) → AreCollecting old word → AreCollecting new word
open-pushed (Ok value) old new more word ok err opened = subst (λ (fonts : List FontState). AreCollecting fonts word) (sym ok) (open-more old more word opened)
open-pushed (Err e) old new more word ok err opened = subst (λ (fonts : List FontState). AreCollecting fonts word) (sym err) opened

-- \hyphenchar or \skewchar is no part of a font's file
integer-keeps : (kind : FontNumber) (value : ℤ) (s : FontState) → (with_integer kind value s).named ≡ s.named
integer-keeps Hyphen value s = refl
integer-keeps Skew value s = refl

-- one of these is changed, or want of memory leaves them as they are
pub open-integer : {T E : Type 0} (r : Result T E) (old new : List FontState) (word : Option OpenWord) (kind : FontNumber) (number : ℕ) (value : ℤ)
    → OnOk r (new ≡ with_font_integer kind old number value) → OnErr r (new ≡ old) → AreCollecting old word → AreCollecting new word
open-integer (Ok done) old new word kind number value ok err opened =
    open-files old new word (λ (at : ℕ). ap (λ (fonts : List FontState). font_at fonts at) ok ∙ font_at_changed (with_integer kind value) (integer-keeps kind value) old number at) opened
open-integer (Err e) old new word kind number value ok err opened = subst (λ (fonts : List FontState). AreCollecting fonts word) (sym err) opened

-- nor is its identifier
pub open-identifier : {T E : Type 0} (r : Result T E) (old new : List FontState) (word : Option OpenWord) (number : ℕ) (text : List ℕ)
    → OnOk r (new ≡ with_font_identifier old number text) → OnErr r (new ≡ old) → AreCollecting old word → AreCollecting new word
open-identifier (Ok done) old new word number text ok err opened =
    open-files old new word (λ (at : ℕ). ap (λ (fonts : List FontState). font_at fonts at) ok ∙ font_at_changed (with_identifier text) (λ (s : FontState). refl) old number at) opened
open-identifier (Err e) old new word number text ok err opened = subst (λ (fonts : List FontState). AreCollecting fonts word) (sym err) opened

-- fonts that are changed in one way are so behind the words
pub words-with : {T E : Type 0} (change : List FontState → ℤ → List FontState) (r : Result T E) (old : Collecting) (fonts new : List FontState) (word : Option OpenWord) (accent : Option Accent) (given value : ℤ)
    → collecting fonts word accent ≡ old → given ≡ value → OnOk r (new ≡ change fonts given) → OnOk r (collecting new word accent ≡ record old { fonts = change old.fonts value })
words-with change (Ok done) old fonts new word accent given value is same e = λ i. record { fonts = (e ∙ (λ j. change ((is j).fonts) (same j))) i; word = (is i).word; accent = (is i).accent }
words-with change (Err e) old fonts new word accent given value is same ok = tt

pub words-by : {T E : Type 0} (change : List FontState → List FontState) (r : Result T E) (old : Collecting) (fonts new : List FontState) (word : Option OpenWord) (accent : Option Accent)
    → collecting fonts word accent ≡ old → OnOk r (new ≡ change fonts) → OnOk r (collecting new word accent ≡ record old { fonts = change old.fonts })
words-by change (Ok done) old fonts new word accent is e = λ i. record { fonts = (e ∙ (λ j. change ((is j).fonts))) i; word = (is i).word; accent = (is i).accent }
words-by change (Err e) old fonts new word accent is ok = tt

-- fonts that were taken to be changed, a copy or not, are those that there were
pub one-way : {A : Type 0} → A ⊎ A → A
one-way (inl a) = a
one-way (inr a) = a
