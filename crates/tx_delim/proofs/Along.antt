-- One character more along the successors.
use Rattle.std.proofs.Common.{◌≡◌, ◌<◌, ◌-◌, ℕ, zero, suc, Bool, true, false, ℤ, List, Option, Some, None, ◌∙◌, refl, ap, sym, arith}
use Rattle.std.specs.Option.{option_map_or}
use Rattle.std.specs.Prelude.{if◌then◌else◌}
use Rattle.tx_tfm.specs.declared.state.FontState.{FontState}
use Rattle.tx_tfm.specs.Fonts.{has_character}
use Rattle.tx_delim.specs.declared.search.Search.{Search}
use Rattle.tx_delim.specs.Fitting.{fitting_within, next_fitting}
use Rattle.tx_delim.specs.Searching.{along, looked_at, next_in}

-- a character that is there is looked at, and the search goes on behind it
pub along_on : (n : ℕ) (fonts : List FontState) (asked : ℤ) (font code : ℕ) (at at' : Option ℕ) (s s' : Search) → 0 < n → at ≡ Some code
    → has_character fonts font code ≡ true → s' ≡ looked_at fonts asked font code s → at' ≡ next_in fonts font code s'
    → along n fonts asked font at s ≡ along (n - 1) fonts asked font at' s'
unfolding along
along_on zero fonts asked font code at at' s s' h is there s_is at_is = absurd (omega arith)
along_on (suc n) fonts asked font code at at' s s' h is there s_is at_is =
    let one_less : n ≡ suc n - 1 = omega arith in
    ap (λ (a : Option ℕ). along (suc n) fonts asked font a s) is
    ∙ ap (λ (t : Bool). if t then along n fonts asked font (next_in fonts font code (looked_at fonts asked font code s)) (looked_at fonts asked font code s) else s) there
    ∙ ap (λ (x : Search). along n fonts asked font (next_in fonts font code x) x) (sym s_is)
    ∙ ap (λ (a : Option ℕ). along n fonts asked font a s') (sym at_is)
    ∙ ap (λ (k : ℕ). along k fonts asked font at' s') one_less

-- it ends where the font lacks the character, where there is none, and where no more are looked at
gone_at : (n : ℕ) (fonts : List FontState) (asked : ℤ) (font code : ℕ) (s : Search) → has_character fonts font code ≡ false
    → along n fonts asked font (Some code) s ≡ s
unfolding along
gone_at zero fonts asked font code s gone = refl
gone_at (suc n) fonts asked font code s gone =
    ap (λ (t : Bool). if t then along n fonts asked font (next_in fonts font code (looked_at fonts asked font code s)) (looked_at fonts asked font code s) else s) gone

pub along_gone : (n : ℕ) (fonts : List FontState) (asked : ℤ) (font code : ℕ) (at : Option ℕ) (s : Search) → at ≡ Some code
    → has_character fonts font code ≡ false → along n fonts asked font at s ≡ s
along_gone n fonts asked font code at s is gone =
    ap (λ (a : Option ℕ). along n fonts asked font a s) is ∙ gone_at n fonts asked font code s gone

pub along_none : (n : ℕ) (fonts : List FontState) (asked : ℤ) (font : ℕ) (at : Option ℕ) (s : Search) → at ≡ None → along n fonts asked font at s ≡ s
unfolding along
along_none zero fonts asked font at s none = refl
along_none (suc n) fonts asked font None s none = refl
along_none (suc n) fonts asked font (Some code) s none = cc

pub along_over : (n : ℕ) (fonts : List FontState) (asked : ℤ) (font : ℕ) (at : Option ℕ) (s : Search) → n ≡ 0 → along n fonts asked font at s ≡ s
unfolding along
along_over zero fonts asked font at s over = refl
along_over (suc n) fonts asked font at s over = absurd (omega arith)

-- the same of successors that fit
pub fitting_on : (n : ℕ) (fonts : List FontState) (width : ℤ) (font code next : ℕ) → 0 < n → next_fitting fonts width font code ≡ Some next
    → fitting_within n fonts width font code ≡ fitting_within (n - 1) fonts width font next
unfolding fitting_within
fitting_on zero fonts width font code next h is = absurd (omega arith)
fitting_on (suc n) fonts width font code next h is =
    let one_less : n ≡ suc n - 1 = omega arith in
    ap (λ (o : Option ℕ). option_map_or (fitting_within n fonts width font) o code) is
    ∙ ap (λ (k : ℕ). fitting_within k fonts width font next) one_less

pub fitting_last : (n : ℕ) (fonts : List FontState) (width : ℤ) (font code : ℕ) → next_fitting fonts width font code ≡ None
    → fitting_within n fonts width font code ≡ code
unfolding fitting_within
fitting_last zero fonts width font code is = refl
fitting_last (suc n) fonts width font code is = ap (λ (o : Option ℕ). option_map_or (fitting_within n fonts width font) o code) is

pub fitting_over : (n : ℕ) (fonts : List FontState) (width : ℤ) (font code : ℕ) → n ≡ 0 → fitting_within n fonts width font code ≡ code
unfolding fitting_within
fitting_over zero fonts width font code over = refl
fitting_over (suc n) fonts width font code over = absurd (omega arith)
