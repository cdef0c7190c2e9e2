-- The fonts of a run by their numbers.
use Rattle.std.proofs.Common.{◌≡◌, ℕ, zero, suc, ◌+◌, ◌-◌, ◌<◌, ◌≤◌, Bool, true, false, cond, List, [], ◌∷◌, ◌++◌, length, get_or, Option, Some, None, Bor, Result, Ok, Err, OnOk, IfSome, refl, sym, ap, subst, ◌∙◌, arith}
use Rattle.std.specs.Prelude.{option_and_then, slice_get, slice_set}
use Rattle.std.specs.List.{All}
use Rattle.std.specs.Option.{option_map_or}
use Rattle.std.proofs.lemmas.Option.{slice_get_within, slice_get_past, slice_get-get_or, get_or_from_slice_get}
use Rattle.std.proofs.lemmas.List.{length-append, length-set}
use Rattle.std.proofs.lemmas.List.Elements.{All-cons, All-head, All-push, All-set, All-tail}
use Rattle.std.specs.Slice.{IsItemAt}
use Rattle.tx_tfm.specs.declared.named.NamedFont.{NamedFont}
use Rattle.tx_tfm.specs.declared.state.FontState.{FontState}
use Rattle.tx_tfm.specs.Format.{is_there}
use Rattle.tx_tfm.specs.Fonts.{changed, font_at, has_character, AreFonts, IsState, IsTellable, IsTellableFont}

-- a number above 0 is that of a font behind \nullfont
pub font_at_is : (fonts : List FontState) (number : ℕ) → 0 < number → font_at fonts number ≡ option_and_then (λ (s : FontState). s.named) (slice_get fonts number)
font_at_is fonts zero h = absurd (omega arith)
font_at_is fonts (suc n) h = refl

pub behind_first : (null : FontState) (loaded : List FontState) (number : ℕ) → 0 < number → slice_get (null ∷ loaded) number ≡ slice_get loaded (number - 1)
behind_first null loaded zero h = absurd (omega arith)
behind_first null loaded (suc n) h = let same : n ≡ suc n - 1 = omega arith in ap (slice_get loaded) same

-- what holds of each font holds of that of a number
pub state_at : (fonts : List FontState) → All IsState fonts → (number : ℕ) (s : FontState) → slice_get fonts number ≡ Some s → IsState s
state_at fonts states number s at = subst IsState (get_or_from_slice_get fonts number s s at) (states number s (slice_get_within fonts number s at))

pub tellable_at : (fonts : List FontState) → AreFonts fonts → (number : ℕ) (f : NamedFont) → font_at fonts number ≡ Some f → (number < 256) × IsTellable f
tellable_at fonts are zero f at = absurd (cc)
tellable_at fonts are (suc n) f at = by (slice_get fonts (suc n)) refl at
  where
    by : (o : Option FontState) → slice_get fonts (suc n) ≡ o → option_and_then (λ (s : FontState). s.named) o ≡ Some f → (suc n < 256) × IsTellable f
    by None is found = absurd (cc)
    by (Some s) is found =
        let within = slice_get_within fonts (suc n) s is in
        (omega (arith, within, are.few), subst IsTellableFont found (state_at fonts are.states (suc n) s is))

-- a font that is changed, by its number
pub changed_first : (change : FontState → FontState) (null : FontState) (loaded : List FontState) → changed change (null ∷ loaded) 0 ≡ change null ∷ loaded
changed_first change null loaded = refl

pub changed_behind : (change : FontState → FontState) (null : FontState) (loaded : List FontState) (number : ℕ) (s : FontState) → 0 < number → number - 1 < length loaded
    → changed change (null ∷ loaded) number ≡ null ∷ slice_set loaded (number - 1) (change (get_or loaded (number - 1) s))
changed_behind change null loaded zero s h within = absurd (omega arith)
changed_behind change null loaded (suc n) s h within =
    let same : suc n - 1 ≡ n = omega arith in
    ap (λ (o : Option FontState). option_map_or (λ (x : FontState). null ∷ slice_set loaded n (change x)) o (null ∷ loaded)) (slice_get-get_or loaded n s (omega (arith, within, same)))
    ∙ (λ i. null ∷ slice_set loaded (sym same i) (change (get_or loaded (sym same i) s)))

pub changed_past : (change : FontState → FontState) (null : FontState) (loaded : List FontState) (number : ℕ) → 0 < number → length loaded ≤ number - 1 → changed change (null ∷ loaded) number ≡ null ∷ loaded
changed_past change null loaded zero h past = absurd (omega arith)
changed_past change null loaded (suc n) h past =
    let same : suc n - 1 ≡ n = omega arith in
    ap (λ (o : Option FontState). option_map_or (λ (x : FontState). null ∷ slice_set loaded n (change x)) o (null ∷ loaded)) (slice_get_past loaded n (omega (arith, past, same)))

pub ruleset number_steps = (font_at_is, behind_first, state_at, changed_first, changed_behind, changed_past)

-- what holds of each font holds of one that is lent
pub lent_state : (fonts : List FontState) → All IsState fonts → (at : ℕ) (r : Option (Bor FontState)) → IsItemAt fonts at r → IfSome r (λ (s : Bor FontState). IsState s.now)
lent_state fonts states at None h = tt
lent_state fonts states at (Some s) h = subst IsState (sym h.1) (states at s.now h.3.0)

-- it still holds of all where one is changed, but for its file and size, or put behind them
module _ (null : FontState) (loaded : List FontState) (are : AreFonts (null ∷ loaded)) where
  pub first_kept : (other : FontState) → other.named ≡ null.named → AreFonts (other ∷ loaded)
  first_kept other same = record {
    some = are.some;
    few = are.few;
    states = All-cons IsState other loaded (subst IsTellableFont (sym same) (All-head IsState null loaded are.states)) (All-tail IsState null loaded are.states);
  }

  pub one_kept : (at : ℕ) (s other : FontState) → at < length loaded → s ≡ get_or loaded at s → other.named ≡ s.named → AreFonts (null ∷ slice_set loaded at other)
  one_kept at s other within is same =
      let long : length (slice_set loaded at other) ≡ length loaded = length-set loaded at other in
      let behind = All-tail IsState null loaded are.states in
      let was : IsState s = subst IsState (sym is) (behind at s within) in
      record {
        some = omega arith;
        few = omega (arith, long, are.few);
        states = All-cons IsState null (slice_set loaded at other) (All-head IsState null loaded are.states) (All-set IsState loaded at other (subst IsTellableFont (sym same) was) behind);
      }

  pub more_kept : (s : FontState) (new : List FontState) (done : Bool) → length (null ∷ loaded) < 256 → IsState s → new ≡ cond done (loaded ++ s ∷ []) loaded → AreFonts (null ∷ new)
  more_kept s new true room is e =
      let long : length (loaded ++ s ∷ []) ≡ length loaded + 1 = length-append loaded (s ∷ []) in
      subst (λ (fonts : List FontState). AreFonts (null ∷ fonts)) (sym e) (record {
        some = omega arith;
        few = omega (arith, long, room);
        states = All-cons IsState null (loaded ++ s ∷ []) (All-head IsState null loaded are.states) (All-push IsState loaded s (All-tail IsState null loaded are.states) is);
      })
  more_kept s new false room is e = subst (λ (fonts : List FontState). AreFonts (null ∷ fonts)) (sym e) are

-- a font that was changed where it stands
pub changed_there : (change : FontState → FontState) (null : FontState) (loaded fonts : List FontState) (number at : ℕ) (s other : FontState) → null ∷ loaded ≡ fonts → 0 < number → at ≡ number - 1 → at < length loaded
    → s ≡ get_or loaded at s → other ≡ change s → null ∷ slice_set loaded at other ≡ changed change fonts number
changed_there change null loaded fonts number at s other are some at_is within is other_is =
    (λ i. null ∷ slice_set loaded at ((other_is ∙ ap change is) i))
    ∙ (λ i. null ∷ slice_set loaded (at_is i) (change (get_or loaded (at_is i) s)))
    ∙ sym (changed_behind change null loaded number s some (subst (λ (k : ℕ). k < length loaded) at_is within))
    ∙ ap (λ (all : List FontState). changed change all number) are

-- what is so after a success
pub on_ok : {T E : Type 0} (r : Result T E) {P Q : Type 0} → (P → Q) → OnOk r P → OnOk r Q
on_ok (Ok value) f p = f p
on_ok (Err e) f p = tt

-- a font keeps its number where others are put behind it
slice_get_kept : (fonts more : List FontState) (number : ℕ) (s : FontState) → slice_get fonts number ≡ Some s → slice_get (fonts ++ more) number ≡ Some s
slice_get_kept [] more number s at = absurd (cc)
slice_get_kept (x ∷ fonts) more zero s at = at
slice_get_kept (x ∷ fonts) more (suc n) s at = slice_get_kept fonts more n s at

pub has_more : (fonts more : List FontState) (number code : ℕ) → has_character fonts number code ≡ true → has_character (fonts ++ more) number code ≡ true
has_more fonts more zero code has = absurd (cc)
has_more fonts more (suc n) code has = by (slice_get fonts (suc n)) refl has
  where
    has_by : Option FontState → Bool
    has_by o = option_map_or (λ (f : NamedFont). is_there f.font.file code) (option_and_then (λ (s : FontState). s.named) o) false

    by : (o : Option FontState) → slice_get fonts (suc n) ≡ o → has_by o ≡ true → has_character (fonts ++ more) (suc n) code ≡ true
    by None is h = absurd (cc)
    by (Some s) is h = ap has_by (slice_get_kept fonts more (suc n) s is) ∙ h

-- and where what is changed of fonts is neither their file nor their size
slice_get_other : (fonts : List FontState) (at number : ℕ) (x other : FontState) → slice_get fonts at ≡ Some x → other.named ≡ x.named
    → option_and_then (λ (s : FontState). s.named) (slice_get (slice_set fonts at other) number) ≡ option_and_then (λ (s : FontState). s.named) (slice_get fonts number)
slice_get_other [] at number x other is same = absurd (cc)
slice_get_other (y ∷ fonts) zero zero x other is same = let found : y ≡ x = cc in same ∙ ap (λ (s : FontState). s.named) (sym found)
slice_get_other (y ∷ fonts) zero (suc n) x other is same = refl
slice_get_other (y ∷ fonts) (suc k) zero x other is same = refl
slice_get_other (y ∷ fonts) (suc k) (suc n) x other is same = slice_get_other fonts k n x other is same

slice_get_changed : (change : FontState → FontState) → ((s : FontState) → (change s).named ≡ s.named) → (fonts : List FontState) (at number : ℕ) (x : FontState) → slice_get fonts at ≡ Some x
    → option_and_then (λ (s : FontState). s.named) (slice_get (slice_set fonts at (change x)) number) ≡ option_and_then (λ (s : FontState). s.named) (slice_get fonts number)
slice_get_changed change keeps fonts at number x is = slice_get_other fonts at number x (change x) is (keeps x)

-- each number has the same font where a loaded font has another state of the same file and size
pub one_named : (null : FontState) (loaded fonts : List FontState) (at : ℕ) (s other : FontState) → null ∷ loaded ≡ fonts → at < length loaded → s ≡ get_or loaded at s → other.named ≡ s.named
    → (number : ℕ) → font_at (null ∷ slice_set loaded at other) number ≡ font_at fonts number
one_named null loaded fonts at s other are within is same number = by number ∙ ap (λ (all : List FontState). font_at all number) are
  where
    there : slice_get loaded at ≡ Some s
    there = slice_get-get_or loaded at s within ∙ ap Some (sym is)

    by : (n : ℕ) → font_at (null ∷ slice_set loaded at other) n ≡ font_at (null ∷ loaded) n
    by zero = refl
    by (suc zero) = slice_get_other loaded at zero s other there same
    by (suc (suc n)) = slice_get_other loaded at (suc n) s other there same

pub font_at_changed : (change : FontState → FontState) → ((s : FontState) → (change s).named ≡ s.named) → (fonts : List FontState) (at number : ℕ) → font_at (changed change fonts at) number ≡ font_at fonts number
font_at_changed change keeps fonts at zero = refl
font_at_changed change keeps fonts at (suc n) = by (slice_get fonts at) refl
  where
    by : (o : Option FontState) → slice_get fonts at ≡ o
        → option_and_then (λ (s : FontState). s.named) (slice_get (option_map_or (λ (s : FontState). slice_set fonts at (change s)) o fonts) (suc n)) ≡ option_and_then (λ (s : FontState). s.named) (slice_get fonts (suc n))
    by None is = refl
    by (Some x) is = slice_get_changed change keeps fonts at (suc n) x is
