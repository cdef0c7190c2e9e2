-- What is read of some items stands with more items behind them.
use Rattle.std.proofs.Common.{◌≡◌, ℕ, ◌+◌, ◌*◌, Bool, true, false, cond, not, ℤ, pos, Option, Some, None, List, [], ◌∷◌, ◌++◌, refl, sym, ap, append_assoc}
use Rattle.std.specs.Prelude.{nat_le}
use Rattle.tx_seen.specs.declared.seen.Seen.{Seen}
use Rattle.tx_seen.specs.declared.place.Place.{Place}
use Rattle.tx_seen.specs.declared.place.FontName.{FontName}
use Rattle.tx_seen.specs.declared.fed.Value.TheVariants.{Int, Dimen, Glue, Muglue, Magnification, Flag, Absent, OutOfRange}
use Rattle.tx_seen.specs.Seen.{font_name, is_space, is_undefined}
use Rattle.tx_seen.specs.declared.error.TexError.TheVariants.{Undefined, MissingNumber, IntegerTooLarge}
use Rattle.tx_seen.specs.declared.item.Item.{Item}
use Rattle.tx_seen.specs.declared.item.Item.TheVariants.{Took, Gave}
use Rattle.tx_seen.specs.Readings.{Reading, More, Need, Done, Wrong, next, ReadsOn}
use Rattle.tx_scan.specs.declared.scans.Radix.{Radix}
use Rattle.tx_scan.specs.declared.scans.Radix.TheVariants.{Decimal}
use Rattle.tx_prim.specs.declared.family.Numbered.{Numbered}
use Rattle.tx_scan.specs.declared.scans.Counted.{Counted}
use Rattle.tx_scan.specs.declared.scans.Counted.TheVariants as counts
use Rattle.tx_scan.specs.declared.scans.FontSought.{FontSought}
use Rattle.tx_scan.specs.declared.scans.FontSought.TheVariants as sought
use Rattle.tx_scan.specs.declared.scans.Outer.{Outer}
use Rattle.tx_scan.specs.declared.scans.Beginning.{Beginning}
use Rattle.tx_scan.specs.declared.scans.Beginning.TheVariants as begin
use Rattle.tx_seen.specs.Places.{place_of}
use Rattle.tx_scan.specs.Beginnings.{base, digit, beginning}
use Rattle.tx_scan.specs.FontNames.{font, font_behind, parameter_number, place_of_font, told}
use Rattle.tx_scan.specs.Integers.{Ended, counted, of_font, whole_by, ended_by, space_after, code_named, coded, character_code, digits, first_digit, in_range, is_in_range, quantity, byte_of, numbered, with_sign, whole, signed_constant, begun, signs, integer}

pub on-if : {A : Type 0} (more : List Item) (b : Bool) (x y u v : Reading A) → ReadsOn more x u → ReadsOn more y v → ReadsOn more (cond b x y) (cond b u v)
on-if more true x y u v p q = p
on-if more false x y u v p q = q

pub on-next : {A B : Type 0} (more : List Item) (r s : Reading A) (on : A → List Item → Reading B) → ReadsOn more r s → ((a : A) (rest : List Item) → ReadsOn more (on a rest) (on a (rest ++ more))) → ReadsOn more (next r on) (next s on)
on-next more (More want) s on h k = tt
on-next more (Need kind) s on h k = tt
on-next more (Done a rest) s on h k = rw h (k a rest)
on-next more (Wrong e) s on h k = rw h refl

on-ended : (more : List Item) (n : ℕ) (t : Seen) (rest : List Item) → ReadsOn more (ended_by n t rest) (ended_by n t (rest ++ more))
on-ended more n t rest = on-if more (is_undefined t) _ _ _ _ refl refl

pub on-space : (more : List Item) (n : ℕ) (items : List Item) → ReadsOn more (space_after n items) (space_after n (items ++ more))
on-space more n [] = tt
on-space more n (Gave v ∷ rest) = refl
on-space more n (Took t ∷ rest) = on-ended more n t rest

on-coded : (more : List Item) (o : Option ℕ) (rest : List Item) → ReadsOn more (coded o rest) (coded o (rest ++ more))
on-coded more None rest = refl
on-coded more (Some code) rest = on-space more code rest

pub on-code : (more : List Item) (items : List Item) → ReadsOn more (character_code items) (character_code (items ++ more))
on-code more [] = tt
on-code more (Gave v ∷ rest) = refl
on-code more (Took t ∷ rest) = on-coded more (code_named t.token) rest

on-digits-by : (more : List Item) (radix : Radix) (n : ℕ) (t : Seen) (rest : List Item) (o : Option ℕ) → digit radix t ≡ o → ((m : ℕ) → ReadsOn more (digits radix m rest) (digits radix m (rest ++ more))) → ReadsOn more (digits radix n (Took t ∷ rest)) (digits radix n (Took t ∷ rest ++ more))
on-digits-by more radix n t rest None e later = rw e (on-ended more n t rest)
on-digits-by more radix n t rest (Some d) e later =
    rw e (on-if more (nat_le (base radix * n + d) 2147483647) (digits radix (base radix * n + d) rest) (Wrong IntegerTooLarge) (digits radix (base radix * n + d) (rest ++ more)) (Wrong IntegerTooLarge) (later (base radix * n + d)) refl)

pub on-digits : (more : List Item) (radix : Radix) (n : ℕ) (items : List Item) → ReadsOn more (digits radix n items) (digits radix n (items ++ more))
on-digits more radix n [] = tt
on-digits more radix n (Gave v ∷ rest) = refl
on-digits more radix n (Took t ∷ rest) = on-digits-by more radix n t rest (digit radix t) refl (λ m. on-digits more radix m rest)

on-first-by : (more : List Item) (o : Option ℕ) (radix : Radix) (t : Seen) (rest : List Item) → digit radix t ≡ o → ReadsOn more (first_digit radix (Took t ∷ rest)) (first_digit radix (Took t ∷ rest ++ more))
on-first-by more None radix t rest e = rw e (on-if {A = Ended} more (is_undefined t) (Wrong Undefined) (Wrong MissingNumber) (Wrong Undefined) (Wrong MissingNumber) refl refl)
on-first-by more (Some d) radix t rest e = rw e (on-digits more radix d rest)

pub on-first : (more : List Item) (radix : Radix) (items : List Item) → ReadsOn more (first_digit radix items) (first_digit radix (items ++ more))
on-first more radix [] = tt
on-first more radix (Gave v ∷ rest) = refl
on-first more radix (Took t ∷ rest) = on-first-by more (digit radix t) radix t rest refl

on-range : (more : List Item) (n : ℤ) (rest : List Item) → ReadsOn more (in_range n rest) (in_range n (rest ++ more))
on-range more n rest = on-if {A = ℤ} more (is_in_range n) (Done n rest) (Wrong IntegerTooLarge) (Done n (rest ++ more)) (Wrong IntegerTooLarge) refl refl

pub on-quantity : (more : List Item) (place : Place) (items : List Item) → ReadsOn more (quantity place items) (quantity place (items ++ more))
on-quantity more place [] = tt
on-quantity more place (Gave (Int n) ∷ rest) = on-range more n rest
on-quantity more place (Gave (Dimen n) ∷ rest) = on-range more n rest
on-quantity more place (Gave (Glue g) ∷ rest) = on-range more g.width rest
on-quantity more place (Gave (Muglue g) ∷ rest) = refl
on-quantity more place (Gave (Magnification n) ∷ rest) = refl
on-quantity more place (Gave (Flag b) ∷ rest) = refl
on-quantity more place (Gave Absent ∷ rest) = refl
on-quantity more place (Gave OutOfRange ∷ rest) = refl
on-quantity more place (Took t ∷ rest) = refl

pub on-numbered : (more : List Item) (kind : Numbered) (o : Option ℕ) (items : List Item) → ReadsOn more (numbered kind o items) (numbered kind o (items ++ more))
on-numbered more kind None items = refl
on-numbered more kind (Some n) items = on-quantity more (place_of kind n) items

on-told : (more : List Item) (tells : Option FontName) (rest : List Item) → ReadsOn more (told tells rest) (told tells (rest ++ more))
on-told more None rest = refl
on-told more (Some f) rest = refl

on-font : (more : List Item) (items : List Item) → ReadsOn more (font items) (font (items ++ more))
on-font more [] = tt
on-font more (Gave v ∷ rest) = refl
on-font more (Took t ∷ rest) = on-if more (is_undefined t) _ _ _ _ refl (on-if more (is_space t) _ _ _ _ (on-font more rest) (on-told more (font_name t) rest))

on-behind : (more : List Item) (behind items : List Item) → ReadsOn more (font_behind behind items) (font_behind behind (items ++ more))
on-behind more behind items = rw (append_assoc behind items more) at (on-font more (behind ++ items))

on-of-font : (more : List Item) (sought : FontSought) (r s : Reading FontName) → ReadsOn more r s → ReadsOn more (of_font sought r) (of_font sought s)
on-of-font more sought r s h = on-next more r s (λ f rest. quantity (place_of_font sought f) rest) h (λ f rest. on-quantity more (place_of_font sought f) rest)

pub on-parameter : (more : List Item) (n : ℤ) (behind items : List Item) → ReadsOn more (of_font (sought.Dimen (parameter_number n)) (font_behind behind items)) (of_font (sought.Dimen (parameter_number n)) (font_behind behind (items ++ more)))
on-parameter more n behind items = on-of-font more (sought.Dimen (parameter_number n)) (font_behind behind items) (font_behind behind (items ++ more)) (on-behind more behind items)

pub on-font-integer : (more : List Item) (sought : FontSought) (items : List Item) → ReadsOn more (of_font sought (font items)) (of_font sought (font (items ++ more)))
on-font-integer more sought items = on-of-font more sought (font items) (font (items ++ more)) (on-font more items)

on-counted : (more : List Item) (kind : Counted) (n : ℤ) (behind items : List Item) (on : ℤ → List Item → List Item → Reading ℤ) → ((value : ℤ) (behind rest : List Item) → ReadsOn more (on value behind rest) (on value behind (rest ++ more))) → ReadsOn more (counted font_behind kind n behind items on) (counted font_behind kind n behind (items ++ more) on)
on-counted more (counts.Numbered kind) n behind items on later =
    on-next more (numbered kind (byte_of n) items) (numbered kind (byte_of n) (items ++ more)) (λ value rest. on value behind rest)
    (on-numbered more kind (byte_of n) items)
    (λ value rest. later value behind rest)
on-counted more counts.FontDimen n behind items on later =
    on-next more (of_font (sought.Dimen (parameter_number n)) (font_behind behind items)) (of_font (sought.Dimen (parameter_number n)) (font_behind behind (items ++ more))) (λ value rest. on value [] rest)
    (on-parameter more n behind items)
    (λ value rest. later value [] rest)

on-whole : (more : List Item) (outers : List Outer) (n : ℤ) (behind items : List Item) → ReadsOn more (whole outers n behind items) (whole outers n behind (items ++ more))
on-whole more [] n behind items = ap (λ (rest : List Item). Done n rest) (sym (append_assoc behind items more))
on-whole more (outer ∷ outers) n behind items =
    on-counted more outer.kind n behind items (λ value behind rest. whole_by font_behind outers (with_sign outer.negative value) behind rest)
    (λ value behind rest. on-whole more outers (with_sign outer.negative value) behind rest)

on-begun : (more : List Item) (outers : List Outer) (negative : Bool) (here there : List Outer → Bool → Reading ℤ) (rest : List Item) (b : Beginning) → ((outers : List Outer) (negative : Bool) → ReadsOn more (here outers negative) (there outers negative)) → ReadsOn more (begun outers negative here rest b) (begun outers negative there (rest ++ more) b)
on-begun more outers negative here there rest begin.Plus later = later outers negative
on-begun more outers negative here there rest begin.Minus later = later outers (not negative)
on-begun more outers negative here there rest (begin.Digit d) later =
    on-next more (digits Decimal d rest) (digits Decimal d (rest ++ more)) (signed_constant outers negative) (on-digits more Decimal d rest) (λ c rest. on-whole more outers (with_sign negative (pos c.number)) c.behind rest)
on-begun more outers negative here there rest (begin.Digits radix) later =
    on-next more (first_digit radix rest) (first_digit radix (rest ++ more)) (signed_constant outers negative) (on-first more radix rest) (λ c rest. on-whole more outers (with_sign negative (pos c.number)) c.behind rest)
on-begun more outers negative here there rest begin.Character later =
    on-next more (character_code rest) (character_code (rest ++ more)) (signed_constant outers negative) (on-code more rest) (λ c rest. on-whole more outers (with_sign negative (pos c.number)) c.behind rest)
on-begun more outers negative here there rest begin.Point later = refl
on-begun more outers negative here there rest (begin.Number n) later = on-whole more outers (with_sign negative (pos n)) [] rest
on-begun more outers negative here there rest (begin.At place) later =
    on-next more (quantity place rest) (quantity place (rest ++ more)) (λ n rest. whole outers (with_sign negative n) [] rest) (on-quantity more place rest) (λ n rest. on-whole more outers (with_sign negative n) [] rest)
on-begun more outers negative here there rest (begin.Numbered kind) later = later (record { negative = negative; kind = counts.Numbered kind } ∷ outers) false
on-begun more outers negative here there rest begin.FontDimen later = later (record { negative = negative; kind = counts.FontDimen } ∷ outers) false
on-begun more outers negative here there rest (begin.FontInteger kind) later =
    on-next more (of_font (sought.Integer kind) (font rest)) (of_font (sought.Integer kind) (font (rest ++ more))) (λ n rest. whole outers (with_sign negative n) [] rest)
    (on-font-integer more (sought.Integer kind) rest) (λ n rest. on-whole more outers (with_sign negative n) [] rest)
on-begun more outers negative here there rest (begin.Nothing error) later = refl

on-signs : (more : List Item) (outers : List Outer) (negative : Bool) (items : List Item) → ReadsOn more (signs outers negative items) (signs outers negative (items ++ more))
on-signs more outers negative [] = tt
on-signs more outers negative (Gave v ∷ rest) = refl
on-signs more outers negative (Took t ∷ rest) =
    on-begun more outers negative (λ outers negative. signs outers negative rest) (λ outers negative. signs outers negative (rest ++ more)) rest (beginning t)
    (λ outers negative. on-signs more outers negative rest)

pub reads-on : (more : List Item) (items : List Item) → ReadsOn more (integer items) (integer (items ++ more))
reads-on more items = on-signs more [] false items
