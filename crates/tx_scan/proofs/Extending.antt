-- What is a part of an integer can be made whole.
use Rattle.std.proofs.Common.{◌≡◌, ℕ, ◌+◌, ◌*◌, Bool, true, false, not, ℤ, pos, Option, Some, None, List, [], ◌∷◌, ◌++◌, inl, inr, refl, sym, append_assoc}
use Rattle.std.specs.Prelude.{nat_le}
use Rattle.tx_char.specs.declared.category.Cat.TheVariants as cat
use Rattle.tx_char.specs.declared.tokens.Token.TheVariants as token
use Rattle.tx_seen.specs.declared.seen.Seen.{Seen}
use Rattle.tx_seen.specs.declared.meaning.Meaning.TheVariants as meaning
use Rattle.tx_seen.specs.declared.place.Place.{Place}
use Rattle.tx_seen.specs.declared.fed.Want.{Want}
use Rattle.tx_seen.specs.declared.place.FontName.{FontName}
use Rattle.tx_seen.specs.declared.place.FontName.TheVariants.{Number}
use Rattle.tx_seen.specs.declared.fed.Value.TheVariants.{Int, Dimen, Glue, Muglue, Magnification, Flag, Absent, OutOfRange}
use Rattle.tx_seen.specs.Seen.{font_name, is_space, is_undefined}
use Rattle.tx_seen.specs.declared.item.Item.{Item}
use Rattle.tx_seen.specs.declared.item.Item.TheVariants.{Took, Gave}
use Rattle.tx_seen.specs.Readings.{Reading, More, Need, Done, Wrong, next, ReadsOn}
use Rattle.tx_scan.specs.declared.scans.Radix.{Radix}
use Rattle.tx_scan.specs.declared.scans.Radix.TheVariants.{Octal, Decimal, Hexadecimal}
use Rattle.tx_prim.specs.declared.family.Numbered.{Numbered}
use Rattle.tx_scan.specs.declared.scans.Counted.{Counted}
use Rattle.tx_scan.specs.declared.scans.Counted.TheVariants as counts
use Rattle.tx_scan.specs.declared.scans.FontSought.{FontSought}
use Rattle.tx_scan.specs.declared.scans.FontSought.TheVariants as sought
use Rattle.tx_scan.specs.declared.scans.Outer.{Outer}
use Rattle.tx_scan.specs.declared.scans.Beginning.{Beginning}
use Rattle.tx_scan.specs.declared.scans.Beginning.TheVariants as begin
use Rattle.tx_seen.specs.Places.{place_of}
use Rattle.tx_scan.specs.Beginnings.{base, digit, beginning}
use Rattle.tx_scan.specs.FontNames.{font, font_behind, parameter_number, place_of_font, stand_in, told}
use Rattle.tx_scan.specs.Integers.{Ended, counted, of_font, whole_by, ended_by, space_after, code_named, character_code, digits, first_digit, in_range, is_in_range, quantity, byte_of, numbered, with_sign, whole, signed_constant, begun, signs, integer}
use Rattle.tx_scan.specs.Laws.{HasEnded}
use Rattle.tx_scan.proofs.ReadingOn.{on-code, on-digits, on-first, on-font-integer, on-numbered, on-parameter, on-quantity}

-- a character with its category
abbrev seen_character : ℕ → Item
seen_character code = Took (record { token = token.Character code cat.Other; meaning = meaning.Character code cat.Other })

abbrev space : Item
space = Took (record { token = token.Character 32 cat.Space; meaning = meaning.Character 32 cat.Space })

abbrev zero_digit : Item
zero_digit = seen_character 48

-- some items make a constant whole, with nothing behind it
abbrev Closes : (List Item → Reading Ended) → List Item → Type 0
Closes reading items = (more : List Item) × (n : ℕ) × (reading (items ++ more) ≡ Done (record { number = n; behind = [] }) [])

ended-by : (n : ℕ) (t : Seen) (rest : List Item) (want : Want) (b : Bool) → is_undefined t ≡ b → ended_by n t rest ≡ More want → ⊥
ended-by n t rest want true u h = let e = rw u at h in cc
ended-by n t rest want false u h = let e = rw u at h in cc

closes-digits-some : (radix : Radix) (n d : ℕ) (t : Seen) (rest : List Item) (want : Want) → digit radix t ≡ Some d → (b : Bool) → nat_le (base radix * n + d) 2147483647 ≡ b → digits radix n (Took t ∷ rest) ≡ More want → ((m : ℕ) → digits radix m rest ≡ More want → Closes (digits radix m) rest) → Closes (digits radix n) (Took t ∷ rest)
closes-digits-some radix n d t rest want e false l h later = absurd (let wrong = rw (e, l) at h in cc)
closes-digits-some radix n d t rest want e true l h later =
    let found = later (base radix * n + d) (rw (e, l) at h) in
    (found.0, found.1, rw (e, l) found.2)

closes-digits-by : (radix : Radix) (n : ℕ) (t : Seen) (rest : List Item) (want : Want) (o : Option ℕ) → digit radix t ≡ o → digits radix n (Took t ∷ rest) ≡ More want → ((m : ℕ) → digits radix m rest ≡ More want → Closes (digits radix m) rest) → Closes (digits radix n) (Took t ∷ rest)
closes-digits-by radix n t rest want None e h later = absurd (ended-by n t rest want (is_undefined t) refl (rw e at h))
closes-digits-by radix n t rest want (Some d) e h later = closes-digits-some radix n d t rest want e (nat_le (base radix * n + d) 2147483647) refl h later

closes-digits-nil : (radix : Radix) (n : ℕ) → Closes (digits radix n) []
closes-digits-nil Octal n = (space ∷ [], n, refl)
closes-digits-nil Decimal n = (space ∷ [], n, refl)
closes-digits-nil Hexadecimal n = (space ∷ [], n, refl)

closes-digits : (radix : Radix) (n : ℕ) (items : List Item) (want : Want) → digits radix n items ≡ More want → Closes (digits radix n) items
closes-digits radix n [] want h = closes-digits-nil radix n
closes-digits radix n (Gave v ∷ rest) want h = absurd (cc)
closes-digits radix n (Took t ∷ rest) want h = closes-digits-by radix n t rest want (digit radix t) refl h (λ m. closes-digits radix m rest want)

closes-space : (n : ℕ) (items : List Item) (want : Want) → space_after n items ≡ More want → Closes (space_after n) items
closes-space n [] want h = (space ∷ [], n, refl)
closes-space n (Gave v ∷ rest) want h = absurd (cc)
closes-space n (Took t ∷ rest) want h = absurd (ended-by n t rest want (is_undefined t) refl h)

closes-coded : (o : Option ℕ) (t : Seen) (rest : List Item) (want : Want) → code_named t.token ≡ o → character_code (Took t ∷ rest) ≡ More want → Closes character_code (Took t ∷ rest)
closes-coded None t rest want e h = absurd (let wrong = rw e at h in cc)
closes-coded (Some code) t rest want e h =
    let found = closes-space code rest want (rw e at h) in
    (found.0, found.1, rw e found.2)

closes-code : (items : List Item) (want : Want) → character_code items ≡ More want → Closes character_code items
closes-code [] want h = (seen_character 97 ∷ space ∷ [], 97, refl)
closes-code (Gave v ∷ rest) want h = absurd (cc)
closes-code (Took t ∷ rest) want h = closes-coded (code_named t.token) t rest want refl h

closes-first-wrong : (radix : Radix) (t : Seen) (rest : List Item) (want : Want) (b : Bool) → is_undefined t ≡ b → digit radix t ≡ None → first_digit radix (Took t ∷ rest) ≡ More want → ⊥
closes-first-wrong radix t rest want true u e h = let wrong = rw (e, u) at h in cc
closes-first-wrong radix t rest want false u e h = let wrong = rw (e, u) at h in cc

closes-first-by : (o : Option ℕ) (radix : Radix) (t : Seen) (rest : List Item) (want : Want) → digit radix t ≡ o → first_digit radix (Took t ∷ rest) ≡ More want → Closes (first_digit radix) (Took t ∷ rest)
closes-first-by None radix t rest want e h = absurd (closes-first-wrong radix t rest want (is_undefined t) refl e h)
closes-first-by (Some d) radix t rest want e h =
    let found = closes-digits radix d rest want (rw e at h) in
    (found.0, found.1, rw e found.2)

closes-first-nil : (radix : Radix) → Closes (first_digit radix) []
closes-first-nil Octal = (zero_digit ∷ space ∷ [], 0, refl)
closes-first-nil Decimal = (zero_digit ∷ space ∷ [], 0, refl)
closes-first-nil Hexadecimal = (zero_digit ∷ space ∷ [], 0, refl)

closes-first : (radix : Radix) (items : List Item) (want : Want) → first_digit radix items ≡ More want → Closes (first_digit radix) items
closes-first radix [] want h = closes-first-nil radix
closes-first radix (Gave v ∷ rest) want h = absurd (cc)
closes-first radix (Took t ∷ rest) want h = closes-first-by (digit radix t) radix t rest want refl h

-- values and fonts make a whole number an integer
abbrev null_font : Item
null_font = Took (stand_in (Some (Number 0)))

ends-byte : (kind : Numbered) (n : ℤ) (on : ℤ → List Item → List Item → Reading ℤ) (o : Option ℕ) → byte_of n ≡ o → ((m : ℤ) → (more : List Item) × HasEnded (on m [] more)) → (more : List Item) × HasEnded (counted font_behind (counts.Numbered kind) n [] more on)
ends-byte kind n on None e later = ([], inr (rw e refl))
ends-byte kind n on (Some code) e later =
    let found = later (pos 0) in
    (Gave (Int (pos 0)) ∷ found.0, rw e found.1)

ends-counted : (kind : Counted) (n : ℤ) (on : ℤ → List Item → List Item → Reading ℤ) → ((m : ℤ) → (more : List Item) × HasEnded (on m [] more)) → (more : List Item) × HasEnded (counted font_behind kind n [] more on)
ends-counted (counts.Numbered kind) n on later = ends-byte kind n on (byte_of n) refl later
ends-counted counts.FontDimen n on later =
    let found = later (pos 0) in
    (null_font ∷ Gave (Int (pos 0)) ∷ found.0, found.1)

ends-whole : (outers : List Outer) (n : ℤ) → (more : List Item) × HasEnded (whole outers n [] more)
ends-whole [] n = ([], inl (n, refl))
ends-whole (outer ∷ outers) n =
    ends-counted outer.kind n (λ value behind rest. whole_by font_behind outers (with_sign outer.negative value) behind rest) (λ m. ends-whole outers (with_sign outer.negative m))

whole-constant : (reading : List Item → Reading Ended) (outers : List Outer) (negative : Bool) (items : List Item) → ((more items : List Item) → ReadsOn more (reading items) (reading (items ++ more))) → Closes reading items → (more : List Item) × HasEnded (next (reading (items ++ more)) (signed_constant outers negative))
whole-constant reading outers negative items on closed =
    let found = ends-whole outers (with_sign negative (pos closed.1)) in
    let stands : reading ((items ++ closed.0) ++ found.0) ≡ Done (record { number = closed.1; behind = [] }) found.0 = rw closed.2 at (on found.0 (items ++ closed.0)) in
    (closed.0 ++ found.0, rw (sym (append_assoc items closed.0 found.0), stands) found.1)

-- a part that ends makes the whole end, if what follows does
ends-next : {A : Type 0} (r : Reading A) (longer : List Item → Reading A) (k : A → List Item → Reading ℤ) (want : Want) → ((more : List Item) → ReadsOn more r (longer more)) → (r ≡ More want → (more : List Item) × HasEnded (next (longer more) k)) → ((a : A) (rest : List Item) → k a rest ≡ More want → (more : List Item) × HasEnded (k a (rest ++ more))) → next r k ≡ More want → (more : List Item) × HasEnded (next (longer more) k)
ends-next (More other) longer k want on first later h = first (cc)
ends-next (Need kind) longer k want on first later h = absurd (cc)
ends-next (Done a rest) longer k want on first later h =
    let found = later a rest h in
    (found.0, rw (on found.0) found.1)
ends-next (Wrong e) longer k want on first later h = absurd (cc)

in-range-never : (n : ℤ) (rest : List Item) (want : Want) (b : Bool) → is_in_range n ≡ b → in_range n rest ≡ More want → ⊥
in-range-never n rest want true e h = let wrong = rw e at h in cc
in-range-never n rest want false e h = let wrong = rw e at h in cc

quantity-never : (place : Place) (items : List Item) (want : Want) → quantity place items ≡ More want → ⊥
quantity-never place [] want h = cc
quantity-never place (Gave (Int n) ∷ rest) want h = in-range-never n rest want (is_in_range n) refl h
quantity-never place (Gave (Dimen n) ∷ rest) want h = in-range-never n rest want (is_in_range n) refl h
quantity-never place (Gave (Glue g) ∷ rest) want h = in-range-never g.width rest want (is_in_range g.width) refl h
quantity-never place (Gave (Muglue g) ∷ rest) want h = cc
quantity-never place (Gave (Magnification n) ∷ rest) want h = cc
quantity-never place (Gave (Flag b) ∷ rest) want h = cc
quantity-never place (Gave Absent ∷ rest) want h = cc
quantity-never place (Gave OutOfRange ∷ rest) want h = cc
quantity-never place (Took t ∷ rest) want h = cc

numbered-never : (kind : Numbered) (o : Option ℕ) (items : List Item) (want : Want) → numbered kind o items ≡ More want → ⊥
numbered-never kind None items want h = cc
numbered-never kind (Some n) items want h = quantity-never (place_of kind n) items want h

-- where a font is needed, \nullfont is one
told-never : (tells : Option FontName) (rest : List Item) (want : Want) → told tells rest ≡ More want → ⊥
told-never None rest want h = cc
told-never (Some f) rest want h = cc

font-ends-by : (u s : Bool) (t : Seen) (rest : List Item) (want : Want) (more : List Item) → is_undefined t ≡ u → is_space t ≡ s → font (Took t ∷ rest) ≡ More want → (font rest ≡ More want → font (rest ++ null_font ∷ more) ≡ Done (Number 0) more) → font (Took t ∷ rest ++ null_font ∷ more) ≡ Done (Number 0) more
font-ends-by true s t rest want more e f h later = let wrong = rw e at h in absurd (cc)
font-ends-by false true t rest want more e f h later = rw (e, f) (later (rw (e, f) at h))
font-ends-by false false t rest want more e f h later = absurd (told-never (font_name t) rest want (rw (e, f) at h))

font-ends : (items : List Item) (want : Want) (more : List Item) → font items ≡ More want → font (items ++ null_font ∷ more) ≡ Done (Number 0) more
font-ends [] want more h = refl
font-ends (Gave v ∷ rest) want more h = absurd (cc)
font-ends (Took t ∷ rest) want more h = font-ends-by (is_undefined t) (is_space t) t rest want more refl refl h (font-ends rest want more)

of-font-more : (what : FontSought) (r : Reading FontName) (want : Want) → of_font what r ≡ More want → r ≡ More want
of-font-more what (More other) want h = cc
of-font-more what (Need kind) want h = absurd (cc)
of-font-more what (Done f rest) want h = absurd (quantity-never (place_of_font what f) rest want h)
of-font-more what (Wrong e) want h = absurd (cc)

-- what is needed of a font ends
ends-font : (what : FontSought) (k : ℤ → List Item → Reading ℤ) (items : List Item) (want : Want) → ((m : ℤ) → (more : List Item) × HasEnded (k m more)) → of_font what (font items) ≡ More want → (more : List Item) × HasEnded (next (of_font what (font (items ++ more))) k)
ends-font what k items want later h =
    let found = later (pos 0) in
    let stands : font (items ++ null_font ∷ Gave (Int (pos 0)) ∷ found.0) ≡ Done (Number 0) (Gave (Int (pos 0)) ∷ found.0) = font-ends items want (Gave (Int (pos 0)) ∷ found.0) (of-font-more what (font items) want h) in
    (null_font ∷ Gave (Int (pos 0)) ∷ found.0, rw stands found.1)

more-counted : (kind : Counted) (n : ℤ) (behind items : List Item) (want : Want) (on : ℤ → List Item → List Item → Reading ℤ) → ((m : ℤ) → (more : List Item) × HasEnded (on m [] more)) → ((m : ℤ) (behind rest : List Item) → on m behind rest ≡ More want → (more : List Item) × HasEnded (on m behind (rest ++ more))) → counted font_behind kind n behind items on ≡ More want → (more : List Item) × HasEnded (counted font_behind kind n behind (items ++ more) on)
more-counted (counts.Numbered kind) n behind items want on ends later h =
    ends-next (numbered kind (byte_of n) items) (λ more. numbered kind (byte_of n) (items ++ more)) (λ value rest. on value behind rest) want
    (λ more. on-numbered more kind (byte_of n) items)
    (λ none. absurd (numbered-never kind (byte_of n) items want none))
    (λ value rest. later value behind rest) h
more-counted counts.FontDimen n behind items want on ends later h =
    ends-next (of_font (sought.Dimen (parameter_number n)) (font_behind behind items)) (λ more. of_font (sought.Dimen (parameter_number n)) (font_behind behind (items ++ more))) (λ value rest. on value [] rest) want
    (λ more. on-parameter more n behind items)
    (λ none.
    let found = ends-font (sought.Dimen (parameter_number n)) (λ value rest. on value [] rest) (behind ++ items) want ends none in
    (found.0, rw (append_assoc behind items found.0) at found.1))
    (λ value rest. later value [] rest) h

more-whole : (outers : List Outer) (n : ℤ) (behind items : List Item) (want : Want) → whole outers n behind items ≡ More want → (more : List Item) × HasEnded (whole outers n behind (items ++ more))
more-whole [] n behind items want h = absurd (cc)
more-whole (outer ∷ outers) n behind items want h =
    more-counted outer.kind n behind items want (λ value behind rest. whole_by font_behind outers (with_sign outer.negative value) behind rest)
    (λ m. ends-whole outers (with_sign outer.negative m))
    (λ m behind rest. more-whole outers (with_sign outer.negative m) behind rest want) h

ends-constant : (reading : List Item → Reading Ended) (outers : List Outer) (negative : Bool) (items : List Item) (want : Want) → ((more items : List Item) → ReadsOn more (reading items) (reading (items ++ more))) → (reading items ≡ More want → Closes reading items) → next (reading items) (signed_constant outers negative) ≡ More want → (more : List Item) × HasEnded (next (reading (items ++ more)) (signed_constant outers negative))
ends-constant reading outers negative items want on closes h =
    ends-next (reading items) (λ more. reading (items ++ more)) (signed_constant outers negative) want
    (λ more. on more items)
    (λ more. whole-constant reading outers negative items on (closes more))
    (λ c rest. more-whole outers (with_sign negative (pos c.number)) c.behind rest want) h

ends-begun : (outers : List Outer) (negative : Bool) (rest : List Item) (want : Want) (b : Beginning) → begun outers negative (λ outers negative. signs outers negative rest) rest b ≡ More want → ((outers : List Outer) (negative : Bool) → signs outers negative rest ≡ More want → (more : List Item) × HasEnded (signs outers negative (rest ++ more))) → (more : List Item) × HasEnded (begun outers negative (λ outers negative. signs outers negative (rest ++ more)) (rest ++ more) b)
ends-begun outers negative rest want begin.Plus h later = later outers negative h
ends-begun outers negative rest want begin.Minus h later = later outers (not negative) h
ends-begun outers negative rest want (begin.Digit d) h later =
    ends-constant (digits Decimal d) outers negative rest want (λ more items. on-digits more Decimal d items) (closes-digits Decimal d rest want) h
ends-begun outers negative rest want (begin.Digits radix) h later =
    ends-constant (first_digit radix) outers negative rest want (λ more items. on-first more radix items) (closes-first radix rest want) h
ends-begun outers negative rest want begin.Character h later =
    ends-constant character_code outers negative rest want (λ more items. on-code more items) (closes-code rest want) h
ends-begun outers negative rest want begin.Point h later = absurd (cc)
ends-begun outers negative rest want (begin.Number n) h later = more-whole outers (with_sign negative (pos n)) [] rest want h
ends-begun outers negative rest want (begin.At place) h later =
    ends-next (quantity place rest) (λ more. quantity place (rest ++ more)) (λ n rest. whole outers (with_sign negative n) [] rest) want
    (λ more. on-quantity more place rest)
    (λ none. absurd (quantity-never place rest want none))
    (λ n rest. more-whole outers (with_sign negative n) [] rest want) h
ends-begun outers negative rest want (begin.Numbered kind) h later = later (record { negative = negative; kind = counts.Numbered kind } ∷ outers) false h
ends-begun outers negative rest want begin.FontDimen h later = later (record { negative = negative; kind = counts.FontDimen } ∷ outers) false h
ends-begun outers negative rest want (begin.FontInteger kind) h later =
    ends-next (of_font (sought.Integer kind) (font rest)) (λ more. of_font (sought.Integer kind) (font (rest ++ more))) (λ n rest. whole outers (with_sign negative n) [] rest) want
    (λ more. on-font-integer more (sought.Integer kind) rest)
    (ends-font (sought.Integer kind) (λ n rest. whole outers (with_sign negative n) [] rest) rest want (λ m. ends-whole outers (with_sign negative m)))
    (λ n rest. more-whole outers (with_sign negative n) [] rest want) h
ends-begun outers negative rest want (begin.Nothing error) h later = absurd (cc)

ends-signs : (outers : List Outer) (negative : Bool) (items : List Item) (want : Want) → signs outers negative items ≡ More want → (more : List Item) × HasEnded (signs outers negative (items ++ more))
ends-signs outers negative [] want h =
    let found = ends-whole outers (with_sign negative (pos 0)) in
    (zero_digit ∷ space ∷ found.0, found.1)
ends-signs outers negative (Gave v ∷ rest) want h = absurd (cc)
ends-signs outers negative (Took t ∷ rest) want h =
    ends-begun outers negative rest want (beginning t) h (λ outers negative. ends-signs outers negative rest want)

pub a-part-ends : (items : List Item) (want : Want) → integer items ≡ More want → (more : List Item) × HasEnded (integer (items ++ more))
a-part-ends items want h = ends-signs [] false items want h
