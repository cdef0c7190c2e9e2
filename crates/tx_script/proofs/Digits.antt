-- Reading a number.
use Rattle.std.proofs.Common.{◌≡◌, ℕ, zero, suc, ◌+◌, ◌-◌, ◌*◌, ◌/◌, ◌%◌, ◌^◌, ◌<◌, ◌≤◌, Bool, true, false, cond, List, [], ◌∷◌, ◌++◌, length, take, get_or, refl, sym, ap, subst, ◌∙◌, append_assoc, arith}
use Rattle.std.specs.Prelude.{Option, Some, None, option_map}
use Rattle.std.specs.Char.{is_ascii_digit}
use Rattle.std.specs.Fmt.{decimal}
use Rattle.std.specs.Int.{IsInRange}
use Rattle.std.specs.Str.Parse.{digits_value}
use Rattle.std.proofs.lemmas.Bool.{ltb-true, and_parts, leb-true}
use Rattle.std.proofs.lemmas.Bool.Decides.{nat_tests}
use Rattle.std.proofs.lemmas.Fmt.{decimal_is_IsNumeral, decimal_digit, decimal_step, decimal_nonempty, decimal_injective, first_decimal}
use Rattle.std.proofs.lemmas.Int.Digits.{digits_value_push}
use Rattle.std.proofs.lemmas.List.{append-nil, length-append, take_at}
use Rattle.std.proofs.lemmas.Str.{digit_value_digit}
use Rattle.std.proofs.lemmas.Str.Parse.{digit_at, digits_value-take-le}
use Rattle.tx_script.specs.declared.error.Rule.TheVariants.{Number}
use Rattle.tx_script.specs.Text.{greatest, number}
use Rattle.tx_script.specs.Reading.{further_number, may_follow, number_at, whole_number, with_byte}
use Rattle.tx_script.proofs.Forms.{Reads}
use Rattle.tx_script.proofs.Scans.{Follows, scan_reads, some_is, some_or_none}

-- a digit behind those of a number that isn't 0
decimal-behind : (v d : ℕ) → 0 < v → d < 10 → 10 * v + d < 2 ^ 64 → decimal (10 * v + d) ≡ decimal v ++ (48 + d) ∷ []
decimal-behind v d some small fits =
    let front : (10 * v + d) / 10 ≡ v = omega arith in
    let back : (10 * v + d) % 10 ≡ d = omega arith in
    decimal_step (10 * v + d) (omega arith) fits ∙ (λ i. decimal (front i) ++ (48 + back i) ∷ [])

is_digit : (c : ℕ) → is_ascii_digit c ≡ true → IsInRange 48 57 c
is_digit c e = grind (arith, nat_tests)

no_digit : (c : ℕ) → is_ascii_digit c ≡ false → IsInRange 48 57 c → ⊥
no_digit c e h = grind (arith, nat_tests)

-- how a number grows by a digit
Grows : Option ℕ → ℕ → ℕ → Type 0
Grows None d x = x ≡ d
Grows (Some v) d x = (0 < v) × (10 * v + d ≤ greatest) × (x ≡ 10 * v + d)

-- what keeps a digit from following
Ended : Option ℕ → ℕ → Type 0
Ended None d = ⊥
Ended (Some v) d = 0 < v → greatest < 10 * v + d

pub none_or_some : {A : Type 0} (x : A) → Some x ≡ None → ⊥
none_or_some x e = cc

grown : (s : Option ℕ) (c x : ℕ) → with_byte s c ≡ Some x → IsInRange 48 57 c × Grows s (c - 48) x
unfolding Grows
grown None c x e = by (is_ascii_digit c) refl e
  where
    by : (b : Bool) → is_ascii_digit c ≡ b → cond b (Some (c - 48)) None ≡ Some x → IsInRange 48 57 c × (x ≡ c - 48)
    by true is e = (is_digit c is, sym (some_is (c - 48) x e))
    by false is e = absurd (some_or_none x e)
grown (Some v) c x e = by (is_ascii_digit c) refl (may_follow v (c - 48)) refl e
  where
    by : (b : Bool) → is_ascii_digit c ≡ b → (m : Bool) → may_follow v (c - 48) ≡ m → cond b (cond m (Some (10 * v + (c - 48))) None) None ≡ Some x
        → IsInRange 48 57 c × ((0 < v) × (10 * v + (c - 48) ≤ greatest) × (x ≡ 10 * v + (c - 48)))
    by true is true may e =
        let parts = and_parts _ _ may in
        (is_digit c is, (ltb-true 0 v parts.0, leb-true (10 * v + (c - 48)) greatest parts.1, sym (some_is (10 * v + (c - 48)) x e)))
    by true is false may e = absurd (some_or_none x e)
    by false is m may e = absurd (some_or_none x e)

stuck : (s : Option ℕ) (c : ℕ) → with_byte s c ≡ None → IsInRange 48 57 c → Ended s (c - 48)
unfolding Ended
stuck None c e h = by (is_ascii_digit c) refl e
  where
    by : (b : Bool) → is_ascii_digit c ≡ b → cond b (Some (c - 48)) None ≡ None → ⊥
    by true is e = none_or_some (c - 48) e
    by false is e = no_digit c is h
stuck (Some v) c e h = by (is_ascii_digit c) refl (may_follow v (c - 48)) refl e
  where
    by : (b : Bool) → is_ascii_digit c ≡ b → (m : Bool) → may_follow v (c - 48) ≡ m → cond b (cond m (Some (10 * v + (c - 48))) None) None ≡ None
        → 0 < v → greatest < 10 * v + (c - 48)
    by true is true may e some = absurd (none_or_some (10 * v + (c - 48)) e)
    by true is false may e some = grind (arith, nat_tests)
    by false is m may e some = absurd (no_digit c is h)

middle : (a : List ℕ) (c : ℕ) (more : List ℕ) → get_or (a ++ c ∷ more) (length a) 0 ≡ c
middle [] c more = refl
middle (x ∷ a) c more = middle a c more

-- a byte among a number's digits is a digit
pub among : (v : ℕ) → v ≤ greatest → (a : List ℕ) (c : ℕ) (more : List ℕ) → decimal v ≡ a ++ c ∷ more → IsInRange 48 57 c
among v h a c more e =
    let digits = (decimal_is_IsNumeral v (omega arith)).0.1 in
    let long : length a < length (decimal v) = omega (arith, ap length e, length-append a (c ∷ more)) in
    subst (λ (x : ℕ). IsInRange 48 57 x) (ap (λ (x : List ℕ). get_or x (length a) 0) e ∙ middle a c more) (digit_at (decimal v) (length a) digits long)

-- the digits of a number begin with those of a smaller one
pub front_below : (v w c : ℕ) (more : List ℕ) → v ≤ greatest → w ≤ greatest → IsInRange 48 57 c → decimal v ≡ decimal w ++ c ∷ more → 10 * w + (c - 48) ≤ v
front_below v w c more hv hw digit e =
    let value : digits_value 10 (decimal v) ≡ v = (decimal_is_IsNumeral v (omega arith)).1 in
    let value_w : digits_value 10 (decimal w) ≡ w = (decimal_is_IsNumeral w (omega arith)).1 in
    let front : take (length (decimal w) + 1) (decimal v) ≡ decimal w ++ c ∷ [] =
    ap (λ (x : List ℕ). take (length (decimal w) + 1) x) (e ∙ sym (append_assoc (decimal w) (c ∷ []) more))
    ∙ take_at (decimal w ++ c ∷ []) more (length (decimal w) + 1) (length-append (decimal w) (c ∷ [])) in
    let part : digits_value 10 (decimal w ++ c ∷ []) ≤ digits_value 10 (decimal v) =
    subst (λ (x : List ℕ). digits_value 10 x ≤ digits_value 10 (decimal v)) front (digits_value-take-le 10 (decimal v) (length (decimal w) + 1) (omega arith)) in
    omega (arith, part, digits_value_push 10 (decimal w) c, digit_value_digit c digit, value, value_w)

unfoldable pub Good : Option ℕ → Type 0
Good None = Unit {0}
Good (Some v) = v ≤ greatest

unfoldable pub shown : Option ℕ → List ℕ
shown None = []
shown (Some v) = decimal v

pub goes : (s : Option ℕ) (c : ℕ) (s' : Option ℕ) → Good s → further_number s c ≡ Some s' → Good s' × (shown s' ≡ shown s ++ c ∷ [])
unfolding Good shown Grows
goes s c s' good e = by (with_byte s c) refl e
  where
    step : (s : Option ℕ) → Good s → (x : ℕ) → IsInRange 48 57 c → Grows s (c - 48) x → (x ≤ greatest) × (decimal x ≡ shown s ++ c ∷ [])
    step None good x digit is =
        let back : 48 + (c - 48) ≡ c = omega arith in
        (omega arith, ap decimal is ∙ decimal_digit (c - 48) (omega arith) ∙ ap (λ (y : ℕ). y ∷ []) back)
    step (Some v) good x digit is =
        let back : 48 + (c - 48) ≡ c = omega arith in
        let fits : x ≤ greatest = omega (arith, is.1, is.2) in
        (fits, ap decimal is.2 ∙ decimal-behind v (c - 48) is.0 (omega arith) (omega (arith, is.1)) ∙ ap (λ (y : ℕ). decimal v ++ y ∷ []) back)

    by : (o : Option ℕ) → with_byte s c ≡ o → option_map Some o ≡ Some s' → Good s' × (shown s' ≡ shown s ++ c ∷ [])
    by None is e = absurd (some_or_none s' e)
    by (Some x) is e =
        let k = grown s c x is in
        let j = step s good x k.0 k.1 in
        subst (λ (z : Option ℕ). Good z × (shown z ≡ shown s ++ c ∷ [])) (some_is (Some x) s' e) (j.0, j.1)

pub gone : (s : Option ℕ) (c v : ℕ) (more : List ℕ) → Good s → further_number s c ≡ None → v ≤ greatest → decimal v ≡ shown s ++ c ∷ more → ⊥
unfolding Good shown Ended
gone s c v more good e fits eq = by (with_byte s c) refl e
  where
    zero_ends : (v : ℕ) → v ≤ greatest → decimal v ≡ decimal 0 ++ c ∷ more → ⊥
    zero_ends zero h eq =
        let one = decimal_digit 0 (omega arith) in
        let long : length (decimal 0) ≡ length (decimal 0) + suc (length more) = ap length eq ∙ length-append (decimal 0) (c ∷ more) in
        omega arith
    zero_ends (suc v) h eq =
        let first : 48 < get_or (decimal (suc v)) 0 0 = first_decimal (suc v) (omega arith) (omega arith) in
        let same : get_or (decimal (suc v)) 0 0 ≡ 48 = ap (λ (x : List ℕ). get_or x 0 0) (eq ∙ ap (λ (x : List ℕ). x ++ c ∷ more) (decimal_digit 0 (omega arith))) in
        omega arith

    ends : (s : Option ℕ) → Good s → decimal v ≡ shown s ++ c ∷ more → IsInRange 48 57 c → Ended s (c - 48) → ⊥
    ends None good eq digit ended = ended
    ends (Some zero) good eq digit ended = zero_ends v fits eq
    ends (Some (suc w)) good eq digit ended = omega (arith, ended (omega arith), front_below v (suc w) c more fits good digit eq)

    by : (o : Option ℕ) → with_byte s c ≡ o → option_map Some o ≡ None → ⊥
    by None is e = let digit = among v fits (shown s) c more eq in ends s good eq digit (stuck s c is digit)
    by (Some x) is e = none_or_some (Some x) e

-- up to a last byte that is no digit
pub follows : (last : ℕ) → last < 48 → Follows last whole_number further_number (λ n. n ≤ greatest) decimal Good shown
unfolding Good shown
follows last low = record {
  gives = gives_;
  given = given_;
  goes = goes;
  gone = gone;
  ahead = ahead_;
  apart = λ v front more fits e. let digit = among v fits front last more e in omega (arith, digit.0);
}
  where
    gives_ : (s : Option ℕ) (v : ℕ) → Good s → s ≡ Some v → (v ≤ greatest) × (decimal v ≡ shown s)
    gives_ None v good e = absurd (some_or_none v e)
    gives_ (Some w) v good e = let same = some_is w v e in (omega (arith, same), ap decimal (sym same))

    given_ : (s : Option ℕ) (v : ℕ) → Good s → v ≤ greatest → decimal v ≡ shown s → s ≡ Some v
    given_ None v good fits e = let long = decimal_nonempty v (omega arith) in absurd (omega (arith, ap length e))
    given_ (Some w) v good fits e = ap (λ (x : ℕ). Some x) (sym (decimal_injective v w (omega arith) (omega arith) e))

    ahead_ : (s : Option ℕ) → Good s → (v : ℕ) × (more : List ℕ) × (v ≤ greatest) × (decimal v ≡ shown s ++ more)
    ahead_ None good = (0, decimal 0, omega arith, refl)
    ahead_ (Some v) good = (v, [], good, sym (append-nil (decimal v)))

pub number_reads : (bytes : List ℕ) → Reads (λ n. n ≤ greatest) (λ n. number n ∷ []) bytes (number_at bytes)
unfolding number_at Good shown
number_reads bytes = scan_reads Number 32 whole_number further_number (λ n. n ≤ greatest) decimal Good shown (follows 32 (omega arith)) None tt refl bytes
