-- Digits past the seventeenth change no dimension.
use Rattle.std.proofs.Common.{◌≡◌, ℕ, zero, suc, ◌+◌, ◌*◌, ◌^◌, ◌<◌, Bool, true, false, Option, Some, None, List, [], ◌∷◌, ◌++◌, length, take, refl, ap, sym, ◌∙◌, arith}
use Rattle.std.specs.Char.{digit_value as char_value}
use Rattle.std.specs.Str.Parse.{digits_value, AllDigits}
use Rattle.std.proofs.lemmas.Int.Digits.{digits_push}
use Rattle.std.proofs.lemmas.Str.{digit_value_digit}
use Rattle.tx_num.specs.Fractions.{nearest}
use Rattle.tx_num.specs.Decimals.{fraction_of}
use Rattle.tx_seen.specs.declared.seen.Seen.{Seen}
use Rattle.tx_seen.specs.Seen.{is_undefined}
use Rattle.tx_seen.specs.declared.item.Item.{Item}
use Rattle.tx_seen.specs.declared.item.Item.TheVariants.{Took, Gave}
use Rattle.tx_seen.specs.Readings.{next}
use Rattle.tx_scan.specs.declared.scans.Radix.TheVariants.{Decimal}
use Rattle.tx_scan.specs.declared.scans.Units.{Units}
use Rattle.tx_scan.specs.Beginnings.{digit}
use Rattle.tx_scan.specs.Integers.{unless_space}
use Rattle.tx_scan.specs.Dimensions.{factor_ended, fraction, measured, factored}

pub digits-push : (digits : List ℕ) (d : ℕ) → AllDigits 10 digits → d < 10 → AllDigits 10 (digits ++ (48 + d) ∷ [])
digits-push digits d all small =
    let range : char_value (48 + d) + 48 ≡ 48 + d = digit_value_digit (48 + d) (omega arith, omega arith) in
    digits_push 10 digits (48 + d) all (omega arith)

take-append-take : (n : ℕ) (xs ys : List ℕ) → take n (xs ++ ys) ≡ take n (take n xs ++ ys)
take-append-take zero xs ys = refl
take-append-take (suc n) [] ys = refl
take-append-take (suc n) (x ∷ xs) ys = ap (λ zs. x ∷ zs) (take-append-take n xs ys)

take-append-same : (n : ℕ) (xs ys zs : List ℕ) → take n xs ≡ take n ys → take n (xs ++ zs) ≡ take n (ys ++ zs)
take-append-same n xs ys zs h = take-append-take n xs zs ∙ ap (λ ws. take n (ws ++ zs)) h ∙ sym (take-append-take n ys zs)

same-fraction_of : (a b : List ℕ) → take 17 a ≡ take 17 b → fraction_of a ≡ fraction_of b
same-fraction_of a b h = ap (λ digits. nearest (65536 * digits_value 10 digits) (10 ^ length digits)) h

same-unit : (units : Units) (negative : Bool) (whole : ℕ) (a b : List ℕ) (behind rest : List Item) → take 17 a ≡ take 17 b → factored units negative (record { whole = whole; digits = a; behind = behind }) rest ≡ factored units negative (record { whole = whole; digits = b; behind = behind }) rest
same-unit units negative whole a b behind rest h = ap (λ (part : ℕ). measured units negative whole part (behind ++ rest)) (same-fraction_of a b h)

same-ended : (units : Units) (negative : Bool) (whole : ℕ) (a b : List ℕ) (t : Seen) (rest : List Item) → take 17 a ≡ take 17 b → (undefined : Bool) → is_undefined t ≡ undefined → next (factor_ended whole a t rest) (factored units negative) ≡ next (factor_ended whole b t rest) (factored units negative)
same-ended units negative whole a b t rest h true u = rw u refl
same-ended units negative whole a b t rest h false u = rw u (same-unit units negative whole a b (unless_space t) rest h)

same-fraction-by : (units : Units) (negative : Bool) (whole : ℕ) (a b : List ℕ) (t : Seen) (rest : List Item) → take 17 a ≡ take 17 b → ((a b : List ℕ) → take 17 a ≡ take 17 b → next (fraction whole a rest) (factored units negative) ≡ next (fraction whole b rest) (factored units negative)) → (found : Option ℕ) → digit Decimal t ≡ found → next (fraction whole a (Took t ∷ rest)) (factored units negative) ≡ next (fraction whole b (Took t ∷ rest)) (factored units negative)
same-fraction-by units negative whole a b t rest h later None d = rw d (same-ended units negative whole a b t rest h (is_undefined t) refl)
same-fraction-by units negative whole a b t rest h later (Some found) d =
    rw d (later (a ++ (48 + found) ∷ []) (b ++ (48 + found) ∷ []) (take-append-same 17 a b ((48 + found) ∷ []) h))

-- digits of which the same ones count are as good as each other
pub same-fraction : (units : Units) (negative : Bool) (whole : ℕ) (items : List Item) (a b : List ℕ) → take 17 a ≡ take 17 b → next (fraction whole a items) (factored units negative) ≡ next (fraction whole b items) (factored units negative)
same-fraction units negative whole [] a b h = refl
same-fraction units negative whole (Gave v ∷ rest) a b h = refl
same-fraction units negative whole (Took t ∷ rest) a b h =
    same-fraction-by units negative whole a b t rest h (same-fraction units negative whole rest) (digit Decimal t) refl

-- one more digit of a fraction
pub fraction-digit : (units : Units) (negative : Bool) (whole : ℕ) (digits new : List ℕ) (t : Seen) (d : ℕ) (more : List Item) → digit Decimal t ≡ Some d → take 17 new ≡ take 17 (digits ++ (48 + d) ∷ []) → next (fraction whole digits (Took t ∷ more)) (factored units negative) ≡ next (fraction whole new more) (factored units negative)
fraction-digit units negative whole digits new t d more v h =
    rw v (sym (same-fraction units negative whole more new (digits ++ (48 + d) ∷ []) h))
