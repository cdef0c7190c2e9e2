-- The token that ends a factor may as well be read with the unit, since spaces before a unit don't count.
use Rattle.std.proofs.Common.{◌≡◌, ℕ, Bool, true, false, ◌&&◌, None, Some, List, [], ◌∷◌, ◌++◌, ◌+◌, take, Result, IfOk, refl, ap, sym, ◌∙◌, arith}
use Rattle.tx_num.specs.Decimals.{fraction_of}
use Rattle.tx_seen.specs.declared.seen.Seen.{Seen}
use Rattle.tx_seen.specs.declared.fed.Fed.{Fed}
use Rattle.tx_seen.specs.declared.fed.Fed.TheVariants as fed
use Rattle.tx_seen.specs.declared.fed.Want.TheVariants.{Expanded}
use Rattle.tx_seen.specs.Seen.{is_undefined, is_space, is_point}
use Rattle.tx_seen.specs.declared.item.Item.{Item}
use Rattle.tx_seen.specs.declared.item.Item.TheVariants.{Took}
use Rattle.tx_seen.specs.Readings.{next}
use Rattle.tx_scan.specs.declared.scans.Constant.{Constant}
use Rattle.tx_scan.specs.declared.scans.Radix.TheVariants.{Decimal}
use Rattle.tx_scan.specs.declared.scans.Units.{Units}
use Rattle.tx_scan.specs.declared.scans.Measure.{Measure}
use Rattle.tx_scan.specs.declared.scans.DimenScan.{DimenScan}
use Rattle.tx_scan.specs.declared.scans.DimenStage.TheVariants as stage
use Rattle.tx_scan.specs.Beginnings.{digit}
use Rattle.tx_scan.specs.Integers.{ended_by}
use Rattle.tx_scan.specs.Dimensions.{factor_ended, is_decimal, measured, factored, counted}
use Rattle.tx_scan.specs.DimensionRests.{rest, IsFed, IsUnit}
use Rattle.tx_scan.proofs.Quantities.{fed-at}
use Rattle.tx_scan.proofs.KeptDigits.{fraction-digit}

factor-ends-by : (units : Units) (negative : Bool) (whole : ℕ) (digits : List ℕ) (t : Seen) (more : List Item) (u s : Bool) → is_undefined t ≡ u → is_space t ≡ s → next (factor_ended whole digits t more) (factored units negative) ≡ measured units negative whole (fraction_of digits) (Took t ∷ more)
factor-ends-by units negative whole digits t more true s u e = rw u refl
factor-ends-by units negative whole digits t more false true u e = rw (u, e) refl
factor-ends-by units negative whole digits t more false false u e = simp (u, e) refl

counted-ends-by : (units : Units) (negative : Bool) (code : ℕ) (t : Seen) (more : List Item) (u s : Bool) → is_undefined t ≡ u → is_space t ≡ s → next (ended_by code t more) (counted units negative) ≡ measured units negative code (fraction_of []) (Took t ∷ more)
counted-ends-by units negative code t more true s u e = rw u refl
counted-ends-by units negative code t more false true u e = rw (u, e) refl
counted-ends-by units negative code t more false false u e = simp (u, e) refl

-- behind whole units
pub whole-ends : {E : Type 0} (old new : DimenScan) (constant : Constant) (digits : List ℕ) (t : Seen) (answer : Result (Fed Measure) E) → old.stage ≡ stage.Digits constant → IfOk answer (IsUnit old.units old.negative constant.number digits t new) → digits ≡ [] → digit constant.radix t ≡ None → (is_decimal constant.radix && is_point t) ≡ false → IfOk answer (IsFed old t new)
whole-ends old new constant digits t answer s k e d p =
    fed-at 0 (λ more. measured old.units old.negative constant.number (fraction_of digits) (Took t ∷ more)) old new t answer (omega arith)
    (λ behind more.
    let read : rest old behind (Took t) more ≡ next (factor_ended constant.number [] t more) (factored old.units old.negative) = rw (s, d, p) refl in
    read ∙ factor-ends-by old.units old.negative constant.number [] t more (is_undefined t) (is_space t) refl refl ∙ ap (λ ds. measured old.units old.negative constant.number (fraction_of ds) (Took t ∷ more)) (sym e)) k

-- behind a fraction
pub fraction-ends : {E : Type 0} (old new : DimenScan) (whole : ℕ) (t : Seen) (answer : Result (Fed Measure) E) → old.stage ≡ stage.Fraction whole → IfOk answer (IsUnit old.units old.negative whole old.digits t new) → digit Decimal t ≡ None → IfOk answer (IsFed old t new)
fraction-ends old new whole t answer s k d =
    fed-at 0 (λ more. measured old.units old.negative whole (fraction_of old.digits) (Took t ∷ more)) old new t answer (omega arith)
    (λ behind more.
    let read : rest old behind (Took t) more ≡ next (factor_ended whole old.digits t more) (factored old.units old.negative) = rw (s, d) refl in
    read ∙ factor-ends-by old.units old.negative whole old.digits t more (is_undefined t) (is_space t) refl refl) k

-- behind a character's code
pub character-ends : {E : Type 0} (old new : DimenScan) (code whole : ℕ) (digits : List ℕ) (t : Seen) (answer : Result (Fed Measure) E) → old.stage ≡ stage.AfterCharacter code → IfOk answer (IsUnit old.units old.negative whole digits t new) → whole ≡ code → digits ≡ [] → IfOk answer (IsFed old t new)
character-ends old new code whole digits t answer s k w e =
    fed-at 0 (λ more. measured old.units old.negative whole (fraction_of digits) (Took t ∷ more)) old new t answer (omega arith)
    (λ behind more.
    let read : rest old behind (Took t) more ≡ next (ended_by code t more) (counted old.units old.negative) = rw s refl in
    read ∙ counted-ends-by old.units old.negative code t more (is_undefined t) (is_space t) refl refl
    ∙ ap (λ n. measured old.units old.negative n (fraction_of []) (Took t ∷ more)) (sym w) ∙ ap (λ ds. measured old.units old.negative whole (fraction_of ds) (Took t ∷ more)) (sym e)) k

-- one more digit of a fraction
pub fraction-goes-on : (old : DimenScan) (whole d : ℕ) (digits : List ℕ) (t : Seen) → old.stage ≡ stage.Fraction whole → digit Decimal t ≡ Some d → take 17 digits ≡ take 17 (old.digits ++ (48 + d) ∷ []) → IsFed old t (record old { digits = digits }) (fed.More Expanded)
fraction-goes-on old whole d digits t s v h = λ behind. (
  rw s (fraction-digit old.units old.negative whole old.digits digits t d [] v h),
  rw s refl,
  λ item more. rw s (fraction-digit old.units old.negative whole old.digits digits t d (item ∷ more) v h),
)
