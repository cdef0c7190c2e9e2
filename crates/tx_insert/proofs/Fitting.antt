-- Sums that are dimensions.
use Rattle.std.proofs.Common.{◌≡◌, ◌&&◌, ℤ, Bool, true, false, Ok, Err, refl, arith, if◌then◌else◌}
use Rattle.std.proofs.lemmas.Bool.Decides.{nat_tests}
use Rattle.tx_num.specs.Glue.{IsDimension}
use Rattle.tx_insert.specs.declared.error.SplitError.TheVariants.{SizeOutOfRange}
use Rattle.tx_insert.specs.declared.sums.Sums.{Sums}
use Rattle.tx_num.specs.Limits.{fits}
use Rattle.tx_insert.specs.Sums.{IsSmall, sizes_fit, glue_fits, all_fit, if_fits}

fit : (sums : Sums) (all : Bool) → all ≡ true → Ok sums ≡ (if all then Ok sums else Err SizeOutOfRange)
fit sums true e = refl
fit sums false e = absurd (cc)

unfit : (sums : Sums) (all : Bool) → all ≡ false → Err SizeOutOfRange ≡ (if all then Ok sums else Err SizeOutOfRange)
unfit sums true e = absurd (cc)
unfit sums false e = refl

pub where-fit : (sums : Sums) → all_fit sums ≡ true → Ok sums ≡ if_fits sums
where-fit sums e = fit sums (all_fit sums) e

pub where-unfit : (sums : Sums) → all_fit sums ≡ false → Err SizeOutOfRange ≡ if_fits sums
where-unfit sums e = unfit sums (all_fit sums) e

record Both (a b : Bool) : Type 0 where
  first : a ≡ true
  second : b ≡ true

both : (a b : Bool) → (a && b) ≡ true → Both a b
both true true e = record { first = refl; second = refl }
both true false e = absurd (cc)
both false b e = absurd (cc)

dimension : (z : ℤ) → fits z ≡ true → IsDimension z
dimension z e = grind (arith, nat_tests)

pub small : (sums : Sums) → all_fit sums ≡ true → IsSmall sums
small sums e =
    let parts : Both (sizes_fit sums) (glue_fits sums) = both (sizes_fit sums) (glue_fits sums) e in
    let sizes : Both (fits sums.height) (fits sums.depth) = both (fits sums.height) (fits sums.depth) parts.first in
    let normal : Both (fits sums.normal) (fits sums.fil && (fits sums.fill && (fits sums.filll && fits sums.shrink))) =
    both (fits sums.normal) (fits sums.fil && (fits sums.fill && (fits sums.filll && fits sums.shrink))) parts.second in
    let fil : Both (fits sums.fil) (fits sums.fill && (fits sums.filll && fits sums.shrink)) =
    both (fits sums.fil) (fits sums.fill && (fits sums.filll && fits sums.shrink)) normal.second in
    let fill : Both (fits sums.fill) (fits sums.filll && fits sums.shrink) = both (fits sums.fill) (fits sums.filll && fits sums.shrink) fil.second in
    let filll : Both (fits sums.filll) (fits sums.shrink) = both (fits sums.filll) (fits sums.shrink) fill.second in
    record {
      height = dimension sums.height sizes.first;
      depth = dimension sums.depth sizes.second;
      normal = dimension sums.normal normal.first;
      fil = dimension sums.fil fil.first;
      fill = dimension sums.fill fill.first;
      filll = dimension sums.filll filll.first;
      shrink = dimension sums.shrink filll.second;
    }
