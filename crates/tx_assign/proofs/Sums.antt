-- A sum is glue where its sizes and orders fit.
use Rattle.std.proofs.Common.{◌≡◌, ◌≤◌, ◌<◌, ◌&&◌, ℕ, Bool, true, false, Ok, Err, cond, refl, ap, arith}
use Rattle.std.specs.Prelude.{nat_le, unsigned_abs}
use Rattle.std.proofs.lemmas.Bool.Decides.{nat_tests}
use Rattle.tx_num.specs.Glue.{GlueSpec, IsGlue, glue_sum}
use Rattle.tx_seen.specs.declared.error.TexError.TheVariants.{ArithmeticOverflow}
use Rattle.tx_assign.specs.Changes.{fits, glue_added}

all-within : (a b c d e : ℕ) → a < 1073741824 → b < 1073741824 → c < 1073741824 → d ≤ 3 → e ≤ 3 → ((nat_le a 1073741823 && nat_le b 1073741823 && nat_le c 1073741823) && nat_le d 3 && nat_le e 3) ≡ true
all-within a b c d e h i j k l = grind (arith, nat_tests)

record Within (a b c d e : ℕ) : Type 0 where
  first : a < 1073741824
  second : b < 1073741824
  third : c < 1073741824
  fourth : d ≤ 3
  fifth : e ≤ 3

within-all : (a b c d e : ℕ) → ((nat_le a 1073741823 && nat_le b 1073741823 && nat_le c 1073741823) && nat_le d 3 && nat_le e 3) ≡ true → Within a b c d e
within-all a b c d e t = record {
  first = grind (arith, nat_tests);
  second = grind (arith, nat_tests);
  third = grind (arith, nat_tests);
  fourth = grind (arith, nat_tests);
  fifth = grind (arith, nat_tests);
}

glue-fits : (g : GlueSpec) → IsGlue g → fits g ≡ true
glue-fits g k = all-within (unsigned_abs g.width) (unsigned_abs g.stretch) (unsigned_abs g.shrink) g.stretch_order g.shrink_order k.width_in k.stretch_in k.shrink_in k.stretch_order_in k.shrink_order_in

fits-glue : (g : GlueSpec) → fits g ≡ true → IsGlue g
fits-glue g t =
    let k = within-all (unsigned_abs g.width) (unsigned_abs g.stretch) (unsigned_abs g.shrink) g.stretch_order g.shrink_order t in
    record { width_in = k.first; stretch_in = k.second; stretch_order_in = k.fourth; shrink_in = k.third; shrink_order_in = k.fifth }

pub sum-whole : (g h sum : GlueSpec) → sum ≡ glue_sum h g → IsGlue (glue_sum h g) → Ok sum ≡ glue_added g h
sum-whole g h sum same k = rw (glue-fits (glue_sum h g) k) (ap Ok same)

over-if : (b : Bool) (sum : GlueSpec) → (b ≡ true → ⊥) → Err ArithmeticOverflow ≡ cond b (Ok sum) (Err ArithmeticOverflow)
over-if true sum k = absurd (k refl)
over-if false sum k = refl

pub sum-over : (g h : GlueSpec) → (IsGlue (glue_sum h g) → ⊥) → Err ArithmeticOverflow ≡ glue_added g h
sum-over g h k = over-if (fits (glue_sum h g)) (glue_sum h g) (λ t. k (fits-glue (glue_sum h g) t))
