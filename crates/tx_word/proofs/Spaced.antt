-- The glue of a space: its cases, and its orders.
use Rattle.std.proofs.Common.{◌≡◌, ℕ, ◌<◌, ◌≤◌, ◌^◌, ℤ, pos, ◌+ℤ◌, ◌*ℤ◌, Bool, true, false, List, Some, None, refl, sym, ap, subst, ◌∙◌, arith, rules, w64, of_z, to_z, to_z-of_z, true≢false}
use Rattle.std.specs.Prelude.{if◌then◌else◌, int_div, unsigned_abs, FitsSigned}
use Rattle.std.proofs.lemmas.Int.{fits_signed_from_abs, ints}
use Rattle.tx_num.specs.Glue.{GlueSpec, IsGlue}
use Rattle.tx_tfm.specs.declared.state.FontState.{FontState}
use Rattle.tx_word.specs.declared.piece.WordParams.{WordParams}
use Rattle.tx_word.specs.Spaces.{at_factor, extra_space, font_space, has_dimensions, interword_glue, is_dimension, is_xspaceskip, is_zero, plain_space, space_between}

-- a size as it is handed on
pub read_back : (z : ℤ) → unsigned_abs z ≤ 2 ^ 31 → to_z w64 (of_z w64 z) ≡ z
read_back z small = to_z-of_z (fits_signed_from_abs w64 z (omega (arith, small)))

sum-fits : (a b : ℤ) → unsigned_abs a ≤ 2 ^ 31 → unsigned_abs b ≤ 2 ^ 31 → FitsSigned w64 (a +ℤ b)
sum-fits a b a_in b_in = search (rules, a_in, b_in)

pub read_sum : (a b : ℤ) → unsigned_abs a ≤ 2 ^ 31 → unsigned_abs b ≤ 2 ^ 31 → to_z w64 (of_z w64 (to_z w64 (of_z w64 a) +ℤ to_z w64 (of_z w64 b))) ≡ a +ℤ b
read_sum a b a_in b_in = (λ i. to_z w64 (of_z w64 (read_back a a_in i +ℤ read_back b b_in i))) ∙ to_z-of_z (sum-fits a b a_in b_in)

-- a quotient of sizes, as it was computed and is handed on
pub read_quotient : (size x n d x' n' d' : ℤ) → unsigned_abs (int_div (x' *ℤ n') d') ≤ 1073741823 → x' ≡ x → n' ≡ n → d' ≡ d → size ≡ int_div (x' *ℤ n') d' → to_z w64 (of_z w64 size) ≡ int_div (x *ℤ n) d
read_quotient size x n d x' n' d' small x_is n_is d_is is =
    let size_in : unsigned_abs size ≤ 2 ^ 31 = subst (λ (z : ℤ). unsigned_abs z ≤ 2 ^ 31) (sym is) (omega (arith, small)) in
    read_back size size_in ∙ (is ∙ (λ i. int_div (x_is i *ℤ n_is i) (d_is i)))

-- the plain space factor changes no size
plain-stays : (z : ℤ) → int_div (z *ℤ pos 1000) (pos 1000) ≡ z
plain-stays z = omega (arith, ints)

-- a size that stays at it, as it is handed on
pub read_plain : (z : ℤ) → unsigned_abs z ≤ 2 ^ 31 → to_z w64 (of_z w64 z) ≡ int_div (z *ℤ pos 1000) (pos 1000)
read_plain z small = read_back z small ∙ sym (plain-stays z)

-- glue is what a space gives that isn't \xspaceskip
pub factored : (fonts : List FontState) (params : WordParams) (font : ℕ) (factor extra factor' extra' : ℤ) (g : GlueSpec) → factor' ≡ factor → extra' ≡ extra
    → false ≡ is_xspaceskip params factor' → extra ≡ extra_space fonts font factor' → g ≡ plain_space fonts params font
    → at_factor extra' factor' g ≡ interword_glue fonts params font factor
factored fonts params font factor extra factor' extra' g factor_is extra_read other extra_is plain_is =
    (λ i. at_factor ((extra_read ∙ extra_is) i) factor' (plain_is i))
    ∙ (ap (λ (b : Bool). if b then params.xspaceskip else at_factor (extra_space fonts font factor') factor' (plain_space fonts params font)) other
    ∙ ap (λ (z : ℤ). interword_glue fonts params font z) factor_is)

-- orders of glue are in range
HasOrders : GlueSpec → Type 0
HasOrders g = (g.stretch_order ≤ 3) × (g.shrink_order ≤ 3)

one-of : (b : Bool) (g h : GlueSpec) → HasOrders g → HasOrders h → HasOrders (if b then g else h)
one-of true g h of_g of_h = of_g
one-of false g h of_g of_h = of_h

orders-of : (fonts : List FontState) (params : WordParams) (font : ℕ) (factor : ℤ) → IsGlue params.spaceskip → IsGlue params.xspaceskip → HasOrders (interword_glue fonts params font factor)
unfolding HasOrders
orders-of fonts params font factor plain_in behind_in =
    let of_plain : HasOrders (plain_space fonts params font) =
    one-of (is_zero params.spaceskip) (font_space fonts font) params.spaceskip (omega arith, omega arith) (plain_in.stretch_order_in, plain_in.shrink_order_in) in
    one-of (is_xspaceskip params factor) params.xspaceskip (at_factor (extra_space fonts font factor) factor (plain_space fonts params font))
    (behind_in.stretch_order_in, behind_in.shrink_order_in) of_plain

-- a size is a dimension by the test
small : (z : ℤ) → is_dimension z ≡ true → unsigned_abs z < 2 ^ 30
small z is = search (rules, is)

-- sizes that are no glue's, for all that their orders are in range, aren't all dimensions
none-by : (g : GlueSpec) → HasOrders g → (IsGlue g → ⊥) → (w s t : Bool) → is_dimension g.width ≡ w → is_dimension g.stretch ≡ s → is_dimension g.shrink ≡ t → has_dimensions g ≡ false
unfolding HasOrders
none-by g orders not true true true w s t = absurd (not (record { width_in = small g.width w; stretch_in = small g.stretch s; stretch_order_in = orders.0; shrink_in = small g.shrink t; shrink_order_in = orders.1 }))
none-by g orders not false y z w s t = rw w refl
none-by g orders not true false z w s t = rw (w, s) refl
none-by g orders not true true false w s t = rw (w, s, t) refl

pub none-between : (fonts : List FontState) (params : WordParams) (font factor : ℕ) (given : ℤ) → IsGlue params.spaceskip → IsGlue params.xspaceskip → factor ≤ 32767 → given ≡ pos factor
    → (IsGlue (interword_glue fonts params font (to_z w64 (of_z w64 given))) → false ≡ true) → None ≡ space_between fonts params font factor
none-between fonts params font factor given plain_in behind_in within given_is not =
    let g : GlueSpec = interword_glue fonts params font (pos factor) in
    let read : to_z w64 (of_z w64 given) ≡ pos factor = ap (λ (z : ℤ). to_z w64 (of_z w64 z)) given_is ∙ read_back (pos factor) (omega (arith, within)) in
    sym (ap (λ (b : Bool). if b then Some g else None)
    (none-by g (orders-of fonts params font (pos factor) plain_in behind_in)
    (λ is. true≢false (sym (not (subst (λ (z : ℤ). IsGlue (interword_glue fonts params font z)) (sym read) is))))
    (is_dimension g.width) (is_dimension g.stretch) (is_dimension g.shrink) refl refl refl))
