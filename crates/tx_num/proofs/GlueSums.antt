-- Glue that is put together from its parts, in the 64 bits of each size.
use Rattle.std.proofs.Common.{◌≡◌, ◌<◌, ◌^◌, ◌∙◌, ℕ, ℤ, pos, ◌+ℤ◌, ◌-ℤ◌, neg_ℤ, unsigned_abs, refl, arith, to_z, of_z, w64}
use Rattle.std.proofs.lemmas.Int.{ints, to_z-of_z, fits_signed_from_abs}
use Rattle.tx_num.specs.Glue.{GlueSpec, IsDimension, glue_of, joined_elastic, glue_sum, glue_negated}

-- a number that went into 64 bits and came back
abbrev through : ℤ → ℤ
through z = to_z w64 (of_z w64 z)

back : (z : ℤ) → unsigned_abs z < 2 ^ 63 → through z ≡ z
back z h = to_z-of_z w64 z (fits_signed_from_abs w64 z h)

back_sum : (a b : ℤ) → unsigned_abs a < 2 ^ 30 → unsigned_abs b < 2 ^ 30 → through (through a +ℤ through b) ≡ a +ℤ b
back_sum a b h k = rw (back a (omega arith), back b (omega arith)) (back (a +ℤ b) (omega (arith, ints)))

back_neg : (a : ℤ) → IsDimension a → through (pos 0 -ℤ through a) ≡ neg_ℤ a
back_neg a h = rw (back a (omega arith)) (back (pos 0 -ℤ a) (omega (arith, ints)) ∙ zero-minus a)
  where
    zero-minus : (z : ℤ) → pos 0 -ℤ z ≡ neg_ℤ z
    zero-minus z = omega (arith, ints)

-- what is read of a glue, negated and put together again
pub negated-back : (g : GlueSpec) {w s p : ℤ} {o k : ℕ} → w ≡ g.width → s ≡ g.stretch → o ≡ g.stretch_order → p ≡ g.shrink → k ≡ g.shrink_order → IsDimension w → IsDimension s → IsDimension p → glue_of (through (pos 0 -ℤ through w)) (through (pos 0 -ℤ through s)) o (through (pos 0 -ℤ through p)) k ≡ glue_negated g
negated-back g {w} {s} {p} iw is io ip ik dw ds dp = rw (back_neg w dw, back_neg s ds, back_neg p dp, iw, is, io, ip, ik) refl

-- what is read of two glues, put together
pub sum-back : (g h : GlueSpec) {w v s u p q : ℤ} {o n k m : ℕ} {r t : ℤ × ℕ} → w ≡ g.width → v ≡ h.width → s ≡ g.stretch → o ≡ g.stretch_order → u ≡ h.stretch → n ≡ h.stretch_order → p ≡ g.shrink → k ≡ g.shrink_order → q ≡ h.shrink → m ≡ h.shrink_order → IsDimension w → IsDimension v → IsDimension s → IsDimension u → IsDimension p → IsDimension q → r ≡ joined_elastic (through s, o) (through u, n) → unsigned_abs r.0 < 2 ^ 31 → t ≡ joined_elastic (through p, k) (through q, m) → unsigned_abs t.0 < 2 ^ 31 → glue_of (through (through w +ℤ through v)) (through r.0) r.1 (through t.0) t.1 ≡ glue_sum g h
sum-back g h {w} {v} {s} {u} {p} {q} {o} {n} {k} {m} {r} {t} iw iv is io iu in_ ip ik iq im dw dv ds du dp dq er br et bt =
    let er' : r ≡ joined_elastic (g.stretch, g.stretch_order) (h.stretch, h.stretch_order) =
    er ∙ rw (back s (omega arith), back u (omega arith), is, io, iu, in_) refl in
    let et' : t ≡ joined_elastic (g.shrink, g.shrink_order) (h.shrink, h.shrink_order) =
    et ∙ rw (back p (omega arith), back q (omega arith), ip, ik, iq, im) refl in
    rw (back_sum w v dw dv, back r.0 (omega arith), back t.0 (omega arith), iw, iv, er', et') refl
