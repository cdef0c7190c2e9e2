-- How badly glue is set (TeX: The Program, section 108).
use Rattle.std.specs.Prelude.{ℕ, ◌+◌, ◌*◌, ◌/◌, ◌^◌, ℤ, pos, negsuc, nat_le, nat_lt, ◌==◌, if◌then◌else◌, unsigned_abs}

-- 297 t / s, without a product that is too large: 297^3 is about 100 * 2^18
abbrev pub ratio_of : ℕ → ℕ → ℕ
ratio_of t s =
    if nat_le t 7230584 then 297 * t / s
    else if nat_le 1663497 s then t / (s / 297)
    else t

-- the cube of that ratio over 2^18, to the nearest; 10000 past 8189
abbrev pub badness_of_ratio : ℕ → ℕ
badness_of_ratio r = if nat_lt 1290 r then 10000 else (r * r * r + 2 ^ 17) / 2 ^ 18

-- the badness of glue that can move by s and has to move by t
abbrev pub badness_of : ℤ → ℤ → ℕ
badness_of t (negsuc _) = if unsigned_abs t == 0 then 0 else 10000
badness_of t (pos s) =
    if unsigned_abs t == 0 then 0
    else if s == 0 then 10000
    else badness_of_ratio (ratio_of (unsigned_abs t) s)
