-- A multiple of 2^-20 times the font's size, as TeX rounds it (TeX: The Program, sections 571 and 572).
use Rattle.std.specs.Prelude.{ℕ, ◌+◌, ◌*◌, ◌/◌, ◌^◌, ◌==◌, nat_lt, if◌then◌else◌, ℤ, pos, ◌-ℤ◌}
use Rattle.tx_tfm.specs.declared.file.Word.{Word}

-- how often a size below 2^27 is halved until it is below 2^23
abbrev pub halvings : ℕ → ℕ
halvings z =
    if nat_lt z (2 ^ 23) then 0
    else if nat_lt z (2 ^ 24) then 1
    else if nat_lt z (2 ^ 25) then 2
    else if nat_lt z (2 ^ 26) then 3
    else 4

-- the number in the last three bytes of a word, a multiple of 2^-20, times z * 2^h
abbrev pub fraction_by : ℕ → ℕ → Word → ℕ
fraction_by z h w = ((w.d * z / 256 + w.c * z) / 256 + w.b * z) / (16 / 2 ^ h)

-- the number in a word, a multiple of 2^-20, times the size z; its first byte is 0, or 255 for a negative number
unfoldable pub scaled : ℕ → Word → ℤ
scaled z w =
    let h : ℕ = halvings z in
    let halved : ℕ = z / 2 ^ h in
    pos (fraction_by halved h w) -ℤ pos (if w.a == 0 then 0 else 16 * 2 ^ h * halved)
