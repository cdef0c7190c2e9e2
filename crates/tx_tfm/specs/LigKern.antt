-- Ligature and kerning programs (TeX: The Program, section 545). At the left of a pair None is the left boundary, at its
-- right the right boundary.
use Rattle.std.specs.Prelude.{ℕ, zero, suc, ◌+◌, ◌*◌, ◌-◌, ◌==◌, ◌&&◌, nat_lt, if◌then◌else◌, Option, Some, None, option_and_then}
use Rattle.tx_tfm.specs.declared.file.Tfm.{Tfm}
use Rattle.tx_tfm.specs.declared.file.Word.{Word}
use Rattle.tx_tfm.specs.Format.{word_at, commands_at, info_of, tag}

-- the k-th command: skip, next, op and remainder
abbrev pub command_at : Tfm → ℕ → Word
command_at t k = word_at t (commands_at t.lengths + k)

-- the place among the commands that op and remainder name
abbrev pub target : Word → ℕ
target w = 256 * w.c + w.d

-- the code of the right boundary: a first command with skip 255 names it
unfoldable pub boundary_code : Tfm → Option ℕ
boundary_code t = if nat_lt 0 t.lengths.commands && (command_at t 0).a == 255 then Some (command_at t 0).b else None

-- where the program of the left boundary begins: a last command with skip 255 tells
unfoldable pub boundary_start : Tfm → Option ℕ
boundary_start t =
    let last : Word = command_at t (t.lengths.commands - 1) in
    if nat_lt 0 t.lengths.commands && last.a == 255 then Some (target last) else None

-- where the program of a character begins; a first command with a skip above 128 leads elsewhere
unfoldable pub character_start : Tfm → ℕ → Option ℕ
character_start t code =
    let info : Word = info_of t code in
    let first : Word = command_at t info.d in
    if tag info == 1 then Some (if nat_lt 128 first.a then target first else info.d) else None

-- the first of at most n commands from place k on that is for a next character r
unfoldable pub found : Tfm → ℕ → ℕ → ℕ → Option Word
found t zero k r = None
found t (suc n) k r =
    let w : Word = command_at t k in
    if nat_lt 128 w.a then None
    else if w.b == r then Some w
    else if w.a == 128 then None
    else found t n (k + w.a + 1) r

-- where the program for the left of a pair begins
abbrev pub start_of : Tfm → Option ℕ → Option ℕ
start_of t None = boundary_start t
start_of t (Some code) = character_start t code

-- what a command for the right of a pair names
abbrev pub code_of : Tfm → Option ℕ → Option ℕ
code_of t None = boundary_code t
code_of t (Some code) = Some code

-- the command that a pair meets, if any; each step of a program goes forward, so their number is enough
unfoldable pub command_of : Tfm → Option ℕ → Option ℕ → Option Word
command_of t left right =
    option_and_then (λ r. option_and_then (λ k. found t t.lengths.commands k r) (start_of t left)) (code_of t right)
