-- The movements of a page by the registers w and x, to the right, and y and z, down (the DVI standard; TeX: The Program, sections 606
-- to 615, where the registers are chosen otherwise).
use Rattle.std.specs.Prelude.{◌≡◌, ℕ, Bool, true, false, ◌+◌, ◌-◌, ◌≤◌, ◌&&◌, ◌==◌, nat_le, ℤ, pos, List, [], ◌∷◌, ◌++◌, length, get_or, drop, fold, Option, Some, None, if◌then◌else◌}
use Rattle.std.specs.Ordering.{int_eq}
use Rattle.tx_dvi.specs.Meaning.{Widths, Contents, operands, signed, meaning}
use Rattle.tx_ship.specs.declared.amounts.Pair.{Pair}
use Rattle.tx_ship.specs.declared.amounts.Amounts.{Amounts}

-- the two registers of a direction at the start of a page: they hold 0, and neither was used
abbrev pub unused : Pair
unused = record { first = pos 0; second = pos 0; is_first_newer = false }

abbrev pub no_amounts : Amounts
no_amounts = record { across = unused; down = unused }

-- A movement by an amount, whose plain command is one of four that differ in how many bytes they have, of which the first has the number
-- `shortest`; this one has the number `opcode`, and these bytes behind it. It is written by the register that holds the amount, and else
-- sets the one of the two that was used less recently, or the first if neither was. With right1 to right4, from 143, go w0 147, w1 to w4,
-- x0 152, x1 to x4; with down1 to down4, from 157, so y0 161, y1 to y4, z0 166, z1 to z4.
abbrev pub by_setting : ℕ → List ℕ → ℤ → Pair → List ℕ × Pair
by_setting opcode bytes amount pair =
    if pair.is_first_newer then ((opcode + 10) ∷ bytes, record pair { second = amount; is_first_newer = false })
    else ((opcode + 5) ∷ bytes, record pair { first = amount; is_first_newer = true })

abbrev pub by_register : ℕ → ℕ → List ℕ → ℤ → Pair → List ℕ × Pair
by_register shortest opcode bytes amount pair =
    if int_eq amount pair.first then ((shortest + 4) ∷ [], record pair { is_first_newer = true })
    else if int_eq amount pair.second then ((shortest + 9) ∷ [], record pair { is_first_newer = false })
    else by_setting opcode bytes amount pair

-- what is written of the plain commands that were read: the registers, those that were pushed, the last ones first, the first bytes of a
-- command that isn't whole, and the bytes that are written
pub record Writer : Type 0 where
  pub amounts : Amounts
  pub pushed : List Amounts
  pub begun : List ℕ
  pub made : List ℕ

-- a page begins with registers that hold 0, and nothing pushed
abbrev pub page_writer : Writer
page_writer = record { amounts = no_amounts; pushed = []; begun = []; made = [] }

-- the bytes that are begun are written as they stand
abbrev pub copied : Writer → Writer
copied w = record w { begun = []; made = w.made ++ w.begun }

-- push keeps the registers, and which of them were used last; pop takes back what was kept last
abbrev pub pushing : Writer → Writer
pushing w = record w { pushed = w.amounts ∷ w.pushed }

abbrev pub popping : List Amounts → Writer → Writer
popping [] w = w
popping (last ∷ others) w = record w { amounts = last; pushed = others }

-- right1 to right4, and down1 to down4
abbrev pub is_right : ℕ → Bool
is_right opcode = nat_le 143 opcode && nat_le opcode 146

abbrev pub is_down : ℕ → Bool
is_down opcode = nat_le 157 opcode && nat_le opcode 160

-- a movement to the right that is whole, and one down
abbrev pub with_across : List ℕ × Pair → Writer → Writer
with_across written w = record w { amounts = record w.amounts { across = written.1 }; begun = []; made = w.made ++ written.0 }

abbrev pub with_down : List ℕ × Pair → Writer → Writer
with_down written w = record w { amounts = record w.amounts { down = written.1 }; begun = []; made = w.made ++ written.0 }

abbrev pub moved_right : ℕ → Writer → Writer
moved_right opcode w = with_across (by_register 143 opcode (drop 1 w.begun) (signed (opcode - 142) (drop 1 w.begun)) w.amounts.across) w

abbrev pub moved_down : ℕ → Writer → Writer
moved_down opcode w = with_down (by_register 157 opcode (drop 1 w.begun) (signed (opcode - 156) (drop 1 w.begun)) w.amounts.down) w

-- a command is written once so many bytes follow its first one
abbrev pub once_there : ℕ → (Writer → Writer) → Writer → Writer
once_there more whole w = if nat_le (length w.begun) more then w else whole w

-- a command that isn't one of those above is written as it stands, and so are bytes that begin no command
abbrev pub other : Option ℕ → Writer → Writer
other None w = copied w
other (Some more) w = once_there more copied w

-- the command of this number, as far as it is there
abbrev pub taken : ℕ → Writer → Writer
taken opcode w =
    if is_right opcode then once_there (opcode - 142) (moved_right opcode) w
    else if is_down opcode then once_there (opcode - 156) (moved_down opcode) w
    else if opcode == 141 then copied (pushing w)
    else if opcode == 142 then copied (popping w.pushed w)
    else other (operands opcode w.begun) w

-- one byte more
abbrev pub with_byte : Writer → ℕ → Writer
with_byte w byte = record w { begun = w.begun ++ byte ∷ [] }

abbrev pub write : Writer → ℕ → Writer
write w byte = taken (get_or (with_byte w byte).begun 0 0) (with_byte w byte)

-- plain commands of a page, with their movements by the registers; what is left of one that isn't whole stands behind them
unfoldable pub registered : List ℕ → List ℕ
registered plain = (copied (fold write page_writer plain)).made

-- these bytes are no longer than plain commands, and mean what they mean, however wide the characters are
pub record IsAsPlain (known plain bytes : List ℕ) : Type 0 where
  pub no_longer : length bytes ≤ length plain
  pub means : (widths : Widths) (contents : Contents) → meaning widths known plain ≡ Some contents → meaning widths known bytes ≡ Some contents
