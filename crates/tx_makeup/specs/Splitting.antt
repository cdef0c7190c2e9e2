-- \vsplit's box goes where it is to go (TeX: The Program, section 1082).
use Rattle.std.specs.Prelude.{ℕ, ℤ, [], Option, Some, None, Result, Ok, Err}
use Rattle.tx_eqtb.specs.declared.eqtb.Eqtb.{Eqtb}
use Rattle.tx_seen.specs.declared.error.TexError.{TexError}
use Rattle.tx_box.specs.declared.parts.Lists.{Lists}
use Rattle.tx_box.specs.declared.parts.Target.{Target}
use Rattle.tx_box.specs.Building.{Ended, reported}
use Rattle.tx_box.specs.Placing.{placed}
use Rattle.tx_galley.specs.Splitting.{SplitOff, splitting as split_off}
use Rattle.tx_pack.specs.declared.types.Packed.{Packed}

-- what was split off goes where it is to go, or nothing does; \badness is how bad its box is
abbrev pub split_placed : Target → Lists → Eqtb → Option Packed → Ended
split_placed target lists table None = reported [] (placed target lists table None)
split_placed target lists table (Some made) =
    reported made.report (placed target (record lists { badness = made.badness }) table (Some made.node))

abbrev pub split_to : Target → Lists → Result (SplitOff (Option Packed)) TexError → Ended
split_to target lists (Err error) = reported [] (Err error)
split_to target lists (Ok off) = split_placed target (record lists { pages = off.pages }) off.table off.packed

-- of this register so much is split off
abbrev pub splitting : Target → ℕ → ℤ → Lists → Eqtb → Ended
splitting target n size lists table = split_to target lists (split_off n size table lists.pages)
