-- Whether a group could be opened (TeX: The Program, section 274).
use Rattle.std.specs.Prelude.{◌≡◌, Bool, true, false, nat_lt, length}
use Rattle.tx_eqtb.specs.declared.eqtb.Eqtb.{Eqtb}
use Rattle.tx_eqtb.specs.declared.groups.GroupKind.{GroupKind}
use Rattle.tx_eqtb.specs.Stack.{opened}

-- if fewer than 255 are open it is
abbrev pub IsOpened : GroupKind → Eqtb → Bool → Eqtb → Type 0
IsOpened kind table true new = (nat_lt (length table.groups) 255 ≡ true) × (new ≡ opened table kind)
IsOpened kind table false new = nat_lt (length table.groups) 255 ≡ false
