-- The box registers (TeX: The Program, sections 230, 1079 and 1247).
use Rattle.std.specs.Prelude.{ℕ, ℤ, pos, List, unwrap_or, slice_get, slice_set, option_map, Option, Some, None}
use Rattle.tx_prim.specs.declared.family.BoxSide.{BoxSide}
use Rattle.tx_prim.specs.declared.family.BoxSide.TheVariants.{Width, Height, Depth}
use Rattle.tx_node.specs.Items.{PackedBox}
use Rattle.tx_eqtb.specs.declared.boxes.BoxRegister.{BoxRegister}

-- a register that is void, and was so before any group was opened
abbrev pub void : BoxRegister
void = record { level = 0; held = None }

abbrev pub register_of : List BoxRegister → ℕ → BoxRegister
register_of registers number = unwrap_or (slice_get registers number) void

-- the box of a register, None where it is void
abbrev pub box_of : List BoxRegister → ℕ → Option PackedBox
box_of registers number = (register_of registers number).held

-- how many groups were open when it was assigned
abbrev pub level_of : List BoxRegister → ℕ → ℕ
level_of registers number = (register_of registers number).level

-- a size of a box, and the box with another; its list isn't packed anew (section 1247)
abbrev pub side_of : BoxSide → PackedBox → ℤ
side_of Width b = b.head.width
side_of Height b = b.head.height
side_of Depth b = b.head.depth

abbrev pub resized : BoxSide → ℤ → PackedBox → PackedBox
resized Width size b = record b { head = record b.head { width = size } }
resized Height size b = record b { head = record b.head { height = size } }
resized Depth size b = record b { head = record b.head { depth = size } }

-- \wd, \ht and \dp: 0 of a void register (section 420)
abbrev pub size_of : BoxSide → Option PackedBox → ℤ
size_of side None = pos 0
size_of side (Some b) = side_of side b

-- a register whose box has another size; a void one stays so
abbrev pub register_resized : BoxSide → ℤ → BoxRegister → BoxRegister
register_resized side size register = record register { held = option_map (resized side size) register.held }

abbrev pub with_size : List BoxRegister → BoxSide → ℕ → ℤ → List BoxRegister
with_size registers side number size = slice_set registers number (register_resized side size (register_of registers number))
