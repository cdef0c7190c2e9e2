-- Rows set to the widths of their columns (TeX: The Program, sections 805 to 810).
use Rattle.std.specs.Prelude.{ℕ, suc, nat_le, ◌-◌, ◌^◌, ℤ, pos, ◌+ℤ◌, ◌-ℤ◌, List, [], ◌∷◌, ◌++◌, fold, flat_map, length, slice_get, take, drop, Option, Some, None, unwrap_or, Result, Ok, Err, if◌then◌else◌}
use Rattle.std.specs.Int.{int_max}
use Rattle.tx_node.specs.declared.head.BoxHead.{BoxHead}
use Rattle.tx_node.specs.declared.head.Direction.TheVariants.{Horizontal}
use Rattle.tx_node.specs.declared.head.Setting.TheVariants.{Natural}
use Rattle.tx_node.specs.declared.plain.Shared.{Shared}
use Rattle.tx_node.specs.declared.plain.Shared.TheVariants.{Rule, Leaders, Special, Ligature, Mark}
use Rattle.tx_node.specs.declared.rule.Rule.{Rule as RuleSides}
use Rattle.tx_node.specs.Items.{Item, none, plain, shared, boxed, discretionary, adjustment, insertion, box_leaders, PackedBox, box_item, items_of}
use Rattle.tx_node.specs.Counts.{nesting_of}
use Rattle.tx_pack.specs.declared.types.Goal.TheVariants.{To}
use Rattle.tx_pack.specs.declared.types.PackError.{PackError}
use Rattle.tx_pack.specs.declared.types.PackParams.{PackParams}
use Rattle.tx_pack.specs.declared.types.Packed.{Packed}
use Rattle.tx_pack.specs.Packing.{hpacked}
use Rattle.tx_num.specs.Limits.{fits}
use Rattle.tx_align.specs.declared.cell.Cell.{Cell}
use Rattle.tx_align.specs.declared.cell.SetCell.{SetCell}
use Rattle.tx_align.specs.declared.error.AlignError.{AlignError}
use Rattle.tx_align.specs.declared.error.AlignError.TheVariants.{SizeOutOfRange, TooDeep}
use Rattle.tx_align.specs.declared.prototype.PlacedColumn.{PlacedColumn}
use Rattle.tx_align.specs.declared.prototype.Prototype.{Prototype}
use Rattle.tx_align.specs.Prototypes.{of_packing, skip_item}

-- where a column begins and ends in a row once the skips are set
abbrev pub left_edge : PlacedColumn → ℤ
left_edge c = c.sized.begins +ℤ c.shift

abbrev pub right_edge : PlacedColumn → ℤ
right_edge c = left_edge c +ℤ c.sized.width

-- how wide a cell becomes, by its first and its last column: from where the one begins to where the other ends, so that no rounded piece
-- is added up (section 809)
abbrev pub spread_between : Option PlacedColumn → Option PlacedColumn → ℤ
spread_between None last = pos 0
spread_between (Some first) None = pos 0
spread_between (Some first) (Some last) = right_edge last -ℤ left_edge first

abbrev pub spread : List PlacedColumn → ℤ
spread columns = spread_between (slice_get columns 0) (slice_get columns (length columns - 1))

-- nothing is told of cells
abbrev pub silent : PackParams
silent = record { badness = pos 10000; fuzz = pos (2 ^ 30 - 1); overfull_rule = pos 0 }

-- a cell in a box, set to that width
abbrev pub box_in : Result Packed PackError → Result PackedBox AlignError
box_in (Err e) = Err (of_packing e)
box_in (Ok packed) = Ok packed.node

unfoldable pub box_to : ℤ → List Item → Result PackedBox AlignError
box_to width list = if fits width then box_in (hpacked list (To width) silent) else Err SizeOutOfRange

abbrev pub cell_in : ℕ → Result PackedBox AlignError → Result SetCell AlignError
cell_in span (Err e) = Err e
cell_in span (Ok b) = Ok (record { span = span; node = b })

abbrev pub cell_set : List PlacedColumn → Cell → Result SetCell AlignError
cell_set columns cell = cell_in cell.span (box_to (spread (take cell.span columns)) cell.list)

-- the cells of a row, which begins at these columns, behind those that are set already
abbrev pub cells_behind : List SetCell → (List SetCell → Result (List SetCell) AlignError) → Result SetCell AlignError → Result (List SetCell) AlignError
cells_behind done more (Err e) = Err e
cells_behind done more (Ok cell) = more (done ++ cell ∷ [])

abbrev pub cells_set : List PlacedColumn → List SetCell → List Cell → Result (List SetCell) AlignError
cells_set columns done [] = Ok done
cells_set columns done (cell ∷ rest) = cells_behind done (λ more. cells_set (drop cell.span columns) more rest) (cell_set columns cell)

-- a row is as high as its highest cell, and as deep as its deepest one, at least 0
abbrev pub higher : ℤ → SetCell → ℤ
higher height cell = int_max height cell.node.head.height

abbrev pub deeper : ℤ → SetCell → ℤ
deeper depth cell = int_max depth cell.node.head.depth

abbrev pub row_height : List SetCell → ℤ
row_height cells = fold higher (pos 0) cells

abbrev pub row_depth : List SetCell → ℤ
row_depth cells = fold deeper (pos 0) cells

-- an empty box, which stands in a row for a column that a cell spans behind its first one
abbrev pub blank : ℤ → Item
blank width = boxed (pos 0) (record { direction = Horizontal; width = width; height = pos 0; depth = pos 0; setting = Natural }) none

abbrev pub blank_items : PlacedColumn → List Item
blank_items c = blank c.sized.width ∷ skip_item c.sized.skip ∷ []

-- a cell's box is only as wide as its first column, and as high and deep as its row; what it holds reaches over the empty boxes behind it
-- (section 810)
abbrev pub resized : PackedBox → ℤ → ℤ → ℤ → PackedBox
resized b width height depth = record b { head = record b.head { width = width; height = height; depth = depth } }

abbrev pub cell_items : ℤ → ℤ → PackedBox → List PlacedColumn → List Item
cell_items height depth b [] = []
cell_items height depth b (c ∷ others) =
    box_item (pos 0) (resized b c.sized.width height depth) ∷ skip_item c.sized.skip ∷ flat_map blank_items others

-- the cells of a row with the skips behind their columns
abbrev pub cells_items : ℤ → ℤ → List PlacedColumn → List SetCell → List Item
cells_items height depth columns [] = []
cells_items height depth columns (cell ∷ rest) =
    cell_items height depth cell.node (take cell.span columns) ++ cells_items height depth (drop cell.span columns) rest

abbrev pub row_items : Prototype → List SetCell → List Item
row_items p cells = skip_item p.first ∷ cells_items (row_height cells) (row_depth cells) p.columns cells

-- a row's box is as wide as the preamble's, and its glue is set as that one's; it may not nest too deep (section 807)
abbrev pub row_head : Prototype → List SetCell → BoxHead
row_head p cells = record p.head { height = row_height cells; depth = row_depth cells }

abbrev pub boxed_if : BoxHead → List Item → Result PackedBox AlignError
boxed_if head list = if nat_le (suc (nesting_of (items_of list))) 500 then Ok (record { head = head; list = list }) else Err TooDeep

abbrev pub row_of : Prototype → Result (List SetCell) AlignError → Result PackedBox AlignError
row_of p (Err e) = Err e
row_of p (Ok cells) = boxed_if (row_head p cells) (row_items p cells)

abbrev pub row_box : Prototype → List Cell → Result PackedBox AlignError
row_box p cells = row_of p (cells_set p.columns [] cells)

-- the sides of a rule between rows that run become those of the preamble's box (section 806)
abbrev pub ruled : BoxHead → RuleSides → RuleSides
ruled head r = record {
  width = Some (unwrap_or r.width head.width);
  height = Some (unwrap_or r.height head.height);
  depth = Some (unwrap_or r.depth head.depth);
}

abbrev pub shared_between : BoxHead → Shared → Shared
shared_between head (Rule r) = Rule (ruled head r)
shared_between head (Leaders l) = Leaders l
shared_between head (Special text) = Special text
shared_between head (Ligature l) = Ligature l
shared_between head (Mark text) = Mark text

abbrev pub between : BoxHead → Item → Item
between head (plain p) = plain p
between head (shared s) = shared (shared_between head s)
between head (boxed shift inner_head inner) = boxed shift inner_head inner
between head (discretionary broken before behind) = discretionary broken before behind
between head (adjustment inner) = adjustment inner
between head (insertion inserted inner) = insertion inserted inner
between head (box_leaders spread repeated inner) = box_leaders spread repeated inner
