-- \vsplit (TeX: The Program, sections 977 to 979).
use Rattle.std.specs.Prelude.{ℕ, ℤ, pos, ◌&&◌, List, length, ◌==◌, Option, Some, None, Result, Ok, Err, if◌then◌else◌}
use Rattle.tx_box.specs.Building.{down}
use Rattle.tx_box.specs.Sources.{emptied}
use Rattle.tx_eqtb.specs.declared.eqtb.Eqtb.{Eqtb}
use Rattle.tx_eqtb.specs.declared.table.Table.{Table}
use Rattle.tx_eqtb.specs.Table.{box_at, glue_at, number_at}
use Rattle.tx_insert.specs.declared.answer.Split.{Split}
use Rattle.tx_insert.specs.declared.error.SplitError.{SplitError}
use Rattle.tx_insert.specs.Splits.{split_of}
use Rattle.tx_node.specs.declared.head.Direction.{Direction}
use Rattle.tx_node.specs.declared.head.Direction.TheVariants.{Horizontal, Vertical}
use Rattle.tx_node.specs.Items.{Item, PackedBox}
use Rattle.tx_pack.specs.declared.types.Goal.TheVariants.{Natural, To}
use Rattle.tx_pack.specs.declared.types.Packed.{Packed}
use Rattle.tx_pack.specs.declared.types.PackParams.{PackParams}
use Rattle.tx_pack.specs.declared.types.PackError.{PackError}
use Rattle.tx_pack.specs.Packing.{vpacked}
use Rattle.tx_num.specs.Limits.{fits}
use Rattle.tx_output.specs.declared.pages.Pages.{Pages}
use Rattle.tx_prim.specs.declared.dimension.DimensionParameter.TheVariants.{Splitmaxdepth}
use Rattle.tx_prim.specs.declared.glue.GlueParameter.TheVariants.{Splittopskip}
use Rattle.tx_seen.specs.declared.error.TexError.{TexError}
use Rattle.tx_seen.specs.declared.error.TexError.TheVariants.{MissingBox, SizeOutOfRange}
use Rattle.tx_seen.specs.declared.place.Place.TheVariants.{Box, Dimension, Glue}
use Rattle.tx_galley.specs.Errors.{error_of, of_pack, of_split}
use Rattle.tx_galley.specs.Firing.{with_box}

-- what remains stands in the register, naturally packed; the register is void where nothing remains
abbrev pub kept_by : ℕ → Eqtb → Result Packed PackError → Result Eqtb TexError
kept_by n table (Err e) = Err (error_of (of_pack e))
kept_by n table (Ok packed) = Ok (with_box table n packed.node)

abbrev pub rest_kept : ℕ → List Item → Eqtb → Result Eqtb TexError
rest_kept n rest table =
    if length rest == 0 then Ok (emptied table n) else kept_by n table (vpacked rest Natural (pos 1073741823) (down table.table))

-- what is split off is packed to the size that was asked for
abbrev pub top_by : Result Packed PackError → Result Packed TexError
top_by (Err e) = Err (error_of (of_pack e))
top_by (Ok packed) = Ok packed

abbrev pub top_packed : PackParams → ℤ → ℤ → List Item → Result Packed TexError
top_packed params size most top = top_by (vpacked top (To size) most params)

-- a list is split
abbrev pub split_told : Result Split SplitError → Result Split TexError
split_told (Err e) = Err (error_of (of_split e))
split_told (Ok s) = Ok s

abbrev pub nodes_split : Table → ℤ → ℤ → List Item → Result Split TexError
nodes_split table size most list = split_told (split_of list size most (glue_at table (Glue Splittopskip)))

-- a list that was split: the box, the table and the marks
pub record SplitOff (A : Type 0) : Type 0 where
  pub packed : A
  pub table : Eqtb
  pub pages : Pages

abbrev pub marked : Split → Pages → Pages
marked s pages = record pages { marks = record pages.marks { split_first = s.first; split_bottom = s.last } }

abbrev pub split_as : Eqtb → Pages → Result Packed TexError → Result (SplitOff Packed) TexError
split_as table pages (Err e) = Err e
split_as table pages (Ok packed) = Ok (record { packed = packed; table = table; pages = pages })

abbrev pub split_kept : Result Packed TexError → Pages → Result Eqtb TexError → Result (SplitOff Packed) TexError
split_kept top pages (Err e) = Err e
split_kept top pages (Ok table) = split_as table pages top

abbrev pub split_by : ℕ → ℤ → ℤ → Eqtb → Pages → Result Split TexError → Result (SplitOff Packed) TexError
split_by n size most table pages (Err e) = Err e
split_by n size most table pages (Ok s) =
    split_kept (top_packed (down table.table) size most s.top) (marked s pages) (rest_kept n s.rest table)

abbrev pub list_split_to : ℕ → ℤ → ℤ → List Item → Eqtb → Pages → Result (SplitOff Packed) TexError
list_split_to n size most list table pages =
    split_by n size most table pages (nodes_split table.table size most list)

-- the size and \splitmaxdepth are dimensions, whatever is assigned
abbrev pub list_split_if : ℕ → ℤ → ℤ → List Item → Eqtb → Pages → Result (SplitOff Packed) TexError
list_split_if n size most list table pages =
    if fits size && fits most then list_split_to n size most list table pages else Err SizeOutOfRange

abbrev pub list_split : ℕ → ℤ → List Item → Eqtb → Pages → Result (SplitOff Packed) TexError
list_split n size list table pages = list_split_if n size (number_at table.table (Dimension Splitmaxdepth)) list table pages

-- \vsplit: of a void register nothing is split off, and no marks; an \hbox can't be split
abbrev pub some_split : Result (SplitOff Packed) TexError → Result (SplitOff (Option Packed)) TexError
some_split (Err e) = Err e
some_split (Ok s) = Ok (record { packed = Some s.packed; table = s.table; pages = s.pages })

abbrev pub splitting_in : ℕ → ℤ → List Item → Eqtb → Pages → Direction → Result (SplitOff (Option Packed)) TexError
splitting_in n size list table pages Horizontal = Err MissingBox
splitting_in n size list table pages Vertical = some_split (list_split n size list table pages)

abbrev pub splitting_found : ℕ → ℤ → Eqtb → Pages → Option PackedBox → Result (SplitOff (Option Packed)) TexError
splitting_found n size table pages None = Ok (record { packed = None; table = table; pages = pages })
splitting_found n size table pages (Some b) = splitting_in n size b.list table pages b.head.direction

abbrev pub unmarked : Pages → Pages
unmarked pages = record pages { marks = record pages.marks { split_first = None; split_bottom = None } }

abbrev pub splitting : ℕ → ℤ → Eqtb → Pages → Result (SplitOff (Option Packed)) TexError
splitting n size table pages = splitting_found n size table (unmarked pages) (box_at table.table (Box n))
