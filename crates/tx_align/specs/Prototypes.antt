-- The preamble's columns in a box, by which the rows are set (TeX: The Program, sections 804 and 809).
use Rattle.std.specs.Prelude.{◌≡◌, true, ℤ, pos, ◌+ℤ◌, List, [], ◌∷◌, map, Result, Ok, Err}
use Rattle.tx_num.specs.Glue.{GlueSpec}
use Rattle.tx_node.specs.declared.head.Setting.{Setting}
use Rattle.tx_node.specs.declared.plain.KernKind.TheVariants.{Implicit}
use Rattle.tx_node.specs.declared.plain.Plain.TheVariants.{Kern, Glue}
use Rattle.tx_node.specs.Items.{Item, plain, items_of}
use Rattle.tx_node.specs.Setting.{IsSet, moved, share, sums_fit}
use Rattle.tx_pack.specs.declared.types.Goal.{Goal}
use Rattle.tx_pack.specs.declared.types.PackError.{PackError}
use Rattle.tx_pack.specs.declared.types.PackError.TheVariants as packing
use Rattle.tx_pack.specs.declared.types.PackParams.{PackParams}
use Rattle.tx_pack.specs.declared.types.Packed.{Packed}
use Rattle.tx_pack.specs.Packing.{hpacked}
use Rattle.tx_align.specs.declared.error.AlignError.{AlignError}
use Rattle.tx_align.specs.declared.error.AlignError.TheVariants.{SizeOutOfRange, TooDeep, OutOfMemory}
use Rattle.tx_align.specs.declared.prototype.Made.{Made}
use Rattle.tx_align.specs.declared.prototype.PlacedColumn.{PlacedColumn}
use Rattle.tx_align.specs.declared.prototype.Prototype.{Prototype}
use Rattle.tx_align.specs.declared.sized.SizedColumn.{SizedColumn}
use Rattle.tx_align.specs.declared.sized.Sizing.{Sizing}
use Rattle.tx_align.specs.Preambles.{Forming}

-- what errors of packing are to an alignment
abbrev pub of_packing : PackError → AlignError
of_packing packing.SizeOutOfRange = SizeOutOfRange
of_packing packing.TooDeep = TooDeep
of_packing packing.OutOfMemory = OutOfMemory

-- glue between columns
abbrev pub skip_item : GlueSpec → Item
skip_item skip = plain (Glue skip)

-- the columns, each as so much white space, with the skips behind them
abbrev pub column_items : List SizedColumn → List Item
column_items [] = []
column_items (c ∷ rest) = plain (Kern Implicit c.width) ∷ skip_item c.skip ∷ column_items rest

abbrev pub prototype : GlueSpec → List SizedColumn → List Item
prototype first columns = skip_item first ∷ column_items columns

-- the columns with how far set glue moves each: T before it, from which on these columns stand, is this much
abbrev pub placed_from : Setting → ℤ → List SizedColumn → List PlacedColumn
placed_from setting sum [] = []
placed_from setting sum (c ∷ rest) =
    record { sized = c; shift = moved setting sum } ∷ placed_from setting (sum +ℤ share setting (skip_item c.skip)) rest

abbrev pub placed : Setting → GlueSpec → List SizedColumn → List PlacedColumn
placed setting first columns = placed_from setting (pos 0 +ℤ share setting (skip_item first)) columns

-- packed to the goal of the alignment, which is reported as an \hbox is
abbrev pub made_of : GlueSpec → List SizedColumn → Result Packed PackError → Result Made AlignError
made_of first columns (Err e) = Err (of_packing e)
made_of first columns (Ok packed) = Ok (record {
  prototype = record { head = packed.node.head; first = first; columns = placed packed.node.head.setting first columns };
  badness = packed.badness;
  report = packed.report;
})

abbrev pub made : Forming → Goal → PackParams → List SizedColumn → Result Made AlignError
made p goal params columns = made_of p.first columns (hpacked (prototype p.first columns) goal params)

abbrev pub made_by : Forming → Goal → PackParams → Result Sizing AlignError → Result Made AlignError
made_by p goal params (Err e) = Err e
made_by p goal params (Ok s) = made p goal params s.columns

-- the columns of a prototype without how far they are moved
abbrev pub sizes_of : List PlacedColumn → List SizedColumn
sizes_of columns = map (λ c. c.sized) columns

-- its glue is set by something that it has, whose sum up to each place is a dimension
pub record IsPrototype (p : Prototype) : Type 0 where
  pub is_set : IsSet p.head.setting
  pub sums : sums_fit p.head.setting (pos 0) (items_of (prototype p.first (sizes_of p.columns))) ≡ true
