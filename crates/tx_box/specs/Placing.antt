-- Where a box goes that is made, found or copied (TeX: The Program, sections 1075 to 1078).
use Rattle.std.specs.Prelude.{ℤ, pos, Bool, List, [], ◌∷◌, Option, Some, None, Result, Ok, Err}
use Rattle.tx_eqtb.specs.declared.entry.Entry.TheVariants.{Box as Boxed}
use Rattle.tx_eqtb.specs.declared.eqtb.Eqtb.{Eqtb}
use Rattle.tx_eqtb.specs.declared.table.Table.{Table}
use Rattle.tx_eqtb.specs.Stack.{assigned_by}
use Rattle.tx_eqtb.specs.Table.{glue_at, number_at}
use Rattle.tx_nest.specs.declared.leading.LeadingParams.{LeadingParams}
use Rattle.tx_nest.specs.declared.leading.NestError.{NestError}
use Rattle.tx_mlist.specs.declared.kinds.AtomKind.TheVariants.{Ord, Center as Centered}
use Rattle.tx_nest.specs.declared.list.ModeList.{ModeList}
use Rattle.tx_nest.specs.declared.state.ModeState.{ModeState}
use Rattle.tx_nest.specs.declared.state.ModeState.TheVariants.{Math, DisplayMath}
use Rattle.tx_nest.specs.Appended.{box_appended}
use Rattle.tx_nest.specs.Changed.{with_items}
use Rattle.tx_nest.specs.Lending.{with_top}
use Rattle.tx_node.specs.Items.{Item, PackedBox, adjustment, items_of}
use Rattle.tx_prim.specs.declared.dimension.DimensionParameter.TheVariants.{Lineskiplimit}
use Rattle.tx_prim.specs.declared.glue.GlueParameter.TheVariants.{Baselineskip, Lineskip}
use Rattle.tx_seen.specs.declared.error.TexError.TheVariants.{SizeOutOfRange}
use Rattle.tx_seen.specs.declared.place.Place.TheVariants.{Box, Dimension, Glue}
use Rattle.tx_shape.specs.declared.types.BoxContext.{BoxContext}
use Rattle.tx_shape.specs.declared.types.BoxContext.TheVariants.{Adjust, Append, Center, Lead, Register, Ship}
use Rattle.tx_box.specs.declared.parts.Lists.{Lists}
use Rattle.tx_box.specs.declared.parts.Target.{Target}
use Rattle.tx_box.specs.declared.parts.Work.TheVariants as work
use Rattle.tx_box.specs.Effects.{Effect, leaves, leaves_due, leaves_leading}
use Rattle.tx_box.specs.Formulas.{with_box}

-- another list in the place of the one that is being built
abbrev pub with_list : Lists → ModeList → Lists
with_list lists list = record lists { nest = with_top lists.nest list }

-- the parameters of leading
abbrev pub leading_of : Table → LeadingParams
leading_of table = record { baseline_skip = glue_at table (Glue Baselineskip); line_skip = glue_at table (Glue Lineskip); line_skip_limit = number_at table (Dimension Lineskiplimit) }

-- a box that is appended, with its leading
abbrev pub appending : Lists → Eqtb → Result ModeList NestError → Effect
appending lists table (Err error) = Err SizeOutOfRange
appending lists table (Ok list) = leaves (with_list lists list) table

-- in a formula a box is the nucleus of an Ord (section 1076)
abbrev pub appending_in : ModeState → ℤ → Lists → Eqtb → PackedBox → Effect
appending_in Math shift lists table b = leaves (with_box Ord shift b lists) table
appending_in DisplayMath shift lists table b = leaves (with_box Ord shift b lists) table
appending_in other shift lists table b = appending lists table (box_appended (leading_of table.table) lists.nest.innermost shift b)

-- the list of a \vadjust is one item of the list around (section 1100)
abbrev pub with_adjustment : Lists → List Item → Lists
with_adjustment lists list = with_list lists (with_items lists.nest.innermost (adjustment (items_of list) ∷ []))

-- a box, or none, goes where it is to go: a void one is no item and is not shipped, but makes a register void; that of \vcenter is the
-- nucleus of an atom (section 1168); leaders need a box that isn't void, else the glue behind them is no leaders (section 1075)
abbrev pub placed_in : BoxContext → Bool → Lists → Eqtb → Option PackedBox → Effect
placed_in (Append shift) global lists table None = leaves lists table
placed_in (Append shift) global lists table (Some b) = appending_in lists.nest.innermost.state shift lists table b
placed_in (Register n) global lists table held = leaves lists (assigned_by global table (Box n) (Boxed held))
placed_in Ship global lists table None = leaves lists table
placed_in Ship global lists table (Some b) = leaves_due lists table (work.Ship b)
placed_in Adjust global lists table None = leaves lists table
placed_in Adjust global lists table (Some b) = leaves (with_adjustment lists b.list) table
placed_in Center global lists table None = leaves lists table
placed_in Center global lists table (Some b) = leaves (with_box Centered (pos 0) b lists) table
placed_in (Lead kind) global lists table None = leaves lists table
placed_in (Lead kind) global lists table (Some b) = leaves_leading lists table kind b

abbrev pub placed : Target → Lists → Eqtb → Option PackedBox → Effect
placed target lists table held = placed_in target.context target.global lists table held
