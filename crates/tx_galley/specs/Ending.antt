-- How \output ends (TeX: The Program, sections 1026 to 1028), and how a run does (section 1054).
use Rattle.std.specs.Prelude.{pos, neg_ℤ, Bool, true, ◌&&◌, List, [], ◌∷◌, ◌++◌, length, ◌==◌, None, Result, Ok, Err}
use Rattle.std.specs.Ordering.{int_eq}
use Rattle.tx_eqtb.specs.declared.eqtb.Eqtb.{Eqtb}
use Rattle.tx_eqtb.specs.declared.table.Table.{Table}
use Rattle.tx_eqtb.specs.Table.{number_at}
use Rattle.tx_nest.specs.declared.list.ModeList.{ModeList}
use Rattle.tx_nest.specs.declared.nest.Nest.{Nest}
use Rattle.tx_nest.specs.Changed.{with_items, with_nodes}
use Rattle.tx_node.specs.declared.head.Direction.TheVariants.{Horizontal}
use Rattle.tx_node.specs.declared.head.Setting.TheVariants.{Natural}
use Rattle.tx_node.specs.declared.plain.Plain.TheVariants.{Glue, Penalty}
use Rattle.tx_node.specs.Items.{Item, plain, boxed, none}
use Rattle.tx_num.specs.Glue.{glue_of}
use Rattle.tx_output.specs.declared.error.OutputError.{OutputError}
use Rattle.tx_output.specs.Outputs.{finished}
use Rattle.tx_pagebuilder.specs.Pages.{is_empty, output_ended}
use Rattle.tx_output.specs.declared.pages.Pages.{Pages}
use Rattle.tx_prim.specs.declared.dimension.DimensionParameter.TheVariants.{Hsize}
use Rattle.tx_seen.specs.declared.error.TexError.{TexError}
use Rattle.tx_seen.specs.declared.place.Place.TheVariants.{Dimension}
use Rattle.tx_galley.specs.Errors.{error_of, of_output}
use Rattle.tx_galley.specs.Exercising.{Exercised, exercising}
use Rattle.tx_galley.specs.Firing.{is_void}

-- items before the contributions of the pages' list, which is the one that is being built, or the one around a paragraph
abbrev pub with_before : List Item → ModeList → ModeList
with_before items list = with_nodes list (items ++ list.nodes)

abbrev pub before_around : List Item → ModeList → List ModeList → Nest
before_around items innermost [] = record { innermost = with_before items innermost; around = [] }
before_around items innermost (outer ∷ around) = record { innermost = innermost; around = with_before items outer ∷ around }

abbrev pub contributed_before : List Item → Nest → Nest
contributed_before items nest = before_around items nest.innermost nest.around

-- \output ends, which built these items
abbrev pub ended : Pages → Pages
ended pages = record pages { output = record { waiting = None }; page = record pages.page { measures = output_ended pages.page.measures } }

abbrev pub ending_by : Nest → Eqtb → Pages → Result (List Item) OutputError → Result Exercised TexError
ending_by nest table pages (Err e) = Err (error_of (of_output e))
ending_by nest table pages (Ok items) = exercising (contributed_before items nest) table (ended pages)

abbrev pub ending_output : List Item → Nest → Eqtb → Pages → Result Exercised TexError
ending_output built nest table pages = ending_by nest table pages (finished pages.output.waiting built true (is_void table.table 255))

-- a run may end where nothing is left to be put out
abbrev pub is_done : Nest → Pages → Bool
is_done nest pages = int_eq pages.dead_cycles (pos 0) && (is_empty pages.page && (length nest.innermost.nodes == 0))

-- else \end contributes an empty box as wide as \hsize, \vfill, and a penalty that fires the page
abbrev pub line_box : Table → Item
line_box table =
    boxed (pos 0) (record { direction = Horizontal; width = number_at table (Dimension Hsize); height = pos 0; depth = pos 0; setting = Natural }) none

abbrev pub end_items : Table → List Item
end_items table = line_box table ∷ plain (Glue (glue_of (pos 0) (pos 65536) 2 (pos 0) 0)) ∷ plain (Penalty (neg_ℤ (pos 1073741824))) ∷ []

abbrev pub with_end : Table → Nest → Nest
with_end table nest = record nest { innermost = with_items nest.innermost (end_items table) }
