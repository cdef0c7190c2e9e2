-- How a paragraph begins (TeX: The Program, sections 1090 to 1093).
use Rattle.std.specs.Prelude.{Bool, true, false, pos, if◌then◌else◌, List, [], ◌∷◌}
use Rattle.tx_eqtb.specs.declared.table.Table.{Table}
use Rattle.tx_eqtb.specs.Table.{glue_at, number_at}
use Rattle.tx_mlist.specs.declared.kinds.AtomKind.TheVariants.{Ord}
use Rattle.tx_nest.specs.declared.list.ModeList.{ModeList}
use Rattle.tx_nest.specs.declared.state.ModeState.{ModeState}
use Rattle.tx_nest.specs.declared.state.ModeState.TheVariants.{Vertical, InternalVertical, Horizontal, RestrictedHorizontal, Math, DisplayMath}
use Rattle.tx_nest.specs.Changed.{with_factor, with_items}
use Rattle.tx_nest.specs.Factors.{plain_factor}
use Rattle.tx_nest.specs.States.{begun, mode_of}
use Rattle.tx_node.specs.declared.head.Direction.TheVariants as direction
use Rattle.tx_node.specs.declared.head.Setting.TheVariants.{Natural}
use Rattle.tx_node.specs.declared.plain.Plain.TheVariants as small
use Rattle.tx_node.specs.Items.{Item, PackedBox, plain, box_item}
use Rattle.tx_prim.specs.declared.dimension.DimensionParameter.TheVariants.{Parindent}
use Rattle.tx_prim.specs.declared.family.Indentation.{Indentation}
use Rattle.tx_prim.specs.declared.family.Indentation.TheVariants.{Indented, Flush}
use Rattle.tx_prim.specs.declared.glue.GlueParameter.TheVariants.{Parskip}
use Rattle.tx_prim.specs.declared.modes.Mode.TheVariants as mode
use Rattle.tx_prim.specs.declared.modes.ModeTest.TheVariants as test
use Rattle.tx_prim.specs.Modes.{holds}
use Rattle.tx_seen.specs.declared.place.Place.TheVariants.{Dimension, Glue}
use Rattle.tx_box.specs.declared.parts.Lists.{Lists}
use Rattle.tx_box.specs.Formulas.{with_box}
use Rattle.tx_box.specs.Placing.{with_list}

-- in which lists a paragraph begins: vertical ones
abbrev pub begins_paragraph : ModeState → Bool
begins_paragraph state = holds test.Vertical (mode_of state)

-- an empty box as wide as \parindent, which isn't shifted
abbrev pub indent_packed : Table → PackedBox
indent_packed table = record {
  head = record { direction = direction.Horizontal; width = number_at table (Dimension Parindent); height = pos 0; depth = pos 0; setting = Natural };
  list = [];
}

abbrev pub indent_box : Table → Item
indent_box table = box_item (pos 0) (indent_packed table)

-- \indent puts it at the end of a horizontal list, without leading, and spaces behind it are as wide as at the beginning
-- (section 1093)
abbrev pub with_indent : Indentation → Table → ModeList → ModeList
with_indent Indented table list = with_factor (with_items list (indent_box table ∷ [])) plain_factor
with_indent Flush table list = list

-- the list around a paragraph gets \parskip glue, unless it is a vertical box's and the paragraph is the first thing in it
abbrev pub has_skip : ModeState → List Item → Bool
has_skip (Vertical depth) nodes = true
has_skip (InternalVertical depth) [] = false
has_skip (InternalVertical depth) (item ∷ rest) = true
has_skip (Horizontal factor) nodes = false
has_skip (RestrictedHorizontal factor) nodes = false
has_skip Math nodes = false
has_skip DisplayMath nodes = false

abbrev pub with_skip : Table → ModeList → ModeList
with_skip table list =
    if has_skip list.state list.nodes then with_items list (plain (small.Glue (glue_at table (Glue Parskip))) ∷ []) else list

-- a paragraph begins in the list that is being built, which waits around it (section 1091)
abbrev pub paragraph_begun : Indentation → Table → Lists → Lists
paragraph_begun how table lists = record lists {
  nest = record {
    innermost = with_indent how table (record { state = begun mode.Horizontal; nodes = []; prev_graf = 0 });
    around = with_skip table lists.nest.innermost ∷ lists.nest.around;
  };
}

-- in a formula \indent puts the nucleus of an Ord there (section 1093)
abbrev pub formula_indented : Indentation → Table → Lists → Lists
formula_indented Indented table lists = with_box Ord (pos 0) (indent_packed table) lists
formula_indented Flush table lists = lists

-- \indent, or \noindent: a paragraph begins, or has begun
abbrev pub indented_in : ModeState → Indentation → Table → Lists → Lists
indented_in (Vertical depth) how table lists = paragraph_begun how table lists
indented_in (InternalVertical depth) how table lists = paragraph_begun how table lists
indented_in (Horizontal factor) how table lists = with_list lists (with_indent how table lists.nest.innermost)
indented_in (RestrictedHorizontal factor) how table lists = with_list lists (with_indent how table lists.nest.innermost)
indented_in Math how table lists = formula_indented how table lists
indented_in DisplayMath how table lists = formula_indented how table lists

abbrev pub indented : Indentation → Table → Lists → Lists
indented how table lists = indented_in lists.nest.innermost.state how table lists
