-- The values that scans find in a table.
use Rattle.std.specs.Prelude.{◌/◌, Bool, true, false, pos, length, Option, Some, None, if◌then◌else◌}
use Rattle.tx_num.specs.Glue.{GlueSpec}
use Rattle.tx_char.specs.Category.{category, number_of}
use Rattle.tx_node.specs.Items.{PackedBox}
use Rattle.tx_node.specs.declared.head.Direction.{Direction}
use Rattle.tx_node.specs.declared.head.Direction.TheVariants.{Horizontal, Vertical}
use Rattle.tx_prim.specs.Glues.{is_in_mu}
use Rattle.tx_prim.specs.declared.expandable.BoxTest.{BoxTest}
use Rattle.tx_prim.specs.declared.expandable.BoxTest.TheVariants as test
use Rattle.tx_prim.specs.declared.glue.GlueParameter.{GlueParameter}
use Rattle.tx_seen.specs.declared.fed.Value.{Value}
use Rattle.tx_seen.specs.declared.fed.Value.TheVariants.{Int, Dimen as Size, Glue as Elastic, Muglue, Flag, Absent}
use Rattle.tx_seen.specs.declared.place.Place.{Place}
use Rattle.tx_seen.specs.declared.place.Place.TheVariants.{Name, Active, Count, Dimen, Skip, Muskip, Toks, Category, Code, Integer, Dimension, Glue, Tokens, Box, BoxSize, BoxTest as Tested, Last, Badness, PrevDepth, Magnification, Font, FontSize, FontDimen, FontInteger, Family, SpaceFactor, PrevGraf, ParShape, Page, DeadCycles}
use Rattle.tx_eqtb.specs.declared.eqtb.Eqtb.{Eqtb}
use Rattle.tx_eqtb.specs.Table.{box_at, glue_at, number_at}

-- whether the box of a register is as a conditional tests it: void, or a horizontal or vertical one (TeX: The Program, section 505)
abbrev pub is_across : Direction → Bool
is_across Horizontal = true
is_across Vertical = false

abbrev pub is_down : Direction → Bool
is_down Horizontal = false
is_down Vertical = true

abbrev pub is_so : BoxTest → Option PackedBox → Bool
is_so test.Void None = true
is_so test.Void (Some packed) = false
is_so test.Horizontal None = false
is_so test.Horizontal (Some packed) = is_across packed.head.direction
is_so test.Vertical None = false
is_so test.Vertical (Some packed) = is_down packed.head.direction

-- the glue of a parameter, which may be told in mu
abbrev pub parameter_value : GlueParameter → GlueSpec → Value
parameter_value parameter glue = if is_in_mu parameter then Muglue glue else Elastic glue

-- a size at the registers and the parameters that hold one, in scaled points, and of the box of a register; glue at those that
-- hold that; whether the box of a register is as it is tested; the number of a category; how many lines \parshape has, each of two
-- sizes (section 423); the number that stands at any other
-- place, and 0 at a name, a list of tokens and a box, where none does (TeX: The Program, sections 413 and 420)
abbrev pub value_in : Eqtb → Place → Value
value_in e (Dimen number) = Size (number_at e.table (Dimen number))
value_in e (Dimension parameter) = Size (number_at e.table (Dimension parameter))
value_in e (Skip number) = Elastic (glue_at e.table (Skip number))
value_in e (Muskip number) = Muglue (glue_at e.table (Muskip number))
value_in e (Glue parameter) = parameter_value parameter (glue_at e.table (Glue parameter))
value_in e (Tested test number) = Flag (is_so test (box_at e.table (Box number)))
value_in e (Category code) = Int (pos (number_of (category e.table.categories code)))
value_in e (Count number) = Int (number_at e.table (Count number))
value_in e (Code kind code) = Int (number_at e.table (Code kind code))
value_in e (Integer parameter) = Int (number_at e.table (Integer parameter))
value_in e (Name name) = Int (number_at e.table (Name name))
value_in e (Active code) = Int (number_at e.table (Active code))
value_in e (Toks number) = Int (number_at e.table (Toks number))
value_in e (Tokens parameter) = Int (number_at e.table (Tokens parameter))
value_in e (Box number) = Int (number_at e.table (Box number))
value_in e (BoxSize side number) = Size (number_at e.table (BoxSize side number))
value_in e (Last kind) = Int (pos 0)
value_in e Badness = Int (pos 0)
value_in e PrevDepth = Int (pos 0)
value_in e Magnification = Absent
value_in e Font = Int (number_at e.table Font)
value_in e (FontSize size) = Int (pos 0)
value_in e (FontDimen font number) = Int (pos 0)
value_in e (FontInteger kind font) = Int (pos 0)
value_in e (Family size family) = Int (number_at e.table (Family size family))
value_in e SpaceFactor = Int (pos 0)
value_in e PrevGraf = Int (pos 0)
value_in e ParShape = Int (pos (length e.table.par_shape / 2))
value_in e (Page quantity) = Int (pos 0)
value_in e DeadCycles = Int (pos 0)
