-- What the page builder takes from the table (TeX: The Program, sections 987, 1001 and 1009 to 1018).
use Rattle.std.specs.Prelude.{ℕ, nat_lt, ◌^◌, ℤ, unsigned_abs, Bool, true, false, List, [], ◌∷◌, ◌++◌, Option, Some, None}
use Rattle.tx_box.specs.Inserts.{whole_size}
use Rattle.tx_eqtb.specs.declared.table.Table.{Table}
use Rattle.tx_eqtb.specs.Table.{box_at, glue_at, number_at}
use Rattle.tx_node.specs.declared.head.BoxHead.{BoxHead}
use Rattle.tx_node.specs.declared.head.Direction.{Direction}
use Rattle.tx_node.specs.declared.head.Direction.TheVariants.{Horizontal, Vertical}
use Rattle.tx_node.specs.Items.{Item, plain, shared, boxed, discretionary, adjustment, insertion, box_leaders, PackedBox}
use Rattle.tx_pagebuilder.specs.declared.boxes.ClassBox.{ClassBox}
use Rattle.tx_pagebuilder.specs.declared.class.Class.{Class}
use Rattle.tx_pagebuilder.specs.declared.params.ClassParams.{ClassParams}
use Rattle.tx_pagebuilder.specs.declared.params.PageParams.{PageParams}
use Rattle.tx_prim.specs.declared.dimension.DimensionParameter.TheVariants.{Maxdepth, Vsize}
use Rattle.tx_prim.specs.declared.glue.GlueParameter.TheVariants.{Topskip}
use Rattle.tx_prim.specs.declared.integer.IntegerParameter.TheVariants.{Holdinginserts}
use Rattle.tx_seen.specs.declared.place.Place.TheVariants.{Box, Count, Dimen, Dimension, Glue, Integer, Skip}

-- a number that is an integer
abbrev pub is_integer : ℤ → Bool
is_integer n = nat_lt (unsigned_abs n) (2 ^ 31)

-- whether a box is an \hbox
abbrev pub is_horizontal : Direction → Bool
is_horizontal Horizontal = true
is_horizontal Vertical = false

abbrev pub is_across : BoxHead → Bool
is_across head = is_horizontal head.direction

-- the registers of a class of insertions
abbrev pub size_of : Option PackedBox → Option ℤ
size_of None = None
size_of (Some b) = Some (whole_size b.head)

abbrev pub holds_hbox : Option PackedBox → Bool
holds_hbox None = false
holds_hbox (Some b) = is_across b.head

abbrev pub class_params : Table → ℕ → ClassParams
class_params table n = record {
  box_size = size_of (box_at table (Box n));
  is_hbox = holds_hbox (box_at table (Box n));
  count = number_at table (Count n);
  dimen = number_at table (Dimen n);
  skip = glue_at table (Skip n);
}

-- those of the class of an item, if that is an insertion
abbrev pub item_class : Table → Item → Option ClassParams
item_class table (plain p) = None
item_class table (shared s) = None
item_class table (boxed shift head inner) = None
item_class table (discretionary head before behind) = None
item_class table (adjustment inner) = None
item_class table (insertion head inner) = Some (class_params table head.class)
item_class table (box_leaders head repeated inner) = None

abbrev pub params_with : Table → Option ClassParams → List ClassBox → PageParams
params_with table class boxes = record {
  vsize = number_at table (Dimension Vsize);
  max_depth = number_at table (Dimension Maxdepth);
  top_skip = glue_at table (Glue Topskip);
  holding_inserts = number_at table (Integer Holdinginserts);
  class = class;
  boxes = boxes;
}

-- what contributing an item takes from the table
abbrev pub item_params : Table → Item → PageParams
item_params table item = params_with table (item_class table item) []

-- the boxes of classes, those that are void left out
abbrev pub box_if : ℕ → Option PackedBox → List ClassBox
box_if n None = []
box_if n (Some b) = record { class = n; node = b } ∷ []

abbrev pub class_box : Table → ℕ → List ClassBox
class_box table n = box_if n (box_at table (Box n))

abbrev pub class_boxes : Table → List Class → List ClassBox
class_boxes table [] = []
class_boxes table (class ∷ classes) = class_box table class.number ++ class_boxes table classes

-- what firing a page with these classes takes
abbrev pub fire_params : Table → List Class → PageParams
fire_params table classes = params_with table None (class_boxes table classes)
