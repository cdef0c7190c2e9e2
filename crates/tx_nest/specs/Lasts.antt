-- What commands read and take away of a list's last item (TeX: The Program, sections 424, 1080, 1081 and 1105).
use Rattle.std.specs.Prelude.{ℕ, ◌-◌, ℤ, pos, Bool, false, not, ◌&&◌, ◌||◌, nat_lt, nat_le, is_some, List, [], ◌∷◌, length, take, slice_get, unwrap_or, Option, Some, None, option_and_then, if◌then◌else◌}
use Rattle.tx_num.specs.Glue.{GlueSpec, glue_of}
use Rattle.tx_prim.specs.declared.family.ItemKind.{ItemKind}
use Rattle.tx_prim.specs.declared.family.ItemKind.TheVariants as kind
use Rattle.tx_node.specs.declared.plain.KernKind.{KernKind}
use Rattle.tx_node.specs.declared.plain.KernKind.TheVariants.{Accent, Implicit, Explicit, MathOn, MathOff}
use Rattle.tx_node.specs.declared.plain.Plain.{Plain}
use Rattle.tx_node.specs.declared.plain.Plain.TheVariants.{Kern, Glue, Penalty, Character}
use Rattle.tx_node.specs.Items.{Item, Items, none, more, plain, shared, boxed, discretionary, adjustment, insertion, box_leaders, PackedBox}
use Rattle.tx_node.specs.Sizes.{glue_of_item}

-- the last item, None where the list is empty
abbrev pub last_of : List Item → Option Item
last_of list = slice_get list (length list - 1)

-- the number of a penalty, the size of a kern, but not of one at an end of a formula, the box of an item without its shift; None of other items
abbrev pub plain_penalty : Plain → Option ℤ
plain_penalty (Kern kind size) = None
plain_penalty (Glue g) = None
plain_penalty (Penalty n) = Some n
plain_penalty (Character c) = None

abbrev pub penalty_of : Item → Option ℤ
penalty_of (plain p) = plain_penalty p
penalty_of (shared s) = None
penalty_of (boxed shift head inner) = None
penalty_of (discretionary replaced pre post) = None
penalty_of (adjustment inner) = None
penalty_of (insertion inserted inner) = None
penalty_of (box_leaders head repeated inner) = None

abbrev pub kern_size : KernKind → ℤ → Option ℤ
kern_size Implicit size = Some size
kern_size Accent size = Some size
kern_size Explicit size = Some size
kern_size MathOn size = None
kern_size MathOff size = None

abbrev pub plain_kern : Plain → Option ℤ
plain_kern (Kern kind size) = kern_size kind size
plain_kern (Glue g) = None
plain_kern (Penalty n) = None
plain_kern (Character c) = None

abbrev pub kern_of : Item → Option ℤ
kern_of (plain p) = plain_kern p
kern_of (shared s) = None
kern_of (boxed shift head inner) = None
kern_of (discretionary replaced pre post) = None
kern_of (adjustment inner) = None
kern_of (insertion inserted inner) = None
kern_of (box_leaders head repeated inner) = None

abbrev pub list_from : Items → List Item
list_from none = []
list_from (more item rest) = item ∷ list_from rest

abbrev pub box_of : Item → Option PackedBox
box_of (plain p) = None
box_of (shared s) = None
box_of (boxed shift head inner) = Some (record { head = head; list = list_from inner })
box_of (discretionary replaced pre post) = None
box_of (adjustment inner) = None
box_of (insertion inserted inner) = None
box_of (box_leaders head repeated inner) = None

-- \lastpenalty, \lastkern and \lastskip: nothing where the last item is another
abbrev pub last_penalty : List Item → ℤ
last_penalty list = unwrap_or (option_and_then penalty_of (last_of list)) (pos 0)

abbrev pub last_kern : List Item → ℤ
last_kern list = unwrap_or (option_and_then kern_of (last_of list)) (pos 0)

abbrev pub no_glue : GlueSpec
no_glue = glue_of (pos 0) (pos 0) 0 (pos 0) 0

-- leaders count as their glue
abbrev pub last_skip : List Item → GlueSpec
last_skip list = unwrap_or (option_and_then glue_of_item (last_of list)) no_glue

-- whether the last item belongs to a discretionary's no-break text: a discretionary with so many items behind it that all of
-- them are of this; it has at most 255
abbrev pub reaches : ℕ → Item → Bool
reaches distance (plain p) = false
reaches distance (shared s) = false
reaches distance (boxed shift head inner) = false
reaches distance (discretionary head pre post) = nat_lt 0 distance && (nat_lt distance 256 && nat_le distance head.replaced)
reaches distance (adjustment inner) = false
reaches distance (insertion head inner) = false
reaches distance (box_leaders head repeated inner) = false

abbrev pub is_replaced : List Item → Bool
is_replaced [] = false
is_replaced (item ∷ rest) = reaches (length rest) item || is_replaced rest

-- the box of \lastbox, which takes none from a no-break text
abbrev pub last_box : List Item → Option PackedBox
last_box list = if is_replaced list then None else option_and_then box_of (last_of list)

-- the items that \unpenalty, \unkern and \unskip take away
abbrev pub is_of : ItemKind → Item → Bool
is_of kind.Penalty item = is_some (penalty_of item)
is_of kind.Kern item = is_some (kern_of item)
is_of kind.Skip item = is_some (glue_of_item item)

abbrev pub is_last_of : ItemKind → Option Item → Bool
is_last_of kind None = false
is_last_of kind (Some item) = is_of kind item

-- a list without its last item
abbrev pub shortened : List Item → List Item
shortened list = take (length list - 1) list

-- a list without its last item, if that is one of these, or a box, and of no no-break text
abbrev pub without_last : ItemKind → List Item → List Item
without_last kind list = if is_last_of kind (last_of list) && not (is_replaced list) then shortened list else list

abbrev pub without_box : List Item → List Item
without_box list = if is_some (last_box list) then shortened list else list
