-- What a page that is fired gives (TeX: The Program, sections 1012 to 1022).
use Rattle.std.specs.Prelude.{ℕ, suc, ◌==◌, nat_lt, ◌^◌, ◌-◌, Bool, true, false, ◌&&◌, ◌||◌, ℤ, pos, int_lt, ◌+ℤ◌, List, [], ◌∷◌, ◌++◌, filter, length, take, drop, Option, Some, None, unwrap_or, Result, Ok, Err, if◌then◌else◌}
use Rattle.tx_char.specs.declared.tokens.Token.{Token}
use Rattle.tx_node.specs.declared.head.Direction.{Direction}
use Rattle.tx_node.specs.declared.head.Direction.TheVariants.{Horizontal, Vertical}
use Rattle.tx_node.specs.declared.head.InsertHead.{InsertHead}
use Rattle.tx_node.specs.declared.plain.Plain.{Plain}
use Rattle.tx_node.specs.declared.plain.Plain.TheVariants.{Kern, Glue, Penalty, Character}
use Rattle.tx_node.specs.Items.{Item, PackedBox, plain, shared, boxed, discretionary, adjustment, insertion, box_leaders, items_of}
use Rattle.tx_pack.specs.declared.types.Goal.TheVariants.{Natural}
use Rattle.tx_pack.specs.declared.types.PackError.{PackError}
use Rattle.tx_pack.specs.declared.types.PackError.TheVariants as packing
use Rattle.tx_pack.specs.declared.types.PackParams.{PackParams}
use Rattle.tx_pack.specs.declared.types.Packed.{Packed}
use Rattle.tx_pack.specs.Packing.{vpacked}
use Rattle.tx_insert.specs.declared.error.SplitError.{SplitError}
use Rattle.tx_insert.specs.declared.trial.Break.{Break}
use Rattle.tx_insert.specs.Breaks.{no_break}
use Rattle.tx_insert.specs.Splits.{remains, first_mark, last_mark}
use Rattle.tx_pagebuilder.specs.declared.boxes.ClassBox.{ClassBox}
use Rattle.tx_pagebuilder.specs.declared.class.Class.{Class}
use Rattle.tx_pagebuilder.specs.declared.class.Cut.{Cut}
use Rattle.tx_pagebuilder.specs.declared.error.PageError.{PageError}
use Rattle.tx_pagebuilder.specs.declared.error.PageError.TheVariants.{SizeOutOfRange, TooDeep, WrongBox, OutOfMemory}
use Rattle.tx_pagebuilder.specs.declared.fired.Fired.{Fired as FiredPage}
use Rattle.tx_pagebuilder.specs.declared.kern.Kern.{Kern as KernOf}
use Rattle.tx_pagebuilder.specs.declared.measures.Contents.TheVariants.{Fired}
use Rattle.tx_pagebuilder.specs.declared.measures.Measures.{Measures}
use Rattle.tx_pagebuilder.specs.declared.sorted.Sorted.{Sorted}
use Rattle.tx_pagebuilder.specs.declared.params.PageParams.{PageParams}
use Rattle.tx_pagebuilder.specs.Contributed.{list_from}
use Rattle.tx_pagebuilder.specs.Inserts.{class_of}
use Rattle.tx_pagebuilder.specs.Kerns.{kern_item}
use Rattle.tx_pagebuilder.specs.Pages.{Page, first_measures}
use Rattle.tx_pagebuilder.specs.Placing.{dimension, of_splitting}

-- what errors of packing are to a page
abbrev pub of_packing : PackError → PageError
of_packing packing.SizeOutOfRange = SizeOutOfRange
of_packing packing.TooDeep = TooDeep
of_packing packing.OutOfMemory = OutOfMemory

-- boxes of insertions are as high as their lists, and as deep; nothing is told of them
abbrev pub silent : PackParams
silent = record { badness = pos 10000; fuzz = pos (2 ^ 30 - 1); overfull_rule = pos 0 }

unfoldable pub packed_naturally : List Item → Result Packed PackError
packed_naturally list = vpacked list Natural (pos (2 ^ 30 - 1)) silent

-- where a class of the page was split
abbrev pub cut_of : Option Class → Option Cut
cut_of None = None
cut_of (Some class) = class.split

-- what of an insertion's list joins the box of its class: all of it before the one that was split, of that what stands before its break,
-- nothing of those behind it
abbrev pub part_of : Option Cut → ℕ → List Item → List Item
part_of None place list = list
part_of (Some cut) place list =
    if nat_lt place cut.insert then list
    else if place == cut.insert then take cut.place list
    else []

-- what of an item joins the box of a class, and so of all items from a place of the page on
abbrev pub joining_insertion : ℕ → Option Cut → ℕ → InsertHead → List Item → List Item
joining_insertion number cut place head list = if head.class == number then part_of cut place list else []

abbrev pub joining : ℕ → Option Cut → ℕ → Item → List Item
joining number cut place (plain p) = []
joining number cut place (shared s) = []
joining number cut place (boxed shift head inner) = []
joining number cut place (discretionary head before behind) = []
joining number cut place (adjustment inner) = []
joining number cut place (insertion head inner) = joining_insertion number cut place head (list_from inner)
joining number cut place (box_leaders head repeated inner) = []

abbrev pub joining_from : ℕ → Option Cut → ℕ → List Item → List Item
joining_from number cut place [] = []
joining_from number cut place (item ∷ rest) = joining number cut place item ++ joining_from number cut (suc place) rest

-- an insertion of a class, and whether there is one among items
abbrev pub is_of : ℕ → Item → Bool
is_of number (plain p) = false
is_of number (shared s) = false
is_of number (boxed shift head inner) = false
is_of number (discretionary head before behind) = false
is_of number (adjustment inner) = false
is_of number (insertion head inner) = head.class == number
is_of number (box_leaders head repeated inner) = false

abbrev pub is_among : ℕ → List Item → Bool
is_among number [] = false
is_among number (item ∷ rest) = is_of number item || is_among number rest

-- the box of a class, by its number, None where it is void
abbrev pub box_of : ℕ → List ClassBox → Option PackedBox
box_of number [] = None
box_of number (b ∷ boxes) = if b.class == number then Some b.node else box_of number boxes

abbrev pub is_horizontal : Direction → Bool
is_horizontal Horizontal = true
is_horizontal Vertical = false

abbrev pub is_hbox : Option PackedBox → Bool
is_hbox None = false
is_hbox (Some b) = is_horizontal b.head.direction

abbrev pub list_in : Option PackedBox → List Item
list_in None = []
list_in (Some b) = b.list

-- a class that an insertion joins has an \hbox
abbrev pub has_wrong_box : List ClassBox → List Item → List Class → Bool
has_wrong_box boxes above [] = false
has_wrong_box boxes above (class ∷ classes) =
    (is_among class.number above && is_hbox (box_of class.number boxes)) || has_wrong_box boxes above classes

-- the box of a class that insertions join: what it has already, and then what joins
abbrev pub as_box : ℕ → Result Packed PackError → Result (List ClassBox) PageError
as_box number (Err e) = Err (of_packing e)
as_box number (Ok packed) = Ok (record { class = number; node = packed.node } ∷ [])

abbrev pub filled : List ClassBox → List Item → Class → List Item
filled boxes above class = list_in (box_of class.number boxes) ++ joining_from class.number class.split 0 above

abbrev pub box_made : List ClassBox → List Item → Class → Result (List ClassBox) PageError
box_made boxes above class = if is_among class.number above then as_box class.number (packed_naturally (filled boxes above class)) else Ok []

-- and so of all classes in their order, behind those that were made already
abbrev pub behind_boxes : List ClassBox → (List ClassBox → Result (List ClassBox) PageError) → Result (List ClassBox) PageError → Result (List ClassBox) PageError
behind_boxes so_far next (Err e) = Err e
behind_boxes so_far next (Ok boxes) = next (so_far ++ boxes)

abbrev pub boxes_made : List ClassBox → List Item → List ClassBox → List Class → Result (List ClassBox) PageError
boxes_made boxes above so_far [] = Ok so_far
boxes_made boxes above so_far (class ∷ classes) = behind_boxes so_far (λ made. boxes_made boxes above made classes) (box_made boxes above class)

-- what remains of the insertion that was split is held over as one of its new size, if it is anything
abbrev pub rest_sized : InsertHead → List Item → Result ℤ PageError → Result (List Item) PageError
rest_sized head list (Err e) = Err e
rest_sized head list (Ok size) = Ok (insertion (record head { size = size }) (items_of list) ∷ [])

abbrev pub box_size : Packed → Result ℤ PageError
box_size packed = dimension (packed.node.head.height +ℤ packed.node.head.depth)

abbrev pub natural_size : Result Packed PackError → Result ℤ PageError
natural_size (Err e) = Err (of_packing e)
natural_size (Ok packed) = box_size packed

abbrev pub rest_packed : InsertHead → List Item → Result Packed PackError → Result (List Item) PageError
rest_packed head list packed = rest_sized head list (natural_size packed)

abbrev pub rest_with : InsertHead → List Item → Result (List Item) PageError
rest_with head list = if length list == 0 then Ok [] else rest_packed head list (packed_naturally list)

abbrev pub rest_by : InsertHead → Result (List Item) SplitError → Result (List Item) PageError
rest_by head (Err e) = Err (of_splitting e)
rest_by head (Ok list) = rest_with head list

abbrev pub rest_of : InsertHead → List Item → Result (List Item) PageError
rest_of head list = rest_by head (remains head.split_top_skip list)

-- what of an insertion is held over: the rest of the one that was split, and those of its class behind it
abbrev pub held_behind : Cut → ℕ → InsertHead → List Item → Item → Result (List Item) PageError
held_behind cut place head list item =
    if nat_lt place cut.insert then Ok []
    else if place == cut.insert then rest_of head (drop cut.place list)
    else Ok (item ∷ [])

abbrev pub held_by : Option Cut → ℕ → InsertHead → List Item → Item → Result (List Item) PageError
held_by None place head list item = Ok []
held_by (Some cut) place head list item = held_behind cut place head list item

abbrev pub held : List Class → ℕ → Item → Result (List Item) PageError
held classes place (plain p) = Ok []
held classes place (shared s) = Ok []
held classes place (boxed shift head inner) = Ok []
held classes place (discretionary head before behind) = Ok []
held classes place (adjustment inner) = Ok []
held classes place (insertion head inner) = held_by (cut_of (class_of head.class classes)) place head (list_from inner) (insertion head inner)
held classes place (box_leaders head repeated inner) = Ok []

-- and so of all items from a place of the page on, behind what is held already
abbrev pub behind_items : List Item → (List Item → Result (List Item) PageError) → Result (List Item) PageError → Result (List Item) PageError
behind_items so_far next (Err e) = Err e
behind_items so_far next (Ok items) = next (so_far ++ items)

abbrev pub held_from : List Class → ℕ → List Item → List Item → Result (List Item) PageError
held_from classes place so_far [] = Ok so_far
held_from classes place so_far (item ∷ rest) = behind_items so_far (λ items. held_from classes (suc place) items rest) (held classes place item)

-- what stays in the page's list: all but insertions
abbrev pub stays_on : Item → Bool
stays_on (plain p) = true
stays_on (shared s) = true
stays_on (boxed shift head inner) = true
stays_on (discretionary head before behind) = true
stays_on (adjustment inner) = true
stays_on (insertion head inner) = false
stays_on (box_leaders head repeated inner) = true

-- the page above its break: its list, what is held over, and the boxes of classes
abbrev pub sorted_with : List Item → List Item → Result (List ClassBox) PageError → Result Sorted PageError
sorted_with list held (Err e) = Err e
sorted_with list held (Ok boxes) = Ok (record { list = list; held = held; boxes = boxes })

abbrev pub sorted_by : List Item → List Class → List ClassBox → Result (List Item) PageError → Result Sorted PageError
sorted_by above classes boxes (Err e) = Err e
sorted_by above classes boxes (Ok held) = sorted_with (filter stays_on above) held (boxes_made boxes above [] classes)

abbrev pub sorted_out : List Item → List Class → List ClassBox → Result Sorted PageError
sorted_out above classes boxes =
    if has_wrong_box boxes above classes then Err WrongBox else sorted_by above classes boxes (held_from classes 0 [] above)

-- with \holdinginserts insertions stay where they are
abbrev pub sorted_as_is : List Item → Sorted
sorted_as_is above = record { list = above; held = []; boxes = [] }

abbrev pub sorted : List Item → List Class → PageParams → Result Sorted PageError
sorted above classes params = if int_lt (pos 0) params.holding_inserts then Ok (sorted_as_is above) else sorted_out above classes params.boxes

-- \outputpenalty: the penalty that is broken at, 10000 at all else
abbrev pub plain_penalty : Plain → ℤ
plain_penalty (Kern kind size) = pos 10000
plain_penalty (Glue g) = pos 10000
plain_penalty (Penalty n) = n
plain_penalty (Character c) = pos 10000

abbrev pub penalty_of : Item → ℤ
penalty_of (plain p) = plain_penalty p
penalty_of (shared s) = pos 10000
penalty_of (boxed shift head inner) = pos 10000
penalty_of (discretionary head before behind) = pos 10000
penalty_of (adjustment inner) = pos 10000
penalty_of (insertion head inner) = pos 10000
penalty_of (box_leaders head repeated inner) = pos 10000

abbrev pub output_penalty : List Item → ℤ
output_penalty [] = pos 10000
output_penalty (item ∷ rest) = penalty_of item

-- what was contributed from the break on, in which a penalty broken at becomes 10000, and the kern that waits
abbrev pub plain_spent : Plain → Plain
plain_spent (Kern kind size) = Kern kind size
plain_spent (Glue g) = Glue g
plain_spent (Penalty n) = Penalty (pos 10000)
plain_spent (Character c) = Character c

abbrev pub spent : Item → Item
spent (plain p) = plain (plain_spent p)
spent (shared s) = shared s
spent (boxed shift head inner) = boxed shift head inner
spent (discretionary head before behind) = discretionary head before behind
spent (adjustment inner) = adjustment inner
spent (insertion head inner) = insertion head inner
spent (box_leaders head repeated inner) = box_leaders head repeated inner

abbrev pub below : List Item → List Item
below [] = []
below (item ∷ rest) = spent item ∷ rest

abbrev pub waiting_items : Option KernOf → List Item
waiting_items None = []
waiting_items (Some kern) = kern_item kern ∷ []

-- a page that was fired
abbrev pub told : Page → Break → Sorted → ℤ → Option (List Token) × Option (List Token) → ℤ → List Item → FiredPage
told page made s penalties marks penalty rest = record {
  list = s.list;
  goal = made.size;
  maxdepth = page.measures.most;
  penalty = penalty;
  held = s.held;
  rest = rest;
  boxes = s.boxes;
  insert_penalties = penalties;
  first = marks.0;
  last = marks.1;
}

abbrev pub fired_as : Page → Break → Sorted → ℤ → FiredPage
fired_as page made s penalties =
    told page made s penalties (first_mark s.list, last_mark s.list) (output_penalty (drop made.place page.nodes))
    (below (drop made.place page.nodes) ++ waiting_items page.waiting)

-- \insertpenalties counts what is held over, which has to be an integer
abbrev pub held_count : List Item → Result ℤ PageError
held_count held = if nat_lt (length held) (2 ^ 31) then Ok (pos (length held)) else Err SizeOutOfRange

abbrev pub fired_by : Page → Break → Sorted → Result ℤ PageError → Result FiredPage PageError
fired_by page made s (Err e) = Err e
fired_by page made s (Ok penalties) = Ok (fired_as page made s penalties)

abbrev pub fired_with : Page → Break → Result Sorted PageError → Result FiredPage PageError
fired_with page made (Err e) = Err e
fired_with page made (Ok s) = fired_by page made s (held_count s.held)

abbrev pub fired_at : Page → Break → PageParams → Result FiredPage PageError
fired_at page made params = fired_with page made (sorted (take made.place page.nodes) page.classes params)

unfoldable pub fired : Page → PageParams → Result FiredPage PageError
fired page params = fired_at page (unwrap_or page.measures.best no_break) params

-- what is left of a page's measures until its \output ends: neither depth nor \maxdepth (section 991)
abbrev pub measures_left : Measures → ℤ → Measures
measures_left m penalties = record (first_measures penalties) { contents = Fired; goal = m.goal; sums = record m.sums { depth = pos 0 } }

abbrev pub page_left : Page → ℤ → Page
page_left page penalties = record { nodes = []; waiting = None; classes = []; measures = measures_left page.measures penalties }
