-- Boxes that formulas are made of (TeX: The Program, sections 136, 704, 705, 715, 720 and 721).
use Rattle.std.specs.Prelude.{ℕ, suc, ◌^◌, ◌-◌, ◌==◌, ◌&&◌, ◌||◌, nat_le, Bool, true, false, ℤ, pos, ◌-ℤ◌, List, [], ◌∷◌, ◌++◌, length, take, Option, Some, None, Result, Ok, Err, if◌then◌else◌}
use Rattle.tx_num.specs.Glue.{GlueSpec, glue_of}
use Rattle.tx_node.specs.declared.head.BoxHead.{BoxHead}
use Rattle.tx_node.specs.declared.head.Direction.{Direction}
use Rattle.tx_node.specs.declared.head.Direction.TheVariants.{Horizontal, Vertical}
use Rattle.tx_node.specs.declared.head.Setting.TheVariants as setting
use Rattle.tx_node.specs.declared.plain.KernKind.TheVariants.{Implicit}
use Rattle.tx_node.specs.declared.plain.Plain.{Plain}
use Rattle.tx_node.specs.declared.plain.Plain.TheVariants.{Kern, Glue, Penalty, Character}
use Rattle.tx_node.specs.declared.plain.Shared.TheVariants.{Rule}
use Rattle.tx_node.specs.Counts.{nesting_of}
use Rattle.tx_node.specs.Items.{Item, plain, shared, boxed, discretionary, adjustment, insertion, box_leaders, Items, none, more, PackedBox, items_of, box_item}
use Rattle.tx_pack.specs.declared.types.Goal.TheVariants.{Natural, To}
use Rattle.tx_pack.specs.declared.types.Packed.{Packed}
use Rattle.tx_pack.specs.declared.types.PackError.{PackError}
use Rattle.tx_pack.specs.declared.types.PackError.TheVariants as packing
use Rattle.tx_pack.specs.Packing.{hpacked, vpacked}
use Rattle.tx_pack.specs.Stretching.{is_nothing}
use Rattle.tx_num.specs.Limits.{fits}
use Rattle.tx_delim.specs.declared.error.DelimError.{DelimError}
use Rattle.tx_delim.specs.declared.error.DelimError.TheVariants as drawing
use Rattle.tx_math.specs.declared.error.MathError.{MathError}
use Rattle.tx_math.specs.declared.error.MathError.TheVariants.{SizeOutOfRange, TooDeep, OutOfMemory}
use Rattle.tx_math.specs.Outcomes.{Telling, checked, passed, and_then}
use Rattle.tx_math.specs.Parameters.{Math}

-- a size that is stored has to be a dimension
abbrev pub stored : ℤ → Result ℤ MathError
stored size = if fits size then Ok size else Err SizeOutOfRange

-- a kern, and a line of a fraction, which is so thick and as wide as its box (section 704)
abbrev pub kern : ℤ → Item
kern size = plain (Kern Implicit size)

abbrev pub line : ℤ → Item
line thickness = shared (Rule (record { width = None; height = Some thickness; depth = Some (pos 0) }))

-- what errors of packing are to a formula
abbrev pub of_packing : PackError → MathError
of_packing packing.SizeOutOfRange = SizeOutOfRange
of_packing packing.TooDeep = TooDeep
of_packing packing.OutOfMemory = OutOfMemory

-- and those of drawing delimiters
abbrev pub of_drawing : DelimError → MathError
of_drawing drawing.SizeOutOfRange = SizeOutOfRange
of_drawing drawing.TooDeep = TooDeep
of_drawing drawing.OutOfMemory = OutOfMemory

abbrev pub drawn : Result PackedBox DelimError → Result PackedBox MathError
drawn (Err e) = Err (of_drawing e)
drawn (Ok b) = Ok b

-- a box of natural size, of which nothing is ever reported
abbrev pub unreported : Result Packed PackError → Result PackedBox MathError
unreported (Err e) = Err (of_packing e)
unreported (Ok made) = Ok made.node

abbrev pub hbox : Math → List Item → Result PackedBox MathError
hbox m list = unreported (hpacked list Natural m.params.packing)

abbrev pub vbox : Math → List Item → Result PackedBox MathError
vbox m list = unreported (vpacked list Natural (pos (2 ^ 30 - 1)) m.params.packing)

-- a box that is set to a size, of which something may be reported
abbrev pub reported : Result Packed PackError → List ℕ → Result (PackedBox × List ℕ) MathError
reported (Err e) told = Err (of_packing e)
reported (Ok made) told = Ok (made.node, told ++ made.report)

-- a vertical box whose sizes aren't those that its list asks for (sections 747 and 750)
abbrev pub vertical_head : ℤ → ℤ → ℤ → BoxHead
vertical_head width height depth = record { direction = Vertical; width = width; height = height; depth = depth; setting = setting.Natural }

unfoldable pub framed : ℤ → ℤ → ℤ → List Item → Result PackedBox MathError
framed width height depth list =
    if fits width && (fits height && fits depth)
    then (if nat_le (suc (nesting_of (items_of list))) 500 then Ok (record { head = vertical_head width height depth; list = list }) else Err TooDeep)
    else Err SizeOutOfRange

-- a box with other sizes
abbrev pub with_width : PackedBox → ℤ → Result PackedBox MathError
with_width b width = passed (stored width) (λ w. Ok (record b { head = record b.head { width = w } }))

abbrev pub with_height : PackedBox → ℤ → ℤ → Result PackedBox MathError
with_height b height depth =
    passed (stored height) (λ h. passed (stored depth) (λ d. Ok (record b { head = record b.head { height = h; depth = d } })))

-- a box in a list, shifted by so much
unfoldable pub shifted : ℤ → PackedBox → Result Item MathError
shifted shift b = passed (stored shift) (λ s. Ok (box_item s b))

-- the items of a box, as a list
abbrev pub list_from : Items → List Item
list_from none = []
list_from (more item rest) = item ∷ list_from rest

-- the box that a list is, if it is one and isn't shifted
abbrev pub unshifted : Item → Option PackedBox
unshifted (plain p) = None
unshifted (shared s) = None
unshifted (boxed shift head inner) = if is_nothing shift then Some (record { head = head; list = list_from inner }) else None
unshifted (discretionary head before behind) = None
unshifted (adjustment inner) = None
unshifted (insertion head inner) = None
unshifted (box_leaders head repeated inner) = None

abbrev pub lone_box : List Item → Option PackedBox
lone_box [] = None
lone_box (item ∷ []) = unshifted item
lone_box (item ∷ next ∷ rest) = None

-- a box that is there, or another one
abbrev pub box_or : Option PackedBox → Result PackedBox MathError → Result PackedBox MathError
box_or None other = other
box_or (Some b) other = Ok b

-- whether an item is a character, and whether it is a kern
abbrev pub plain_is_character : Plain → Bool
plain_is_character (Kern kind size) = false
plain_is_character (Glue g) = false
plain_is_character (Penalty n) = false
plain_is_character (Character c) = true

abbrev pub plain_is_kern : Plain → Bool
plain_is_kern (Kern kind size) = true
plain_is_kern (Glue g) = false
plain_is_kern (Penalty n) = false
plain_is_kern (Character c) = false

abbrev pub is_plain : (Plain → Bool) → Item → Bool
is_plain test (plain p) = test p
is_plain test (shared s) = false
is_plain test (boxed shift head inner) = false
is_plain test (discretionary head before behind) = false
is_plain test (adjustment inner) = false
is_plain test (insertion head inner) = false
is_plain test (box_leaders head repeated inner) = false

-- a character and a kern behind it, which is its italic correction, lose the kern; their box keeps its width (section 721)
abbrev pub is_corrected : List Item → Bool
is_corrected [] = false
is_corrected (first ∷ []) = false
is_corrected (first ∷ second ∷ []) = is_plain plain_is_character first && is_plain plain_is_kern second
is_corrected (first ∷ second ∷ third ∷ rest) = false

abbrev pub without_kern : List Item → List Item
without_kern list = if is_corrected list then take 1 list else list

-- the box of a list that has been set: the list's own, if it is one box that isn't shifted (section 720)
unfoldable pub cleaned_list : Math → List Item → Result PackedBox MathError
cleaned_list m list = passed (box_or (lone_box list) (hbox m list)) (λ b. Ok (record b { list = without_kern b.list }))

-- \hss (section 162)
abbrev pub ss_glue : GlueSpec
ss_glue = glue_of (pos 0) (pos 65536) 1 (pos 65536) 1

-- the width of the only item of a list, if it is a character
abbrev pub plain_width : Plain → Option ℤ
plain_width (Kern kind size) = None
plain_width (Glue g) = None
plain_width (Penalty n) = None
plain_width (Character c) = Some c.width

abbrev pub item_character_width : Item → Option ℤ
item_character_width (plain p) = plain_width p
item_character_width (shared s) = None
item_character_width (boxed shift head inner) = None
item_character_width (discretionary head before behind) = None
item_character_width (adjustment inner) = None
item_character_width (insertion head inner) = None
item_character_width (box_leaders head repeated inner) = None

abbrev pub lone_character_width : List Item → Option ℤ
lone_character_width [] = None
lone_character_width (item ∷ []) = item_character_width item
lone_character_width (item ∷ next ∷ rest) = None

-- where a box has one character alone, the kern that it lost stands behind that again
abbrev pub kern_behind : ℤ → Result (List Item) MathError
kern_behind size = if is_nothing size then Ok [] else passed (stored size) (λ s. Ok (kern s ∷ []))

abbrev pub lost_kern : ℤ → Option ℤ → Result (List Item) MathError
lost_kern width None = Ok []
lost_kern width (Some own) = kern_behind (width -ℤ own)

-- a list with more behind it
abbrev pub with_more : List Item → Result (List Item) MathError → Result (List Item) MathError
with_more list behind = passed behind (λ added. Ok (list ++ added))

-- what is centred of a box: a vertical one as it is, the list of a horizontal one
abbrev pub horizontal_list : PackedBox → Result (List Item) MathError
horizontal_list b = with_more b.list (lost_kern b.head.width (lone_character_width b.list))

abbrev pub centred_by : Direction → PackedBox → Result (List Item) MathError
centred_by Horizontal b = horizontal_list b
centred_by Vertical b = Ok (box_item (pos 0) b ∷ [])

unfoldable pub centred : PackedBox → Result (List Item) MathError
centred b = passed (centred_by b.head.direction b) (λ list. Ok (plain (Glue ss_glue) ∷ list ++ plain (Glue ss_glue) ∷ []))

-- a list in a horizontal box of this width, which has to be a dimension
unfoldable pub set_to : Math → ℤ → List Item → Telling PackedBox
set_to m width list = and_then (checked (stored width)) (λ w. reported (hpacked list (To w) m.params.packing))

-- a box of this width, in which what was in it is centred; a box that is so wide, or is empty, stays (section 715)
abbrev pub keeps_list : ℤ → PackedBox → Bool
keeps_list width b = is_nothing (b.head.width -ℤ width) || (length b.list == 0)

unfoldable pub centred_to : Math → ℤ → PackedBox → Telling PackedBox
centred_to m width b = and_then (checked (centred b)) (set_to m width)

unfoldable pub reboxed : Math → ℤ → PackedBox → Telling PackedBox
reboxed m width b = if keeps_list width b then checked (with_width b width) else centred_to m width b
