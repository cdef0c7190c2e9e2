-- Insertions on a page (TeX: The Program, sections 981 and 1008 to 1010).
use Rattle.std.specs.Prelude.{ℕ, suc, ◌==◌, Bool, ◌&&◌, ◌||◌, nat_lt, ◌-◌, ◌^◌, ℤ, pos, neg_ℤ, ◌+ℤ◌, ◌-ℤ◌, ◌*ℤ◌, int_le, int_div, unsigned_abs, List, [], ◌∷◌, ◌++◌, length, slice_get, slice_set, Option, Some, None, unwrap_or, Result, Ok, Err, if◌then◌else◌}
use Rattle.std.specs.Int.{int_min}
use Rattle.std.specs.Ordering.{int_eq}
use Rattle.tx_num.specs.Glue.{GlueSpec}
use Rattle.tx_node.specs.declared.head.InsertHead.{InsertHead}
use Rattle.tx_node.specs.declared.plain.Plain.{Plain}
use Rattle.tx_node.specs.declared.plain.Plain.TheVariants.{Kern, Glue, Penalty, Character}
use Rattle.tx_node.specs.Items.{Item, plain, shared, boxed, discretionary, adjustment, insertion, box_leaders}
use Rattle.tx_insert.specs.declared.error.SplitError.{SplitError}
use Rattle.tx_insert.specs.declared.kind.Kind.TheVariants.{Skip}
use Rattle.tx_insert.specs.declared.sums.Sums.{Sums}
use Rattle.tx_insert.specs.declared.trial.Break.{Break}
use Rattle.tx_insert.specs.Kinds.{shrinks_endlessly}
use Rattle.tx_insert.specs.Sums.{glue_fits, with_elastic}
use Rattle.tx_insert.specs.Breaks.{break_of}
use Rattle.tx_pagebuilder.specs.declared.class.Class.{Class}
use Rattle.tx_pagebuilder.specs.declared.class.Cut.{Cut}
use Rattle.tx_pagebuilder.specs.declared.error.PageError.{PageError}
use Rattle.tx_pagebuilder.specs.declared.error.PageError.TheVariants.{SizeOutOfRange, EndlessShrink, WrongBox}
use Rattle.tx_pagebuilder.specs.declared.inserted.Inserted.{Inserted}
use Rattle.tx_pagebuilder.specs.declared.measures.Measures.{Measures}
use Rattle.tx_pagebuilder.specs.declared.params.ClassParams.{ClassParams}
use Rattle.tx_pagebuilder.specs.Placing.{dimension, of_splitting}

-- where a class stands among others, by its number; their count where it doesn't
abbrev pub place_of : ℕ → List Class → ℕ
place_of number [] = 0
place_of number (class ∷ classes) = if class.number == number then 0 else suc (place_of number classes)

abbrev pub class_of : ℕ → List Class → Option Class
class_of number classes = slice_get classes (place_of number classes)

-- the classes of a page with what a class now is
abbrev pub with_class : Class → List Class → List Class
with_class class classes =
    if nat_lt (place_of class.number classes) (length classes) then slice_set classes (place_of class.number classes) class
    else classes ++ class ∷ []

-- by how much a size in the box of a class makes the page's goal fall: a thousandth of it, \count times
abbrev pub scaled : ℤ → ℤ → ℤ
scaled count size = if int_eq count (pos 1000) then size else int_div size (pos 1000) *ℤ count

-- the goal falls by so much
abbrev pub with_goal : Measures → Result ℤ PageError → Result Measures PageError
with_goal m (Err e) = Err e
with_goal m (Ok goal) = Ok (record m { goal = goal })

abbrev pub lowered : Measures → ℤ → Result Measures PageError
lowered m size = with_goal m (dimension (m.goal -ℤ size))

-- \insertpenalties grows by so much
abbrev pub integer : ℤ → Result ℤ PageError
integer number = if nat_lt (unsigned_abs number) (2 ^ 31) then Ok number else Err SizeOutOfRange

abbrev pub with_penalties : Measures → Result ℤ PageError → Result Measures PageError
with_penalties m (Err e) = Err e
with_penalties m (Ok penalties) = Ok (record m { insert_penalties = penalties })

abbrev pub penalized : Measures → ℤ → Result Measures PageError
penalized m penalty = with_penalties m (integer (m.insert_penalties +ℤ penalty))

-- a class with so much in its box
abbrev pub class_with : ℕ → ℤ → Option Cut → Class
class_with number size split = record { number = number; size = size; split = split }

abbrev pub inserted : Class → Result Measures PageError → Result Inserted PageError
inserted class (Err e) = Err e
inserted class (Ok m) = Ok (record { measures = m; class = class })

-- \skip's stretch and shrink join the page's
abbrev pub with_skip : Sums → GlueSpec → Sums
with_skip sums g = with_elastic sums g

abbrev pub skipped : Measures → GlueSpec → Result Measures PageError
skipped m g =
    if shrinks_endlessly (Skip g) then Err EndlessShrink
    else if glue_fits (with_skip m.sums g) then Ok (record m { sums = with_skip m.sums g })
    else Err SizeOutOfRange

-- the first insertion of a class: what the box of the class has, and \skip, make the goal fall
abbrev pub opened_with : Measures → ℕ → ClassParams → Result ℤ PageError → Result Inserted PageError
opened_with m number params (Err e) = Err e
opened_with m number params (Ok size) = inserted (class_with number size None) (lowered m (scaled params.count size +ℤ params.skip.width))

abbrev pub opened_by : ℕ → ClassParams → Result Measures PageError → Result Inserted PageError
opened_by number params (Err e) = Err e
opened_by number params (Ok m) = opened_with m number params (dimension (unwrap_or params.box_size (pos 0)))

abbrev pub opened : Measures → ℕ → ClassParams → Result Inserted PageError
opened m number params = if params.is_hbox then Err WrongBox else opened_by number params (skipped m params.skip)

-- how much is left of the goal, and how much if all glue shrinks
abbrev pub free : Measures → ℤ
free m = m.goal -ℤ m.sums.height -ℤ m.sums.depth

abbrev pub has_room : Measures → ℤ → Bool
has_room m size = int_le size (pos 0) || int_le size (free m +ℤ m.sums.shrink)

-- an insertion of this size fits
abbrev pub fits_in : Measures → Class → ℤ → ClassParams → Bool
fits_in m class size params = has_room m (scaled params.count size) && int_le (size +ℤ class.size) params.dimen

-- it joins its class as a whole
abbrev pub whole_with : Measures → Class → ℤ → ClassParams → Result ℤ PageError → Result Inserted PageError
whole_with m class size params (Err e) = Err e
whole_with m class size params (Ok sum) = inserted (record class { size = sum }) (lowered m (scaled params.count size))

abbrev pub whole : Measures → Class → ℤ → ClassParams → Result Inserted PageError
whole m class size params = whole_with m class size params (dimension (class.size +ℤ size))

-- how high the part of it may be that joins
abbrev pub open_size : Measures → ClassParams → ℤ
open_size m params =
    if int_le params.count (pos 0) then pos (2 ^ 30 - 1)
    else if int_eq params.count (pos 1000) then free m
    else int_div (free m) params.count *ℤ pos 1000

abbrev pub split_size : Measures → Class → ClassParams → ℤ
split_size m class params = int_min (open_size m params) (params.dimen -ℤ class.size)

-- what is broken at costs: a forced break at the end, a penalty as much as it is, all else nothing
abbrev pub plain_price : Plain → ℤ
plain_price (Kern kind size) = pos 0
plain_price (Glue g) = pos 0
plain_price (Penalty n) = n
plain_price (Character c) = pos 0

abbrev pub item_price : Item → ℤ
item_price (plain p) = plain_price p
item_price (shared s) = pos 0
item_price (boxed shift head inner) = pos 0
item_price (discretionary head before behind) = pos 0
item_price (adjustment inner) = pos 0
item_price (insertion head inner) = pos 0
item_price (box_leaders head repeated inner) = pos 0

abbrev pub price_at : Option Item → ℤ
price_at None = neg_ℤ (pos 10000)
price_at (Some item) = item_price item

abbrev pub price_in : List Item → ℕ → ℤ
price_in list place = price_at (slice_get list place)

-- its list is broken, and the part before the break joins; the class is split
abbrev pub cut_penalized : Class → ℤ → Result Measures PageError → Result Inserted PageError
cut_penalized class price (Err e) = Err e
cut_penalized class price (Ok m) = inserted class (penalized m price)

abbrev pub cut_with : Measures → Class → Break → ℕ → ℤ → ClassParams → Result ℤ PageError → Result Inserted PageError
cut_with m class made place price params (Err e) = Err e
cut_with m class made place price params (Ok sum) =
    cut_penalized (class_with class.number sum (Some (record { insert = place; place = made.place }))) price
    (lowered m (scaled params.count made.size))

abbrev pub cut_at : Measures → Class → ℕ → List Item → ClassParams → Result Break SplitError → Result Inserted PageError
cut_at m class place list params (Err e) = Err (of_splitting e)
cut_at m class place list params (Ok made) =
    cut_with m class made place (price_in list made.place) params (dimension (class.size +ℤ made.size))

abbrev pub cut_by : Measures → Class → ℕ → List Item → ClassParams → Result ℤ PageError → Result ℤ PageError → Result Inserted PageError
cut_by m class place list params (Err e) most = Err e
cut_by m class place list params (Ok goal) (Err e) = Err e
cut_by m class place list params (Ok goal) (Ok most) = cut_at m class place list params (break_of list goal most)

abbrev pub cut : Measures → Class → ℕ → InsertHead → List Item → ClassParams → Result Inserted PageError
cut m class place head list params = cut_by m class place list params (dimension (split_size m class params)) (dimension head.split_max_depth)

-- an insertion of a class that wasn't split, at a place of the page
abbrev pub unsplit : Measures → Class → ℕ → InsertHead → List Item → ClassParams → Result Inserted PageError
unsplit m class place head list params =
    if fits_in m class head.size params then whole m class head.size params else cut m class place head list params

-- one of a class that was split floats to another page
abbrev pub counted_by : Measures → Class → ℕ → InsertHead → List Item → ClassParams → Option Cut → Result Inserted PageError
counted_by m class place head list params None = unsplit m class place head list params
counted_by m class place head list params (Some c) = inserted class (penalized m head.floating_penalty)

abbrev pub counted : Measures → Class → ℕ → InsertHead → List Item → ClassParams → Result Inserted PageError
counted m class place head list params = counted_by m class place head list params class.split

-- an insertion, whose class may be on the page or not
abbrev pub counted_in : ℕ → InsertHead → List Item → ClassParams → Result Inserted PageError → Result Inserted PageError
counted_in place head list params (Err e) = Err e
counted_in place head list params (Ok i) = counted i.measures i.class place head list params

abbrev pub class_on : Measures → ℕ → ClassParams → Option Class → Result Inserted PageError
class_on m number params None = opened m number params
class_on m number params (Some class) = inserted class (Ok m)

unfoldable pub taken_in : Measures → List Class → ℕ → InsertHead → List Item → ClassParams → Result Inserted PageError
taken_in m classes place head list params = counted_in place head list params (class_on m head.class params (class_of head.class classes))
