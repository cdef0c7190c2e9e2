-- Assignments, as items at the front of a list (The TeXbook, chapter 24; TeX: The Program, part 49).
use Rattle.std.specs.Prelude.{ℕ, ℤ, Bool, true, false, codes, List, [], ◌∷◌, ◌||◌, Option, Some, None, if◌then◌else◌}
use Rattle.tx_char.specs.Character.{character}
use Rattle.tx_prim.specs.declared.family.Numbered.{Numbered}
use Rattle.tx_prim.specs.declared.family.Operation.{Operation}
use Rattle.tx_seen.specs.declared.place.Place.{Place}
use Rattle.tx_seen.specs.declared.error.TexError.TheVariants.{MissingNumber, MissingName, MissingBeginGroup, NumberOutOfRange, NoAssignment}
use Rattle.tx_seen.specs.declared.fed.Want.TheVariants.{Raw, Expanded}
use Rattle.tx_seen.specs.declared.item.Item.{Item}
use Rattle.tx_seen.specs.declared.item.Item.TheVariants.{Took, Gave}
use Rattle.tx_seen.specs.declared.seen.Seen.{Seen}
use Rattle.tx_num.specs.Glue.{GlueSpec}
use Rattle.tx_scan.specs.Glues.{glue}
use Rattle.tx_seen.specs.Places.{is_muglue, place_of}
use Rattle.tx_seen.specs.Seen.{is_begin_group, is_space, is_relax, is_other, is_key}
use Rattle.tx_seen.specs.Readings.{Reading, More, Done, Wrong, next}
use Rattle.tx_scan.specs.Integers.{integer, byte_of, expanded}
use Rattle.tx_scan.specs.Dimensions.{dimension, lengths}
use Rattle.tx_scan.specs.declared.scans.Measure.{Measure}
use Rattle.tx_scan.specs.Grammars.{equals, name}
use Rattle.tx_scan.specs.Keywords.{keyword}
use Rattle.tx_scan.specs.Lists.{list_begun}
use Rattle.tx_scan.specs.declared.scans.ListBegun.{ListBegun}
use Rattle.tx_scan.specs.declared.scans.ListBegun.TheVariants as list
use Rattle.tx_eqtb.specs.declared.entry.Entry.TheVariants.{Means}
use Rattle.tx_assign.specs.declared.types.Assigning.{Assigning}
use Rattle.tx_assign.specs.declared.types.Assigning.TheVariants as assigning
use Rattle.tx_assign.specs.declared.types.Assignment.{Assignment}
use Rattle.tx_assign.specs.declared.types.Change.TheVariants as change
use Rattle.tx_assign.specs.declared.types.Purpose.{Purpose}
use Rattle.tx_assign.specs.declared.types.Purpose.TheVariants.{Set, Define, Compute, Copy}
use Rattle.tx_assign.specs.declared.types.Variable.{Variable}
use Rattle.tx_assign.specs.declared.types.Variable.TheVariants.{Numbered as Left_numbered, Standing as Left_standing}
use Rattle.tx_assign.specs.Beginnings.{variable_of, is_changeable}
use Rattle.tx_assign.specs.Targets.{takes_glue, takes_list, takes_size, purpose_bounds, is_within, change_by, change_by_glue, change_by_size}

-- glue, a size, and a number that is within the range of its purpose
abbrev pub elastic : Purpose → Place → GlueSpec → List Item → Reading Assignment
elastic purpose place g rest = Done (record { place = place; change = change_by_glue purpose g }) rest

abbrev pub sized : Purpose → Place → Measure → List Item → Reading Assignment
sized purpose place measure rest = Done (record { place = place; change = change_by_size purpose measure.size }) rest

abbrev pub valued : Purpose → Place → ℤ → List Item → Reading Assignment
valued purpose place n rest =
    if is_within (purpose_bounds purpose place) n then Done (record { place = place; change = change_by purpose place n }) rest
    else Wrong NumberOutOfRange

-- a list of tokens: the one that a token stands for, or a text, which begins with a begin-group token (section 1227)
abbrev pub listed : Place → ListBegun → Seen → List Item → Reading Assignment
listed place (list.At other) t rest = Done (record { place = place; change = change.Copy other }) rest
listed place list.Register t rest = next (integer rest) (valued Copy place)
listed place list.Nothing t rest =
    if is_begin_group t then Done (record { place = place; change = change.Text }) rest else Wrong MissingBeginGroup

-- with spaces and \relax before it (section 1226)
abbrev pub list_value : Place → List Item → Reading Assignment
list_value place [] = More Expanded
list_value place (Gave v ∷ rest) = Wrong MissingNumber
list_value place (Took t ∷ rest) =
    expanded t (if is_space t || is_relax t then list_value place rest else listed place (list_begun t.meaning) t rest)

-- a number, a size, or glue, in mu where that stands there
abbrev pub number_value : Purpose → Place → List Item → Reading Assignment
number_value purpose place items =
    if takes_glue purpose place then next (glue (is_muglue place) items) (elastic purpose place)
    else if takes_size purpose place then next (dimension lengths items) (sized purpose place) else next (integer items) (valued purpose place)

-- the value
abbrev pub value : Purpose → Place → List Item → Reading Assignment
value purpose place items = if takes_list purpose place then list_value place items else number_value purpose place items

-- an optional `=` and the value
abbrev pub given : Purpose → Place → List Item → Reading Assignment
given purpose place items = next (equals items) (λ _ rest. value purpose place rest)

-- whether a token comes first that begins `by`
abbrev pub begins_by : List Item → Bool
begins_by [] = false
begins_by (Gave v ∷ rest) = false
begins_by (Took t ∷ rest) = is_key (character "b") t

-- the value, behind `by` or where that isn't there; no value begins with a b
abbrev pub operand : Operation → Place → Bool → List Item → Reading Assignment
operand operation place true rest = value (Compute operation) place rest
operand operation place false rest = if begins_by rest then Wrong MissingNumber else value (Compute operation) place rest

-- an optional `by`, with spaces before it, and the value
abbrev pub changed : Operation → Place → List Item → Reading Assignment
changed operation place items = next (keyword (codes "by") items) (operand operation place)

-- what stands behind a left side: an operation's operand, or the value
abbrev pub behind_place : Option Operation → Place → List Item → Reading Assignment
behind_place None place rest = given Set place rest
behind_place (Some operation) place rest = changed operation place rest

-- the number of a left side that has one
abbrev pub behind_byte : Option Operation → Numbered → Option ℕ → List Item → Reading Assignment
behind_byte operation kind None rest = Wrong NumberOutOfRange
behind_byte operation kind (Some n) rest = behind_place operation (place_of kind n) rest

abbrev pub behind_number : Option Operation → Numbered → ℤ → List Item → Reading Assignment
behind_number operation kind n rest = behind_byte operation kind (byte_of n) rest

abbrev pub left_side : Option Operation → Variable → List Item → Reading Assignment
left_side operation (Left_standing place) rest = behind_place operation place rest
left_side operation (Left_numbered kind) rest = next (integer rest) (behind_number operation kind)

-- what \advance and its kin change
abbrev pub operand_of : Operation → Option Variable → List Item → Reading Assignment
operand_of operation None rest = Wrong NoAssignment
operand_of operation (Some side) rest = if is_changeable side then left_side (Some operation) side rest else Wrong NoAssignment

abbrev pub arithmetic : Operation → List Item → Reading Assignment
arithmetic operation [] = More Expanded
arithmetic operation (Gave v ∷ rest) = Wrong NoAssignment
arithmetic operation (Took t ∷ rest) = expanded t (operand_of operation (variable_of t.meaning) rest)

-- \let: a name is to mean what a token means
abbrev pub let_to : Place → Seen → Assignment
let_to place t = record { place = place; change = change.Set (Means t.meaning) }

abbrev pub let_token : Place → List Item → Reading Assignment
let_token place [] = More Raw
let_token place (Gave v ∷ rest) = Wrong MissingName
let_token place (Took t ∷ rest) = Done (let_to place t) rest

-- behind the `=` one space is skipped
abbrev pub let_behind_equals : Place → List Item → Reading Assignment
let_behind_equals place [] = More Raw
let_behind_equals place (Gave v ∷ rest) = Wrong MissingName
let_behind_equals place (Took t ∷ rest) = if is_space t then let_token place rest else Done (let_to place t) rest

-- behind the name spaces are skipped, and there may be an `=`
abbrev pub let_behind_name : Place → List Item → Reading Assignment
let_behind_name place [] = More Raw
let_behind_name place (Gave v ∷ rest) = Wrong MissingName
let_behind_name place (Took t ∷ rest) =
    if is_space t then let_behind_name place rest
    else if is_other (character "=") t then let_behind_equals place rest
    else Done (let_to place t) rest

-- the assignment behind its command, and behind the name that \chardef and its kin define
abbrev pub assignment : Assigning → List Item → Reading Assignment
assignment assigning.Let rest = next (name rest) let_behind_name
assignment (assigning.Arithmetic operation) rest = arithmetic operation rest
assignment (assigning.Variable side) rest = left_side None side rest
assignment (assigning.Named place kind) rest = given (Define kind) place rest
