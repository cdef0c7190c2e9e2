-- How an assignment is carried out on the table (TeX: The Program, sections 1211 to 1218 and 1236 to 1240).
use Rattle.std.specs.Prelude.{◌≡◌, ℤ, pos, zero, ◌+ℤ◌, ◌*ℤ◌, int_div, int_lt, unsigned_abs, List, [], ◌∷◌, ◌++◌, ◌&&◌, ◌||◌, Bool, true, false, nat_le, Result, Ok, Err, if◌then◌else◌}
use Rattle.tx_char.specs.Character.{character}
use Rattle.tx_char.specs.declared.category.Cat.TheVariants.{BeginGroup, EndGroup}
use Rattle.tx_char.specs.declared.tokens.Token.{Token}
use Rattle.tx_char.specs.declared.tokens.Token.TheVariants.{Character}
use Rattle.tx_num.specs.Limits.{limit}
use Rattle.tx_num.specs.declared.limits.Range.{Range}
use Rattle.tx_num.specs.declared.limits.Range.TheVariants.{Integer as Range_integer, Dimen as Range_dimen}
use Rattle.tx_prim.specs.declared.integer.IntegerParameter.TheVariants.{Globaldefs}
use Rattle.tx_prim.specs.declared.tokens.TokenParameter.TheVariants.{Output}
use Rattle.tx_eqtb.specs.declared.entry.Entry.{Entry}
use Rattle.tx_eqtb.specs.declared.entry.Entry.TheVariants.{Means, Number, Glue, Tokens}
use Rattle.tx_eqtb.specs.declared.eqtb.Eqtb.{Eqtb}
use Rattle.tx_seen.specs.declared.place.Place.{Place}
use Rattle.tx_seen.specs.declared.place.Place.TheVariants.{Integer}
use Rattle.tx_seen.specs.declared.place.Place.TheVariants as place
use Rattle.tx_eqtb.specs.declared.table.Table.{Table}
use Rattle.tx_eqtb.specs.Table.{glue_at, number_at, tokens_at}
use Rattle.tx_eqtb.specs.Stack.{assigned_by, replaced}
use Rattle.tx_seen.specs.declared.error.TexError.{TexError}
use Rattle.tx_seen.specs.declared.error.TexError.TheVariants.{ArithmeticOverflow, MissingBeginGroup}
use Rattle.tx_assign.specs.declared.types.Assignment.{Assignment}
use Rattle.tx_assign.specs.declared.types.Carried.{Carried}
use Rattle.tx_assign.specs.declared.types.Carried.TheVariants.{Done as Carried_done, Refused}
use Rattle.tx_assign.specs.declared.types.Change.{Change}
use Rattle.tx_assign.specs.declared.types.Change.TheVariants.{Set, Compute, Add, Copy, Text}
use Rattle.tx_prim.specs.declared.family.Operation.{Operation}
use Rattle.tx_prim.specs.declared.family.Operation.TheVariants.{Advance, Multiply, Divide}
use Rattle.tx_prim.specs.declared.primitive.Primitive.TheVariants.{Relax}
use Rattle.tx_seen.specs.declared.meaning.Meaning.TheVariants.{Command}
use Rattle.tx_num.specs.Glue.{GlueSpec, glue_of, glue_sum}
use Rattle.tx_seen.specs.Places.{is_glue, is_muglue, is_size}

-- an assignment is global as its prefix says, unless \globaldefs isn't 0: then all are where it is positive, and none is
-- where it is negative
abbrev pub is_global : ℤ → Bool → Bool
is_global globaldefs prefixed = if int_lt (pos 0) globaldefs then true else if int_lt globaldefs (pos 0) then false else prefixed

-- sizes reach up to 2^30-1, other numbers up to 2^31-1
abbrev pub range_of : Place → Range
range_of place = if is_size place then Range_dimen else Range_integer

-- a result, if it is within the range
abbrev pub computed : Range → ℤ → Result ℤ TexError
computed range n = if nat_le (unsigned_abs n) (limit range) then Ok n else Err ArithmeticOverflow

-- a quotient is cut off towards 0
abbrev pub quotient : Range → ℤ → ℤ → Result ℤ TexError
quotient range n (pos zero) = Err ArithmeticOverflow
quotient range n d = computed range (int_div n d)

abbrev pub result : Operation → Range → ℤ → ℤ → Result ℤ TexError
result Advance range n m = computed range (n +ℤ m)
result Multiply range n m = computed range (n *ℤ m)
result Divide range n m = quotient range n m

-- a number as it stands at a place, and glue, if there is one
abbrev pub number_entry : Result ℤ TexError → Result Entry TexError
number_entry (Err e) = Err e
number_entry (Ok n) = Ok (Number n)

abbrev pub glue_entry : Result GlueSpec TexError → Result Entry TexError
glue_entry (Err e) = Err e
glue_entry (Ok g) = Ok (Glue g)

-- an operation on each size of glue, the width first; its orders stay (section 1240)
abbrev pub with_shrink : GlueSpec → ℤ → ℤ → Result ℤ TexError → Result GlueSpec TexError
with_shrink g width stretch (Err e) = Err e
with_shrink g width stretch (Ok shrink) = Ok (glue_of width stretch g.stretch_order shrink g.shrink_order)

abbrev pub with_stretch : Operation → ℤ → GlueSpec → ℤ → Result ℤ TexError → Result GlueSpec TexError
with_stretch operation m g width (Err e) = Err e
with_stretch operation m g width (Ok stretch) = with_shrink g width stretch (result operation Range_dimen g.shrink m)

abbrev pub with_width : Operation → ℤ → GlueSpec → Result ℤ TexError → Result GlueSpec TexError
with_width operation m g (Err e) = Err e
with_width operation m g (Ok width) = with_stretch operation m g width (result operation Range_dimen g.stretch m)

abbrev pub glue_result : Operation → GlueSpec → ℤ → Result GlueSpec TexError
glue_result operation g m = with_width operation m g (result operation Range_dimen g.width m)

-- a sum of glue, if that is glue: its sizes are dimensions (section 1239), and its orders are none beyond filll
abbrev pub sizes_fit : GlueSpec → Bool
sizes_fit g = nat_le (unsigned_abs g.width) 1073741823 && nat_le (unsigned_abs g.stretch) 1073741823 && nat_le (unsigned_abs g.shrink) 1073741823

abbrev pub fits : GlueSpec → Bool
fits g = sizes_fit g && nat_le g.stretch_order 3 && nat_le g.shrink_order 3

abbrev pub glue_added : GlueSpec → GlueSpec → Result GlueSpec TexError
glue_added g h = if fits (glue_sum h g) then Ok (glue_sum h g) else Err ArithmeticOverflow

-- what stands at a place with an operation done to it
abbrev pub computed_entry : Table → Place → Operation → ℤ → Result Entry TexError
computed_entry table place operation m =
    if is_glue place || is_muglue place then glue_entry (glue_result operation (glue_at table place) m)
    else number_entry (result operation (range_of place) (number_at table place) m)

abbrev pub added_entry : Table → Place → GlueSpec → Result Entry TexError
added_entry table place g = glue_entry (glue_added (glue_at table place) g)

-- whether a text has to be taken first
abbrev pub is_text : Change → Bool
is_text Text = true
is_text other = false

-- what stands at a place after a change, by what stood there
abbrev pub changed_entry : Table → Place → Change → Result Entry TexError
changed_entry table place (Set value) = Ok value
changed_entry table place (Compute operation m) = computed_entry table place operation m
changed_entry table place (Add g) = added_entry table place g
changed_entry table place (Copy other) = Ok (Tokens (tokens_at table other))
changed_entry table place Text = Err MissingBeginGroup

-- \wd, \ht and \dp change the box where it was assigned, whatever the prefix says (section 1247)
abbrev pub put_at : Bool → Eqtb → Place → Entry → Eqtb
put_at global stack (place.BoxSize side number) value = replaced stack (place.BoxSize side number) value
put_at global stack other value = assigned_by global stack other value

-- with \global before the assignment or not
abbrev pub put_by : Bool → Eqtb → Place → Entry → Eqtb
put_by prefixed stack place value = put_at (is_global (number_at stack.table (Integer Globaldefs)) prefixed) stack place value

abbrev pub carried_to : Eqtb → Assignment → Bool → Result Entry TexError → Result Eqtb TexError
carried_to stack a global (Err e) = Err e
carried_to stack a global (Ok value) = Ok (put_by global stack a.place value)

-- the table with the assignment carried out, with \global before it or not
abbrev pub carried_out : Eqtb → Assignment → Bool → Result Eqtb TexError
carried_out stack a global = carried_to stack a global (changed_entry stack.table a.place a.change)

-- the assignment is done, or refused with nothing changed
abbrev pub IsCarried : Eqtb → Assignment → Bool → Eqtb → Carried → Type 0
IsCarried old a global new Carried_done = carried_out old a global ≡ Ok new
IsCarried old a global new (Refused e) = (carried_out old a global ≡ Err e) × (new ≡ old)

-- a list of tokens in braces, unless it is empty
abbrev pub in_braces : List Token → List Token
in_braces [] = []
in_braces (t ∷ ts) = Character (character "{") BeginGroup ∷ (t ∷ ts) ++ Character (character "}") EndGroup ∷ []

-- a text as it stands at a place: that of \output is in braces (section 1226)
abbrev pub stored : Place → List Token → List Token
stored (place.Tokens Output) tokens = in_braces tokens
stored other tokens = tokens

abbrev pub with_text : Place → List Token → Assignment
with_text place tokens = record { place = place; change = Set (Tokens (stored place tokens)) }

-- a place is to mean \relax
abbrev pub relaxed : Place → Assignment
relaxed place = record { place = place; change = Set (Means (Command Relax)) }
