-- Characters that are stacked by a recipe (TeX: The Program, sections 546 and 711 to 714). Of a recipe's four pieces, the top, the
-- middle, the bottom and the one that is repeated, the first three are none where their code is 0.
use Rattle.std.specs.Prelude.{ℕ, ◌+◌, ◌-◌, ◌/◌, ◌==◌, Bool, ◌&&◌, nat_lt, ℤ, pos, ◌+ℤ◌, ◌-ℤ◌, ◌*ℤ◌, int_lt, unsigned_abs, List, [], replicate, Option, Some, None, Result, Ok, Err, if◌then◌else◌}
use Rattle.std.specs.Option.{option_map_or}
use Rattle.tx_num.specs.Limits.{fits}
use Rattle.tx_node.specs.declared.head.Direction.TheVariants.{Vertical}
use Rattle.tx_node.specs.Items.{Item, PackedBox}
use Rattle.tx_tfm.specs.declared.file.Word.{Word}
use Rattle.tx_tfm.specs.declared.state.FontState.{FontState}
use Rattle.tx_tfm.specs.Fonts.{character_height}
use Rattle.tx_delim.specs.declared.error.DelimError.{DelimError}
use Rattle.tx_delim.specs.declared.error.DelimError.TheVariants.{SizeOutOfRange}
use Rattle.tx_delim.specs.Boxes.{character_item, full_width, sized_box}
use Rattle.tx_delim.specs.Outcomes.{passed, with_more}
use Rattle.tx_delim.specs.Searching.{tallness}

-- how often a piece stands that isn't repeated, and how tall it is
abbrev pub times_of : ℕ → ℕ
times_of code = if code == 0 then 0 else 1

abbrev pub piece_tallness : List FontState → ℕ → ℕ → ℤ
piece_tallness fonts font code = if code == 0 then pos 0 else tallness fonts font code

-- how tall all of these are
unfoldable pub least_tallness : List FontState → ℕ → Word → ℤ
least_tallness fonts font w =
    piece_tallness fonts font w.c +ℤ piece_tallness fonts font w.b +ℤ piece_tallness fonts font w.a

-- how much taller the stack is with one repetition more, above the bottom and, if there is a middle, above that too
unfoldable pub step_tallness : List FontState → ℕ → Word → ℤ
step_tallness fonts font w =
    if w.b == 0 then tallness fonts font w.d else tallness fonts font w.d +ℤ tallness fonts font w.d

-- the least number of steps that make up for what is lacking: none where nothing is, or where a step is nothing
unfoldable pub least_steps : ℤ → ℤ → ℕ
least_steps step lacking =
    if int_lt (pos 0) step && int_lt (pos 0) lacking then (unsigned_abs lacking + unsigned_abs step - 1) / unsigned_abs step else 0

-- how often the repeated piece stands on each side so that the stack is as tall as is asked
abbrev pub repeats : List FontState → ℕ → Word → ℤ → ℕ
repeats fonts font w asked = least_steps (step_tallness fonts font w) (asked -ℤ least_tallness fonts font w)

-- how tall the stack is then
unfoldable pub stack_tallness : List FontState → ℕ → Word → ℕ → ℤ
stack_tallness fonts font w n = least_tallness fonts font w +ℤ pos n *ℤ step_tallness fonts font w

-- its uppermost piece
abbrev pub uppermost : Word → ℕ → Option ℕ
uppermost w n =
    if nat_lt 0 w.a then Some w.a
    else if nat_lt 0 n then Some w.d
    else if nat_lt 0 w.b then Some w.b
    else if nat_lt 0 w.c then Some w.c
    else None

-- the stack is as high as that, and all else is its depth
abbrev pub stack_height : List FontState → ℕ → Word → ℕ → ℤ
stack_height fonts font w n = option_map_or (character_height fonts font) (uppermost w n) (pos 0)

-- a piece, so often
abbrev pub several : ℕ → Result Item DelimError → Result (List Item) DelimError
several times piece = if times == 0 then Ok [] else passed piece (λ item. Ok (replicate times item))

abbrev pub pieces : List FontState → ℕ → ℕ → ℕ → Result (List Item) DelimError
pieces fonts font code times = several times (character_item fonts font code)

-- below what stands above it
abbrev pub below : List FontState → ℕ → ℕ → ℕ → Result (List Item) DelimError → Result (List Item) DelimError
below fonts font code times above = passed above (λ list. with_more list (pieces fonts font code times))

-- the stack, from its top: the top piece, the repeated one, the middle with the repeated one below it, the bottom
abbrev pub middle_times : Word → ℕ → ℕ
middle_times w n = if w.b == 0 then 0 else n

unfoldable pub upper_part : List FontState → ℕ → Word → ℕ → Result (List Item) DelimError
upper_part fonts font w n = below fonts font w.d n (below fonts font w.a (times_of w.a) (Ok []))

unfoldable pub stack_list : List FontState → ℕ → Word → ℕ → Result (List Item) DelimError
stack_list fonts font w n =
    below fonts font w.c (times_of w.c) (
    below fonts font w.d (middle_times w n) (
    below fonts font w.b (times_of w.b) (upper_part fonts font w n)))

-- its box, which is as wide as the repeated piece; it isn't begun where its sizes are no dimensions
unfoldable pub stack_depth : List FontState → ℕ → Word → ℕ → ℤ
stack_depth fonts font w n = stack_tallness fonts font w n -ℤ stack_height fonts font w n

abbrev pub stack_fits : List FontState → ℕ → Word → ℕ → Bool
stack_fits fonts font w n =
    fits (full_width fonts font w.d) && (fits (stack_height fonts font w n) && fits (stack_depth fonts font w n))

abbrev pub framed : List FontState → ℕ → Word → ℕ → List Item → Result PackedBox DelimError
framed fonts font w n list =
    sized_box Vertical (full_width fonts font w.d) (stack_height fonts font w n) (stack_depth fonts font w n) list

unfoldable pub stack_of : List FontState → ℕ → Word → ℕ → Result PackedBox DelimError
stack_of fonts font w n =
    if stack_fits fonts font w n then passed (stack_list fonts font w n) (framed fonts font w n) else Err SizeOutOfRange

abbrev pub stack_box : List FontState → ℕ → Word → ℤ → Result PackedBox DelimError
stack_box fonts font w asked = stack_of fonts font w (repeats fonts font w asked)
