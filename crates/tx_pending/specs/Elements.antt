-- Pending input as one list (TeX: The Program, part 22 and sections 343 to 362).
use Rattle.std.specs.Prelude.{ℕ, Bool, true, false, List, [], ◌∷◌, ◌++◌, map, ℤ, pos, ◌+ℤ◌, ◌-ℤ◌, if◌then◌else◌}
use Rattle.std.specs.Ordering.{int_eq}
use Rattle.tx_char.specs.declared.category.Cat.{Cat}
use Rattle.tx_char.specs.declared.tokens.Token.{Token}
use Rattle.tx_toklist.specs.Macros.{is_begin, is_end}
use Rattle.tx_lex.specs.declared.types.ReadState.{ReadState}
use Rattle.tx_lex.specs.declared.types.ReadState.TheVariants.{N}
use Rattle.tx_lex.specs.Reading.{Reading, Read, Nothing, Refused, reading}
use Rattle.tx_pending.specs.declared.next.ColumnPart.{ColumnPart}
use Rattle.tx_pending.specs.declared.next.ColumnPart.TheVariants.{U, V}
use Rattle.tx_pending.specs.declared.next.Next.{Next}
use Rattle.tx_pending.specs.declared.next.Next.TheVariants.{Token as Next_token, Held as Next_held, Marker, PartEnd as Next_part, Used, E1}

-- an element of the pending input: a token; a token that \noexpand holds (TeX: The Program, sections 358 and 369); a marker; the
-- end of the u- or the v-part of an alignment's column (sections 307 and 324); or a line with its unread rest and its reading state
pub data Element : Type 0 where
  Given : Token → Element
  Held : Token → Element
  Mark : Element
  PartEnd : ColumnPart → Element
  Unread : List ℕ → ReadState → Element

-- all that is pending; whether \endinput came since a line was used up; and at which level of braces it is read, by which alignments
-- tell where an entry ends (TeX: The Program, section 309)
pub record Input : Type 0 where
  pub elements : List Element
  pub closing : Bool
  pub level : ℤ

-- what comes next, and what is pending behind it
pub record Step : Type 0 where
  pub next : Next
  pub left : Input

-- where no alignment is read (TeX: The Program, section 331)
abbrev pub outside : ℤ
outside = pos 1000000

-- nothing is pending
abbrev pub no_input : Input
no_input = record { elements = []; closing = false; level = outside }

-- the level behind a token that is read: a begin-group token raises it, and an end-group token lowers it (TeX: The Program, sections
-- 347 and 357)
abbrev pub level_behind : ℤ → Token → ℤ
level_behind level token = if is_begin token then level +ℤ pos 1 else if is_end token then level -ℤ pos 1 else level

-- the level as if a token hadn't been read (TeX: The Program, section 325)
abbrev pub level_before : ℤ → Token → ℤ
level_before level token = if is_begin token then level -ℤ pos 1 else if is_end token then level +ℤ pos 1 else level

abbrev pub with_level : Input → ℤ → Input
with_level input level = record input { level = level }

-- a begin-group token that was read stands in what is put in: the level is as if it hadn't been read (TeX: The Program, section 394)
abbrev pub lowered : Input → Input
lowered input = with_level input (input.level -ℤ pos 1)

-- so it is behind a brace that is a number behind a backquote (TeX: The Program, section 442)
abbrev pub unread : Input → Token → Input
unread input token = with_level input (level_before input.level token)

-- the level at the end of a part of a column: behind the u-part the entry begins (TeX: The Program, section 324)
abbrev pub level_at : ColumnPart → ℤ → ℤ
level_at U level = pos 0
level_at V level = level

-- an entry is read, in no braces of its own (TeX: The Program, section 342)
abbrev pub is_at_entry : Input → Bool
is_at_entry input = int_eq input.level (pos 0)

-- whether the u-part of a column is read to its end; its entry begins there, at level 0 (TeX: The Program, section 324)
abbrev pub begins_entry : List Element → Bool
begins_entry (PartEnd U ∷ behind) = true
begins_entry other = false

abbrev pub behind_part : List Element → List Element
behind_part (PartEnd U ∷ behind) = behind
behind_part other = other

abbrev pub entered : Input → Input
entered input = record input { elements = behind_part input.elements; level = if begins_entry input.elements then pos 0 else input.level }

-- the elements of a list of tokens, and a marker behind them if it is to be marked
abbrev pub list_elements : List Token → Bool → List Element
list_elements tokens marked = map Given tokens ++ (if marked then Mark ∷ [] else [])

-- a list is put at the front
abbrev pub with_list : Input → List Token → Bool → Input
with_list input tokens marked = record input { elements = list_elements tokens marked ++ input.elements }

-- the u- or the v-part of a column ends at the front: what it has is put there next
abbrev pub with_part_end : Input → ColumnPart → Input
with_part_end input part = record input { elements = PartEnd part ∷ input.elements }

-- a token that was read is put at the front, to be read again; a u-part that is read to its end is left before (TeX: The Program,
-- section 325)
abbrev pub with_token : Input → Token → Input
with_token input token =
    let left : Input = entered input in
    record left { elements = Given token ∷ left.elements; level = level_before left.level token }

-- so is a token that \noexpand holds
abbrev pub with_held : Input → Token → Input
with_held input token =
    let left : Input = entered input in
    record left { elements = Held token ∷ left.elements; level = level_before left.level token }

-- several that were read are given back, the last one first
abbrev pub given_back : Input → List Token → Input
given_back input [] = input
given_back input (token ∷ tokens) = with_token (given_back input tokens) token

-- several that weren't read are put at the front in their order
abbrev pub with_tokens : Input → List Token → Input
with_tokens input tokens = record input { elements = map Given tokens ++ input.elements }

-- so are those that a macro's use comes to; a u-part that is read to its end is left before (TeX: The Program, section 390)
abbrev pub with_use : Input → List Token → Input
with_use input tokens = with_tokens (entered input) tokens

-- a new line is put at the front; it is read from the state at a line's start on
abbrev pub with_line : Input → List ℕ → Input
with_line input line = record input { elements = Unread line N ∷ input.elements }

-- \endinput: the file is to be closed when the line is used up
abbrev pub with_close : Input → Input
with_close input = record input { closing = true }

-- the level behind what comes next; behind a u-part the entry begins
abbrev pub level_after : ℤ → Next → ℤ
level_after level (Next_token token) = level_behind level token
level_after level (Next_held token) = level_behind level token
level_after level (Next_part part) = level_at part level
level_after level other = level

-- \endinput is forgotten where a line is used up
abbrev pub closing_after : Bool → Next → Bool
closing_after closing (Used close) = false
closing_after closing other = closing

-- this comes next, and these elements are left
abbrev pub stepped : Bool → ℤ → List Element → Next → Step
stepped closing level left next = record { next = next; left = record { elements = left; closing = closing_after closing next; level = level_after level next } }

-- what this line at the front gives by its reading: its first token; or it is used up and taken away; or it has an invalid character,
-- and stays
abbrev pub line_step : Bool → ℤ → Element → List Element → Reading → Step
line_step closing level line behind (Read token unread state) = stepped closing level (Unread unread state ∷ behind) (Next_token token)
line_step closing level line behind Nothing = stepped closing level behind (Used closing)
line_step closing level line behind Refused = stepped closing level (line ∷ behind) E1

-- what comes next where these elements are pending
abbrev pub step_of : List Cat → Bool → ℤ → List Element → Step
step_of codes closing level [] = stepped closing level [] (Used closing)
step_of codes closing level (Given token ∷ behind) = stepped closing level behind (Next_token token)
step_of codes closing level (Held token ∷ behind) = stepped closing level behind (Next_held token)
step_of codes closing level (Mark ∷ behind) = stepped closing level behind Marker
step_of codes closing level (PartEnd part ∷ behind) = stepped closing level behind (Next_part part)
step_of codes closing level (Unread unread state ∷ behind) = line_step closing level (Unread unread state) behind (reading codes state unread)

-- what comes next
abbrev pub step : List Cat → Input → Step
step codes input = step_of codes input.closing input.level input.elements
