-- How a turn ends: an assignment is done, or the list that is being built changes.
use Rattle.std.specs.Prelude.{ℤ, false, List, [], ◌∷◌, Option, Some, None, Result, Ok, Err}
use Rattle.tx_char.specs.declared.tokens.Token.{Token}
use Rattle.tx_node.specs.Items.{Item}
use Rattle.tx_nest.specs.declared.list.ModeList.{ModeList}
use Rattle.tx_eqtb.specs.declared.eqtb.Eqtb.{Eqtb}
use Rattle.tx_eqtb.specs.declared.table.Table.{Table}
use Rattle.tx_eqtb.specs.Table.{number_at}
use Rattle.tx_expand.specs.Turns.{put_back}
use Rattle.tx_prim.specs.declared.integer.IntegerParameter.{IntegerParameter}
use Rattle.tx_seen.specs.declared.error.TexError.{TexError}
use Rattle.tx_seen.specs.declared.place.Place.TheVariants.{Integer}
use Rattle.tx_command.specs.declared.types.Head.{Head}
use Rattle.tx_command.specs.declared.types.Head.TheVariants.{Accenting, Fresh}
use Rattle.tx_box.specs.Placing.{with_list}
use Rattle.tx_box.specs.Sources.{appended}
use Rattle.tx_state.specs.Outcomes.{Outcome, fails, leaves}
use Rattle.tx_state.specs.State.{TexState}
use Rattle.tx_word.specs.declared.accent.Accent.{Accent}

-- the table changes, if the assignment can be carried out; behind the name that \chardef or its kin defines its value is to follow
abbrev pub naming : TexState → Head → Result Eqtb TexError → Outcome
naming s head (Err e) = fails e
naming s head (Ok table) = leaves (record s { table = table; head = head })

-- an assignment is done: what \afterassignment keeps is read next (TeX: The Program, section 1269)
abbrev pub with_after : TexState → Option Token → TexState
with_after s None = s
with_after s (Some t) = record s { after_assignment = None; reader = put_back (t ∷ []) s.reader }

-- and where an accent waits for the character below it, what is next stands behind that (section 1123)
abbrev pub next_head : Option Accent → Head
next_head None = Fresh
next_head (Some accent) = Accenting (record { global = false; long = false; outer = false })

abbrev pub assigned : TexState → TexState
assigned s = with_after (record s { head = next_head s.words.accent; taken = [] }) s.after_assignment

-- the table changes, if the assignment can be carried out
abbrev pub assigning : TexState → Result Eqtb TexError → Outcome
assigning s (Err e) = fails e
assigning s (Ok table) = leaves (assigned (record s { table = table }))

-- the list that is being built changes
abbrev pub with_top_list : TexState → ModeList → TexState
with_top_list s new = record s { lists = with_list s.lists new }

-- more items at its end that change nothing else of it
abbrev pub with_items : TexState → List Item → TexState
with_items s items = record s { lists = appended s.lists items }

abbrev pub adding : TexState → Item → Outcome
adding s item = leaves (with_items s (item ∷ []))

-- an integer parameter
abbrev pub integer : Table → IntegerParameter → ℤ
integer table parameter = number_at table (Integer parameter)
