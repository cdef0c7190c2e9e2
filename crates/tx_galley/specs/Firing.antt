-- A page is fired (TeX: The Program, sections 1012 to 1025): the boxes of insertions stand in their registers, \outputpenalty and the
-- marks are those of the page, and its box is shipped, or \output reads it.
use Rattle.std.specs.Prelude.{ℕ, ℤ, pos, ◌+ℤ◌, Bool, List, [], ◌∷◌, ◌++◌, Some, None, is_none, Result, Ok, Err}
use Rattle.tx_char.specs.declared.tokens.Token.{Token}
use Rattle.tx_eqtb.specs.declared.entry.Entry.TheVariants.{Box as Boxed, Number}
use Rattle.tx_eqtb.specs.declared.eqtb.Eqtb.{Eqtb}
use Rattle.tx_eqtb.specs.declared.table.Table.{Table}
use Rattle.tx_eqtb.specs.Stack.{assigned_everywhere, replaced}
use Rattle.tx_eqtb.specs.Table.{box_at, number_at, tokens_at}
use Rattle.tx_node.specs.Items.{Item, PackedBox}
use Rattle.tx_output.specs.declared.begun.Begun.{Begun}
use Rattle.tx_output.specs.declared.begun.Begun.TheVariants.{Ship, Read}
use Rattle.tx_output.specs.declared.error.OutputError.{OutputError}
use Rattle.tx_output.specs.Outputs.{begun, joined}
use Rattle.tx_pagebuilder.specs.declared.boxes.ClassBox.{ClassBox}
use Rattle.tx_pagebuilder.specs.declared.error.PageError.{PageError}
use Rattle.tx_pagebuilder.specs.declared.fired.Fired.{Fired}
use Rattle.tx_pagebuilder.specs.Fired.{fired, page_left}
use Rattle.tx_pagebuilder.specs.Pages.{shipped}
use Rattle.tx_output.specs.declared.last.LastItem.TheVariants.{Other}
use Rattle.tx_output.specs.declared.pages.Pages.{Pages}
use Rattle.tx_output.specs.Marks.{of_page as marks_of_page}
use Rattle.tx_prim.specs.declared.integer.IntegerParameter.TheVariants.{Maxdeadcycles, Outputpenalty}
use Rattle.tx_prim.specs.declared.tokens.TokenParameter.TheVariants.{Output}
use Rattle.tx_seen.specs.declared.error.TexError.{TexError}
use Rattle.tx_seen.specs.declared.place.Place.TheVariants.{Box, Integer, Tokens}
use Rattle.tx_galley.specs.declared.firing.Next.{Next}
use Rattle.tx_galley.specs.declared.firing.Next.TheVariants.{Ships, Reads}
use Rattle.tx_galley.specs.Errors.{error_of, of_output, of_page}
use Rattle.tx_galley.specs.Params.{fire_params}

-- a box in its register, at the level at which that was assigned
abbrev pub with_box : Eqtb → ℕ → PackedBox → Eqtb
with_box table n b = replaced table (Box n) (Boxed (Some b))

abbrev pub with_boxes : List ClassBox → Eqtb → Eqtb
with_boxes [] table = table
with_boxes (b ∷ boxes) table = with_boxes boxes (with_box table b.class b.node)

-- the table behind a page: the boxes of classes stand in it, and the page's penalty is \outputpenalty in all groups
abbrev pub with_penalty : ℤ → Eqtb → Eqtb
with_penalty penalty table = assigned_everywhere table (Integer Outputpenalty) (Number penalty)

abbrev pub table_behind : List ClassBox → ℤ → Eqtb → Eqtb
table_behind boxes penalty table = with_penalty penalty (with_boxes boxes table)

-- what firing gives, and what is kept of pages behind it
abbrev pub page_told : Result Fired PageError → Result Fired TexError
page_told (Err e) = Err (error_of (of_page e))
page_told (Ok f) = Ok f

abbrev pub page_fired : Table → Pages → Result Fired TexError
page_fired table pages = page_told (fired pages.page (fire_params table pages.page.classes))

abbrev pub page_behind : ℤ → Pages → Pages
page_behind penalties pages = record pages { page = page_left pages.page penalties; last = Other }

-- whether a register is void
abbrev pub is_void : Table → ℕ → Bool
is_void table n = is_none (box_at table (Box n))

-- the output begins
abbrev pub output_told : Result Begun OutputError → Result Begun TexError
output_told (Err e) = Err (error_of (of_output e))
output_told (Ok b) = Ok b

abbrev pub output_begun : Fired → List Token → Table → Pages → Result Begun TexError
output_begun f output table pages =
    output_told (begun f output pages.dead_cycles (number_at table (Integer Maxdeadcycles)) (is_void table 255))

abbrev pub waiting : Fired → Pages → Pages
waiting f pages = record pages { output = record { waiting = Some (record { held = f.held; rest = f.rest }) } }

-- behind a page that is shipped nothing waits, and what did stands before the contributions that are left
abbrev pub remaining : Pages → List Item → List Item
remaining pages left = joined pages.output.waiting [] ++ left

abbrev pub nothing_waits : Pages → Pages
nothing_waits pages = record pages { page = shipped pages.page; output = record { waiting = None } }

-- what comes of a page: what becomes of its box, the contributions, the table and what is kept of pages
pub record Out : Type 0 where
  pub next : Next
  pub list : List Item
  pub table : Eqtb
  pub pages : Pages

-- \deadcycles counts the pages that go to \output
abbrev pub counted : Begun → Pages → Pages
counted (Ship packed) pages = pages
counted (Read packed) pages = record pages { dead_cycles = pages.dead_cycles +ℤ pos 1 }

abbrev pub put_out : Begun → List Token → List Item → Eqtb → Pages → Out
put_out (Ship packed) output left table pages =
    record { next = Ships packed.node packed.badness; list = remaining pages left; table = table; pages = nothing_waits pages }
put_out (Read packed) output left table pages =
    record { next = Reads output packed.badness; list = left; table = with_box table 255 packed.node; pages = pages }

abbrev pub put_out_by : Fired → List Token → List Item → Eqtb → Pages → Result Begun TexError → Result Out TexError
put_out_by f output left table pages (Err e) = Err e
put_out_by f output left table pages (Ok b) = Ok (put_out b output left table (counted b (waiting f pages)))

abbrev pub fired_with : Fired → List Token → List Item → Eqtb → Pages → Result Out TexError
fired_with f output left table pages = put_out_by f output left table pages (output_begun f output table.table pages)

abbrev pub fired_in : Fired → List Item → Eqtb → Pages → Result Out TexError
fired_in f left table pages = fired_with f (tokens_at table.table (Tokens Output)) left table pages

-- a page without what it leaves in the table and in the marks
abbrev pub bared : Fired → Fired
bared f = record f { boxes = []; first = None; last = None }

-- the page is fired, where these contributions are left
abbrev pub turned : Fired → Pages → Pages
turned f pages = record pages { marks = marks_of_page f.first f.last pages.marks }

abbrev pub firing_at : Fired → List Item → Eqtb → Pages → Result Out TexError
firing_at f left table pages = fired_in f left (table_behind f.boxes f.penalty table) (turned f pages)

abbrev pub firing_by : List Item → Eqtb → Pages → Result Fired TexError → Result Out TexError
firing_by left table pages (Err e) = Err e
firing_by left table pages (Ok f) = firing_at f left table (page_behind f.insert_penalties pages)

abbrev pub firing : List Item → Eqtb → Pages → Result Out TexError
firing left table pages = firing_by left table pages (page_fired table.table pages)
