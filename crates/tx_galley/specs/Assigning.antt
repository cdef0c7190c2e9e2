-- Assignments to the quantities of the page (TeX: The Program, sections 1245 and 1246).
use Rattle.std.specs.Prelude.{ℤ, Bool, Result, Ok, Err, if◌then◌else◌}
use Rattle.tx_num.specs.Limits.{fits}
use Rattle.tx_pagebuilder.specs.Quantities.{assigned}
use Rattle.tx_output.specs.declared.pages.Pages.{Pages}
use Rattle.tx_prim.specs.declared.family.PageQuantity.{PageQuantity}
use Rattle.tx_prim.specs.declared.family.PageQuantity.TheVariants.{InsertPenalties}
use Rattle.tx_seen.specs.declared.error.TexError.{TexError}
use Rattle.tx_seen.specs.declared.error.TexError.TheVariants.{SizeOutOfRange}
use Rattle.tx_galley.specs.Params.{is_integer}

-- \insertpenalties is an integer, the others are dimensions, whatever is assigned
abbrev pub may_have : PageQuantity → ℤ → Bool
may_have InsertPenalties v = is_integer v
may_have quantity v = fits v

abbrev pub with_quantity : PageQuantity → ℤ → Pages → Pages
with_quantity quantity v pages = record pages { page = record pages.page { measures = assigned quantity v pages.page.measures } }

abbrev pub setting : PageQuantity → ℤ → Pages → Result Pages TexError
setting quantity v pages = if may_have quantity v then Ok (with_quantity quantity v pages) else Err SizeOutOfRange
