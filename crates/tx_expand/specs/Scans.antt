-- What an expansion reads off tokens that are expanded, and what comes of it: a line for each, by the definition of its own
-- crate (TeX: The Program, parts 25 to 28).
use Rattle.std.specs.Prelude.{true, false, pos, Option, None, Some, Result, Ok, Err, List, [], ◌∷◌}
use Rattle.tx_char.specs.declared.tokens.Token.{Token}
use Rattle.tx_seen.specs.declared.error.TexError.TheVariants.{NoAssignment}
use Rattle.tx_seen.specs.declared.fed.Want.TheVariants.{Expanded}
use Rattle.tx_seen.specs.declared.item.Item.{Item}
use Rattle.tx_seen.specs.declared.item.Item.TheVariants.{Took, Gave}
use Rattle.tx_seen.specs.declared.place.FontName.{FontName}
use Rattle.tx_seen.specs.declared.seen.Seen.{Seen}
use Rattle.tx_seen.specs.Seen.{font_name}
use Rattle.tx_seen.specs.declared.error.TexError.{TexError}
use Rattle.tx_seen.specs.declared.fed.Value.{Value}
use Rattle.tx_seen.specs.declared.fed.Value.TheVariants.{Int, Dimen, Glue, Muglue}
use Rattle.tx_seen.specs.Readings.{Reading, More, Done, Wrong, next}
use Rattle.tx_scan.specs.declared.scans.Beginning.{Beginning}
use Rattle.tx_scan.specs.declared.scans.Beginning.TheVariants as begin
use Rattle.tx_scan.specs.declared.scans.ListBegun.{ListBegun}
use Rattle.tx_scan.specs.declared.scans.ListBegun.TheVariants as list
use Rattle.tx_scan.specs.Beginnings.{beginning}
use Rattle.tx_scan.specs.Lists.{list_begun}
use Rattle.tx_scan.specs.Integers.{integer}
use Rattle.tx_scan.specs.Mapped.{done_if}
use Rattle.tx_scan.specs.Quantities.{quantity_begun}
use Rattle.tx_scan.specs.ControlNames.{control_name}
use Rattle.tx_scan.specs.FontNames.{font}
use Rattle.tx_scan.specs.FileNames.{file_name, input_name}
use Rattle.tx_cond.specs.Tests.{test}
use Rattle.tx_convert.specs.Numerals.{number_text, roman_text, size_text}
use Rattle.tx_convert.specs.Glues.{glue_text}
use Rattle.tx_convert.specs.Texts.{as_tokens}
use Rattle.tx_expand.specs.declared.types.Destination.{Destination}
use Rattle.tx_expand.specs.declared.types.Destination.TheVariants.{Input, Text}
use Rattle.tx_expand.specs.declared.types.Made.{Made}
use Rattle.tx_expand.specs.declared.types.Made.TheVariants as made
use Rattle.tx_expand.specs.declared.types.Scanned.{Scanned}
use Rattle.tx_expand.specs.declared.types.Scanned.TheVariants as scanned

-- an expansion that reads: what it reads, and the tokens and values that it has taken
pub record Scan : Type 0 where
  pub what : Scanned
  pub taken : List Item

-- it is put in, or belongs to a text (section 478)
abbrev pub shown : Destination → List Token → Made
shown Input tokens = made.Puts tokens
shown Text tokens = made.Gives tokens

-- a value as \the prints it (section 465)
abbrev pub value_tokens : Value → Option (List Token)
value_tokens (Int n) = Some (as_tokens (number_text n))
value_tokens (Dimen size) = Some (as_tokens (size_text size))
value_tokens (Glue g) = Some (as_tokens (glue_text false g))
value_tokens (Muglue g) = Some (as_tokens (glue_text true g))
value_tokens other = None

abbrev pub shown_if : Destination → Option (List Token) → Result Made TexError
shown_if to None = Err NoAssignment
shown_if to (Some tokens) = Ok (shown to tokens)

abbrev pub value_shown : Destination → Value → Result Made TexError
value_shown to value = shown_if to (value_tokens value)

-- what \the prints of what a token begins: a number that a name stands for, what stands at a place, or at the number that follows
-- (section 413)
abbrev pub printed_value : Destination → Value → List Item → Reading Made
printed_value to value rest = done_if (value_shown to value) rest

abbrev pub quantity : Destination → Beginning → List Item → Reading Made
quantity to (begin.Number n) rest = printed_value to (Int (pos n)) rest
quantity to (begin.At place) rest = next (quantity_begun (begin.At place) rest) (printed_value to)
quantity to (begin.Numbered kind) rest = next (quantity_begun (begin.Numbered kind) rest) (printed_value to)
quantity to begin.FontDimen rest = next (quantity_begun begin.FontDimen rest) (printed_value to)
quantity to (begin.FontInteger kind) rest = next (quantity_begun (begin.FontInteger kind) rest) (printed_value to)
quantity to other rest = Wrong NoAssignment

-- the identifier of the font that a token tells, or a quantity
abbrev pub identified : Destination → Option FontName → Seen → List Item → Reading Made
identified to (Some font) t rest = Done (made.Identifier to font) rest
identified to None t rest = quantity to (beginning t) rest

-- the list of tokens that a token stands for, a font's identifier, or a quantity (sections 415 and 465)
abbrev pub shown_by : Destination → ListBegun → Seen → List Item → Reading Made
shown_by to (list.At place) t rest = Done (made.List to place) rest
shown_by to list.Register t rest = next (integer rest) (λ n rest. Done (made.Register to n) rest)
shown_by to list.Nothing t rest = identified to (font_name t) t rest

-- what stands behind \the, with its value
abbrev pub the : Destination → List Item → Reading Made
the to [] = More Expanded
the to (Gave v ∷ rest) = Wrong NoAssignment
the to (Took t ∷ rest) = shown_by to (list_begun t.meaning) t rest

-- what these items come to
abbrev pub reading : Scanned → List Item → Reading Made
reading scanned.Name items = next (control_name items) (λ name rest. Done (made.Names name) rest)
reading scanned.Number items = next (integer items) (λ n rest. Done (made.Puts (as_tokens (number_text n))) rest)
reading scanned.Roman items = next (integer items) (λ n rest. Done (made.Puts (as_tokens (roman_text n))) rest)
reading (scanned.Quantity to) items = the to items
reading (scanned.Test kind mode) items = next (test kind mode items) (λ value rest. Done (made.Decides value) rest)
reading scanned.Font items = next (font items) (λ f rest. Done (made.Font f) rest)
reading scanned.File items = next (file_name items) (λ name rest. Done (made.Opens (input_name name)) rest)
