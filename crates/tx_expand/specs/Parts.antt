-- What an expansion reads on as, by the scan that it has.
use Rattle.std.specs.Prelude.{ℕ, ℤ, List, ◌∷◌}
use Rattle.tx_seen.specs.declared.fed.Want.{Want}
use Rattle.tx_seen.specs.declared.item.Item.{Item}
use Rattle.tx_seen.specs.Readings.{Reading, Done, next}
use Rattle.tx_scan.specs.Rests.{HasTakenBy}
use Rattle.tx_scan.specs.Settled.{WantsNext}
use Rattle.tx_scan.specs.IntegerRests as integers
use Rattle.tx_scan.specs.QuantityRests as quantities
use Rattle.tx_scan.specs.ControlNames as names
use Rattle.tx_scan.specs.FileNames as files
use Rattle.tx_scan.specs.GrammarRests as fonts
use Rattle.tx_cond.specs.TestRests as tests
use Rattle.tx_convert.specs.Numerals.{number_text, roman_text}
use Rattle.tx_convert.specs.Texts.{as_tokens}
use Rattle.tx_expand.specs.declared.part.Figures.{Figures}
use Rattle.tx_expand.specs.declared.part.Figures.TheVariants as figures
use Rattle.tx_expand.specs.declared.part.Part.{Part}
use Rattle.tx_expand.specs.declared.part.Part.TheVariants as part
use Rattle.tx_expand.specs.declared.types.Made.{Made}
use Rattle.tx_expand.specs.declared.types.Made.TheVariants as made
use Rattle.tx_expand.specs.declared.types.Scanned.{Scanned}
use Rattle.tx_expand.specs.Scans.{printed_value, reading, the}

-- what comes of an integer
abbrev pub printed : Figures → ℤ → Made
printed figures.Decimal n = made.Puts (as_tokens (number_text n))
printed figures.Roman n = made.Puts (as_tokens (roman_text n))
printed (figures.Register to) n = made.Register to n

-- the rest, by the scan
abbrev pub rest : Part → List Item → Item → List Item → Reading Made
rest (part.Name scan) behind item more = next (names.rest scan behind item more) (λ name rest. Done (made.Names name) rest)
rest (part.Quantity to) behind item more = the to (item ∷ more)
rest (part.Shown scan to) behind item more = next (quantities.rest scan behind item more) (printed_value to)
rest (part.Integer scan figures) behind item more = next (integers.rest scan behind item more) (λ n rest. Done (printed figures n) rest)
rest (part.Test scan) behind item more = next (tests.rest scan behind item more) (λ value rest. Done (made.Decides value) rest)
rest (part.File scan) behind item more = next (files.rest scan behind item more) (λ name rest. Done (made.Opens (files.input_name name)) rest)
rest (part.Font scan) behind item more = next (fonts.font_rest scan behind item more) (λ f rest. Done (made.Font f) rest)

-- how many of its tokens it holds
abbrev pub held : Part → ℕ
held (part.Shown scan to) = quantities.held scan
held (part.Integer scan figures) = integers.held scan
held (part.Test scan) = tests.held scan
held _ = 0

-- how many values it may need at most, unless more tokens need more
abbrev pub more_needed : Part → ℕ
more_needed (part.Shown scan to) = quantities.more_needed scan
more_needed (part.Integer scan figures) = integers.waiting scan
more_needed (part.Test scan) = tests.more_needed scan
more_needed _ = 0

-- the scan of what has taken these items, and wants its next token so
abbrev pub IsAt : Scanned → List Item → Want → Part → Type 0
IsAt what = WantsNext (reading what) (HasTakenBy rest held (reading what)) more_needed
