-- What is set behind an optional `=` and is no part of the table (TeX: The Program, sections 1242 to 1244, 1248 and 1253).
use Rattle.std.specs.Prelude.{ℕ, ℤ, ◌∷◌, [], nat_le, List, if◌then◌else◌}
use Rattle.tx_prim.specs.declared.family.MathSize.{MathSize}
use Rattle.tx_prim.specs.declared.family.PageQuantity.{PageQuantity}
use Rattle.tx_prim.specs.declared.family.PageQuantity.TheVariants as page
use Rattle.tx_seen.specs.declared.error.TexError.TheVariants.{MissingNumber, NumberOutOfRange}
use Rattle.tx_seen.specs.declared.fed.Kind.TheVariants.{Quantity}
use Rattle.tx_seen.specs.declared.fed.Value.{Value}
use Rattle.tx_seen.specs.declared.fed.Value.TheVariants as value
use Rattle.tx_seen.specs.declared.item.Item.{Item}
use Rattle.tx_seen.specs.declared.item.Item.TheVariants.{Took, Gave}
use Rattle.tx_seen.specs.declared.place.FontName.{FontName}
use Rattle.tx_seen.specs.declared.place.Place.TheVariants.{FontDimen as Dimen_of}
use Rattle.tx_seen.specs.Readings.{Reading, Need, Done, Wrong, next}
use Rattle.tx_scan.specs.declared.scans.FontSought.{FontSought}
use Rattle.tx_scan.specs.declared.scans.FontSought.TheVariants as sought
use Rattle.tx_scan.specs.Dimensions.{dimension, lengths}
use Rattle.tx_scan.specs.FontNames.{font, parameter_number}
use Rattle.tx_scan.specs.Grammars.{equals}
use Rattle.tx_scan.specs.Integers.{integer}
use Rattle.tx_shape.specs.declared.scans.Amount.{Amount}
use Rattle.tx_shape.specs.declared.scans.Amount.TheVariants as amount
use Rattle.tx_shape.specs.declared.scans.NumberSetting.{NumberSetting}
use Rattle.tx_shape.specs.declared.scans.NumberSetting.TheVariants as number
use Rattle.tx_shape.specs.declared.scans.Setting.{Setting}
use Rattle.tx_shape.specs.declared.scans.Setting.TheVariants.{Size, Number}
use Rattle.tx_shape.specs.declared.scans.SizeSetting.{SizeSetting}
use Rattle.tx_shape.specs.declared.scans.SizeSetting.TheVariants as size
use Rattle.tx_shape.specs.declared.scans.Sizing.TheVariants.{Set}
use Rattle.tx_shape.specs.declared.types.Shaped.{Shaped}
use Rattle.tx_shape.specs.declared.types.Shaped.TheVariants.{SetDepth, SetFactor, SetPrevGraf, BeginShape, SetDeadCycles, SetPage, SetFontDimen, SetFontInteger, SetFamily, MathCharacter, Coded}

-- the number or the size that is set
abbrev pub amount_of : Setting → Amount
amount_of (Size what) = amount.Size (Set what)
amount_of (Number what) = amount.Number what

-- what comes of a size, and of a number
abbrev pub set_size : SizeSetting → ℤ → Shaped
set_size size.Depth s = SetDepth s
set_size (size.FontDimen font n) s = SetFontDimen font n s
set_size (size.Page quantity) s = SetPage quantity s

abbrev pub set_number : NumberSetting → ℤ → Shaped
set_number number.Factor n = SetFactor n
set_number number.PrevGraf n = SetPrevGraf n
set_number number.ParShape n = BeginShape n
set_number number.DeadCycles n = SetDeadCycles n
set_number number.MathCharacter n = MathCharacter n
set_number (number.Coded kind) n = Coded kind n
set_number (number.Page quantity) n = SetPage quantity n
set_number (number.FontInteger kind font) n = SetFontInteger kind font n

-- what is set of the page: \insertpenalties is a number, the others are sizes (sections 1245 and 1246)
abbrev pub page_setting : PageQuantity → Setting
page_setting page.InsertPenalties = Number (number.Page page.InsertPenalties)
page_setting quantity = Size (size.Page quantity)

-- what is set
abbrev pub set : Setting → List Item → Reading Shaped
set (Size what) items = next (dimension lengths items) (λ measure rest. Done (set_size what measure.size) rest)
set (Number what) items = next (integer items) (λ n rest. Done (set_number what n) rest)

-- an optional `=` stands before it
abbrev pub setting : Setting → List Item → Reading Shaped
setting what items = next (equals items) (λ _ rest. set what rest)

-- \fontdimen: whether the font has such a parameter shows before the value is read (section 578)
abbrev pub has_room : FontName → ℕ → Value → List Item → Reading Shaped
has_room font n value.OutOfRange rest = Wrong NumberOutOfRange
has_room font n (value.Flag _) rest = Wrong MissingNumber
has_room font n (value.Magnification _) rest = Wrong MissingNumber
has_room font n value.Absent rest = Wrong MissingNumber
has_room font n other rest = setting (Size (size.FontDimen font n)) rest

abbrev pub in_room : FontName → ℕ → Item → List Item → Reading Shaped
in_room font n (Took t) rest = Wrong MissingNumber
in_room font n (Gave v) rest = has_room font n v rest

abbrev pub set_of_font : FontSought → FontName → List Item → Reading Shaped
set_of_font (sought.Dimen n) font [] = Need (Quantity (Dimen_of font n))
set_of_font (sought.Dimen n) font (item ∷ rest) = in_room font n item rest
set_of_font (sought.Integer kind) font items = setting (Number (number.FontInteger kind font)) items

abbrev pub font_setting : FontSought → List Item → Reading Shaped
font_setting what items = next (font items) (λ f rest. set_of_font what f rest)

-- \textfont and its kin: the number of a family, an optional `=`, and a font (section 1234)
abbrev pub family_font : MathSize → ℕ → List Item → Reading Shaped
family_font size n items = next (font items) (λ f rest. Done (SetFamily size n f) rest)

abbrev pub family_setting : MathSize → ℕ → List Item → Reading Shaped
family_setting size n items = next (equals items) (λ _ rest. family_font size n rest)

abbrev pub family_at : MathSize → ℕ → List Item → Reading Shaped
family_at size n rest = if nat_le n 15 then family_setting size n rest else Wrong NumberOutOfRange

-- the number of the parameter stands before the font
abbrev pub dimen_setting : List Item → Reading Shaped
dimen_setting items = next (integer items) (λ n rest. font_setting (sought.Dimen (parameter_number n)) rest)
