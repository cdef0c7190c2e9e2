-- Internal quantities: what stands at a place, or at a number of a kind (The TeXbook, chapter 24; TeX: The Program, section 413).
use Rattle.std.specs.Prelude.{ℕ, ℤ, List, [], ◌∷◌, ◌++◌, Option, Some, None}
use Rattle.tx_seen.specs.declared.error.TexError.TheVariants.{MissingNumber, NotAllowed, NumberOutOfRange}
use Rattle.tx_seen.specs.declared.fed.Fed.{Fed}
use Rattle.tx_seen.specs.declared.fed.Fed.TheVariants as fed
use Rattle.tx_seen.specs.declared.fed.Kind.TheVariants.{Quantity}
use Rattle.tx_seen.specs.declared.fed.Value.{Value}
use Rattle.tx_seen.specs.declared.fed.Value.TheVariants.{Absent, OutOfRange}
use Rattle.tx_seen.specs.declared.item.Item.{Item}
use Rattle.tx_seen.specs.declared.item.Item.TheVariants.{Took, Gave}
use Rattle.tx_seen.specs.declared.place.Place.{Place}
use Rattle.tx_seen.specs.declared.place.Place.TheVariants.{BoxTest}
use Rattle.tx_seen.specs.Places.{place_of}
use Rattle.tx_seen.specs.Readings.{Reading, More, Need, Done, Wrong, next}
use Rattle.tx_scan.specs.declared.scans.Beginning.{Beginning}
use Rattle.tx_scan.specs.declared.scans.Beginning.TheVariants as begin
use Rattle.tx_scan.specs.declared.scans.Sought.{Sought}
use Rattle.tx_scan.specs.declared.scans.Sought.TheVariants as sought
use Rattle.tx_scan.specs.declared.scans.FontSought.{FontSought}
use Rattle.tx_scan.specs.declared.scans.FontSought.TheVariants as needs
use Rattle.tx_scan.specs.FontNames.{font, parameter_number, place_of_font}
use Rattle.tx_scan.specs.Integers.{byte_of, integer}

-- the place of a number
abbrev pub place_sought : Sought → ℕ → Place
place_sought (sought.Numbered kind) n = place_of kind n
place_sought (sought.Box test) n = BoxTest test n

-- a value that was given; what the mode lacks is an error (section 418)
abbrev pub found : Item → List Item → Reading Value
found (Gave Absent) rest = Wrong NotAllowed
found (Gave OutOfRange) rest = Wrong NumberOutOfRange
found (Gave v) rest = Done v rest
found (Took t) rest = Wrong MissingNumber

abbrev pub found_of : Value → ℕ → Fed Value
found_of Absent held = fed.Wrong NotAllowed
found_of OutOfRange held = fed.Wrong NumberOutOfRange
found_of v held = fed.Done v held

-- the value that stands at a place
abbrev pub value_at : Place → List Item → Reading Value
value_at place [] = Need (Quantity place)
value_at place (item ∷ rest) = found item rest

-- what stands at a number, where these tokens ended that: they stay behind the value
abbrev pub value_counted : Sought → Option ℕ → List Item → List Item → Reading Value
value_counted sought None behind items = Wrong NumberOutOfRange
value_counted sought (Some n) behind [] = Need (Quantity (place_sought sought n))
value_counted sought (Some n) behind (item ∷ rest) = found item (behind ++ rest)

-- where a number has ended, the value stands behind what ended it
abbrev pub unless_whole : Sought → Reading ℤ → List Item → Reading Value → Reading Value
unless_whole sought (More want) items on = on
unless_whole sought (Need kind) items on = on
unless_whole sought (Done n behind) items on = value_counted sought (byte_of n) behind items
unless_whole sought (Wrong error) items on = Wrong error

-- what stands at a number, which is read so
abbrev pub value_behind : Sought → (List Item → Reading ℤ) → List Item → Reading Value
value_behind sought number [] = next (number []) (λ n behind. value_counted sought (byte_of n) behind [])
value_behind sought number (item ∷ rest) = unless_whole sought (number []) (item ∷ rest) (value_behind sought (λ more. number (item ∷ more)) rest)

abbrev pub numbered_value : Sought → List Item → Reading Value
numbered_value sought items = value_behind sought integer items

-- what is needed of a font that follows; of a parameter the number stands before it
abbrev pub value_of_font : FontSought → List Item → Reading Value
value_of_font sought items = next (font items) (λ f rest. value_at (place_of_font sought f) rest)

abbrev pub parameter_value : ℤ → List Item → Reading Value
parameter_value n items = value_of_font (needs.Dimen (parameter_number n)) items

abbrev pub numbered_parameter : List Item → Reading Value
numbered_parameter items = next (integer items) parameter_value

-- the quantity that a token begins which begins one that has a place
abbrev pub quantity_begun : Beginning → List Item → Reading Value
quantity_begun (begin.At place) rest = value_at place rest
quantity_begun (begin.Numbered kind) rest = numbered_value (sought.Numbered kind) rest
quantity_begun begin.FontDimen rest = numbered_parameter rest
quantity_begun (begin.FontInteger kind) rest = value_of_font (needs.Integer kind) rest
quantity_begun other rest = Wrong MissingNumber
