-- What follows a number or a size, by what it is for.
use Rattle.std.specs.Prelude.{ℕ, ℤ, ◌==◌, nat_le, Option, Some, None, List, if◌then◌else◌}
use Rattle.tx_prim.specs.declared.family.MathSize.{MathSize}
use Rattle.tx_shape.specs.declared.types.Opener.TheVariants.{Insert}
use Rattle.tx_seen.specs.declared.error.TexError.TheVariants.{NumberOutOfRange}
use Rattle.tx_seen.specs.declared.item.Item.{Item}
use Rattle.tx_seen.specs.Readings.{Reading, Done, Wrong as Wrong_reading, next}
use Rattle.tx_scan.specs.declared.scans.Measure.{Measure}
use Rattle.tx_scan.specs.Integers.{byte_of}
use Rattle.tx_shape.specs.declared.types.BoxContext.TheVariants.{Append}
use Rattle.tx_shape.specs.declared.types.BoxGoal.TheVariants.{To, Spread}
use Rattle.tx_shape.specs.declared.types.BoxRead.TheVariants as box
use Rattle.tx_shape.specs.declared.types.Shaped.{Shaped}
use Rattle.tx_shape.specs.declared.types.Shaped.TheVariants.{Box, Unbox, Penalize, Character, Accent}
use Rattle.tx_shape.specs.declared.scans.Next.{Next}
use Rattle.tx_shape.specs.declared.scans.Next.TheVariants.{Part, Font, Whole, Wrong}
use Rattle.tx_shape.specs.declared.scans.Plain.{Plain}
use Rattle.tx_shape.specs.declared.scans.Plain.TheVariants as plain
use Rattle.tx_shape.specs.declared.scans.Registering.{Registering}
use Rattle.tx_shape.specs.declared.scans.Registering.TheVariants as registering
use Rattle.tx_shape.specs.declared.scans.Sizing.{Sizing}
use Rattle.tx_shape.specs.declared.scans.Sizing.TheVariants as sizing
use Rattle.tx_scan.specs.declared.scans.FontSought.TheVariants as sought
use Rattle.tx_scan.specs.FontNames.{parameter_number}
use Rattle.tx_shape.specs.declared.scans.NumberSetting.{NumberSetting}
use Rattle.tx_shape.specs.Settings.{family_font, family_setting, font_setting, set_number, set_size}
use Rattle.tx_shape.specs.Boxes.{box_begin, group_begun, needed_box, opened, register_setting, shift_by, split_letter, split_to, spread_goal}

-- the part, of these items
abbrev pub plain_rest : Plain → List Item → Reading Shaped
plain_rest (plain.Equals n) items = register_setting n items
plain_rest (plain.Needed context) items = needed_box context items
plain_rest (plain.Goal opening) items = box_begin opening items
plain_rest (plain.Spread opening) items = next (spread_goal items) (opened opening)
plain_rest (plain.Brace opening goal) items = opened opening goal items
plain_rest (plain.Open opener) items = group_begun opener items
plain_rest (plain.To n context) items = split_to n context items
plain_rest (plain.ToLetter n context) items = split_letter n context items
plain_rest (plain.FamilyEquals size n) items = family_setting size n items
plain_rest (plain.FamilyFont size n) items = family_font size n items

-- what follows, of these items
abbrev pub next_rest : Next → List Item → Reading Shaped
next_rest (Part part) items = plain_rest part items
next_rest (Font what) items = font_setting what items
next_rest (Whole shaped) items = Done shaped items
next_rest (Wrong error) items = Wrong_reading error

-- what follows the number of a class of insertions, of which there is none of 255 (section 1099)
abbrev pub behind_class : ℕ → Next
behind_class n = if n == 255 then Wrong NumberOutOfRange else Part (plain.Open (Insert n))

-- what follows the number of a family, of which there are 16
abbrev pub behind_family : MathSize → ℕ → Next
behind_family size n = if nat_le n 15 then Part (plain.FamilyEquals size n) else Wrong NumberOutOfRange

-- what follows the number of a register
abbrev pub behind_register : Registering → ℕ → Next
behind_register (registering.Use context) n = Whole (Box (box.Use n) context)
behind_register (registering.Copy context) n = Whole (Box (box.Copy n) context)
behind_register (registering.Unbox kind) n = Whole (Unbox kind n)
behind_register registering.Set n = Part (plain.Equals n)
behind_register registering.Character n = Whole (Character n)
behind_register registering.Accent n = Whole (Accent n)
behind_register registering.Insert n = behind_class n
behind_register (registering.Split context) n = Part (plain.To n context)
behind_register (registering.Family size) n = behind_family size n

abbrev pub behind_byte : Registering → Option ℕ → Next
behind_byte what None = Wrong NumberOutOfRange
behind_byte what (Some n) = behind_register what n

abbrev pub behind_number : Registering → ℤ → Next
behind_number what n = behind_byte what (byte_of n)

-- what follows a penalty
abbrev pub behind_penalty : ℤ → Next
behind_penalty n = Whole (Penalize n)

-- what follows a number that is set, and the number of a parameter
abbrev pub behind_set : NumberSetting → ℤ → Next
behind_set what n = Whole (set_number what n)

abbrev pub behind_parameter : ℤ → Next
behind_parameter n = Font (sought.Dimen (parameter_number n))

-- what follows a size in sp
abbrev pub behind_size : Sizing → ℤ → Next
behind_size (sizing.To opening) size = Part (plain.Brace opening (To size))
behind_size (sizing.Spread opening) size = Part (plain.Brace opening (Spread size))
behind_size (sizing.Shift kind) size = Part (plain.Needed (Append (shift_by kind size)))
behind_size (sizing.Set what) size = Whole (set_size what size)
behind_size (sizing.Split n context) size = Whole (Box (box.Split n size) context)

abbrev pub behind_measure : Sizing → Measure → Next
behind_measure what measure = behind_size what measure.size
