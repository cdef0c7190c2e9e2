-- What families of commands take behind their first token.
use Rattle.std.specs.Prelude.{ℕ, pos, ◌==◌, List, if◌then◌else◌}
use Rattle.tx_prim.specs.declared.family.BoxKind.TheVariants.{Vertical}
use Rattle.tx_seen.specs.declared.item.Item.{Item}
use Rattle.tx_seen.specs.declared.error.TexError.TheVariants.{NumberOutOfRange}
use Rattle.tx_seen.specs.Readings.{Reading, Done, Wrong}
use Rattle.tx_scan.specs.declared.scans.FontSought.TheVariants as sought
use Rattle.tx_shape.specs.declared.scans.NumberSetting.TheVariants as number
use Rattle.tx_shape.specs.declared.scans.Opening.TheVariants as opening
use Rattle.tx_shape.specs.declared.scans.Setting.TheVariants.{Size, Number}
use Rattle.tx_shape.specs.declared.scans.SizeSetting.TheVariants as size
use Rattle.tx_shape.specs.declared.types.BoxContext.TheVariants.{Adjust, Append, Center, Ship}
use Rattle.tx_shape.specs.declared.types.Opener.TheVariants.{Insert}
use Rattle.tx_shape.specs.declared.types.BoxGoal.TheVariants.{Natural}
use Rattle.tx_shape.specs.declared.types.Shaped.{Shaped}
use Rattle.tx_shape.specs.declared.types.Shaped.TheVariants.{Accent, Character}
use Rattle.tx_shape.specs.declared.types.Shaping.{Shaping}
use Rattle.tx_shape.specs.declared.types.Shaping.TheVariants as shaping
use Rattle.tx_shape.specs.Boxes.{box_begin, box_from, by_register, group_begun, math_skipping, needed_box, opened, penalizing, setting as box_setting, shifting, skipping, unboxing}
use Rattle.tx_shape.specs.Settings.{dimen_setting, family_at, font_setting, page_setting, set, setting}

-- \char: the code of a character (section 1124)
abbrev pub character : List Item → Reading Shaped
character items = by_register (λ n rest. Done (Character n) rest) items

-- \accent: the same (section 1123)
abbrev pub accent : List Item → Reading Shaped
accent items = by_register (λ n rest. Done (Accent n) rest) items

-- \vadjust: the begin-group token of a vertical list (section 1099)
abbrev pub adjusting : List Item → Reading Shaped
adjusting items = opened (opening.Box Vertical Adjust) Natural items

-- \insert: the number of a class, then the begin-group token of a vertical list (section 1099)
abbrev pub inserting_at : ℕ → List Item → Reading Shaped
inserting_at n rest = if n == 255 then Wrong NumberOutOfRange else group_begun (Insert n) rest

abbrev pub inserting : List Item → Reading Shaped
inserting items = by_register inserting_at items

-- \halign: perhaps `to` or `spread` and a size, and a begin-group token (section 774)
abbrev pub aligning : List Item → Reading Shaped
aligning items = box_begin opening.Align items

-- what a command takes behind its first token; a box that stands alone is appended as it is
abbrev pub shape : Shaping → List Item → Reading Shaped
shape (shaping.Box kind) items = box_begin (opening.Box kind (Append (pos 0))) items
shape (shaping.From source) items = box_from source (Append (pos 0)) items
shape shaping.Shipout items = needed_box Ship items
shape shaping.SetBox items = box_setting items
shape (shaping.Shift kind) items = shifting kind items
shape (shaping.Unbox kind) items = unboxing kind items
shape shaping.Penalty items = penalizing items
shape shaping.PrevDepth items = setting (Size size.Depth) items
shape (shaping.Glue form) items = skipping form items
shape shaping.Character items = character items
shape shaping.Factor items = setting (Number number.Factor) items
shape shaping.PrevGraf items = setting (Number number.PrevGraf) items
shape shaping.ParShape items = setting (Number number.ParShape) items
shape shaping.Adjust items = adjusting items
shape shaping.MathCharacter items = set (Number number.MathCharacter) items
shape (shaping.Coded kind) items = set (Number (number.Coded kind)) items
shape shaping.Accent items = accent items
shape shaping.Center items = box_begin (opening.Box Vertical Center) items
shape shaping.MathGlue items = math_skipping items
shape shaping.Insert items = inserting items
shape shaping.Align items = aligning items
shape shaping.DeadCycles items = setting (Number number.DeadCycles) items
shape (shaping.Page quantity) items = setting (page_setting quantity) items
shape (shaping.Open opener) items = group_begun opener items
shape shaping.FontDimen items = dimen_setting items
shape (shaping.FontInteger kind) items = font_setting (sought.Integer kind) items
shape (shaping.Family size) items = by_register (family_at size) items
