-- Boxes and what is done with them, as items at the front of a list (TeX: The Program, sections 645 and 1056 to 1110; The TeXbook,
-- chapters 21 and 24).
use Rattle.std.specs.Prelude.{ℕ, ℤ, pos, neg_ℤ, ◌∷◌, [], ◌||◌, Bool, true, false, codes, List, Option, Some, None, if◌then◌else◌}
use Rattle.tx_prim.specs.declared.family.BoxSource.{BoxSource}
use Rattle.tx_prim.specs.declared.family.BoxSource.TheVariants as source
use Rattle.tx_num.specs.Glue.{GlueSpec, glue_of}
use Rattle.tx_prim.specs.declared.family.GlueForm.{GlueForm}
use Rattle.tx_prim.specs.declared.family.GlueForm.TheVariants as form
use Rattle.tx_prim.specs.declared.family.ShiftKind.{ShiftKind}
use Rattle.tx_prim.specs.declared.family.ShiftKind.TheVariants as shift
use Rattle.tx_prim.specs.declared.family.UnboxKind.{UnboxKind}
use Rattle.tx_prim.specs.declared.primitive.Primitive.TheVariants as primitive
use Rattle.tx_seen.specs.declared.error.TexError.{TexError}
use Rattle.tx_seen.specs.declared.error.TexError.TheVariants.{MissingBox, MissingUnit, NumberOutOfRange, Undefined}
use Rattle.tx_seen.specs.declared.fed.Want.TheVariants.{Expanded}
use Rattle.tx_seen.specs.declared.item.Item.{Item}
use Rattle.tx_seen.specs.declared.item.Item.TheVariants.{Took, Gave}
use Rattle.tx_seen.specs.declared.meaning.Meaning.{Meaning}
use Rattle.tx_seen.specs.declared.meaning.Meaning.TheVariants as meaning
use Rattle.tx_seen.specs.declared.seen.Seen.{Seen}
use Rattle.tx_char.specs.Character.{character}
use Rattle.tx_seen.specs.Seen.{is_key, is_space, is_relax, is_undefined}
use Rattle.tx_seen.specs.Readings.{Reading, More, Done, Wrong, next}
use Rattle.tx_scan.specs.Dimensions.{dimension, lengths}
use Rattle.tx_scan.specs.Glues.{glue}
use Rattle.tx_scan.specs.Grammars.{equals, left_brace}
use Rattle.tx_scan.specs.Integers.{integer, byte_of, expanded}
use Rattle.tx_scan.specs.Keywords.{keyword}
use Rattle.tx_shape.specs.declared.types.BoxContext.{BoxContext}
use Rattle.tx_shape.specs.declared.types.BoxContext.TheVariants.{Append, Register}
use Rattle.tx_shape.specs.declared.types.BoxGoal.{BoxGoal}
use Rattle.tx_shape.specs.declared.types.BoxGoal.TheVariants.{Natural, To, Spread}
use Rattle.tx_shape.specs.declared.types.BoxRead.TheVariants.{Begin, Use, Copy, Last, Split}
use Rattle.tx_shape.specs.declared.types.Opener.{Opener}
use Rattle.tx_shape.specs.declared.types.Shaped.{Shaped}
use Rattle.tx_shape.specs.declared.types.Shaped.TheVariants.{BeginAlign, Box, MathSkip, Open, Unbox, Penalize, Skip}
use Rattle.tx_shape.specs.declared.scans.Opening.{Opening}
use Rattle.tx_shape.specs.declared.scans.Opening.TheVariants as opening

-- what the list of a box is packed to: `to` or `spread` and a size, or nothing (section 645)
abbrev pub goal_by : (ℤ → BoxGoal) → List Item → Reading BoxGoal
goal_by goal items = next (dimension lengths items) (λ measure behind. Done (goal measure.size) behind)

abbrev pub spread_or_natural : Bool → List Item → Reading BoxGoal
spread_or_natural true rest = goal_by Spread rest
spread_or_natural false rest = Done Natural rest

abbrev pub spread_goal : List Item → Reading BoxGoal
spread_goal items = next (keyword (codes "spread") items) spread_or_natural

abbrev pub to_or_not : Bool → List Item → Reading BoxGoal
to_or_not true rest = goal_by To rest
to_or_not false rest = spread_goal rest

abbrev pub box_goal : List Item → Reading BoxGoal
box_goal items = next (keyword (codes "to") items) to_or_not

-- a box that is begun, or an alignment
abbrev pub begun : Opening → BoxGoal → Shaped
begun (opening.Box kind context) goal = Box (Begin kind goal) context
begun opening.Align goal = BeginAlign goal

-- the begin-group token behind that (section 403)
abbrev pub opened : Opening → BoxGoal → List Item → Reading Shaped
opened what goal items = next (left_brace items) (λ _ rest. Done (begun what goal) rest)

abbrev pub box_begin : Opening → List Item → Reading Shaped
box_begin what items = next (box_goal items) (opened what)

-- the begin-group token before a text of \discretionary (sections 1117 and 1119), a list of \mathchoice (sections 1172 and 1174), the
-- list of an \insert (section 1099), the tokens of \output (section 1025) and the material of \noalign (section 785)
abbrev pub group_begun : Opener → List Item → Reading Shaped
group_begun opener items = next (left_brace items) (λ _ rest. Done (Open opener) rest)

-- the number of a register, 0 to 255
abbrev pub by_byte : (ℕ → List Item → Reading Shaped) → Option ℕ → List Item → Reading Shaped
by_byte on None rest = Wrong NumberOutOfRange
by_byte on (Some n) rest = on n rest

abbrev pub by_register : (ℕ → List Item → Reading Shaped) → List Item → Reading Shaped
by_register on items = next (integer items) (λ n rest. by_byte on (byte_of n) rest)

-- \vsplit: behind the number of its register the word `to` and a size have to follow (section 1082)
abbrev pub split_size : ℕ → BoxContext → List Item → Reading Shaped
split_size n context items = next (dimension lengths items) (λ measure rest. Done (Box (Split n measure.size) context) rest)

abbrev pub split_by : ℕ → BoxContext → Bool → List Item → Reading Shaped
split_by n context true rest = split_size n context rest
split_by n context false rest = Wrong MissingUnit

abbrev pub split_to : ℕ → BoxContext → List Item → Reading Shaped
split_to n context items = next (keyword (codes "to") items) (split_by n context)

-- the same behind the first letter of `to`
abbrev pub split_letter : ℕ → BoxContext → List Item → Reading Shaped
split_letter n context [] = More Expanded
split_letter n context (Gave v ∷ rest) = Wrong MissingUnit
split_letter n context (Took t ∷ rest) = expanded t (if is_key (character "o") t then split_size n context rest else Wrong MissingUnit)

abbrev pub missing_word : Seen → TexError
missing_word t = if is_undefined t then Undefined else MissingUnit

-- a box that was made before: \box, \copy, \lastbox and \vsplit (section 1079)
abbrev pub box_from : BoxSource → BoxContext → List Item → Reading Shaped
box_from source.Register context items = by_register (λ n rest. Done (Box (Use n) context) rest) items
box_from source.Copy context items = by_register (λ n rest. Done (Box (Copy n) context) rest) items
box_from source.Last context items = Done (Box Last context) items
box_from source.Split context items = by_register (λ n rest. split_to n context rest) items

-- the box that a primitive begins or stands for; no other is one
abbrev pub box_meant : BoxContext → Meaning → List Item → Reading Shaped
box_meant context (meaning.Command (primitive.Box kind)) rest = box_begin (opening.Box kind context) rest
box_meant context (meaning.Command (primitive.BoxFrom source)) rest = box_from source context rest
box_meant context _ rest = Wrong MissingBox

-- the box that \shipout, \setbox, \raise and their kin need, with spaces and \relax before it (section 1084)
abbrev pub needed_box : BoxContext → List Item → Reading Shaped
needed_box context [] = More Expanded
needed_box context (Gave v ∷ rest) = Wrong MissingBox
needed_box context (Took t ∷ rest) =
    expanded t (if is_space t || is_relax t then needed_box context rest else box_meant context t.meaning rest)

-- the box that is put into a register, behind an optional `=`
abbrev pub register_setting : ℕ → List Item → Reading Shaped
register_setting n items = next (equals items) (λ _ rest. needed_box (Register n) rest)

-- \setbox: a register, an optional `=`, and a box (section 1241)
abbrev pub setting : List Item → Reading Shaped
setting items = by_register register_setting items

-- how far a box is shifted: down in a horizontal list, to the right in a vertical one (section 1073)
abbrev pub shift_by : ShiftKind → ℤ → ℤ
shift_by shift.Raise size = neg_ℤ size
shift_by shift.Lower size = size
shift_by shift.Left size = neg_ℤ size
shift_by shift.Right size = size

abbrev pub shifting : ShiftKind → List Item → Reading Shaped
shifting kind items = next (dimension lengths items) (λ measure rest. needed_box (Append (shift_by kind measure.size)) rest)

-- \unhbox and its kin: a register (section 1110)
abbrev pub unboxing : UnboxKind → List Item → Reading Shaped
unboxing kind items = by_register (λ n rest. Done (Unbox kind n) rest) items

-- \penalty: a number (section 1103)
abbrev pub penalizing : List Item → Reading Shaped
penalizing items = next (integer items) (λ n rest. Done (Penalize n) rest)

-- the glue of \hfil and its kin; none where glue follows (sections 162 and 1060)
abbrev pub one : ℤ
one = pos 65536

abbrev pub standing_glue : GlueForm → Option GlueSpec
standing_glue form.Skip = None
standing_glue form.Fil = Some (glue_of (pos 0) one 1 (pos 0) 0)
standing_glue form.Fill = Some (glue_of (pos 0) one 2 (pos 0) 0)
standing_glue form.Both = Some (glue_of (pos 0) one 1 one 1)
standing_glue form.Negative = Some (glue_of (pos 0) (neg_ℤ one) 1 (pos 0) 0)

abbrev pub skipped : GlueSpec → List Item → Reading Shaped
skipped g rest = Done (Skip g) rest

-- \mskip: glue in mu
abbrev pub math_skipped : GlueSpec → List Item → Reading Shaped
math_skipped g rest = Done (MathSkip g) rest

abbrev pub math_skipping : List Item → Reading Shaped
math_skipping items = next (glue true items) math_skipped

-- \hskip and \vskip: glue; and their kin, which take nothing
abbrev pub skipping_by : Option GlueSpec → List Item → Reading Shaped
skipping_by (Some g) items = skipped g items
skipping_by None items = next (glue false items) skipped

abbrev pub skipping : GlueForm → List Item → Reading Shaped
skipping form items = skipping_by (standing_glue form) items
