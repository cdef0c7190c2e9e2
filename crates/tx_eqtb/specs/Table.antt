-- What stands at the places of a table, and how that changes.
use Rattle.std.specs.Prelude.{◌&&◌, ◌==◌, ℕ, ◌+◌, ℤ, pos, int_le, unsigned_abs, if◌then◌else◌, List, [], Option, None, unwrap_or, slice_get, slice_set}
use Rattle.std.specs.FinMap.{get, insert, remove}
use Rattle.tx_num.specs.Glue.{GlueSpec, zero_glue}
use Rattle.tx_char.specs.declared.category.Cat.{Cat}
use Rattle.tx_char.specs.declared.category.Cat.TheVariants as category
use Rattle.tx_char.specs.declared.tokens.Token.{Token}
use Rattle.tx_char.specs.declared.tokens.Token.TheVariants as token
use Rattle.tx_name.specs.Names.{Names}
use Rattle.tx_prim.specs.declared.primitive.Primitive.TheVariants.{NullFont, Relax}
use Rattle.tx_prim.specs.Integers.{integer_number}
use Rattle.tx_prim.specs.Dimensions.{dimension_number}
use Rattle.tx_prim.specs.Glues.{glue_number}
use Rattle.tx_prim.specs.Tokens.{token_number}
use Rattle.tx_prim.specs.declared.family.CharacterCode.TheVariants.{LowerCase, UpperCase, SpaceFactor, Math, Delimiter}
use Rattle.tx_prim.specs.declared.family.MathSize.{MathSize}
use Rattle.tx_prim.specs.declared.family.MathSize.TheVariants as size
use Rattle.tx_seen.specs.declared.place.Place.{Place}
use Rattle.tx_seen.specs.declared.place.Place.TheVariants.{Name, Active, Count, Dimen, Skip, Muskip, Toks, Category, Code, Integer, Dimension, Glue, Tokens, Box, BoxSize, Font, Family, ParShape}
use Rattle.tx_seen.specs.declared.meaning.Meaning.{Meaning}
use Rattle.tx_seen.specs.declared.meaning.Meaning.TheVariants.{Undefined, Command, Character, Font as Selected}
use Rattle.tx_eqtb.specs.declared.entry.Entry.{Entry}
use Rattle.tx_eqtb.specs.declared.entry.Entry.TheVariants.{Means, InCategory, Number, Glue as Elastic, Tokens as Listed, Box as Boxed, Shape}
use Rattle.tx_eqtb.specs.declared.table.Table.{Table}
use Rattle.tx_node.specs.Items.{PackedBox}
use Rattle.tx_eqtb.specs.declared.boxes.BoxRegister.{BoxRegister}
use Rattle.tx_eqtb.specs.Boxes.{box_of, level_of, size_of, with_size}

-- the meaning of a name: undefined where it has no entry
abbrev pub meaning_of : Names Meaning → List ℕ → Meaning
meaning_of names name = unwrap_or (get names name) Undefined

-- a name given a meaning; to be undefined is to have no entry
abbrev pub with_meaning : Names Meaning → List ℕ → Meaning → Names Meaning
with_meaning names name Undefined = remove names name
with_meaning names name meaning = insert names name meaning

-- the meaning of an active character
abbrev pub active_meaning : List Meaning → ℕ → Meaning
active_meaning active code = unwrap_or (slice_get active code) Undefined

-- a number of a list of registers, codes or parameters
abbrev pub number_of : List ℤ → ℕ → ℤ
number_of numbers at = unwrap_or (slice_get numbers at) (pos 0)

-- the font of a family among all of them: 16 at each size
abbrev pub family_index : MathSize → ℕ → ℕ
family_index size.Text family = family
family_index size.Script family = 16 + family
family_index size.ScriptScript family = 32 + family

-- the number that stands at a place, in scaled points where it is a size, of a box too; 0 where no number stands
unfoldable pub number_at : Table → Place → ℤ
number_at table (Count number) = number_of table.counts number
number_at table (Dimen number) = number_of table.dimens number
number_at table (Code LowerCase code) = number_of table.lower_case code
number_at table (Code UpperCase code) = number_of table.upper_case code
number_at table (Code SpaceFactor code) = number_of table.space_factors code
number_at table (Code Math code) = number_of table.math code
number_at table (Code Delimiter code) = number_of table.delimiters code
number_at table (Integer parameter) = number_of table.integers (integer_number parameter)
number_at table (Dimension parameter) = number_of table.dimensions (dimension_number parameter)
number_at table (BoxSize side number) = size_of side (box_of table.boxes number)
number_at table Font = pos table.font
number_at table (Family size family) = number_of table.families (family_index size family)
number_at table other = pos 0

-- the glue of a list of registers or parameters, and what stands at a place; zero glue where none stands
abbrev pub glue_of : List GlueSpec → ℕ → GlueSpec
glue_of glues at = unwrap_or (slice_get glues at) zero_glue

abbrev pub glue_at : Table → Place → GlueSpec
glue_at table (Skip number) = glue_of table.skips number
glue_at table (Muskip number) = glue_of table.muskips number
glue_at table (Glue parameter) = glue_of table.glue_parameters (glue_number parameter)
glue_at table other = zero_glue

-- the list of tokens of a register or a parameter, and the one that stands at a place; an empty one where none stands
abbrev pub list_of : List (List Token) → ℕ → List Token
list_of lists at = unwrap_or (slice_get lists at) []

abbrev pub tokens_at : Table → Place → List Token
tokens_at table (Toks number) = list_of table.token_registers number
tokens_at table (Tokens parameter) = list_of table.token_parameters (token_number parameter)
tokens_at table other = []

-- what a name of the font of a number means, and so its identifier: to make it the current one
abbrev pub font_meaning : ℕ → Meaning
font_meaning font = if font == 0 then Command NullFont else Selected font

-- what a token means (TeX: The Program, part 20): a name and an active character what the table says, any other character
-- itself, the frozen \relax what \relax means at the beginning, and a font's identifier the font
abbrev pub token_meaning : Table → Token → Meaning
token_meaning table (token.Name name) = meaning_of table.names name
token_meaning table (token.Character code category.Active) = active_meaning table.active code
token_meaning table (token.Character code other) = Character code other
token_meaning table token.FrozenRelax = Command Relax
token_meaning table (token.FontIdentifier font) = font_meaning font

-- a number as that of a font; one that none can have is that of \nullfont
abbrev pub font_number : ℤ → ℕ
font_number n = if int_le (pos 0) n && int_le n (pos 255) then unsigned_abs n else 0

-- the table with a meaning, a category, a number, glue or a list of tokens at a place, all else as it was
abbrev pub with_meaning_at : Table → Place → Meaning → Table
with_meaning_at table (Name name) meaning = record table { names = with_meaning table.names name meaning }
with_meaning_at table (Active code) meaning = record table { active = slice_set table.active code meaning }
with_meaning_at table other meaning = table

abbrev pub with_number_at : Table → Place → ℤ → Table
with_number_at table (Count number) value = record table { counts = slice_set table.counts number value }
with_number_at table (Dimen number) value = record table { dimens = slice_set table.dimens number value }
with_number_at table (Code LowerCase code) value = record table { lower_case = slice_set table.lower_case code value }
with_number_at table (Code UpperCase code) value = record table { upper_case = slice_set table.upper_case code value }
with_number_at table (Code SpaceFactor code) value = record table { space_factors = slice_set table.space_factors code value }
with_number_at table (Code Math code) value = record table { math = slice_set table.math code value }
with_number_at table (Code Delimiter code) value = record table { delimiters = slice_set table.delimiters code value }
with_number_at table (Integer parameter) value = record table { integers = slice_set table.integers (integer_number parameter) value }
with_number_at table (Dimension parameter) value = record table { dimensions = slice_set table.dimensions (dimension_number parameter) value }
with_number_at table (BoxSize side number) value = record table { boxes = with_size table.boxes side number value }
with_number_at table Font value = record table { font = font_number value }
with_number_at table (Family size family) value = record table { families = slice_set table.families (family_index size family) value }
with_number_at table other value = table

abbrev pub with_category_at : Table → Place → Cat → Table
with_category_at table (Category code) category = record table { categories = slice_set table.categories code category }
with_category_at table other category = table

abbrev pub with_glue_at : Table → Place → GlueSpec → Table
with_glue_at table (Skip number) glue = record table { skips = slice_set table.skips number glue }
with_glue_at table (Muskip number) glue = record table { muskips = slice_set table.muskips number glue }
with_glue_at table (Glue parameter) glue = record table { glue_parameters = slice_set table.glue_parameters (glue_number parameter) glue }
with_glue_at table other glue = table

abbrev pub with_tokens_at : Table → Place → List Token → Table
with_tokens_at table (Toks number) tokens = record table { token_registers = slice_set table.token_registers number tokens }
with_tokens_at table (Tokens parameter) tokens = record table { token_parameters = slice_set table.token_parameters (token_number parameter) tokens }
with_tokens_at table other tokens = table

-- the box of a register, None where it is void and at any other place; and how many groups were open when it was assigned, 0 at
-- any other place
abbrev pub box_at : Table → Place → Option PackedBox
box_at table (Box number) = box_of table.boxes number
box_at table other = None

abbrev pub level_at : Table → Place → ℕ
level_at table (Box number) = level_of table.boxes number
level_at table (BoxSize side number) = level_of table.boxes number
level_at table other = 0

abbrev pub with_box_at : Table → Place → BoxRegister → Table
with_box_at table (Box number) register = record table { boxes = slice_set table.boxes number register }
with_box_at table other register = table

-- \parshape has the sizes of its lines
abbrev pub with_shape_at : Table → Place → List ℤ → Table
with_shape_at table ParShape sizes = record table { par_shape = sizes }
with_shape_at table other sizes = table

-- the table with an entry at a place that it fits, where so many groups are open
unfoldable pub with_entry : ℕ → Table → Place → Entry → Table
with_entry level table place (Means meaning) = with_meaning_at table place meaning
with_entry level table place (InCategory category) = with_category_at table place category
with_entry level table place (Number value) = with_number_at table place value
with_entry level table place (Elastic glue) = with_glue_at table place glue
with_entry level table place (Listed tokens) = with_tokens_at table place tokens
with_entry level table place (Boxed held) = with_box_at table place (record { level = level; held = held })
with_entry level table place (Shape sizes) = with_shape_at table place sizes
