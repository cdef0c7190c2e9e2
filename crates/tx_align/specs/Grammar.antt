-- Preambles as they are written (The TeXbook, chapter 22; TeX: The Program, section 777).
use Rattle.std.specs.Prelude.{◌≡◌, ℕ, List, [], ◌∷◌, ◌++◌, flat_map, fold, length, map, Option, Some, None, Result, Ok, Err}
use Rattle.tx_char.specs.declared.tokens.Token.{Token}
use Rattle.tx_num.specs.Glue.{GlueSpec}
use Rattle.tx_seen.specs.declared.error.TexError.{TexError}
use Rattle.tx_align.specs.declared.column.Column.{Column}
use Rattle.tx_align.specs.declared.part.Part.TheVariants.{Ended}
use Rattle.tx_align.specs.declared.pre_item.PreItem.{PreItem}
use Rattle.tx_align.specs.declared.pre_item.PreItem.TheVariants as item
use Rattle.tx_align.specs.Preambles.{Forming, takes}

-- what stands on the sides of a #: a token that is no space, a space, or an assignment to \tabskip
pub data Piece : Type 0 where
  Sign : Token → Piece
  Blank : Token → Piece
  Skip : GlueSpec → Piece

abbrev pub item_of : Piece → PreItem
item_of (Sign t) = item.Token t
item_of (Blank t) = item.Space t
item_of (Skip glue) = item.Tabskip glue

-- the tokens of a side: assignments are none of it
abbrev pub tokens_of : List Piece → List Token
tokens_of [] = []
tokens_of (Sign t ∷ rest) = t ∷ tokens_of rest
tokens_of (Blank t ∷ rest) = t ∷ tokens_of rest
tokens_of (Skip glue ∷ rest) = tokens_of rest

-- those of a u-part, which spaces don't begin
abbrev pub u_part_of : List Piece → List Token
u_part_of [] = []
u_part_of (Sign t ∷ rest) = t ∷ tokens_of rest
u_part_of (Blank t ∷ rest) = u_part_of rest
u_part_of (Skip glue ∷ rest) = u_part_of rest

-- \tabskip behind a side, by what it is before
abbrev pub assigned : GlueSpec → Piece → GlueSpec
assigned skip (Sign t) = skip
assigned skip (Blank t) = skip
assigned skip (Skip glue) = glue

abbrev pub skip_after : GlueSpec → List Piece → GlueSpec
skip_after skip side = fold assigned skip side

-- a column: what is before its #, and what is behind it
pub record WrittenColumn : Type 0 where
  pub before : List Piece
  pub behind : List Piece

-- a preamble: columns that come once; where others repeat, what stands before the second & of the && that tells so; and the others, of
-- which the last is told apart
pub record WrittenPreamble : Type 0 where
  pub once : List WrittenColumn
  pub repeats : Option (List Piece)
  pub others : List WrittenColumn
  pub last : WrittenColumn

-- only spaces and assignments stand between the signs of &&
abbrev pub AreApart : Option (List Piece) → Type 0
AreApart None = Unit {0}
AreApart (Some between) = u_part_of between ≡ []

-- its text: each column ends with &, the last one with \cr
abbrev pub column_text : PreItem → WrittenColumn → List PreItem
column_text end c = map item_of c.before ++ (item.Param ∷ (map item_of c.behind ++ end ∷ []))

abbrev pub columns_text : List WrittenColumn → List PreItem
columns_text columns = flat_map (column_text item.Tab) columns

abbrev pub repeats_text : Option (List Piece) → List PreItem
repeats_text None = []
repeats_text (Some between) = map item_of between ++ item.Tab ∷ []

abbrev pub text_of : WrittenPreamble → List PreItem
text_of w = columns_text w.once ++ (repeats_text w.repeats ++ (columns_text w.others ++ column_text item.Cr w.last))

-- what is meant: behind each column stands \tabskip as it is at its end
abbrev pub skip_behind_column : GlueSpec → WrittenColumn → GlueSpec
skip_behind_column skip c = skip_after (skip_after skip c.before) c.behind

abbrev pub skip_behind_columns : GlueSpec → List WrittenColumn → GlueSpec
skip_behind_columns skip columns = fold skip_behind_column skip columns

abbrev pub skip_behind_repeats : GlueSpec → Option (List Piece) → GlueSpec
skip_behind_repeats skip None = skip
skip_behind_repeats skip (Some between) = skip_after skip between

abbrev pub column_meant : GlueSpec → WrittenColumn → Column
column_meant skip c = record { u_part = u_part_of c.before; v_part = tokens_of c.behind; skip = skip_behind_column skip c }

abbrev pub columns_meant : GlueSpec → List WrittenColumn → List Column
columns_meant skip [] = []
columns_meant skip (c ∷ rest) = column_meant skip c ∷ columns_meant (skip_behind_column skip c) rest

abbrev pub repeats_meant : ℕ → Option (List Piece) → Option ℕ
repeats_meant count None = None
repeats_meant count (Some between) = Some count

-- \tabskip before the columns that aren't told to come once, and before the last one
abbrev pub skip_at_others : GlueSpec → WrittenPreamble → GlueSpec
skip_at_others tabskip w = skip_behind_repeats (skip_behind_columns tabskip w.once) w.repeats

abbrev pub skip_at_last : GlueSpec → WrittenPreamble → GlueSpec
skip_at_last tabskip w = skip_behind_columns (skip_at_others tabskip w) w.others

abbrev pub meant : GlueSpec → WrittenPreamble → Forming
meant tabskip w = record {
  first = tabskip;
  columns = columns_meant tabskip w.once ++ (columns_meant (skip_at_others tabskip w) w.others ++ column_meant (skip_at_last tabskip w) w.last ∷ []);
  repeats = repeats_meant (length w.once) w.repeats;
  skip = skip_behind_column (skip_at_last tabskip w) w.last;
  u_part = [];
  v_part = [];
  part = Ended;
}

-- what items make of a preamble one after the other, up to the first error
abbrev pub read_next : (Forming → Result Forming TexError) → Result Forming TexError → Result Forming TexError
read_next more (Err e) = Err e
read_next more (Ok p) = more p

abbrev pub reads : Forming → List PreItem → Result Forming TexError
reads p [] = Ok p
reads p (i ∷ rest) = read_next (λ more. reads more rest) (takes p i p.part)
