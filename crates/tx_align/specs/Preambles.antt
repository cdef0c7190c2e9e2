-- What is read of a preamble (TeX: The Program, sections 777 to 784; The TeXbook, chapter 22).
use Rattle.std.specs.Prelude.{◌≡◌, ◌==◌, ◌&&◌, not, ℕ, Bool, is_some, List, [], ◌∷◌, ◌++◌, length, Option, Some, None, Result, Ok, Err, if◌then◌else◌}
use Rattle.tx_char.specs.declared.tokens.Token.{Token}
use Rattle.tx_num.specs.Glue.{GlueSpec}
use Rattle.tx_seen.specs.declared.error.TexError.{TexError}
use Rattle.tx_seen.specs.declared.error.TexError.TheVariants.{IncompleteText, MisplacedAlignment}
use Rattle.tx_seen.specs.declared.fed.Fed.{Fed}
use Rattle.tx_seen.specs.declared.fed.Fed.TheVariants.{More, Done, Wrong}
use Rattle.tx_seen.specs.declared.fed.Want.TheVariants.{Raw}
use Rattle.tx_align.specs.declared.column.Column.{Column}
use Rattle.tx_align.specs.declared.part.Part.{Part}
use Rattle.tx_align.specs.declared.part.Part.TheVariants.{Before, Behind, Ended}
use Rattle.tx_align.specs.declared.pre_item.PreItem.{PreItem}
use Rattle.tx_align.specs.declared.pre_item.PreItem.TheVariants as item

-- a preamble of which some is read: the glue before its first column; the columns that are whole; from which of them on columns repeat,
-- if `&&` told; \tabskip as it is now; the u- and the v-part of the column that is being read; and in which of the two it is
pub record Forming : Type 0 where
  pub first : GlueSpec
  pub columns : List Column
  pub repeats : Option ℕ
  pub skip : GlueSpec
  pub u_part : List Token
  pub v_part : List Token
  pub part : Part

-- nothing is read; \tabskip is this glue (section 778)
abbrev pub nothing_read : GlueSpec → Forming
nothing_read tabskip = record { first = tabskip; columns = []; repeats = None; skip = tabskip; u_part = []; v_part = []; part = Before }

-- one more token of the u-part, and of the v-part
abbrev pub in_u_part : Forming → Token → Forming
in_u_part p t = record p { u_part = p.u_part ++ t ∷ [] }

abbrev pub in_v_part : Forming → Token → Forming
in_v_part p t = record p { v_part = p.v_part ++ t ∷ [] }

-- nothing of the u-part is read
abbrev pub is_empty : List Token → Bool
is_empty u_part = length u_part == 0

-- spaces at the beginning of a u-part vanish (section 783)
abbrev pub space_in_u_part : Forming → Token → Forming
space_in_u_part p t = if is_empty p.u_part then p else in_u_part p t

-- & at the beginning of a u-part: the columns from here on repeat, if none did so far; in any other place of it the # is missing
abbrev pub tab_in_u_part : Forming → Result Forming TexError
tab_in_u_part p = if is_empty p.u_part && not (is_some p.repeats) then Ok (record p { repeats = Some (length p.columns) }) else Err MisplacedAlignment

-- a column is whole, and \tabskip as it is now stands behind it (sections 777 to 779)
abbrev pub with_column : Forming → Part → Forming
with_column p part = record p {
  columns = p.columns ++ record { u_part = p.u_part; v_part = p.v_part; skip = p.skip } ∷ [];
  u_part = [];
  v_part = [];
  part = part;
}

-- an item of a u-part, which ends at the first # (section 783); \tabskip is assigned, and is no token of it (section 782)
abbrev pub before_takes : Forming → PreItem → Result Forming TexError
before_takes p (item.Token t) = Ok (in_u_part p t)
before_takes p (item.Space t) = Ok (space_in_u_part p t)
before_takes p item.Param = Ok (record p { part = Behind })
before_takes p item.Tab = tab_in_u_part p
before_takes p item.Cr = Err MisplacedAlignment
before_takes p (item.Tabskip glue) = Ok (record p { skip = glue })
before_takes p item.Outer = Err IncompleteText
before_takes p item.EndOfFile = Err IncompleteText

-- an item of a v-part, which & or \cr ends, and in which no # may stand (section 784); spaces count in it
abbrev pub behind_takes : Forming → PreItem → Result Forming TexError
behind_takes p (item.Token t) = Ok (in_v_part p t)
behind_takes p (item.Space t) = Ok (in_v_part p t)
behind_takes p item.Param = Err MisplacedAlignment
behind_takes p item.Tab = Ok (with_column p Before)
behind_takes p item.Cr = Ok (with_column p Ended)
behind_takes p (item.Tabskip glue) = Ok (record p { skip = glue })
behind_takes p item.Outer = Err IncompleteText
behind_takes p item.EndOfFile = Err IncompleteText

-- one more item; nothing is behind a preamble that has ended
abbrev pub takes : Forming → PreItem → Part → Result Forming TexError
takes p i Before = before_takes p i
takes p i Behind = behind_takes p i
takes p i Ended = Ok p

-- the answer where this part comes next: tokens of a preamble are wanted as they stand
abbrev pub answer : Part → Fed (Unit {0})
answer Before = More Raw
answer Behind = More Raw
answer Ended = Done tt 0

-- what is answered where one more item makes this of a preamble, and what it is then
abbrev pub IsFed : Result Forming TexError → Fed (Unit {0}) → Forming → Type 0
IsFed (Err error) fed new = fed ≡ Wrong error
IsFed (Ok p) fed new = (fed ≡ answer p.part) × (new ≡ p)
