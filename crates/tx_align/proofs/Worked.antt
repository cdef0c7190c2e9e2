-- Alignments that were worked by hand; those without an error are set so by Knuth's TeX.
use Rattle.std.proofs.Common.{◌≡◌, ℕ, ◌*◌, List, [], ◌∷◌, Option, Some, None, Result, Ok, Err, refl}
use Rattle.std.specs.Prelude.{ℤ, pos, negsuc}
use Rattle.tx_char.specs.declared.category.Cat.TheVariants.{Letter, Space as SpaceCategory}
use Rattle.tx_char.specs.declared.tokens.Token.{Token}
use Rattle.tx_char.specs.declared.tokens.Token.TheVariants.{Character}
use Rattle.tx_num.specs.Glue.{GlueSpec, glue_of, zero_glue}
use Rattle.tx_node.specs.declared.head.BoxHead.{BoxHead}
use Rattle.tx_node.specs.declared.head.Change.TheVariants.{Stretch}
use Rattle.tx_node.specs.declared.head.Direction.TheVariants.{Horizontal}
use Rattle.tx_node.specs.declared.head.Setting.{Setting}
use Rattle.tx_node.specs.declared.head.Setting.TheVariants.{Natural, Set}
use Rattle.tx_node.specs.declared.plain.Plain.TheVariants.{Glue, Penalty}
use Rattle.tx_node.specs.declared.plain.Shared.TheVariants.{Rule}
use Rattle.tx_node.specs.Items.{Item, none, plain, shared, boxed, items_of}
use Rattle.tx_pack.specs.declared.types.Goal.TheVariants as goal
use Rattle.tx_pack.specs.declared.types.PackParams.{PackParams}
use Rattle.tx_pack.specs.Packing.{packed}
use Rattle.tx_seen.specs.declared.error.TexError.{TexError}
use Rattle.tx_seen.specs.declared.error.TexError.TheVariants.{IncompleteText, MisplacedAlignment}
use Rattle.tx_align.specs.declared.column.Column.{Column}
use Rattle.tx_align.specs.declared.entry.Entry.{Entry}
use Rattle.tx_align.specs.declared.error.AlignError.TheVariants as error
use Rattle.tx_align.specs.declared.part.Part.TheVariants.{Ended}
use Rattle.tx_align.specs.declared.pre_item.PreItem.{PreItem}
use Rattle.tx_align.specs.declared.pre_item.PreItem.TheVariants as item
use Rattle.tx_align.specs.declared.row_item.RowItem.{RowItem}
use Rattle.tx_align.specs.declared.row_item.RowItem.TheVariants as row
use Rattle.tx_align.specs.declared.sized.SizedColumn.{SizedColumn}
use Rattle.tx_align.specs.Preambles.{Forming, nothing_read}
use Rattle.tx_align.specs.Grammar.{Sign, WrittenColumn, reads, text_of}
use Rattle.tx_align.specs.Columns.{parts}
use Rattle.tx_align.specs.Rows.{pushed}
use Rattle.tx_align.specs.Widths.{sized}
use Rattle.tx_align.specs.RowBoxes.{blank, box_to}
use Rattle.tx_align.specs.Aligned.{finished}

-- so many points
abbrev pt : ℕ → ℤ
pt n = pos (n * 65536)

abbrev rigid : ℤ → GlueSpec
rigid width = glue_of width (pos 0) 0 (pos 0) 0

abbrev fil : ℤ → GlueSpec
fil width = glue_of width (pt 1) 1 (pos 0) 0

abbrev letter : ℕ → PreItem
letter c = item.Token (Character c Letter)

abbrev blank_space : PreItem
blank_space = item.Space (Character 32 SpaceCategory)

abbrev a : Token
a = Character 97 Letter

abbrev b : Token
b = Character 98 Letter

abbrev space : Token
space = Character 32 SpaceCategory

-- a preamble behind these items
abbrev preamble : List PreItem → Result Forming TexError
preamble items = reads (nothing_read zero_glue) items

abbrev column : List Token → List Token → GlueSpec → Column
column u v skip = record { u_part = u; v_part = v; skip = skip }

abbrev whole : GlueSpec → List Column → Option ℕ → GlueSpec → Forming
whole first columns repeats skip = record { first = first; columns = columns; repeats = repeats; skip = skip; u_part = []; v_part = []; part = Ended }

-- #&#\cr
abbrev two : Forming
two = whole zero_glue (column [] [] zero_glue ∷ column [] [] zero_glue ∷ []) None zero_glue

two-read : preamble (item.Param ∷ item.Tab ∷ item.Param ∷ item.Cr ∷ []) ≡ Ok two
two-read = refl

-- ` a#  & \tabskip=1pt #b\cr`: spaces vanish at the beginning of a u-part alone, and \tabskip counts from the end of its column on
spaces-read : preamble (blank_space ∷ letter 97 ∷ item.Param ∷ blank_space ∷ blank_space ∷ item.Tab ∷ blank_space ∷ item.Tabskip (rigid (pt 1)) ∷ blank_space ∷ item.Param ∷ letter 98 ∷ item.Cr ∷ [])
    ≡ Ok (whole zero_glue (column (a ∷ []) (space ∷ space ∷ []) zero_glue ∷ column [] (b ∷ []) (rigid (pt 1)) ∷ []) None (rigid (pt 1)))
spaces-read = refl

-- #&&a#&b#\cr: the second and the third column come again and again
abbrev repeating : Forming
repeating = whole zero_glue (column [] [] zero_glue ∷ column (a ∷ []) [] zero_glue ∷ column (b ∷ []) [] zero_glue ∷ []) (Some 1) zero_glue

repeats-read : preamble (item.Param ∷ item.Tab ∷ item.Tab ∷ letter 97 ∷ item.Param ∷ item.Tab ∷ letter 98 ∷ item.Param ∷ item.Cr ∷ []) ≡ Ok repeating
repeats-read = refl

-- which is written so
abbrev side : Token → WrittenColumn
side t = record { before = Sign t ∷ []; behind = [] }

repeats-written : text_of (record { once = record { before = []; behind = [] } ∷ []; repeats = Some []; others = side a ∷ []; last = side b })
    ≡ item.Param ∷ item.Tab ∷ item.Tab ∷ letter 97 ∷ item.Param ∷ item.Tab ∷ letter 98 ∷ item.Param ∷ item.Cr ∷ []
repeats-written = refl

fourth : parts repeating 3 ≡ Some (a ∷ [], [])
fourth = refl

fifth : parts repeating 4 ≡ Some (b ∷ [], [])
fifth = refl

third : parts two 2 ≡ None
third = refl

-- &#\cr: all of them do
all-repeat : preamble (item.Tab ∷ item.Param ∷ item.Cr ∷ []) ≡ Ok (whole zero_glue (column [] [] zero_glue ∷ []) (Some 0) zero_glue)
all-repeat = refl

-- a&, ##, #\cr without a #, a second && and the end of a file
no-sign : preamble (letter 97 ∷ item.Tab ∷ []) ≡ Err MisplacedAlignment
no-sign = refl

two-signs : preamble (item.Param ∷ item.Param ∷ []) ≡ Err MisplacedAlignment
two-signs = refl

no-last-sign : preamble (item.Param ∷ item.Tab ∷ item.Cr ∷ []) ≡ Err MisplacedAlignment
no-last-sign = refl

twice-repeated : preamble (item.Tab ∷ item.Param ∷ item.Tab ∷ item.Tab ∷ []) ≡ Err MisplacedAlignment
twice-repeated = refl

cut-off : preamble (item.Param ∷ item.EndOfFile ∷ []) ≡ Err IncompleteText
cut-off = refl

-- entries of columns up to the one before `end`
abbrev entry : ℕ → ℕ → ℤ → Entry
entry first end width = record { first = first; end = end; width = width }

abbrev wide : ℤ → ℤ → GlueSpec → SizedColumn
wide begins width skip = record { begins = begins; width = width; skip = skip }

abbrev with_skips : GlueSpec → Forming
with_skips skip = whole skip (column [] [] skip ∷ column [] [] skip ∷ column [] [] skip ∷ []) None skip

-- 3pt and 5pt, 4pt and 2pt
greatest-widths : sized two (entry 0 1 (pt 3) ∷ entry 1 2 (pt 5) ∷ entry 0 1 (pt 4) ∷ entry 1 2 (pt 2) ∷ [])
    ≡ Ok (record { columns = wide (pt 0) (pt 4) zero_glue ∷ wide (pt 4) (pt 5) zero_glue ∷ []; begins = pt 9 })
greatest-widths = refl

-- skips of 1pt; 10pt, 5pt and nothing, and 20pt over the first two: the second column gets 20 - 10 - 1, and in the third nothing ends, so
-- that it has no skip behind it
spanned-widths : sized (with_skips (rigid (pt 1))) (entry 0 1 (pt 10) ∷ entry 1 2 (pt 5) ∷ entry 0 2 (pt 20) ∷ [])
    ≡ Ok (record { columns = wide (pt 1) (pt 10) (rigid (pt 1)) ∷ wide (pt 12) (pt 9) (rigid (pt 1)) ∷ wide (pt 22) (pt 0) zero_glue ∷ []; begins = pt 22 })
spanned-widths = refl

-- nothing ends in the first column: 20pt over both are the second's
void-column : sized (with_skips (rigid (pt 1))) (entry 0 2 (pt 20) ∷ entry 2 3 (pt 2) ∷ [])
    ≡ Ok (record { columns = wide (pt 1) (pt 0) zero_glue ∷ wide (pt 1) (pt 20) (rigid (pt 1)) ∷ wide (pt 22) (pt 2) (rigid (pt 1)) ∷ []; begins = pt 25 })
void-column = refl

-- 10pt, and 3pt over both: the second column is as wide as -7pt - 1pt
negative-width : sized (with_skips (rigid (pt 1))) (entry 0 1 (pt 10) ∷ entry 0 2 (pt 3) ∷ [])
    ≡ Ok (record { columns = wide (pt 1) (pt 10) (rigid (pt 1)) ∷ wide (pt 12) (negsuc 524287) (rigid (pt 1)) ∷ wide (pt 5) (pt 0) zero_glue ∷ []; begins = pt 5 })
negative-width = refl

-- a horizontal box
abbrev head : ℤ → Setting → BoxHead
head width setting = record { direction = Horizontal; width = width; height = pos 0; depth = pos 0; setting = setting }

abbrev empty_box : ℤ → Item
empty_box width = boxed (pos 0) (head width Natural) none

abbrev in_box : ℤ → Setting → List Item → Item
in_box width setting list = boxed (pos 0) (head width setting) (items_of list)

abbrev glue : GlueSpec → Item
glue g = plain (Glue g)

abbrev cell : ℕ → List Item → RowItem
cell span list = row.Cell span list

abbrev params : PackParams
params = record { badness = pos 0; fuzz = pos 0; overfull_rule = pos 0 }

-- both rows of \hbox to 3pt{}&\hbox to 5pt{}\cr\hbox to 4pt{}&\hbox to 2pt{}\cr are 9pt wide, and a rule between them that runs too
abbrev bar : Option ℤ → Item
bar width = shared (Rule (record { width = width; height = Some (pt 1); depth = Some (pos 0) }))

two-rows : finished two (cell 1 (empty_box (pt 3) ∷ []) ∷ cell 1 (empty_box (pt 5) ∷ []) ∷ row.RowEnd ∷ row.NoAlign (bar None ∷ plain (Penalty (pos 7)) ∷ []) ∷ cell 1 (empty_box (pt 4) ∷ []) ∷ cell 1 (empty_box (pt 2) ∷ []) ∷ row.RowEnd ∷ []) goal.Natural params
    ≡ Ok (record {
      nodes =
          in_box (pt 9) Natural (glue zero_glue ∷ in_box (pt 4) Natural (empty_box (pt 3) ∷ []) ∷ glue zero_glue ∷ in_box (pt 5) Natural (empty_box (pt 5) ∷ []) ∷ glue zero_glue ∷ [])
          ∷ bar (Some (pt 9))
          ∷ plain (Penalty (pos 7))
          ∷ in_box (pt 9) Natural (glue zero_glue ∷ in_box (pt 4) Natural (empty_box (pt 4) ∷ []) ∷ glue zero_glue ∷ in_box (pt 5) Natural (empty_box (pt 2) ∷ []) ∷ glue zero_glue ∷ [])
          ∷ [];
      badness = pos 0;
      report = [];
    })
unfolding box_to packed
two-rows = refl

-- \tabskip=1pt plus 1fil \halign to 40pt{#&#\cr..}: 10pt and 5pt; and 20pt with \hfil over both columns, which are 10pt and 9pt wide with 7pt
-- between them, so that \hfil is 6pt: its box is only as wide as its first column, and an empty one stands for the second
abbrev set_by : ℤ → ℤ → Setting
set_by total excess = Set (record { change = Stretch; order = 1; total = total; excess = excess })

abbrev elastic : Forming
elastic = whole (fil (pt 1)) (column [] [] (fil (pt 1)) ∷ column [] [] (fil (pt 1)) ∷ []) None (fil (pt 1))

spanning-row : finished elastic (cell 1 (empty_box (pt 10) ∷ []) ∷ cell 1 (empty_box (pt 5) ∷ []) ∷ row.RowEnd ∷ cell 2 (empty_box (pt 20) ∷ glue (fil (pos 0)) ∷ []) ∷ row.RowEnd ∷ []) (goal.To (pt 40)) params
    ≡ Ok (record {
      nodes =
          in_box (pt 40) (set_by (pt 3) (pt 18)) (glue (fil (pt 1)) ∷ in_box (pt 10) Natural (empty_box (pt 10) ∷ []) ∷ glue (fil (pt 1)) ∷ in_box (pt 9) Natural (empty_box (pt 5) ∷ []) ∷ glue (fil (pt 1)) ∷ [])
          ∷ in_box (pt 40) (set_by (pt 3) (pt 18)) (glue (fil (pt 1)) ∷ in_box (pt 10) (set_by (pt 1) (pt 6)) (empty_box (pt 20) ∷ glue (fil (pos 0)) ∷ []) ∷ glue (fil (pt 1)) ∷ blank (pt 9) ∷ glue (fil (pt 1)) ∷ [])
          ∷ [];
      badness = pos 0;
      report = [];
    })
unfolding box_to packed
spanning-row = refl

-- a third cell of two columns; \noalign within a row; and a row that the end cuts off
third-cell : pushed two (cell 1 [] ∷ cell 1 [] ∷ []) (cell 1 []) ≡ Err error.MisplacedAlignment
third-cell = refl

within-row : pushed two (cell 1 [] ∷ []) (row.NoAlign []) ≡ Err error.MisplacedAlignment
within-row = refl

open-row : finished two (cell 1 [] ∷ []) goal.Natural params ≡ Err error.MisplacedAlignment
open-row = refl
