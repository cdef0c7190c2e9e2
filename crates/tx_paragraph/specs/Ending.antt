-- How a paragraph ends (TeX: The Program, sections 815, 863, 1070, 1094 and 1096).
use Rattle.std.specs.Prelude.{ℕ, ℤ, pos, true, List, [], ◌∷◌, ◌++◌, length, Option, Some, None, unwrap_or, Result, Ok, Err, if◌then◌else◌}
use Rattle.tx_eqtb.specs.declared.eqtb.Eqtb.{Eqtb}
use Rattle.tx_eqtb.specs.declared.table.Table.{Table}
use Rattle.tx_eqtb.specs.Table.{number_at}
use Rattle.tx_nest.specs.declared.list.ModeList.{ModeList}
use Rattle.tx_nest.specs.declared.state.ModeState.{ModeState}
use Rattle.tx_nest.specs.declared.state.ModeState.TheVariants.{Vertical, InternalVertical, Horizontal, RestrictedHorizontal, Math, DisplayMath}
use Rattle.tx_nest.specs.Changed.{with_depth, with_items}
use Rattle.tx_nest.specs.Grafs.{raised_graf, with_graf}
use Rattle.tx_nest.specs.States.{prev_depth}
use Rattle.tx_node.specs.Items.{Item}
use Rattle.tx_num.specs.Limits.{fits}
use Rattle.tx_par.specs.declared.error.ParError.{ParError}
use Rattle.tx_par.specs.declared.error.ParError.TheVariants as par
use Rattle.tx_par.specs.declared.lines.Lines.{Lines as Set}
use Rattle.tx_hyphenate.specs.declared.known.Hyphenation.{Hyphenation}
use Rattle.tx_hyphenate.specs.declared.made.Made.{Made}
use Rattle.tx_hyphenate.specs.Hyphenated.{hyphenated}
use Rattle.tx_par.specs.Paragraphs.{first_lines, paragraph}
use Rattle.tx_prim.specs.declared.dimension.DimensionParameter.TheVariants.{Overfullrule}
use Rattle.tx_seen.specs.declared.error.TexError.{TexError}
use Rattle.tx_seen.specs.declared.error.TexError.TheVariants.{InfiniteShrink, SizeOutOfRange, TooDeep}
use Rattle.tx_seen.specs.declared.place.Place.TheVariants.{Dimension}
use Rattle.tx_box.specs.declared.parts.Lists.{Lists}
use Rattle.tx_box.specs.Building.{plain_shape}
use Rattle.tx_box.specs.Placing.{with_list}
use Rattle.tx_paragraph.specs.declared.last_line.LastLine.{LastLine}
use Rattle.tx_paragraph.specs.declared.last_line.LastLine.TheVariants.{OfParagraph}
use Rattle.tx_paragraph.specs.Hyphens.{Hyphenating, ways_of}
use Rattle.tx_paragraph.specs.Parameters.{later_params, params_of}
use Rattle.tx_paragraph.specs.Shapes.{shape_of}

-- a list that can't be set; setting it never ends by want of memory
abbrev pub par_error : ParError → TexError
par_error par.SizeOutOfRange = SizeOutOfRange
par_error par.TooDeep = TooDeep
par_error par.EndlessShrink = InfiniteShrink
par_error par.OutOfMemory = SizeOutOfRange

-- the first pass goes over a list as it stands, of which this is the last line, behind so much \prevdepth and so many lines that have
-- passed; None where it isn't made, or doesn't give the answer
unfoldable pub first_of : LastLine → Table → ℤ → ℕ → List Item → Option (Result Set ParError)
first_of last table depth passed list = first_lines list (shape_of table passed list) (params_of last table depth)

-- the others go over the list with its words hyphenated (section 863)
unfoldable pub later_of : LastLine → Table → ℤ → ℕ → List Item → Result Set ParError
later_of last table depth passed list = paragraph list (shape_of table passed list) (later_params (params_of last table depth))

-- what is told of hyphens that their fonts lack stands before what is told of the lines
abbrev pub told_first : List ℕ → Result Set ParError → Result Set ParError
told_first report (Err error) = Err error
told_first report (Ok set) = Ok (record set { report = report ++ set.report })

-- the lines of what hyphenation made of a list
abbrev pub lines_made : LastLine → Table → ℤ → ℕ → Made → Result Set ParError
lines_made last table depth passed made = told_first made.report (later_of last table depth passed made.items)

abbrev pub lines_after : Option (Result Set ParError) → Result Set ParError → Result Set ParError
lines_after None later = later
lines_after (Some outcome) later = outcome

-- the lines of a list
abbrev pub lines_of : Hyphenating → LastLine → Table → ℤ → ℕ → List Item → Result Set ParError
lines_of h last table depth passed list =
    lines_after (first_of last table depth passed list) (lines_made last table depth passed (hyphenated (ways_of h table) list))

-- \overfullrule is a dimension, whatever is assigned
abbrev pub lines_if : Hyphenating → LastLine → Table → ℤ → ℕ → List Item → Result Set ParError
lines_if h last table depth passed list =
    if fits (number_at table (Dimension Overfullrule)) then lines_of h last table depth passed list else Err par.SizeOutOfRange

-- once a second pass began, no pattern can be added any more (section 891)
abbrev pub used_after : Option (Result Set ParError) → Hyphenation → Hyphenation
used_after None known = record known { used = true }
used_after (Some outcome) known = known

-- the lines stand at the end of the list around, behind them \prevdepth is the last one's depth, \prevgraf counts them too, and
-- \badness is how bad the last one is
abbrev pub with_lines : Lists → List Item → ℤ → ℕ → ℤ → Lists
with_lines lists nodes depth graf badness =
    record (with_list lists (with_graf (with_depth (with_items lists.nest.innermost nodes) depth) graf)) { badness = badness }

-- what a paragraph's end leaves, and what the transcript gets of its hyphens and lines
pub record Left : Type 0 where
  pub lists : Lists
  pub table : Eqtb
  pub known : Hyphenation
  pub report : List ℕ

abbrev pub left : Lists → Eqtb → Hyphenation → List ℕ → Result Left ParError
left lists table known report = Ok (record { lists = lists; table = table; known = known; report = report })

-- the lines, if all can be counted; the next paragraph has the plain shape
abbrev pub counted : Hyphenation → Lists → Eqtb → Set → Option ℕ → Result Left ParError
counted known lists table set None = Err par.SizeOutOfRange
counted known lists table set (Some graf) =
    left (with_lines lists set.nodes set.depth graf set.badness) (plain_shape table) known set.report

-- the lines behind so many that have passed, if they can be set
abbrev pub setting : Hyphenation → Lists → Eqtb → ℕ → Result Set ParError → Result Left ParError
setting known lists table passed (Err error) = Err error
setting known lists table passed (Ok set) = counted known lists table set (raised_graf passed (length set.chosen.chain))

-- \prevdepth of the list around; it is vertical
abbrev pub depth_of : ModeState → ℤ
depth_of state = unwrap_or (prev_depth state) (pos 0)

-- a list in the lists around it, behind so much \prevdepth and so many lines that have passed
abbrev pub set_list : Hyphenating → ℤ → ℕ → List Item → Lists → Eqtb → Result Left ParError
set_list h depth passed list lists table =
    setting (used_after (first_of OfParagraph table.table depth passed list) h.known) lists table passed (lines_if h OfParagraph table.table depth passed list)

-- a paragraph's list in the lists around it, where so many lines have passed; of an empty one only \prevgraf stays
abbrev pub ended_list : Hyphenating → ℕ → List Item → Lists → Eqtb → Result Left ParError
ended_list h passed [] lists table = left (with_list lists (with_graf lists.nest.innermost passed)) (plain_shape table) h.known []
ended_list h passed (item ∷ rest) lists table =
    set_list h (depth_of lists.nest.innermost.state) passed (item ∷ rest) lists table

-- the paragraph's list leaves the lists around it; one around which none waits, which no command makes, stays as it is
abbrev pub leaving : Hyphenating → List ModeList → Lists → Eqtb → Result Left ParError
leaving h [] lists table = left lists table h.known []
leaving h (outer ∷ around) lists table =
    ended_list h lists.nest.innermost.prev_graf lists.nest.innermost.nodes (record lists { nest = record { innermost = outer; around = around } }) table

-- the paragraph that is open ends, as it does at the end of a vertical box (section 1100); where none is, nothing happens
abbrev pub closing_in : Hyphenating → ModeState → Lists → Eqtb → Result Left ParError
closing_in h (Horizontal factor) lists table = leaving h lists.nest.around lists table
closing_in h (Vertical depth) lists table = left lists table h.known []
closing_in h (InternalVertical depth) lists table = left lists table h.known []
closing_in h (RestrictedHorizontal factor) lists table = left lists table h.known []
closing_in h Math lists table = left lists table h.known []
closing_in h DisplayMath lists table = left lists table h.known []

abbrev pub closing : Hyphenating → Lists → Eqtb → Result Left ParError
closing h lists table = closing_in h lists.nest.innermost.state lists table

-- \par: between paragraphs only the shape is plain again, and in boxes' horizontal lists and in formulas nothing comes of it
abbrev pub ending_in : Hyphenating → ModeState → Lists → Eqtb → Result Left ParError
ending_in h (Horizontal factor) lists table = leaving h lists.nest.around lists table
ending_in h (Vertical depth) lists table = left lists (plain_shape table) h.known []
ending_in h (InternalVertical depth) lists table = left lists (plain_shape table) h.known []
ending_in h (RestrictedHorizontal factor) lists table = left lists table h.known []
ending_in h Math lists table = left lists table h.known []
ending_in h DisplayMath lists table = left lists table h.known []

abbrev pub ending : Hyphenating → Lists → Eqtb → Result Left ParError
ending h lists table = ending_in h lists.nest.innermost.state lists table
