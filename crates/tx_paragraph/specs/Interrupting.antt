-- A display interrupts a paragraph (TeX: The Program, sections 1145, 1146 and 1149).
use Rattle.std.specs.Prelude.{ℕ, ◌+◌, ℤ, List, [], ◌∷◌, length, slice_get, Option, Some, None, Result, Ok, Err, if◌then◌else◌}
use Rattle.tx_display.specs.declared.types.DisplayPlace.{DisplayPlace}
use Rattle.tx_display.specs.Edges.{least_size, size_behind}
use Rattle.tx_eqtb.specs.declared.table.Table.{Table}
use Rattle.tx_hyphenate.specs.declared.known.Hyphenation.{Hyphenation}
use Rattle.tx_linebreak.specs.declared.params.LineShape.{LineShape}
use Rattle.tx_nest.specs.declared.list.ModeList.{ModeList}
use Rattle.tx_nest.specs.Grafs.{raised_graf, with_graf}
use Rattle.tx_node.specs.Items.{Item}
use Rattle.tx_num.specs.Limits.{fits}
use Rattle.tx_par.specs.declared.error.ParError.{ParError}
use Rattle.tx_par.specs.declared.error.ParError.TheVariants as par
use Rattle.tx_par.specs.declared.lines.Lines.{Lines as Set}
use Rattle.tx_tfm.specs.declared.state.FontState.{FontState}
use Rattle.tx_tfm.specs.Fonts.{font_parameter}
use Rattle.tx_box.specs.declared.parts.Lists.{Lists}
use Rattle.tx_box.specs.Placing.{with_list}
use Rattle.tx_paragraph.specs.declared.last_line.LastLine.TheVariants.{BeforeDisplay}
use Rattle.tx_paragraph.specs.Ending.{depth_of, first_of, lines_if, used_after, with_lines}
use Rattle.tx_paragraph.specs.Hyphens.{Hyphenating}
use Rattle.tx_paragraph.specs.Shapes.{line_at}

-- a size that is stored has to be a dimension
abbrev pub stored : ℤ → Result ℤ ParError
stored size = if fits size then Ok size else Err par.SizeOutOfRange

-- one after the other, up to the first error
abbrev pub passed : {A B : Type 0} → Result A ParError → (A → Result B ParError) → Result B ParError
passed (Err error) more = Err error
passed (Ok value) more = more value

-- where a display stands behind a line that reaches so far, on a line of this shape
unfoldable pub place_on : ℤ → LineShape → Result DisplayPlace ParError
place_on size line =
    passed (stored line.width) (λ width. passed (stored line.indent) (λ indent. Ok (record { size = size; width = width; indent = indent })))

-- it counts as three lines of the paragraph, the second of which is its own
unfoldable pub place_in : Table → ℕ → ℤ → Result DisplayPlace ParError
place_in table graf size = place_on size (line_at table (graf + 2))

abbrev pub place_if : Table → ℕ → Option ℤ → Result DisplayPlace ParError
place_if table graf None = Err par.SizeOutOfRange
place_if table graf (Some size) = place_in table graf size

-- behind the line that is this item, where two quads of the current font stay free
abbrev pub quad_of : List FontState → Table → ℤ
quad_of fonts table = font_parameter fonts table.font 6

unfoldable pub reach_of : List FontState → Table → Option Item → Option ℤ
reach_of fonts table line = size_behind line (quad_of fonts table)

unfoldable pub place_behind : List FontState → Table → ℕ → Option Item → Result DisplayPlace ParError
place_behind fonts table graf line = place_if table graf (reach_of fonts table line)

-- the lists before a display, without that of the paragraph; what the transcript gets of the paragraph's hyphens and lines; and where
-- the display stands
pub record Seat : Type 0 where
  pub lists : Lists
  pub report : List ℕ
  pub place : DisplayPlace

abbrev pub seat : Lists → List ℕ → DisplayPlace → Result Seat ParError
seat lists report place = Ok (record { lists = lists; report = report; place = place })

abbrev pub seated : Lists → List ℕ → Result DisplayPlace ParError → Result Seat ParError
seated lists report (Err error) = Err error
seated lists report (Ok place) = seat lists report place

-- what an interruption leaves: that, and what is known of hyphenation
pub record Cut : Type 0 where
  pub lists : Lists
  pub known : Hyphenation
  pub report : List ℕ
  pub place : DisplayPlace

abbrev pub cut : Lists → Hyphenation → List ℕ → DisplayPlace → Result Cut ParError
cut lists known report place = Ok (record { lists = lists; known = known; report = report; place = place })

abbrev pub cut_at : Hyphenation → Result Seat ParError → Result Cut ParError
cut_at known (Err error) = Err error
cut_at known (Ok s) = cut s.lists known s.report s.place

-- where there is no line, as behind \noindent and between two displays
abbrev pub cut_empty : Hyphenation → Table → ℕ → Lists → Result Cut ParError
cut_empty known table graf lists = cut_at known (seated lists [] (place_in table graf least_size))

-- the lines, if all can be counted
unfoldable pub lines_put : List FontState → Table → Lists → Set → ℕ → Result Seat ParError
lines_put fonts table lists set graf =
    seated (with_lines lists set.nodes set.depth graf set.badness) set.report (place_behind fonts table graf (slice_get set.nodes set.last))

abbrev pub lines_counted : List FontState → Table → Lists → Set → Option ℕ → Result Seat ParError
lines_counted fonts table lists set None = Err par.SizeOutOfRange
lines_counted fonts table lists set (Some graf) = lines_put fonts table lists set graf

-- the lines behind so many that have passed, if they can be set
abbrev pub cutting : List FontState → Table → Lists → ℕ → Result Set ParError → Result Seat ParError
cutting fonts table lists passed (Err error) = Err error
cutting fonts table lists passed (Ok set) = lines_counted fonts table lists set (raised_graf passed (length set.chosen.chain))

-- a list in the lists around it, behind so much \prevdepth and so many lines that have passed; the shape of the paragraph stays
unfoldable pub cut_set : Hyphenating → Table → ℤ → ℕ → List Item → Lists → Result Cut ParError
cut_set h table depth passed list lists =
    cut_at (used_after (first_of BeforeDisplay table depth passed list) h.known) (cutting h.fonts table lists passed (lines_if h BeforeDisplay table depth passed list))

-- a paragraph's list in the lists around it, where so many lines have passed; of an empty one only \prevgraf stays
abbrev pub cut_list : Hyphenating → Table → ℕ → List Item → Lists → Result Cut ParError
cut_list h table passed [] lists = cut_empty h.known table passed (with_list lists (with_graf lists.nest.innermost passed))
cut_list h table passed (item ∷ rest) lists =
    cut_set h table (depth_of lists.nest.innermost.state) passed (item ∷ rest) lists

-- the paragraph's list leaves the lists around it; one around which none waits, which no command makes, stays as it is, as if no line
-- had passed
abbrev pub interrupting_in : Hyphenating → Table → List ModeList → Lists → Result Cut ParError
interrupting_in h table [] lists = cut_empty h.known table 0 lists
interrupting_in h table (outer ∷ around) lists =
    cut_list h table lists.nest.innermost.prev_graf lists.nest.innermost.nodes (record lists { nest = record { innermost = outer; around = around } })

abbrev pub interrupting : Hyphenating → Table → Lists → Result Cut ParError
interrupting h table lists = interrupting_in h table lists.nest.around lists
