-- How paragraphs begin and end, with \prevgraf and \parshape (TeX: The Program, sections 1090 to 1100, 1244 and 1248).
use Rattle.std.specs.Prelude.{ℕ, ◌-◌, ◌*◌, ℤ, pos, int_lt, unsigned_abs, Bool, true, false, nat_lt, List, [], ◌∷◌, ◌++◌, Option, Some, None, Result, Ok, Err, codes, if◌then◌else◌}
use Rattle.tx_char.specs.declared.tokens.Token.TheVariants as token
use Rattle.tx_nest.specs.Grafs.{with_graf}
use Rattle.tx_eqtb.specs.declared.entry.Entry.TheVariants.{Shape as Shape_entry}
use Rattle.tx_eqtb.specs.Table.{tokens_at}
use Rattle.tx_expand.specs.Turns.{put, put_back}
use Rattle.tx_prim.specs.declared.family.Indentation.{Indentation}
use Rattle.tx_prim.specs.declared.tokens.TokenParameter.TheVariants.{Everypar}
use Rattle.tx_seen.specs.declared.error.TexError.TheVariants.{NumberOutOfRange}
use Rattle.tx_seen.specs.declared.place.Place.TheVariants.{ParShape, Tokens}
use Rattle.tx_assign.specs.declared.types.Assignment.{Assignment}
use Rattle.tx_assign.specs.declared.types.Change.TheVariants.{Set}
use Rattle.tx_assign.specs.Changes.{carried_out}
use Rattle.tx_command.specs.declared.types.Head.{Head}
use Rattle.tx_command.specs.declared.types.Head.TheVariants.{Fresh, Shaping}
use Rattle.tx_command.specs.declared.types.Prefixes.{Prefixes}
use Rattle.tx_par.specs.declared.error.ParError.{ParError}
use Rattle.tx_paragraph.specs.Beginning.{begins_paragraph, indented}
use Rattle.tx_paragraph.specs.Ending as paragraph
use Rattle.tx_paragraph.specs.Hyphens.{Hyphenating}
use Rattle.tx_building.specs.Building.{built, exercising, is_pages}
use Rattle.tx_state.specs.Ended.{assigned, assigning, with_top_list}
use Rattle.tx_state.specs.State.{TexState}
use Rattle.tx_state.specs.Outcomes.{Outcome, Leaves, fails, leaves}
use Rattle.tx_building.specs.Carrying.{carrying}

-- \prevgraf, whatever the prefix (section 1244)
abbrev pub setting_graf : TexState → Option ℕ → Outcome
setting_graf s None = fails NumberOutOfRange
setting_graf s (Some graf) = leaves (assigned (with_top_list s (with_graf s.lists.nest.innermost graf)))

-- \parshape: so many sizes are to follow, two for each of its lines, of which there are none where the number isn't positive; once
-- they are there, it is assigned (section 1248)
abbrev pub sizes_of : ℤ → ℕ
sizes_of lines = if int_lt (pos 0) lines then unsigned_abs lines * 2 else 0

abbrev pub shape_assigned : List ℤ → Assignment
shape_assigned sizes = record { place = ParShape; change = Set (Shape_entry sizes) }

abbrev pub shaping : TexState → Prefixes → ℕ → List ℤ → Outcome
shaping s prefixes left sizes =
    if nat_lt 0 left then leaves (record s { head = Shaping prefixes left sizes })
    else assigning s (carried_out s.table (shape_assigned sizes) prefixes.global)

-- one size more; nothing else has such sizes behind it
abbrev pub shape_sized : TexState → ℤ → Head → Outcome
shape_sized s size (Shaping prefixes left sizes) = shaping s prefixes (left - 1) (sizes ++ size ∷ [])
shape_sized s size other = leaves (record s { head = Fresh })

-- what a paragraph's words are hyphenated by
abbrev pub hyphenating : TexState → Hyphenating
hyphenating s = record { fonts = s.words.fonts; known = s.hyphenation }

-- a paragraph begins, in which \everypar's tokens are read first (section 1091); \indent and \noindent in other lists
abbrev pub with_every_par : Bool → TexState → TexState
with_every_par false s = s
with_every_par true s = record s { reader = put (tokens_at s.table.table (Tokens Everypar)) s.reader }

abbrev pub indenting : Indentation → TexState → TexState
indenting how s = carrying s (record { lists = indented how s.table.table s.lists; table = s.table; due = None; leads = None })

-- a paragraph that begins on the pages' list lets the page builder have its \parskip
abbrev pub beginning_paragraph : Bool → TexState → Outcome
beginning_paragraph true s = exercising s []
beginning_paragraph false s = leaves s

-- \indent and \noindent, with what a paragraph begins with where one does
abbrev pub indenting_so : TexState → Indentation → Outcome
indenting_so s how = beginning_paragraph (is_pages s.mode) (indenting how (with_every_par (begins_paragraph s.lists.nest.innermost.state) s))

-- \par is read first (section 1095)
abbrev pub inserting_par : TexState → TexState
inserting_par s = record s { reader = put_back (token.Name (codes "par") ∷ []) s.reader }

-- \par (section 1094)
abbrev pub paragraph_ended : TexState → Result paragraph.Left ParError → Outcome
paragraph_ended s (Err error) = fails (paragraph.par_error error)
paragraph_ended s (Ok left) = Leaves (carrying (record s { hyphenation = left.known }) (record { lists = left.lists; table = left.table; due = None; leads = None })) left.report

-- \par, behind which the page builder is exercised
abbrev pub ending_paragraph : TexState → Outcome
ending_paragraph s = built (paragraph_ended s (paragraph.ending (hyphenating s) s.lists s.table))
