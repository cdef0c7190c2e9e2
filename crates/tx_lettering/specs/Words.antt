-- Characters, words, spaces and italic corrections in a list (TeX: The Program, sections 1030 to 1045, 1113 and 1243).
use Rattle.std.specs.Prelude.{ℕ, ℤ, pos, Bool, true, false, ◌||◌, List, [], ◌∷◌, Option, Some, None, unwrap_or, if◌then◌else◌}
use Rattle.tx_nest.specs.Changed.{with_factor}
use Rattle.tx_nest.specs.declared.state.ModeState.{ModeState}
use Rattle.tx_nest.specs.declared.state.ModeState.TheVariants.{Vertical, InternalVertical, Horizontal, RestrictedHorizontal, Math, DisplayMath}
use Rattle.tx_nest.specs.Factors.{factor_of, plain_factor}
use Rattle.tx_nest.specs.States.{space_factor}
use Rattle.tx_node.specs.declared.plain.KernKind.TheVariants.{Explicit, Implicit}
use Rattle.tx_node.specs.declared.plain.Plain.TheVariants.{Glue, Kern}
use Rattle.tx_node.specs.Items.{Item, plain}
use Rattle.tx_num.specs.Glue.{GlueSpec}
use Rattle.tx_prim.specs.declared.family.CharacterCode.TheVariants.{SpaceFactor}
use Rattle.tx_prim.specs.declared.glue.GlueParameter.TheVariants.{Spaceskip, Xspaceskip}
use Rattle.tx_seen.specs.declared.error.TexError.TheVariants.{SizeOutOfRange, NotAllowed, NumberOutOfRange}
use Rattle.tx_seen.specs.declared.place.Place.TheVariants.{Code, Glue as Glue_place}
use Rattle.tx_seen.specs.declared.seen.Seen.{Seen}
use Rattle.tx_seen.specs.Seen.{continues_word}
use Rattle.tx_eqtb.specs.declared.table.Table.{Table}
use Rattle.tx_eqtb.specs.Table.{glue_at, number_at}
use Rattle.tx_hyphenate.specs.Lacking.{lacking_report, missing}
use Rattle.tx_tfm.specs.Fonts.{font_name}
use Rattle.tx_word.specs.declared.piece.WordParams.{WordParams}
use Rattle.tx_word.specs.Collecting.{Collected, collected, ended, without_word}
use Rattle.tx_word.specs.Factors.{factor_behind}
use Rattle.tx_word.specs.Italics.{last_italic}
use Rattle.tx_word.specs.Points.{hyphen_item, hyphen_lacking}
use Rattle.tx_word.specs.Spaces.{space_between}
use Rattle.tx_box.specs.declared.parts.Lists.{Lists}
use Rattle.tx_box.specs.Placing.{with_list}
use Rattle.tx_box.specs.Sources.{appended}
use Rattle.tx_command.specs.Commands.{is_begun}
use Rattle.tx_state.specs.Outcomes.{Outcome, Leaves, fails, leaves}
use Rattle.tx_state.specs.State.{TexState}
use Rattle.tx_state.specs.Ended.{adding, assigned}

-- the number of the current font
abbrev pub current_font : Table → ℕ
current_font table = table.font

-- the \sfcode of a character; 0 is no space factor, and leaves that of the list as it is
abbrev pub space_code : Table → ℕ → ℕ
space_code table code = unwrap_or (factor_of (number_at table (Code SpaceFactor code))) 0

-- \spaceskip and \xspaceskip
abbrev pub word_params : Table → WordParams
word_params table = record { spaceskip = glue_at table (Glue_place Spaceskip); xspaceskip = glue_at table (Glue_place Xspaceskip) }

-- more items at the end of the list that is being built
abbrev pub with_more : TexState → List Item → TexState
with_more s items = record s { lists = appended s.lists items }

-- its space factor, if it is a horizontal one, and another one
abbrev pub factor_now : TexState → Option ℕ
factor_now s = space_factor s.lists.nest.innermost.state

abbrev pub factored : Lists → ℕ → Lists
factored lists factor = with_list lists (with_factor lists.nest.innermost factor)

-- whether a list is that of a paragraph, where a line may be broken behind a hyphen
abbrev pub is_paragraph : ModeState → Bool
is_paragraph (Vertical depth) = false
is_paragraph (InternalVertical depth) = false
is_paragraph (Horizontal factor) = true
is_paragraph (RestrictedHorizontal factor) = false
is_paragraph Math = false
is_paragraph DisplayMath = false

abbrev pub in_paragraph : TexState → Bool
in_paragraph s = is_paragraph s.lists.nest.innermost.state

-- the word that is open ends
abbrev pub word_ended : TexState → TexState
word_ended s = record s { lists = appended s.lists (ended s.words (in_paragraph s) true); words = without_word s.words }

-- a token that begins a command ends it, if it is no character and doesn't stand for one, before anything behind it is read
abbrev pub before_token : TexState → Seen → TexState
before_token s t = if is_begun s.taken || continues_word t then s else word_ended s

-- \spacefactor, which horizontal lists have
abbrev pub with_list_factor : TexState → ℕ → TexState
with_list_factor s factor = record s { lists = factored s.lists factor }

-- what the transcript gets of a character that its font lacks
abbrev pub report_of : TexState → ℕ → Option ℕ → List ℕ
report_of s code None = []
report_of s code (Some font) = missing code (font_name s.words.fonts font)

-- what comes of a character stands in the list, and the words are these from then on
abbrev pub with_collected : TexState → Collected → TexState
with_collected s c = record s { lists = appended s.lists c.items; words = c.words }

abbrev pub gathered : TexState → Bool → ℕ → ℕ → TexState
gathered s in_paragraph font code = with_collected s (collected s.words in_paragraph font code)

-- a character of a horizontal list: the space factor is that behind it, also where the font lacks it (section 1034)
abbrev pub collecting_into : TexState → ℕ → Collected → ℕ → Outcome
collecting_into s code c factor = Leaves (with_collected (with_list_factor s factor) c) (report_of s code c.lacking)

abbrev pub collecting : TexState → ℕ → ℕ → Outcome
collecting s code factor =
    collecting_into s code (collected s.words (in_paragraph s) (current_font s.table.table) code) (factor_behind factor (space_code s.table.table code))

-- glue, if its sizes are dimensions
abbrev pub gluing : TexState → Option GlueSpec → Outcome
gluing s None = fails SizeOutOfRange
gluing s (Some g) = adding s (plain (Glue g))

-- a space of the current font at a space factor
abbrev pub space_at : TexState → ℕ → Outcome
space_at s factor = gluing s (space_between s.words.fonts (word_params s.table.table) (current_font s.table.table) factor)

-- a space in a horizontal list, at the factor of the list; in others it is nothing
abbrev pub spacing : TexState → Option ℕ → Outcome
spacing s None = leaves s
spacing s (Some factor) = space_at s factor

-- `\ ' in a horizontal list and in a formula is a plain space
abbrev pub control_spacing : TexState → Outcome
control_spacing s = space_at s plain_factor

-- \/ behind a character or a ligature is a kern of its italic correction, as if \kern had put it there
abbrev pub kerning : TexState → Option ℤ → Outcome
kerning s None = leaves s
kerning s (Some size) = adding s (plain (Kern Explicit size))

-- in a formula it is a kern of no size (section 1112)
abbrev pub correcting : TexState → Option ℕ → Outcome
correcting s None = adding s (plain (Kern Implicit (pos 0)))
correcting s (Some factor) = kerning s (last_italic s.words.fonts s.lists.nest.innermost.nodes)

-- `\-' in a horizontal list or in a formula: a word may be broken there, behind the font's hyphen character, of which is told where
-- the font lacks it (section 1117)
abbrev pub breaking_in : TexState → ℕ → Outcome
breaking_in s font = Leaves (with_more s (hyphen_item s.words.fonts font ∷ [])) (lacking_report s.words.fonts font (hyphen_lacking s.words.fonts font))

abbrev pub breaking : TexState → Outcome
breaking s = breaking_in s (current_font s.table.table)

-- \spacefactor, which may stand in horizontal modes alone (section 1243)
abbrev pub setting_factor : TexState → Option ℕ → Outcome
setting_factor s None = fails NumberOutOfRange
setting_factor s (Some factor) = leaves (assigned (with_list_factor s factor))

-- behind a prefix it may stand in another mode only to be refused
abbrev pub setting_factor_of : TexState → ℤ → Option ℕ → Outcome
setting_factor_of s number None = fails NotAllowed
setting_factor_of s number (Some old) = setting_factor s (factor_of number)
