-- The definitions at spaces, factors and words that Knuth's TeX sets so, as \showbox shows them, in the font t at its design size
-- where nothing else is said: a space of 2.5pt plus 1.25pt minus 0.625pt, a kern of 0.625pt between two of its characters a.
use Rattle.std.proofs.Common.{◌≡◌, ℕ, ℤ, pos, negsuc, false, true, List, [], ◌∷◌, Some, None, refl, arith}
use Rattle.std.specs.Prelude.{Option, ◌==◌, if◌then◌else◌}
use Rattle.std.specs.List.{flat_map}
use Rattle.tx_ligkern.specs.declared.item.LigItem.TheVariants as lig
use Rattle.tx_ligkern.specs.Composing.{Becomes, Last, Apart, Kerned}
use Rattle.tx_ligkern.specs.Pieces.{word_of}
use Rattle.tx_node.specs.Items.{discretionary, items_of, none}
use Rattle.tx_num.specs.Glue.{GlueSpec, glue_of}
use Rattle.tx_prim.specs.declared.family.FontNumber.TheVariants.{Hyphen}
use Rattle.tx_tfm.specs.declared.state.FontState.{FontState}
use Rattle.tx_tfm.specs.Fonts.{font_at, loaded_state, null_state, with_font_integer}
use Rattle.tx_tfm.specs.declared.metrics.Metrics.{Metrics}
use Rattle.tx_tfm.specs.Format.{tfm_of, word_at}
use Rattle.tx_tfm.specs.LigKern.{boundary_code, boundary_start, character_start, command_at, command_of, found}
use Rattle.tx_tfm.specs.Scaling.{scaled}
use Rattle.tx_word.specs.declared.piece.WordParams.{WordParams}
use Rattle.tx_word.specs.Collecting.{Collecting, breaking, collected, ended, without_word}
use Rattle.tx_ligkern.specs.Composed.{composed, composed_within, most_steps}
use Rattle.tx_ligkern.specs.Steps.{most_commands}
use Rattle.tx_word.specs.Composed.{composed_in, word_list}
use Rattle.tx_ligkern.specs.declared.seam.Seam.{Seam}
use Rattle.tx_word.specs.declared.division.Division.{Division}
use Rattle.tx_word.specs.Divisions.{Parted, Whole, at_seam, before_break, divided, divisions_of, first_seam, hyphen_code, last_seam, parted}
use Rattle.tx_word.specs.Factors.{factor_behind}
use Rattle.tx_word.specs.Points.{hyphen_item, hyphen_lacking}
use Rattle.tx_word.specs.Spaces.{at_factor, interword_glue}
use Rattle.tx_word.specs.Words.{empty_discretionary, word_item, word_items}

-- t.tfm, which has the characters a and b
abbrev metric_file : List ℕ
metric_file =
    0 ∷ 40 ∷ 0 ∷ 2 ∷ 0 ∷ 97 ∷ 0 ∷ 98 ∷ 0 ∷ 2 ∷ 0 ∷ 2 ∷ 0 ∷ 1 ∷ 0 ∷ 1 ∷ 0 ∷ 1 ∷ 0 ∷ 1 ∷ 0 ∷ 0 ∷ 0 ∷ 22 ∷ 0 ∷ 0 ∷ 0 ∷ 0 ∷ 0 ∷ 160 ∷ 0 ∷ 0 ∷
    1 ∷ 16 ∷ 1 ∷ 0 ∷ 1 ∷ 16 ∷ 0 ∷ 0 ∷ 0 ∷ 0 ∷ 0 ∷ 0 ∷ 0 ∷ 8 ∷ 0 ∷ 0 ∷ 0 ∷ 0 ∷ 0 ∷ 0 ∷ 0 ∷ 4 ∷ 0 ∷ 0 ∷ 0 ∷ 0 ∷ 0 ∷ 0 ∷ 0 ∷ 0 ∷ 0 ∷ 0 ∷
    128 ∷ 97 ∷ 128 ∷ 0 ∷ 0 ∷ 1 ∷ 0 ∷ 0 ∷ 0 ∷ 0 ∷ 0 ∷ 0 ∷ 0 ∷ 4 ∷ 0 ∷ 0 ∷ 0 ∷ 2 ∷ 0 ∷ 0 ∷ 0 ∷ 1 ∷ 0 ∷ 0 ∷ 0 ∷ 8 ∷ 0 ∷ 0 ∷ 0 ∷ 16 ∷ 0 ∷ 0 ∷
    0 ∷ 0 ∷ 0 ∷ 0 ∷ 0 ∷ 0 ∷ 0 ∷ 0 ∷ 0 ∷ 0 ∷ 0 ∷ 0 ∷ 0 ∷ 0 ∷ 0 ∷ 0 ∷ 0 ∷ 0 ∷ 0 ∷ 0 ∷ 0 ∷ 0 ∷ 0 ∷ 0 ∷ 0 ∷ 0 ∷ 0 ∷ 0 ∷ 0 ∷ 0 ∷ 0 ∷ 0 ∷
    0 ∷ 0 ∷ 0 ∷ 0 ∷ 0 ∷ 0 ∷ 0 ∷ 0 ∷ 0 ∷ 0 ∷ 0 ∷ 0 ∷ 0 ∷ 0 ∷ 0 ∷ 0 ∷ 0 ∷ 0 ∷ 0 ∷ 0 ∷ 0 ∷ 0 ∷ 0 ∷ 0 ∷ 0 ∷ 0 ∷ 0 ∷ 0 ∷ 0 ∷ 4 ∷ 0 ∷ 0 ∷ []

abbrev metrics_t : Metrics
metrics_t = record { file = tfm_of metric_file; size = 655360 }

abbrev fonts : List FontState
fonts = null_state ∷ loaded_state (record { name = 116 ∷ []; font = metrics_t }) (pos 45) (negsuc 0) ∷ []

abbrev no_glue : GlueSpec
no_glue = glue_of (pos 0) (pos 0) 0 (pos 0) 0

abbrev params : GlueSpec → GlueSpec → WordParams
params spaceskip xspaceskip = record { spaceskip = spaceskip; xspaceskip = xspaceskip }

-- 3pt plus 2pt minus 1pt, and 4pt plus 1fil minus 7pt
abbrev skip_3 : GlueSpec
skip_3 = glue_of (pos 196608) (pos 131072) 0 (pos 65536) 0

abbrev skip_4 : GlueSpec
skip_4 = glue_of (pos 262144) (pos 65536) 1 (pos 458752) 0

-- the font's space, plain and behind a full stop
plain : interword_glue fonts (params no_glue no_glue) 1 (pos 1000) ≡ glue_of (pos 163840) (pos 81920) 0 (pos 40960) 0
unfolding word_at scaled
plain = refl

behind-stop : interword_glue fonts (params no_glue no_glue) 1 (pos 3000) ≡ glue_of (pos 163840) (pos 245760) 0 (pos 13653) 0
unfolding word_at scaled
behind-stop = refl

-- \nullfont has no space
in-nullfont : interword_glue fonts (params no_glue no_glue) 0 (pos 3000) ≡ no_glue
in-nullfont = refl

-- \spaceskip in its place
skipped : interword_glue fonts (params skip_3 no_glue) 1 (pos 3000) ≡ glue_of (pos 196608) (pos 393216) 0 (pos 21845) 0
unfolding word_at scaled
skipped = refl

-- \xspaceskip from 2000 on, and not below
behind-sentence : interword_glue fonts (params skip_3 skip_4) 1 (pos 3000) ≡ skip_4
unfolding word_at scaled
behind-sentence = refl

below : interword_glue fonts (params skip_3 skip_4) 1 (pos 1999) ≡ glue_of (pos 196608) (pos 262012) 0 (pos 32784) 0
unfolding word_at scaled
below = refl

-- the least and the greatest factor, and one between
least : interword_glue fonts (params skip_3 skip_4) 1 (pos 1) ≡ glue_of (pos 196608) (pos 131) 0 (pos 65536000) 0
unfolding word_at scaled
least = refl

greatest : interword_glue fonts (params skip_3 no_glue) 1 (pos 32767) ≡ glue_of (pos 196608) (pos 4294836) 0 (pos 2000) 0
unfolding word_at scaled
greatest = refl

between : interword_glue fonts (params skip_3 no_glue) 1 (pos 1234) ≡ glue_of (pos 196608) (pos 161742) 0 (pos 53108) 0
unfolding word_at scaled
between = refl

-- -3pt plus -2.5pt minus -1.7pt: sizes below 0 round towards zero; 3pt plus 2fil minus 1fill: orders stay
towards-zero : at_factor (pos 0) (pos 777) (glue_of (negsuc 196607) (negsuc 163839) 0 (negsuc 111410) 0) ≡ glue_of (negsuc 196607) (negsuc 127302) 0 (negsuc 143385) 0
towards-zero = refl

orders : at_factor (pos 0) (pos 1500) (glue_of (pos 196608) (pos 131072) 1 (pos 65536) 2) ≡ glue_of (pos 196608) (pos 196608) 1 (pos 43690) 2
orders = refl

-- the font's space where its extra space is 1.5pt
extra : at_factor (pos 98304) (pos 2000) (glue_of (pos 163840) (pos 81920) 0 (pos 40960) 0) ≡ glue_of (pos 262144) (pos 163840) 0 (pos 20480) 0
extra = refl

-- space factors: a code of 0 leaves them; `A.' ends no sentence, `a.' does
stays : factor_behind 1234 0 ≡ 1234
stays = refl

behind-initial : factor_behind 999 3000 ≡ 1000
behind-initial = refl

behind-letter : factor_behind 1000 3000 ≡ 3000
behind-letter = refl

lowered : factor_behind 3000 999 ≡ 999
lowered = refl

-- aa is kerned, and ab isn't; t has no programs for boundaries
word-aa : Becomes metrics_t (word_of (97 ∷ 97 ∷ []) true false) (lig.Char 97 ∷ lig.Kern (pos 40960) ∷ lig.Char 97 ∷ [])
unfolding word_at scaled command_of boundary_start boundary_code character_start found
word-aa =
    Apart _ _ _ (lig.Char 97 ∷ lig.Kern (pos 40960) ∷ lig.Char 97 ∷ []) refl
    (Kerned _ _ _ (lig.Char 97 ∷ []) (command_at metrics_t.file 0) refl (omega arith) (Last _))

word-ab : Becomes metrics_t (word_of (97 ∷ 98 ∷ []) false false) (lig.Char 97 ∷ lig.Char 98 ∷ [])
unfolding word_at scaled command_of boundary_start boundary_code character_start found
word-ab = Apart _ _ _ (lig.Char 98 ∷ []) refl (Last _)

-- a word grows, and ends without its right boundary before a character that the font lacks; before another command it counts
abbrev open_aa : Collecting
open_aa = record { fonts = fonts; word = Some (record { font = 1; chars = 97 ∷ 97 ∷ [] }); accent = None }

grows : collected open_aa true 0 98 ≡ record { items = []; words = record { fonts = fonts; word = Some (record { font = 1; chars = 97 ∷ 97 ∷ 98 ∷ [] }); accent = None }; lacking = None }
unfolding word_at
grows = refl

begins : collected (without_word open_aa) true 1 97 ≡ record { items = []; words = record { fonts = fonts; word = Some (record { font = 1; chars = 97 ∷ [] }); accent = None }; lacking = None }
unfolding word_at
begins = refl

broken-off : collected open_aa true 1 99 ≡ record { items = word_list fonts 1 (97 ∷ 97 ∷ []) true false (Some 45); words = without_word open_aa; lacking = Some 1 }
unfolding word_at
broken-off = refl

closed : ended open_aa true true ≡ word_list fonts 1 (97 ∷ 97 ∷ []) true true (Some 45)
closed = refl

-- within a box no hyphen allows a break, nor does a \hyphenchar that is no code
boxed : ended open_aa false true ≡ word_list fonts 1 (97 ∷ 97 ∷ []) true true None
boxed = refl

abbrev with_hyphen : ℤ → List FontState
with_hyphen hyphen = with_font_integer Hyphen fonts 1 hyphen

unbroken : breaking (with_hyphen (negsuc 0)) 1 true ≡ None
unbroken = refl

-- a break behind each hyphen, before the kern that follows it
breaks : flat_map (word_items fonts 1 (Some 97)) (lig.Char 97 ∷ lig.Kern (pos 40960) ∷ lig.Char 97 ∷ lig.Char 98 ∷ [])
    ≡ word_item fonts 1 (lig.Char 97) ∷ empty_discretionary ∷ word_item fonts 1 (lig.Kern (pos 40960)) ∷ word_item fonts 1 (lig.Char 97) ∷ empty_discretionary ∷ word_item fonts 1 (lig.Char 98) ∷ []
breaks = refl

-- behind a ligature the last of the characters in whose stead it stands counts, not its own code
hyphens : word_items fonts 1 (Some 45) (lig.Lig 98 (45 ∷ 45 ∷ [])) ≡ word_item fonts 1 (lig.Lig 98 (45 ∷ 45 ∷ [])) ∷ empty_discretionary ∷ []
hyphens = refl

first-hyphen : word_items fonts 1 (Some 45) (lig.Lig 98 (45 ∷ 97 ∷ [])) ≡ word_item fonts 1 (lig.Lig 98 (45 ∷ 97 ∷ [])) ∷ []
first-hyphen = refl

of-nothing : word_items fonts 1 (Some 98) (lig.Lig 98 []) ≡ word_item fonts 1 (lig.Lig 98 []) ∷ []
of-nothing = refl

-- \-: b is the hyphen; the font lacks the hyphen, which is told of; nothing is one
point-b : hyphen_item (with_hyphen (pos 98)) 1 ≡ discretionary (record { replaced = 0; hyphenated = false }) (items_of (word_item (with_hyphen (pos 98)) 1 (lig.Char 98) ∷ [])) none
unfolding word_at
point-b = refl

has-b : hyphen_lacking (with_hyphen (pos 98)) 1 ≡ None
unfolding word_at
has-b = refl

point-lacking : hyphen_item fonts 1 ≡ empty_discretionary
unfolding word_at
point-lacking = refl

lacks-hyphen : hyphen_lacking fonts 1 ≡ Some 45
unfolding word_at
lacks-hyphen = refl

point-none : hyphen_item (with_hyphen (pos 256)) 1 ≡ empty_discretionary
point-none = refl

lacks-none : hyphen_lacking (with_hyphen (pos 256)) 1 ≡ None
lacks-none = refl

-- aa with a place between its characters, where b is the hyphen: the kern is the no-break text
abbrev seam : Seam
seam = record { place = 1; item = 1; replaced = 1 }

abbrev seams_aa : ℕ → Option Seam
seams_aa place = if place == 0 then Some first_seam else if place == 1 then Some seam else None

division-aa : divisions_of seams_aa (last_seam 2 3) (1 ∷ []) ≡ record { from = 1; place = 1; to = 1; item = 1; replaced = 1 } ∷ []
division-aa = refl

divided-aa : divided (parted fonts 1 (97 ∷ 97 ∷ []) true true 98) (at_seam seam ∷ []) 0 (lig.Char 97 ∷ lig.Kern (pos 40960) ∷ lig.Char 97 ∷ [])
    ≡ Whole (lig.Char 97) ∷ Parted (lig.Char 98 ∷ []) [] 1 ∷ Whole (lig.Kern (pos 40960)) ∷ Whole (lig.Char 97) ∷ []
unfolding word_at
divided-aa = refl

-- bab, where ab becomes a ligature b, with a place inside it: there is a seam before it, and the word's end behind it
abbrev seams_bab : ℕ → Option Seam
seams_bab place = if place == 0 then Some first_seam else if place == 1 then Some (record { place = 1; item = 1; replaced = 0 }) else None

abbrev inside_bab : Division
inside_bab = record { from = 1; place = 2; to = 3; item = 1; replaced = 1 }

division-bab : divisions_of seams_bab (last_seam 3 2) (2 ∷ []) ≡ inside_bab ∷ []
division-bab = refl

divided-bab : divided (λ (d : Division). Parted (lig.Char 97 ∷ lig.Char 97 ∷ []) (lig.Char 98 ∷ []) d.replaced) (inside_bab ∷ []) 0 (lig.Char 98 ∷ lig.Lig 98 (97 ∷ 98 ∷ []) ∷ [])
    ≡ Whole (lig.Char 98) ∷ Parted (lig.Char 97 ∷ lig.Char 97 ∷ []) (lig.Char 98 ∷ []) 1 ∷ Whole (lig.Lig 98 (97 ∷ 98 ∷ [])) ∷ []
divided-bab = refl

-- its font, t but for its only command, and what the word and both parts become there, where a is the hyphen
abbrev ligature_file : List ℕ
ligature_file =
    0 ∷ 40 ∷ 0 ∷ 2 ∷ 0 ∷ 97 ∷ 0 ∷ 98 ∷ 0 ∷ 2 ∷ 0 ∷ 2 ∷ 0 ∷ 1 ∷ 0 ∷ 1 ∷ 0 ∷ 1 ∷ 0 ∷ 1 ∷ 0 ∷ 0 ∷ 0 ∷ 22 ∷ 0 ∷ 0 ∷ 0 ∷ 0 ∷ 0 ∷ 160 ∷ 0 ∷ 0 ∷
    1 ∷ 16 ∷ 1 ∷ 0 ∷ 1 ∷ 16 ∷ 0 ∷ 0 ∷ 0 ∷ 0 ∷ 0 ∷ 0 ∷ 0 ∷ 8 ∷ 0 ∷ 0 ∷ 0 ∷ 0 ∷ 0 ∷ 0 ∷ 0 ∷ 4 ∷ 0 ∷ 0 ∷ 0 ∷ 0 ∷ 0 ∷ 0 ∷ 0 ∷ 0 ∷ 0 ∷ 0 ∷
    128 ∷ 98 ∷ 0 ∷ 98 ∷ []

abbrev ligature_fonts : List FontState
ligature_fonts = null_state ∷ loaded_state (record { name = 116 ∷ []; font = record { file = tfm_of ligature_file; size = 655360 } }) (pos 97) (negsuc 0) ∷ []

composed-bab : composed_in (font_at ligature_fonts 1) (98 ∷ 97 ∷ 98 ∷ []) true true ≡ lig.Char 98 ∷ lig.Lig 98 (97 ∷ 98 ∷ []) ∷ []
unfolding word_at command_of boundary_start boundary_code character_start found composed composed_within most_steps most_commands
composed-bab = refl

parted-bab : parted ligature_fonts 1 (98 ∷ 97 ∷ 98 ∷ []) true true 97 inside_bab ≡ Parted (lig.Char 97 ∷ lig.Char 97 ∷ []) (lig.Char 98 ∷ []) 1
unfolding word_at command_of boundary_start boundary_code character_start found composed composed_within most_steps most_commands
parted-bab = refl

-- with a place at the seam too, that one comes first
divisions-bab : divisions_of seams_bab (last_seam 3 2) (1 ∷ 2 ∷ []) ≡ record { from = 1; place = 1; to = 1; item = 1; replaced = 0 } ∷ inside_bab ∷ []
divisions-bab = refl

-- of three places in one ligature of four characters, in whatever order, the least counts
abbrev seams_none : ℕ → Option Seam
seams_none place = if place == 0 then Some first_seam else None

least-of-three : divisions_of seams_none (last_seam 4 1) (1 ∷ 2 ∷ 3 ∷ []) ≡ record { from = 0; place = 1; to = 4; item = 0; replaced = 1 } ∷ []
least-of-three = refl

least-of-two : divisions_of seams_none (last_seam 4 1) (3 ∷ 2 ∷ []) ≡ record { from = 0; place = 2; to = 4; item = 0; replaced = 1 } ∷ []
least-of-two = refl

-- a kern behind the seam before it isn't part of the no-break text, and more than 255 items are none
abbrev seams_kerned : ℕ → Option Seam
seams_kerned place = if place == 0 then Some first_seam else if place == 1 then Some seam else if place == 3 then Some (record { place = 3; item = 4; replaced = 1 }) else None

behind-kern : divisions_of seams_kerned (last_seam 4 6) (2 ∷ []) ≡ record { from = 1; place = 2; to = 3; item = 2; replaced = 2 } ∷ []
behind-kern = refl

too-many : divisions_of seams_none (last_seam 2 256) (1 ∷ []) ≡ []
too-many = refl

-- a hyphen that the font lacks leaves the text before the break empty
lacking : before_break fonts 1 45 ≡ []
unfolding word_at
lacking = refl

-- a hyphen character outside 0 to 255 is none
below-0 : hyphen_code (negsuc 0) ≡ None
below-0 = refl

above-255 : hyphen_code (pos 256) ≡ None
above-255 = refl
