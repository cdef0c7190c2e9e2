-- One turn of TeX: due work, the ask for a line, or one token and its expansion (TeX: The Program, sections 1030, 343, 360 and 366).
use Rattle.std.specs.Prelude.{ℕ, suc, Bool, true, false, not, ◌||◌, List, [], ◌∷◌, ◌++◌, Option, None, Some, is_some, Result, Ok, Err, if◌then◌else◌}
use Rattle.tx_char.specs.declared.tokens.Token.{Token}
use Rattle.tx_seen.specs.declared.item.Item.{Item}
use Rattle.tx_seen.specs.declared.item.Item.TheVariants.{Took}
use Rattle.tx_seen.specs.declared.seen.Seen.{Seen}
use Rattle.tx_seen.specs.Seen.{continues_word}
use Rattle.tx_seen.specs.declared.fed.Want.{Want}
use Rattle.tx_seen.specs.declared.fed.Want.TheVariants.{Expanded}
use Rattle.tx_lex.specs.Line.{seen_line}
use Rattle.tx_event.specs.declared.types.AskKind.{AskKind}
use Rattle.tx_event.specs.declared.types.AskKind.TheVariants.{Open as Opening, Line as ReadingOn, Close as Closing, Whole as Taking_whole}
use Rattle.tx_event.specs.declared.types.Ask.TheVariants.{Open, Line, Close}
use Rattle.tx_event.specs.declared.types.Reply.{Reply}
use Rattle.tx_event.specs.declared.types.Reply.TheVariants.{Found, Absent, Line as ReplyLine, Ended, Whole as ReplyWhole, Closed}
use Rattle.tx_event.specs.Turns.{Stepped}
use Rattle.tx_machine.specs.Machine.{Formatter}
use Rattle.tx_seen.specs.declared.error.TexError.{TexError}
use Rattle.tx_seen.specs.declared.error.TexError.TheVariants.{FileAbsent, NoEnd, UnbalancedOutput}
use Rattle.tx_parts.specs.declared.parts.Due.{Due}
use Rattle.tx_parts.specs.declared.parts.Due.TheVariants.{OpenMain, FileAbsent as Due_file_absent, FileEnded, MainClosed, LoadFont, Boxes}
use Rattle.tx_parts.specs.declared.parts.OpenText.{OpenText}
use Rattle.tx_command.specs.declared.types.Command.{Command}
use Rattle.tx_box.specs.DueWork.{work_cost}
use Rattle.tx_expand.specs.Values.{Lent, value_now}
use Rattle.tx_expand.specs.declared.types.Expanded.{Expanded as Answer}
use Rattle.tx_expand.specs.declared.types.Expanded.TheVariants as answer
use Rattle.tx_expand.specs.declared.types.Wanted.{Wanted}
use Rattle.tx_expand.specs.Expanding.{reader as reader_with, world_of}
use Rattle.tx_expand.specs.Reader.{Turn, Goes, Fails as Turn_fails}
use Rattle.tx_expand.specs.Turns.{file_ended, is_opening, frozen, magnification_taken, opened, put_back, turn, with_end}
use Rattle.tx_pending.specs.Elements.{with_line}
use Rattle.tx_scan.specs.Settled.{tokens_of}
use Rattle.tx_scan.specs.Supplied.{with_values}
use Rattle.tx_turn.specs.Pages.{line_end}
use Rattle.tx_seen.specs.Magnified.{magnification_in, noted}
use Rattle.tx_command.specs.Commands.{command, is_begun, is_fresh, is_naming, is_peeking, is_preamble}
use Rattle.tx_turn.specs.Effects.{Effects}
use Rattle.tx_seen.specs.Readings.{Reading, More, Need, Done, Wrong}
use Rattle.tx_state.specs.Outcomes.{Outcome, Asks, Ends, fails, leaves, stepped}
use Rattle.tx_machine.specs.Same.{same_by}
use Rattle.tx_state.specs.Codes.{meaning_code}
use Rattle.tx_state.specs.Texts.{is_whole, text_wanted, with_given, with_token}
use Rattle.tx_state.specs.State.{TexState, Meaning, Runs, Waits, Stops, mode_of}
use Rattle.tx_turn.specs.Beginning.{first_state}

-- what scans, expansions and tests may ask for
abbrev pub known_of : TexState → Lent
known_of s = record { table = s.table; nest = s.lists.nest; pages = s.lists.pages; badness = s.lists.badness; magnification = s.magnification; fonts = s.words.fonts; has_word = is_some s.words.word }

-- what comes of these items: the command goes on, or is wrong, or takes effect, and what it didn't need is read again
abbrev pub scanned : Effects → TexState → List Item → Reading Command → Outcome
scanned effects s items (More want) = leaves (record s { taken = items; magnification = noted s.magnification (magnification_in items) })
scanned effects s items (Need kind) = leaves (record s { taken = items })
scanned effects s items (Wrong error) = fails error
scanned effects s items (Done c behind) = effects.effect (record s { taken = []; reader = put_back (tokens_of behind) s.reader }) c

-- a token, and the values that the open command needs behind it, join what that has taken
abbrev pub joining : Effects → TexState → List Item → Outcome
joining effects s items = scanned effects s items (command s.mode s.head items)

abbrev pub supplying : Effects → TexState → List Item → Outcome
supplying effects s items = joining effects s (with_values (value_now (known_of s)) (command s.mode s.head) items)

abbrev pub taking : Effects → TexState → Seen → Outcome
taking effects s t = supplying effects s (s.taken ++ Took t ∷ [])

-- a token joins the text that is open, which takes effect once it is whole
abbrev pub texting : Effects → TexState → Result OpenText TexError → Outcome
texting effects s (Err error) = fails error
texting effects s (Ok text) = if is_whole text then effects.ending_text (record s { text = Some text }) else leaves (record s { text = Some text })

-- a token that begins a command ends the word that is open, if it is no character and doesn't stand for one, before anything behind
-- it is read
abbrev pub before_token : Effects → TexState → Seen → TexState
before_token effects s t = if is_begun s.taken || continues_word t then s else effects.word_ended s

-- a token joins the open text, or else the open command, where a word may end before it
abbrev pub taken_by : Effects → TexState → Seen → Option OpenText → Outcome
taken_by effects s t None = taking effects (before_token effects s t) t
taken_by effects s t (Some text) = texting effects s (with_token text t)

-- tokens that \the gives belong to the open text
abbrev pub given_to_text : TexState → List Token → Option OpenText → Outcome
given_to_text s tokens None = leaves s
given_to_text s tokens (Some text) = leaves (record s { text = Some (with_given text tokens) })

-- what is taken next: what the open text wants, or else the open command; a preamble is a text too
abbrev pub want_of : Reading Command → Want
want_of (More want) = want
want_of other = Expanded

abbrev pub wanted_by : TexState → Option OpenText → Wanted
wanted_by s None = record { want = want_of (command s.mode s.head s.taken); text = is_preamble s.head; takes_the = false; names = is_naming s.head s.taken; peeks = is_peeking s.head }
wanted_by s (Some text) = text_wanted text

-- whether a text is open, or a preamble, which is one too
abbrev pub takes_text : TexState → Bool
takes_text s = is_some s.text || is_preamble s.head

-- the innermost file has ended: it is closed, unless something is open within which no file may end (section 336)
abbrev pub closed_unless : TexState → Option TexError → Outcome
closed_unless s (Some error) = fails error
closed_unless s None = Asks Close s

abbrev pub closes : TexState → Outcome
closes s = closed_unless s (file_ended (takes_text s) s.reader)

-- the v-part of an entry is read to its end: a command that is open goes on up to it, and stays in front of it; else the entry ends,
-- and the word that is open before it
abbrev pub is_open : TexState → Bool
is_open s = is_begun s.taken || not (is_fresh s.head)

abbrev pub part_over : Effects → TexState → Bool → Outcome
part_over effects s true = taking effects (before_token effects (record s { reader = with_end s.reader }) frozen) frozen
part_over effects s false = effects.over (effects.word_ended s)

-- what comes of what the expander answers. Where a line is used up the next one is asked for, or behind \endinput the file is
-- closed; a marker that is read outside \output's end means that the braces of its tokens don't match (section 1027)
abbrev pub answered : Effects → TexState → Answer → Outcome
answered effects s (answer.Got t) = taken_by effects s t s.text
answered effects s (answer.Text tokens) = given_to_text s tokens s.text
answered effects s answer.Went = leaves s
answered effects s (answer.Relaxes name) = leaves (effects.relaxing s name)
answered effects s answer.Marked = fails UnbalancedOutput
answered effects s (answer.EndsEntry word) = effects.ending_entry s word
answered effects s answer.PartEnded = part_over effects s (is_open s)
answered effects s answer.LineUsed = Asks Line s
answered effects s answer.FileUsed = closes s
answered effects s (answer.Asks name) = Asks (Open name) s
answered effects s (answer.Wrong error) = fails error

-- what comes of a turn of the expander
abbrev pub turned : Effects → TexState → Turn → Outcome
turned effects s (Goes answer left) = answered effects (record s { reader = left; magnification = noted s.magnification (magnification_taken left.begun) }) answer
turned effects s (Turn_fails error) = fails error

abbrev pub reads : Effects → TexState → Outcome
reads effects s = turned effects s (turn (world_of (known_of s) s.mode) (wanted_by s s.text) s.reader)

-- the next piece of due work
abbrev pub works : Effects → TexState → Due → Outcome
works effects s (OpenMain name) = Asks (Open name) s
works effects s Due_file_absent = fails FileAbsent
works effects s FileEnded = closes s
works effects s MainClosed = fails NoEnd
works effects s (LoadFont request) = effects.loading s request
works effects s (Boxes work) = effects.works_boxes s work

-- due work comes first
abbrev pub goes_on : Effects → TexState → List Due → Outcome
goes_on effects s [] = reads effects s
goes_on effects s (work ∷ due) = works effects (record s { due = due }) work

-- what comes of a turn; a run that isn't ready for one has ended
abbrev pub outcome : Effects → Meaning → Outcome
outcome effects (Runs s) = goes_on effects s s.due
outcome effects (Waits kind s) = Ends
outcome effects Stops = Ends

-- one turn
abbrev pub step : Effects → Meaning → Stepped Meaning
step effects m = stepped (outcome effects m)

-- shipping and copying cost the nodes that are shipped or copied; all else costs 1
abbrev pub piece_cost : Due → ℕ
piece_cost (OpenMain name) = 1
piece_cost Due_file_absent = 1
piece_cost FileEnded = 1
piece_cost MainClosed = 1
piece_cost (LoadFont request) = 1
piece_cost (Boxes work) = work_cost work

abbrev pub due_cost : List Due → ℕ
due_cost [] = 1
due_cost (piece ∷ due) = piece_cost piece

abbrev pub cost : Meaning → ℕ
cost (Runs s) = due_cost s.due
cost _ = 1

-- a line stands in front
abbrev pub lined : TexState → List ℕ → TexState
lined s bytes =
    record s { reader = opened (reader_with s.reader.begun (with_line s.reader.input (seen_line bytes (line_end s.table.table))) s.reader.conditionals s.reader.job) }

-- a file has no further line; one that \input opened and that has none at all has an empty one (section 538)
abbrev pub lines_ended : TexState → TexState
lines_ended s = if is_opening s.reader.begun then lined s [] else record s { due = FileEnded ∷ s.due }

-- one more file is open, or one less; the last of them is the main file
abbrev pub file_opened : TexState → TexState
file_opened s = record s { files = suc s.files }

abbrev pub file_closed : TexState → ℕ → TexState
file_closed s (suc (suc files)) = record s { files = suc files }
file_closed s files = record s { files = 0; due = MainClosed ∷ s.due }

-- the bytes of the file that the font which is due asked for
abbrev pub piece_with_file : List ℕ → Due → Due
piece_with_file bytes (LoadFont request) = LoadFont (record request { file = Some bytes })
piece_with_file bytes (OpenMain name) = OpenMain name
piece_with_file bytes Due_file_absent = Due_file_absent
piece_with_file bytes FileEnded = FileEnded
piece_with_file bytes MainClosed = MainClosed
piece_with_file bytes (Boxes work) = Boxes work

abbrev pub with_file : List ℕ → List Due → List Due
with_file bytes [] = []
with_file bytes (piece ∷ due) = piece_with_file bytes piece ∷ due

-- what a reply brings: a line, a file more or less, due work, or a font's file
abbrev pub replied : TexState → AskKind → Reply → TexState
replied s Opening Found = file_opened s
replied s Opening Absent = record s { due = Due_file_absent ∷ s.due }
replied s ReadingOn (ReplyLine bytes) = lined s bytes
replied s ReadingOn Ended = lines_ended s
replied s Closing Closed = file_closed s s.files
replied s Taking_whole (ReplyWhole bytes) = record s { due = with_file bytes s.due }
replied s kind reply = s

abbrev pub takes : Meaning → Reply → Meaning
takes (Waits kind s) reply = Runs (replied s kind reply)
takes (Runs s) reply = Runs s
takes Stops reply = Stops

-- TeX as a machine, whatever its stomach does
unfoldable pub tex_with : Effects → Formatter Meaning
tex_with effects = record { start = λ date main. Runs (first_state date main); cost = cost; step = step effects; take = takes; mode = mode_of; same = same_by meaning_code }
