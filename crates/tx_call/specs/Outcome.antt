-- What a call puts out, and how it ends.
use Rattle.std.specs.Prelude.{◌≡◌, ◌≢◌, ℕ, false, ◌+◌, ◌*◌, ◌≤◌, ◌<◌, ◌⊎◌, List, [], ◌∷◌, ◌++◌, length, Option, Some, None, option_map, IfSome}
use Rattle.std.specs.FinMap.{empty, insert}
use Rattle.tx_bytes.specs.Files.{Files, content}
use Rattle.tx_io.specs.Output.{Output, Piece, Say, told}
use Rattle.tx_io.specs.Cut.{IsCutShort}
use Rattle.tx_machine.specs.declared.types.Ran.{Ran}
use Rattle.tx_machine.specs.Machine.{Formatter}
use Rattle.tx_machine.specs.Steps.{raised}
use Rattle.tx_script.specs.declared.command.Command.{Command}
use Rattle.tx_script.specs.declared.command.Command.TheVariants.{Change as Lone, Batch, Save as SaveAs, Locate}
use Rattle.tx_session.specs.Held.{Held, fresh}
use Rattle.tx_words.specs.declared.given.Given.{Given}
use Rattle.tx_words.specs.declared.given.Serving.{Serving}
use Rattle.tx_words.specs.declared.given.Asked.{Asked}
use Rattle.tx_words.specs.declared.given.Asked.TheVariants.{Run, Serve, Gen, Listing, Help, RunHelp, GenHelp, ListHelp, ServeHelp, Version, Nothing}
use Rattle.tx_call.specs.declared.listed.Listed.{Listed}
use Rattle.tx_call.specs.declared.listed.Listed.TheVariants.{Brings, Stops}
use Rattle.tx_call.specs.declared.scripted.Scripted.{Scripted}
use Rattle.tx_call.specs.declared.scripted.Scripted.TheVariants.{Plays, Refused}
use Rattle.tx_words.specs.Words.{words_meant}
use Rattle.tx_gen.specs.Made.{generated}
use Rattle.tx_call.specs.Listing.{pages_lines, said_lines, dvi_refusal_line, listed_as}
use Rattle.tx_call.specs.Lines.{run_line, gen_line, help_text, run_help_text, gen_help_text, list_help_text, serve_help_text, version_line, refusal_line, script_refusal_line}
use Rattle.tx_call.specs.Pieces.{saved_pieces, made_files}
use Rattle.tx_call.specs.Replay.{Moment, Refusal, opened, moment_after, pieces_from, turns_from, refusal_at, refusal_behind, status_after, IsRefused}

-- what a call does: the pieces that it puts out, its status, the turns that it takes, and what it puts out where memory
-- refuses one of its edits
pub record Outcome : Type 0 where
  pub pieces : List Piece
  pub status : ℕ
  pub turns : ℕ
  pub refusal : ℕ → Option Refusal

-- a call that runs nothing says one text
abbrev pub saying : List ℕ → ℕ → Outcome
saying text status = record { pieces = Say text ∷ []; status = status; turns = 0; refusal = λ made. None }

-- a call that makes a document saves its files, and then says how large it is
abbrev pub made_pieces : ℕ → ℕ → List Piece
made_pieces seed pages = made_files (generated seed pages) ++ Say (gen_line pages) ∷ []

abbrev pub making : ℕ → ℕ → Outcome
making seed pages = record { pieces = made_pieces seed pages; status = 0; turns = 0; refusal = λ made. None }

-- a call that lists a DVI file says what its pages bring, or that it is refused
abbrev pub listing : Listed → Outcome
listing (Brings pages) = record { pieces = said_lines (pages_lines 1 pages); status = 0; turns = 0; refusal = λ made. None }
listing (Stops place rule) = saying (dvi_refusal_line place rule) 2

-- the line of a session's opening, the commands, and what there is at last
abbrev pub first_piece : Ran → Piece
first_piece ran = Say (run_line (length ran.pages) ran.end)

abbrev pub session_outcome : {S : Type 0} → Formatter S → List ℕ → Held → List Command → Outcome
session_outcome m out held commands =
    let last : Moment = moment_after (opened held) commands in
    record {
      pieces = first_piece (fresh m held).ran ∷ pieces_from m (opened held) commands ++ saved_pieces out (fresh m last.held).ran;
      status = status_after (fresh m last.held).ran.end last.outside;
      turns = (fresh m held).turns + turns_from m (opened held) commands;
      refusal = λ made. option_map (refusal_behind (first_piece (fresh m held).ran)) (refusal_at m out (opened held) commands made);
    }

-- the document of a run on these files
abbrev pub document : Given → Files → Held
document given files = record { files = files; main = given.main; date = given.date; limits = given.limits }

abbrev pub run_outcome : {S : Type 0} → Formatter S → Given → Files → List Command → Outcome
run_outcome m given files commands = session_outcome m given.out (document given files) commands

-- a call that serves a document, where nothing comes in, has the line of the run alone
abbrev pub served : Serving → Files → Held
served serving files = record { files = files; main = serving.main; date = serving.date; limits = serving.limits }

abbrev pub unasked_outcome : {S : Type 0} → Formatter S → Serving → Files → Outcome
unasked_outcome m serving files = record {
  pieces = first_piece (fresh m (served serving files)).ran ∷ [];
  status = status_after (fresh m (served serving files)).ran.end false;
  turns = (fresh m (served serving files)).turns;
  refusal = λ made. None;
}

-- these files, and the one of this name, if there is one
abbrev pub with_file : Files → List ℕ → Option (List ℕ) → Files
with_file files name None = files
with_file files name (Some bytes) = insert files name bytes

-- these files, and of those that are held the ones with these names
abbrev pub with_listed : Files → Files → List (List ℕ) → Files
with_listed held files [] = files
with_listed held files (name ∷ names) = with_listed held (with_file files name (content held name)) names

-- a run has, of the files that the source holds, those that the words list; it makes the commands of its script
abbrev pub scripted_outcome : {S : Type 0} → Formatter S → Given → Scripted → Files → Outcome
scripted_outcome m given (Plays commands) held = run_outcome m given (with_listed held empty given.files) commands
scripted_outcome m given (Refused place rule) held = saying (script_refusal_line place rule) 2

abbrev pub asked_outcome : {S : Type 0} → Formatter S → Asked → Scripted → Files → Outcome
asked_outcome m (Run given) scripted held = scripted_outcome m given scripted held
asked_outcome m (Serve serving) scripted held = unasked_outcome m serving (with_listed held empty serving.files)
asked_outcome m (Gen seed pages) scripted held = making seed pages
asked_outcome m (Listing name) scripted held = listing (listed_as (content held name))
asked_outcome m Help scripted held = saying help_text 0
asked_outcome m RunHelp scripted held = saying run_help_text 0
asked_outcome m GenHelp scripted held = saying gen_help_text 0
asked_outcome m ListHelp scripted held = saying list_help_text 0
asked_outcome m ServeHelp scripted held = saying serve_help_text 0
asked_outcome m Version scripted held = saying version_line 0
asked_outcome m Nothing scripted held = saying refusal_line 2

-- what the call of these words does, where this is read of its script, and the source holds these files
abbrev pub outcome : {S : Type 0} → Formatter S → List (List ℕ) → Scripted → Files → Outcome
outcome m words scripted held = asked_outcome m (words_meant words) scripted held

-- how many turns edits may take, each no more than so many
abbrev pub most_of_edits : ℕ → List Command → ℕ
most_of_edits each [] = 0
most_of_edits each (Lone c ∷ commands) = each + most_of_edits each commands
most_of_edits each (Batch changes ∷ commands) = each + most_of_edits each commands
most_of_edits each (SaveAs name ∷ commands) = most_of_edits each commands
most_of_edits each (Locate at ∷ commands) = most_of_edits each commands

-- how many turns a call may take, whatever the files say: the opening and each edit the budget of each page, and of what
-- follows the last one
abbrev pub most_turns : Asked → Scripted → ℕ
most_turns (Run given) (Plays commands) =
    let each = (given.limits.pages + 1) * given.limits.budget in
    each + most_of_edits each commands
most_turns (Serve serving) scripted = (serving.limits.pages + 1) * serving.limits.budget
most_turns _ _ = 0

-- some files, which are the source's if it tells what it holds, are so
pub record ForHeld (holds : Option Files) (IsSo : Files → Type 0) : Type 0 where
  pub held : Files
  pub are_told : IfSome holds (λ files. files ≡ held)
  pub so : IsSo held

-- all of it was done
pub record IsDone (outcome : Outcome) (status : ℕ) (before after : Option Output) (steps steps' : ℕ) : Type 0 where
  pub status_is : status ≡ outcome.status
  pub output_is : after ≡ told before outcome.pieces
  pub steps_are : steps' ≡ raised steps outcome.turns

-- what a call leaves: at status 0, 1, 2 and 5 all is done, and whatever the status, only the first pieces were put out, the
-- last of them perhaps in part, unless memory refused an edit; but for status 4, the sink has counted no fault, unless memory
-- refused an edit, all before it was put out whole, and what there is to tell and save of that wasn't; and no more turns were
-- taken
pub record Leaves (outcome : Outcome) (status : ℕ) (before after : Option Output) (faults faults' steps steps' : ℕ) : Type 0 where
  pub done : (status < 3) ⊎ (status ≡ 5) → IsDone outcome status before after steps steps'
  pub cut : IsCutShort before outcome.pieces after ⊎ ((status ≡ 6) × IsRefused outcome.refusal before after)
  pub kept : status ≢ 4 → (faults' ≡ faults) ⊎ ((status ≡ 6) × IsRefused outcome.refusal before after)
  pub most : steps' ≤ raised steps outcome.turns
