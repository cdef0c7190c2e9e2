-- The fresh run: stretch after stretch from the start, with no checkpoint, no reuse and no position to shift.
use Rattle.std.specs.Prelude.{ℕ, suc, zero, ◌+◌, List, [], ◌∷◌, Option, Some, None, take, unwrap_or}
use Rattle.tx_bytes.specs.Files.{Files}
use Rattle.tx_files.specs.Lines.{line_count}
use Rattle.tx_machine.specs.declared.types.Date.{Date}
use Rattle.tx_machine.specs.declared.types.Limits.{Limits}
use Rattle.tx_machine.specs.declared.types.OpenFile.{OpenFile}
use Rattle.tx_machine.specs.declared.types.Ran.{Ran}
use Rattle.tx_event.specs.declared.types.Stop.{Stop}
use Rattle.tx_event.specs.declared.types.Stop.TheVariants.{End as StopEnd, Error as StopError}
use Rattle.tx_machine.specs.declared.types.End.{End as RunEnd}
use Rattle.tx_machine.specs.declared.types.End.TheVariants.{End, Error, Budget, PageLimit}
use Rattle.tx_machine.specs.Machine.{Formatter}
use Rattle.tx_machine.specs.Opens.{bytes_of, innermost}
use Rattle.tx_machine.specs.declared.types.Close.{Close}
use Rattle.tx_machine.specs.declared.types.Close.TheVariants.{Page, Halt, Spent}
use Rattle.tx_machine.specs.Turn.{Place, Progress, stretch}

-- an error's place: the innermost open file, and the number of lines that its bytes before the offset make up
abbrev pub error_at : Files → ℕ → Option OpenFile → RunEnd
error_at files code None = Error code None 0
error_at files code (Some file) = Error code (Some file.name) (line_count (take file.offset (bytes_of files file.name)))

-- how a run ends where the machine stops
abbrev pub end_of : Files → List OpenFile → Stop → RunEnd
end_of files opens StopEnd = End
end_of files opens (StopError code) = error_at files code (innermost opens)

-- a run, and how many turns it took
pub record Counted : Type 0 where
  pub ran : Ran
  pub turns : ℕ

-- a run that ends after this piece of the transcript
abbrev pub ended : List ℕ → ℕ → RunEnd → Counted
ended last turns end = record { ran = record { pages = []; pieces = []; last = last; end = end }; turns = turns }

-- what a stretch's end makes of the run that goes on behind it: a page goes before its pages, all else ends the run
abbrev pub closed_run : {S : Type 0} → Files → Progress S → Close → Counted → Counted
closed_run files t (Page body) rest = record {
  ran = record { pages = body ∷ rest.ran.pages; pieces = t.said ∷ rest.ran.pieces; last = rest.ran.last; end = rest.ran.end };
  turns = t.turns + rest.turns;
}
closed_run files t (Halt stop) rest = ended t.said t.turns (end_of files t.place.opens stop)
closed_run files t Spent rest = ended t.said t.turns Budget

-- a page begins with its whole budget
abbrev pub page_start : {S : Type 0} → S → List OpenFile → ℕ → Place S
page_start state opens budget = record { state = state; opens = opens; left = budget }

-- the run from a state on, for so many pages at most
unfoldable pub run_from : {S : Type 0} → Formatter S → Files → ℕ → ℕ → S → List OpenFile → Counted
run_from m files budget zero state opens = ended [] 0 PageLimit
run_from m files budget (suc pages) state opens =
    let t = stretch m files (page_start state opens budget) in
    closed_run files t (unwrap_or t.close Spent) (run_from m files budget pages t.place.state t.place.opens)

-- the fresh run of a main file on this date
abbrev pub run : {S : Type 0} → Formatter S → Files → List ℕ → Date → Limits → Counted
run m files main date limits = run_from m files limits.budget limits.pages (m.start date main) []
