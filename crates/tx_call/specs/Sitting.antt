-- One command, carried out on a document, as a script has it and as a request does.
use Rattle.std.specs.Prelude.{◌≡◌, ◌≤◌, ℕ, ◌+◌, Bool, true, false, List, [], ◌∷◌, length, Option, Some, None, Result, Ok, Err, if◌then◌else◌}
use Rattle.tx_io.specs.Output.{Output, Piece, Say, told}
use Rattle.tx_io.specs.Cut.{IsCutShort}
use Rattle.tx_files.specs.Changes.{all_fit, first_outside}
use Rattle.tx_files.specs.declared.edit.Change.{Change}
use Rattle.tx_machine.specs.Machine.{Formatter}
use Rattle.tx_machine.specs.Steps.{raised}
use Rattle.tx_script.specs.declared.command.Command.{Command}
use Rattle.tx_script.specs.declared.command.Command.TheVariants.{Change as Lone, Batch, Save as SaveAs, Locate}
use Rattle.tx_checkpoint.specs.Locate.{located}
use Rattle.tx_session.specs.Held.{fresh, rows_of, changed_session}
use Rattle.tx_session.specs.Standing.{Standing, now, next_standing, report_since, turns_since}
use Rattle.tx_call.specs.declared.step.Stepped.{Stepped}
use Rattle.tx_call.specs.declared.step.Stepped.TheVariants.{Done, Wanting}
use Rattle.tx_call.specs.declared.trouble.Trouble.{Trouble}
use Rattle.tx_call.specs.Lines.{edit_line, locate_line}
use Rattle.tx_call.specs.Pieces.{saved_pieces}
use Rattle.tx_call.specs.Replay.{Moment, refused_line}

-- where a document stands, how many edits were made or refused of it and how many places were asked for, and whether an edit went past
-- the end of its file
pub record Sitting : Type 0 where
  pub standing : Standing
  pub edits : ℕ
  pub places : ℕ
  pub outside : Bool

-- the moment of a script at which it is the same document
abbrev pub moment_of : Sitting → Moment
moment_of t = record { held = now t.standing; edits = t.edits; places = t.places; outside = t.outside }

-- what comes of something that is asked for: what is put out, where the document stands behind it, and the turns that it takes
pub record Effect : Type 0 where
  pub pieces : List Piece
  pub behind : Sitting
  pub turns : ℕ

-- a text is said, and all is as before
abbrev pub says : Sitting → List ℕ → Effect
says t text = record { pieces = Say text ∷ []; behind = t; turns = 0 }

-- after a list of changes, which are left out as a whole where they can't be made; of an earlier run so many are made at most
abbrev pub next_edit : {S : Type 0} → Formatter S → ℕ → Sitting → List Change → Sitting
next_edit m most t changes = record {
  standing = next_standing m most t.standing changes;
  edits = t.edits + 1;
  places = t.places;
  outside = if all_fit (now t.standing).files changes then t.outside else true;
}

-- what is said of it, by the first change that can't be made
abbrev pub line_by : {S : Type 0} → Formatter S → Sitting → Bool → List Change → Option (ℕ × ℕ) → List ℕ
line_by m t together changes None = edit_line (t.edits + 1) (report_since m t.standing changes) (fresh m (changed_session (now t.standing) changes)).ran.end
line_by m t together changes (Some first) = refused_line together (t.edits + 1) first

abbrev pub line_told : {S : Type 0} → Formatter S → Sitting → Bool → List Change → List ℕ
line_told m t together changes = line_by m t together changes (first_outside (now t.standing).files changes)

-- what comes of changes, those of a batch or one alone, and of each command
abbrev pub edit_effect : {S : Type 0} → Formatter S → ℕ → Sitting → Bool → List Change → Effect
edit_effect m most t together changes = record {
  pieces = Say (line_told m t together changes) ∷ [];
  behind = next_edit m most t changes;
  turns = turns_since m t.standing changes;
}

abbrev pub effect : {S : Type 0} → Formatter S → ℕ → Sitting → Command → Effect
effect m most t (Lone c) = edit_effect m most t false (c ∷ [])
effect m most t (Batch changes) = edit_effect m most t true changes
effect m most t (SaveAs name) = record { pieces = saved_pieces name (fresh m (now t.standing)).ran; behind = t; turns = 0 }
effect m most t (Locate at) = record {
  pieces = Say (locate_line (t.places + 1) (length (fresh m (now t.standing)).ran.pages) (located (rows_of m (now t.standing)) at.name at.place)) ∷ [];
  behind = record t { places = t.places + 1 };
  turns = 0;
}

-- all of it came
pub record Comes (e : Effect) (after : Sitting) (output output' : Option Output) (steps steps' : ℕ) : Type 0 where
  pub sitting_is : after ≡ e.behind
  pub output_is : output' ≡ told output e.pieces
  pub steps_are : steps' ≡ raised steps e.turns

-- the same of something of which the turns are known exactly where that is so, and else by a bound
pub record ComesWithin (e : Effect) (exact : Type 0) (after : Sitting) (output output' : Option Output) (steps steps' : ℕ) : Type 0 where
  pub sitting_is : after ≡ e.behind
  pub output_is : output' ≡ told output e.pieces
  pub most : steps' ≤ raised steps e.turns
  pub steps_are : exact → steps' ≡ raised steps e.turns

-- trouble came in its midst: only the first of its pieces were put out
pub record ComesInPart (e : Effect) (output output' : Option Output) (steps steps' : ℕ) : Type 0 where
  pub cut : IsCutShort output e.pieces output'
  pub most : steps' ≤ raised steps e.turns

-- memory was wanting for it: all is as before, but for its turns
pub record ComesToNothing (e : Effect) (before after : Sitting) (output output' : Option Output) (steps steps' : ℕ) : Type 0 where
  pub sitting_is : after ≡ before
  pub output_is : output' ≡ output
  pub most : steps' ≤ raised steps e.turns

-- how a command went
abbrev pub Goes : Result Stepped Trouble → Effect → Sitting → Sitting → Option Output → Option Output → ℕ → ℕ → Type 0
Goes (Ok Done) e before after output output' steps steps' = Comes e after output output' steps steps'
Goes (Ok Wanting) e before after output output' steps steps' = ComesToNothing e before after output output' steps steps'
Goes (Err trouble) e before after output output' steps steps' = ComesInPart e output output' steps steps'
