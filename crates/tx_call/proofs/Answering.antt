-- What came of a command, and then of its answer, comes of the request.
use Rattle.std.proofs.Common.{◌≡◌, ℕ, ◌+◌, ◌≤◌, ◌⊎◌, inl, inr, true, false, List, [], ◌∷◌, Option, Some, None, Result, Ok, Err, refl, sym, ap, subst, ◌∙◌, arith, ◌≢◌, cond, ◌++◌}
use Rattle.std.specs.Prelude.{IsErr, unwrap_or}
use Rattle.tx_io.specs.Output.{Output, Piece, Say, told}
use Rattle.tx_io.specs.Cut.{IsCutShort}
use Rattle.tx_io.proofs.Told.{told-append}
use Rattle.tx_io.proofs.CutShort.{cut-behind, cut-longer}
use Rattle.tx_files.specs.declared.edit.Edit.{Edit as FileEdit}
use Rattle.tx_machine.specs.Machine.{Formatter}
use Rattle.tx_machine.specs.Steps.{raised}
use Rattle.tx_machine.proofs.Going.{raised-zero}
use Rattle.tx_script.specs.declared.command.Command.{Command as ScriptCommand}
use Rattle.tx_script.specs.declared.command.Command.TheVariants.{Change as Lone, Batch, Save as SaveAs, Locate}
use Rattle.tx_request.specs.declared.request.FileContents.{FileContents}
use Rattle.tx_request.specs.declared.request.Request.{Request}
use Rattle.tx_request.specs.declared.request.Request.TheVariants.{Command, File, Page, Log, LogOf}
use Rattle.tx_differing.specs.Differing.{edit_to}
use Rattle.tx_session.specs.Held.{fresh, transcript}
use Rattle.tx_session.specs.Pages.{page_of, piece_of}
use Rattle.tx_session.specs.Standing.{now}
use Rattle.tx_call.specs.declared.trouble.Trouble.{Trouble}
use Rattle.tx_call.specs.Answers.{Answered, Wanting, answer_to, came, changes_of, edit_wanting, most_changes, nothing, saved_answer, wanting}
use Rattle.tx_call.specs.Hearing.{Answers}
use Rattle.tx_call.specs.Lines.{bytes_text, log_head, memory_line, page_head, page_memory_line}
use Rattle.tx_call.specs.Replay.{MayWant}
use Rattle.tx_call.specs.Sitting.{Sitting, Effect, Comes, ComesInPart, ComesToNothing, edit_effect, effect, says}
use Rattle.tx_call.specs.Trouble.{PutsOut}

is-most : (steps steps' turns : ℕ) → steps' ≡ raised steps turns → steps' ≤ raised steps turns
is-most steps steps' turns is = omega (arith, is)

no-fewer : (steps turns : ℕ) → steps ≤ raised steps turns
no-fewer steps turns = omega arith

edit-wants : (t : Sitting) (c : ScriptCommand) → MayWant (now t.standing).files c → wanting t (Command c) ≡ Some (edit_wanting t)
edit-wants t (Lone c) is = ap (λ b. cond b (Some (edit_wanting t)) None) is
edit-wants t (Batch changes) is = ap (λ b. cond b (Some (edit_wanting t)) None) is
edit-wants t (SaveAs name) is = absurd is
edit-wants t (Locate at) is = absurd is

module _ {S : Type 0} (m : Formatter S) {T : Type 0} where
  -- a command was carried out, and then it was said, where that is said, that a save was made
  pub carried-out : (result : Result T Trouble) (c : ScriptCommand) {t t' : Sitting} {before between after : Option Output} {steps steps' : ℕ}
      → Comes (effect m most_changes t c) t' before between steps steps' → PutsOut result between (saved_answer c) after → Answers m (Command c) result t t' before after steps steps'
  carried-out (Ok value) c {t = t} {before = before} comes puts = record {
    event = Answered (Command c);
    asked = refl;
    may_come = tt;
    comes = record {
      sitting_is = comes.sitting_is;
      output_is = puts ∙ ap (λ o. told o (saved_answer c)) comes.output_is ∙ told-append before (effect m most_changes t c).pieces (saved_answer c);
      most = is-most _ _ _ comes.steps_are;
      steps_are = λ _. comes.steps_are;
    };
  }
  carried-out (Err trouble) c {t = t} {before = before} {after = after} comes puts = record {
    event = Answered (Command c);
    asked = refl;
    may_come = tt;
    comes = record {
      cut = cut-behind before (effect m most_changes t c).pieces (saved_answer c) after (subst (λ (o : Option Output). IsCutShort o (saved_answer c) after) comes.output_is puts);
      most = is-most _ _ _ comes.steps_are;
    };
  }

  -- trouble came in the midst of a command
  pub carried-out-in-part : (result : Result T Trouble) (c : ScriptCommand) {t t' : Sitting} {before after : Option Output} {steps steps' : ℕ}
      → IsErr result → ComesInPart (effect m most_changes t c) before after steps steps' → Answers m (Command c) result t t' before after steps steps'
  carried-out-in-part (Ok value) c err part = absurd (let no : false ≡ true = err in cc)
  carried-out-in-part (Err trouble) c {t = t} {before = before} {after = after} err part = record {
    event = Answered (Command c);
    asked = refl;
    may_come = tt;
    comes = record { cut = cut-longer before (effect m most_changes t c).pieces (saved_answer c) after part.cut; most = part.most };
  }

  -- a file was given its contents, or trouble came in the midst of that
  pub contents-put : (value : T) (f : FileContents) (edit : Option FileEdit) {t t' : Sitting} {before after : Option Output} {steps steps' : ℕ}
      → edit ≡ edit_to (now t.standing).files f.name f.contents → Comes (edit_effect m most_changes t false (changes_of edit)) t' before after steps steps'
      → Answers m (File f) (Ok value) t t' before after steps steps'
  contents-put value f edit {t = t} {t' = t'} {before = before} {after = after} {steps = steps} {steps' = steps'} is comes =
      let all : Comes (answer_to m t (File f)) t' before after steps steps' = subst (λ (e : Option FileEdit). Comes (edit_effect m most_changes t false (changes_of e)) t' before after steps steps') is comes in
      record {
        event = Answered (File f);
        asked = refl;
        may_come = tt;
        comes = record { sitting_is = all.sitting_is; output_is = all.output_is; most = is-most _ _ _ all.steps_are; steps_are = λ _. all.steps_are };
      }

  pub contents-put-in-part : (result : Result T Trouble) (f : FileContents) (edit : Option FileEdit) {t t' : Sitting} {before after : Option Output} {steps steps' : ℕ}
      → IsErr result → edit ≡ edit_to (now t.standing).files f.name f.contents → ComesInPart (edit_effect m most_changes t false (changes_of edit)) before after steps steps'
      → Answers m (File f) result t t' before after steps steps'
  contents-put-in-part (Ok value) f edit err is part = absurd (let no : false ≡ true = err in cc)
  contents-put-in-part (Err trouble) f edit {t = t} {before = before} {after = after} {steps = steps} {steps' = steps'} err is part = record {
    event = Answered (File f);
    asked = refl;
    may_come = tt;
    comes = subst (λ (e : Option FileEdit). ComesInPart (edit_effect m most_changes t false (changes_of e)) before after steps steps') is part;
  }

  -- memory was wanting for an edit, and that was told
  wanting-told : (result : Result T Trouble) (r : Request) {t t' : Sitting} {before after : Option Output} {steps steps' : ℕ}
      → wanting t r ≡ Some (edit_wanting t) → t' ≡ record t { edits = t.edits + 1 } → PutsOut result before (Say (memory_line (t.edits + 1)) ∷ []) after → steps' ≤ raised steps (answer_to m t r).turns
      → Answers m r result t t' before after steps steps'
  wanting-told (Ok value) r {t = t} {before = before} is counted puts most =
      let told_is : came m t (Wanting r) ≡ record (edit_wanting t) { turns = (answer_to m t r).turns } = λ i. record (unwrap_or (is i) (nothing t)) { turns = (answer_to m t r).turns } in
      record {
        event = Wanting r;
        asked = refl;
        may_come = λ none. absurd (let no : Some (edit_wanting t) ≡ None = sym is ∙ none in cc);
        comes = record {
          sitting_is = counted ∙ ap (λ (e : Effect). e.behind) (sym told_is);
          output_is = puts ∙ ap (λ (e : Effect). told before e.pieces) (sym told_is);
          most = most;
          steps_are = λ never. absurd never;
        };
      }
  wanting-told (Err trouble) r {t = t} {before = before} {after = after} is counted puts most =
      let pieces : (unwrap_or (wanting t r) (nothing t)).pieces ≡ (edit_wanting t).pieces = ap (λ (e : Option Effect). (unwrap_or e (nothing t)).pieces) is in
      record {
        event = Wanting r;
        asked = refl;
        may_come = λ none. absurd (let no : Some (edit_wanting t) ≡ None = sym is ∙ none in cc);
        comes = record { cut = subst (λ (ps : List Piece). IsCutShort before ps after) (sym pieces) puts; most = most };
      }

  told-behind : (result : Result T Trouble) (r : Request) {t here t' : Sitting} {before between after : Option Output} {steps steps' : ℕ} (e : Effect)
      → e.turns ≡ (answer_to m t r).turns → wanting t r ≡ Some (edit_wanting t) → ComesToNothing e t here before between steps steps'
      → t' ≡ record here { edits = here.edits + 1 } → PutsOut result between (Say (memory_line (here.edits + 1)) ∷ []) after
      → Answers m r result t t' before after steps steps'
  told-behind result r {t = t} {t' = t'} {between = between} {after = after} {steps = steps} {steps' = steps'} e turns is nothing_came counted puts =
      wanting-told result r is
      (subst (λ (s : Sitting). t' ≡ record s { edits = s.edits + 1 }) nothing_came.sitting_is counted)
      (subst (λ (o : Option Output). PutsOut result o (Say (memory_line (t.edits + 1)) ∷ []) after) nothing_came.output_is
      (subst (λ (s : Sitting). PutsOut result between (Say (memory_line (s.edits + 1)) ∷ []) after) nothing_came.sitting_is puts))
      (subst (λ (n : ℕ). steps' ≤ raised steps n) turns nothing_came.most)

  pub command-wanting : (result : Result T Trouble) (c : ScriptCommand) {t here t' : Sitting} {before between after : Option Output} {steps steps' : ℕ}
      → MayWant (now t.standing).files c → ComesToNothing (effect m most_changes t c) t here before between steps steps'
      → t' ≡ record here { edits = here.edits + 1 } → PutsOut result between (Say (memory_line (here.edits + 1)) ∷ []) after
      → Answers m (Command c) result t t' before after steps steps'
  command-wanting result c {t = t} is_edit nothing_came counted puts = told-behind result (Command c) (effect m most_changes t c) refl (edit-wants t c is_edit) nothing_came counted puts

  pub contents-wanting : (result : Result T Trouble) (f : FileContents) (edit : Option FileEdit) {t here t' : Sitting} {before between after : Option Output} {steps steps' : ℕ}
      → edit ≡ edit_to (now t.standing).files f.name f.contents → ComesToNothing (edit_effect m most_changes t false (changes_of edit)) t here before between steps steps'
      → t' ≡ record here { edits = here.edits + 1 } → PutsOut result between (Say (memory_line (here.edits + 1)) ∷ []) after
      → Answers m (File f) result t t' before after steps steps'
  contents-wanting result f edit {t = t} is nothing_came counted puts =
      told-behind result (File f) (edit_effect m most_changes t false (changes_of edit)) (ap (λ (e : Option FileEdit). (edit_effect m most_changes t false (changes_of e)).turns) is) refl nothing_came counted puts

  -- memory was wanting before the edit was found
  pub edit-wanting : (result : Result T Trouble) (f : FileContents) {t t' : Sitting} {before after : Option Output} (steps : ℕ)
      → t' ≡ record t { edits = t.edits + 1 } → PutsOut result before (Say (memory_line (t.edits + 1)) ∷ []) after → Answers m (File f) result t t' before after steps steps
  edit-wanting result f steps counted puts = wanting-told result (File f) refl counted puts (no-fewer steps _)

  -- a text was said, which is the answer
  said : (result : Result T Trouble) (r : Request) (t : Sitting) (text : List ℕ) {before after : Option Output} (steps : ℕ)
      → answer_to m t r ≡ says t text → PutsOut result before (Say text ∷ []) after → Answers m r result t t before after steps steps
  said (Ok value) r t text {before = before} steps is puts = record {
    event = Answered r;
    asked = refl;
    may_come = tt;
    comes = record {
      sitting_is = ap (λ (e : Effect). e.behind) (sym is);
      output_is = puts ∙ ap (λ (e : Effect). told before e.pieces) (sym is);
      most = no-fewer steps (answer_to m t r).turns;
      steps_are = λ _. sym (raised-zero steps) ∙ ap (λ (e : Effect). raised steps e.turns) (sym is);
    };
  }
  said (Err trouble) r t text {before = before} {after = after} steps is puts = record {
    event = Answered r;
    asked = refl;
    may_come = tt;
    comes = record { cut = subst (λ (e : Effect). IsCutShort before e.pieces after) (sym is) puts; most = no-fewer steps (answer_to m t r).turns };
  }

  -- or that memory was wanting for a page
  page-wanting : (result : Result T Trouble) (k : ℕ) (t : Sitting) {before after : Option Output} (steps : ℕ) → PutsOut result before (Say (page_memory_line k) ∷ []) after → Answers m (Page k) result t t before after steps steps
  page-wanting (Ok value) k t steps puts = record {
    event = Wanting (Page k);
    asked = refl;
    may_come = λ none. absurd (let no : Some (says t (page_memory_line k)) ≡ None = none in cc);
    comes = record { sitting_is = refl; output_is = puts; most = no-fewer steps 0; steps_are = λ never. absurd never };
  }
  page-wanting (Err trouble) k t steps puts = record {
    event = Wanting (Page k);
    asked = refl;
    may_come = λ none. absurd (let no : Some (says t (page_memory_line k)) ≡ None = none in cc);
    comes = record { cut = puts; most = no-fewer steps 0 };
  }

  pub page-said : (result : Result T Trouble) (k : ℕ) (t : Sitting) (before after : Option Output) (steps : ℕ)
      → PutsOut result before (Say (bytes_text (page_head k) (page_of (fresh m (now t.standing)).ran.pages k)) ∷ []) after ⊎ PutsOut result before (Say (page_memory_line k) ∷ []) after
      → Answers m (Page k) result t t before after steps steps
  page-said result k t before after steps (inl puts) = said result (Page k) t (bytes_text (page_head k) (page_of (fresh m (now t.standing)).ran.pages k)) steps refl puts
  page-said result k t before after steps (inr puts) = page-wanting result k t steps puts

  -- the transcript, or a piece of it
  pub transcript-said : (result : Result T Trouble) (t : Sitting) (before after : Option Output) (steps : ℕ) (bytes : List ℕ) → bytes ≡ transcript (fresh m (now t.standing)).ran
      → PutsOut result before (Say (bytes_text log_head (Some bytes)) ∷ []) after → Answers m Log result t t before after steps steps
  transcript-said result t before after steps bytes is puts =
      said result Log t (bytes_text log_head (Some (transcript (fresh m (now t.standing)).ran))) steps refl
      (subst (λ (all : List ℕ). PutsOut result before (Say (bytes_text log_head (Some all)) ∷ []) after) is puts)

  pub piece-said : (result : Result T Trouble) (k : ℕ) (t : Sitting) (before after : Option Output) (steps : ℕ)
      → PutsOut result before (Say (bytes_text log_head (piece_of (fresh m (now t.standing)).ran.pieces k)) ∷ []) after → Answers m (LogOf k) result t t before after steps steps
  piece-said result k t before after steps puts = said result (LogOf k) t (bytes_text log_head (piece_of (fresh m (now t.standing)).ran.pieces k)) steps refl puts

  -- the request is this one
  pub as-asked : {r r' : Request} {result : Result T Trouble} {t t' : Sitting} {before after : Option Output} {steps steps' : ℕ} → r ≡ r'
      → Answers m r' result t t' before after steps steps' → Answers m r result t t' before after steps steps'
  as-asked {result = result} {t = t} {t' = t'} {before = before} {after = after} {steps = steps} {steps' = steps'} is answers = subst (λ (x : Request). Answers m x result t t' before after steps steps') (sym is) answers
