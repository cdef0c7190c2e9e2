-- The commands that were carried out so far, and those that are left, are all of them.
use Rattle.std.proofs.Common.{◌≡◌, ℕ, ◌+◌, ◌<◌, ◌≤◌, cond, List, [], ◌∷◌, ◌++◌, length, take, drop, get_or, Option, Some, None, Result, Ok, Err, refl, sym, ap, ◌∙◌, subst, arith, append_assoc}
use Rattle.std.specs.Prelude.{slice_get, IsErrAnd}
use Rattle.std.proofs.lemmas.List.{take_more, drop_more, take-append-drop}
use Rattle.std.proofs.lemmas.List.Sums.{fold-append}
use Rattle.std.proofs.lemmas.Option.{slice_get-get_or}
use Rattle.tx_bytes.specs.Files.{Files}
use Rattle.tx_io.specs.Output.{Output, Piece, told}
use Rattle.tx_io.specs.Cut.{IsCutShort}
use Rattle.tx_io.proofs.Told.{told-append}
use Rattle.tx_io.proofs.CutShort.{cut-behind, cut-longer}
use Rattle.tx_machine.specs.Machine.{Formatter}
use Rattle.tx_machine.specs.Steps.{raised}
use Rattle.tx_machine.proofs.Going.{raised-raised, raised-le}
use Rattle.tx_script.specs.declared.command.Command.{Command}
use Rattle.tx_script.specs.declared.command.Command.TheVariants.{Change as Lone, Batch, Save as SaveAs, Locate}
use Rattle.tx_call.specs.declared.trouble.Interruption.{Interruption}
use Rattle.tx_call.specs.declared.trouble.Interruption.TheVariants.{Trouble as Interrupted, RefusedEdit}
use Rattle.tx_call.specs.Replay.{Moment, MayWant, next_moment, moment_after, pieces_at, pieces_from, turns_at, turns_from, refused_pieces, Refusal, refusal_at, refusal_of, Puts, Replays}

pub record Replayed {S : Type 0} (m : Formatter S) (begun here : Moment) (commands : List Command) (k : ℕ) (before sink : Option Output) (steps now : ℕ) : Type 0 where
  pub moment : here ≡ moment_after begun (take k commands)
  pub puts : sink ≡ told before (pieces_from m begun (take k commands))
  pub counted : raised now (turns_from m here (drop k commands)) ≡ raised steps (turns_from m begun commands)
  pub edits : here.edits ≤ begun.edits + k
  pub places : here.places ≤ begun.places + k

-- where memory refuses a command that it may, these pieces are put out
refusal-is : (files : Files) (c : Command) (pieces : Refusal) → MayWant files c → refusal_of files (Some c) pieces ≡ Some pieces
refusal-is files (Lone change) pieces wants = ap (λ b. cond b (Some pieces) None) wants
refusal-is files (Batch changes) pieces wants = ap (λ b. cond b (Some pieces) None) wants
refusal-is files (SaveAs name) pieces wants = absurd wants
refusal-is files (Locate at) pieces wants = absurd wants

module _ {S : Type 0} (m : Formatter S) where
  pieces-append : (t : Moment) (first later : List Command) → pieces_from m t (first ++ later) ≡ pieces_from m t first ++ pieces_from m (moment_after t first) later
  pieces-append t [] later = refl
  pieces-append t (c ∷ first) later = ap (λ ps. pieces_at m t c ++ ps) (pieces-append (next_moment t c) first later) ∙ sym (append_assoc (pieces_at m t c) (pieces_from m (next_moment t c) first) (pieces_from m (moment_after (next_moment t c) first) later))

  pieces-one : (t : Moment) (c : Command) → pieces_from m t (c ∷ []) ≡ pieces_at m t c
  pieces-one t c = append_nil_of (pieces_at m t c)
    where
      append_nil_of : (ps : List Piece) → ps ++ [] ≡ ps
      append_nil_of [] = refl
      append_nil_of (p ∷ ps) = ap (λ qs. p ∷ qs) (append_nil_of ps)

  slice_get-there : (commands : List Command) (k : ℕ) (c : Command) → k < length commands → c ≡ get_or commands k c → slice_get commands k ≡ Some c
  slice_get-there commands k c more is = slice_get-get_or commands k c more ∙ ap Some (sym is)

  pub replayed-on : {begun here next : Moment} {commands : List Command} {k : ℕ} {before sink sink' : Option Output} {steps now now' : ℕ} (c : Command)
      → Replayed m begun here commands k before sink steps now → k < length commands → c ≡ get_or commands k c
      → next ≡ next_moment here c → sink' ≡ told sink (pieces_at m here c) → now' ≡ raised now (turns_at m here c) → next.edits ≤ here.edits + 1 → next.places ≤ here.places + 1
      → Replayed m begun next commands (k + 1) before sink' steps now'
  replayed-on {begun = begun} {here = here} {next = next} {commands = commands} {k = k} {before = before} {now = now} c so_far more is gives puts count few few_places =
      let one : take (k + 1) commands ≡ take k commands ++ c ∷ [] = take_more commands k c more ∙ ap (λ x. take k commands ++ x ∷ []) (sym is) in
      let left : drop k commands ≡ c ∷ drop (k + 1) commands = drop_more commands k c more ∙ ap (λ x. x ∷ drop (k + 1) commands) (sym is) in
      record {
        moment = gives ∙ ap (λ t. next_moment t c) so_far.moment ∙ sym (fold-append next_moment begun (take k commands) (c ∷ [])) ∙ ap (moment_after begun) (sym one);
        puts = puts ∙ (λ i. told (so_far.puts i) (pieces_at m (so_far.moment i) c)) ∙ told-append before (pieces_from m begun (take k commands)) _
            ∙ ap (told before) (ap (λ ps. pieces_from m begun (take k commands) ++ ps) (sym (pieces-one (moment_after begun (take k commands)) c)) ∙ sym (pieces-append begun (take k commands) (c ∷ [])) ∙ ap (pieces_from m begun) (sym one));
        counted = (λ i. raised (count i) (turns_from m (gives i) (drop (k + 1) commands)))
            ∙ raised-raised now (turns_at m here c) (turns_from m (next_moment here c) (drop (k + 1) commands))
            ∙ ap (λ cs. raised now (turns_from m here cs)) (sym left)
            ∙ so_far.counted;
        edits = omega (arith, so_far.edits);
        places = omega (arith, so_far.places);
      }

  pub replayed-most : {begun here : Moment} {commands : List Command} {k : ℕ} {before sink : Option Output} {steps now now' : ℕ} (c : Command)
      → Replayed m begun here commands k before sink steps now → k < length commands → c ≡ get_or commands k c
      → now' ≤ raised now (turns_at m here c) → now' ≤ raised steps (turns_from m begun commands)
  replayed-most {here = here} {commands = commands} {k = k} {steps = steps} {now = now} c so_far more is most =
      let left : drop k commands ≡ c ∷ drop (k + 1) commands = drop_more commands k c more ∙ ap (λ x. x ∷ drop (k + 1) commands) (sym is) in
      let all : turns_from m here (drop k commands) ≡ turns_at m here c + turns_from m (next_moment here c) (drop (k + 1) commands) = ap (turns_from m here) left in
      let within : raised now (turns_at m here c) ≤ raised now (turns_from m here (drop k commands)) = raised-le now _ _ (omega arith) in
      omega (arith, so_far.counted)

  pub replayed-cut : (T U : Type 0) (out : List ℕ) {begun here : Moment} {commands : List Command} {k : ℕ} {before sink : Option Output} {steps now : ℕ} (after : Option Output) (c : Command) (e : Interruption)
      → Replayed m begun here commands k before sink steps now → k < length commands → c ≡ get_or commands k c
      → Puts {T = T} (pieces_at m here c) (refused_pieces m out here) (Err e) sink after → (e ≡ RefusedEdit → MayWant here.held.files c)
      → Replays {T = U} (pieces_from m begun commands) (refusal_at m out begun commands) (Err e) before after
  replayed-cut T U out {begun = begun} {here = here} {commands = commands} {k = k} {before = before} {sink = sink} after c (Interrupted trouble) so_far more is puts wants =
      let left : drop k commands ≡ c ∷ drop (k + 1) commands = drop_more commands k c more ∙ ap (λ x. x ∷ drop (k + 1) commands) (sym is) in
      let later : List Piece = pieces_from m (next_moment here c) (drop (k + 1) commands) in
      let first : List Piece = pieces_from m begun (take k commands) in
      let whole : first ++ (pieces_at m here c ++ later) ≡ pieces_from m begun commands =
      (λ i. first ++ pieces_from m (so_far.moment i) (sym left i)) ∙ sym (pieces-append begun (take k commands) (drop k commands)) ∙ ap (pieces_from m begun) (take-append-drop k commands) in
      subst (λ (ps : List Piece). IsCutShort before ps after) whole
      (cut-behind before first (pieces_at m here c ++ later) after
      (cut-longer (told before first) (pieces_at m here c) later after (subst (λ (o : Option Output). IsCutShort o (pieces_at m here c) after) so_far.puts puts)))
  replayed-cut T U out {begun = begun} {here = here} {commands = commands} {k = k} {before = before} after c RefusedEdit so_far more is puts wants =
      let files : Files = (moment_after begun (take k commands)).held.files in
      let pieces : Refusal = record { before_it = pieces_from m begun (take k commands); of_it = refused_pieces m out (moment_after begun (take k commands)) } in
      record {
        made = k;
        pieces = pieces;
        are = ap (λ at. refusal_of files at pieces) (slice_get-there commands k c more is) ∙ refusal-is files c pieces (subst (λ (t : Moment). MayWant t.held.files c) so_far.moment (wants refl));
        cut = subst (λ (t : Moment). IsCutShort (told before (pieces_from m begun (take k commands))) (refused_pieces m out t) after) so_far.moment
            (subst (λ (o : Option Output). IsCutShort o (refused_pieces m out here) after) so_far.puts puts);
      }

-- what is so of an error is so of the result that has it
pub on-err : {U E : Type 0} (r : Result U E) (e : E) (IsSo : Result U E → Type 0) → IsErrAnd r (λ x. x ≡ e) → IsSo (Err e) → IsSo r
on-err (Ok value) e IsSo same so = absurd same
on-err (Err x) e IsSo same so = subst (λ y. IsSo (Err y)) (sym same) so
