-- A command leads where a script's leads, and where no earlier run is kept it says and takes what a script's does.
use Rattle.std.proofs.Common.{◌≡◌, ℕ, ◌+◌, Bool, true, false, cond, List, [], ◌∷◌, Option, Some, None, refl, sym, ap, subst}
use Rattle.tx_io.specs.Output.{Say}
use Rattle.tx_files.specs.Changes.{all_fit, first_outside}
use Rattle.tx_files.specs.declared.edit.Change.{Change}
use Rattle.tx_machine.specs.Machine.{Formatter}
use Rattle.tx_script.specs.declared.command.Command.{Command}
use Rattle.tx_script.specs.declared.command.Command.TheVariants.{Change as Lone, Batch, Save as SaveAs, Locate}
use Rattle.tx_session.specs.Held.{Held, fresh, changed_session}
use Rattle.tx_session.specs.Standing.{now, settled}
use Rattle.tx_session.proofs.Standings.{now-next_standing}
use Rattle.tx_session.proofs.Settled.{settled-report, settled-turns}
use Rattle.tx_call.specs.Answers.{AgreesWithScript, most_changes}
use Rattle.tx_call.specs.Lines.{edit_line}
use Rattle.tx_call.specs.Replay as script
use Rattle.tx_call.specs.Replay.{Moment, next_made, next_moment, pieces_at, turns_at}
use Rattle.tx_call.specs.Sitting.{Sitting, moment_of, next_edit, line_by, edit_effect, effect}

-- the document of a script at a moment, of which each run is the last one
abbrev pub sitting_at : Moment → Sitting
sitting_at t = record { standing = settled t.held; edits = t.edits; places = t.places; outside = t.outside }

module _ {S : Type 0} (m : Formatter S) (most : ℕ) where
  next_edit-leads : (t : Sitting) (changes : List Change) → moment_of (next_edit m most t changes) ≡ next_made (moment_of t) changes
  next_edit-leads t changes = ap (λ (held : Held). record { held = held; edits = t.edits + 1; places = t.places; outside = cond (all_fit (now t.standing).files changes) t.outside true }) (now-next_standing m most t.standing changes)

  pub effect-leads : (t : Sitting) (c : Command) → moment_of (effect m most t c).behind ≡ next_moment (moment_of t) c
  effect-leads t (Lone c) = next_edit-leads t (c ∷ [])
  effect-leads t (Batch changes) = next_edit-leads t changes
  effect-leads t (SaveAs name) = refl
  effect-leads t (Locate at) = refl

  line-says : (t : Moment) (together : Bool) (changes : List Change) (first : Option (ℕ × ℕ)) → line_by m (sitting_at t) together changes first ≡ script.line_by m t together changes first
  line-says t together changes None = ap (λ r. edit_line (t.edits + 1) r (fresh m (changed_session t.held changes)).ran.end) (settled-report m t.held changes)
  line-says t together changes (Some first) = refl

  edit-says : (t : Moment) (together : Bool) (changes : List Change) → (edit_effect m most (sitting_at t) together changes).pieces ≡ Say (script.line_of m t together changes) ∷ []
  edit-says t together changes = ap (λ line. Say line ∷ []) (line-says t together changes (first_outside t.held.files changes))

  pub effect-says : (t : Moment) (c : Command) → (effect m most (sitting_at t) c).pieces ≡ pieces_at m t c
  effect-says t (Lone c) = edit-says t false (c ∷ [])
  effect-says t (Batch changes) = edit-says t true changes
  effect-says t (SaveAs name) = refl
  effect-says t (Locate at) = refl

  pub effect-takes : (t : Moment) (c : Command) → (effect m most (sitting_at t) c).turns ≡ turns_at m t c
  effect-takes t (Lone c) = settled-turns m t.held (c ∷ [])
  effect-takes t (Batch changes) = settled-turns m t.held changes
  effect-takes t (SaveAs name) = refl
  effect-takes t (Locate at) = refl

-- a document of which no earlier run is kept
abbrev alone_at : Sitting → Moment
alone_at t = record { held = t.standing.base; edits = t.edits; places = t.places; outside = t.outside }

alone : (t : Sitting) → t.standing.since ≡ [] → sitting_at (alone_at t) ≡ t
alone t none = ap (λ (since : List Change). record { standing = record { base = t.standing.base; since = since }; edits = t.edits; places = t.places; outside = t.outside }) (sym none)

pub agrees : {S : Type 0} (m : Formatter S) (t : Sitting) (c : Command) → AgreesWithScript m t c
agrees m t c = record {
  leads = effect-leads m most_changes t c;
  says_so = λ none. subst (λ (t : Sitting). (effect m most_changes t c).pieces ≡ pieces_at m (moment_of t) c) (alone t none) (effect-says m most_changes (alone_at t) c);
  takes = λ none. subst (λ (t : Sitting). (effect m most_changes t c).turns ≡ turns_at m (moment_of t) c) (alone t none) (effect-takes m most_changes (alone_at t) c);
}
