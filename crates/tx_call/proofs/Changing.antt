-- What a document answered to changes is what comes of them.
use Rattle.std.proofs.Common.{◌≡◌, ℕ, ◌+◌, ◌≤◌, Bool, true, false, cond, List, [], ◌∷◌, Option, Some, None, sym, ap, subst, ◌∙◌, arith}
use Rattle.tx_io.specs.Output.{Output, Say, told}
use Rattle.tx_io.specs.Cut.{IsCutShort}
use Rattle.tx_files.specs.Changes.{all_fit, first_outside}
use Rattle.tx_files.specs.declared.edit.Change.{Change}
use Rattle.tx_machine.specs.Machine.{Formatter}
use Rattle.tx_machine.specs.Steps.{raised}
use Rattle.tx_machine.proofs.Going.{raised-zero}
use Rattle.tx_session.specs.Held.{Held, fresh}
use Rattle.tx_session.specs.Standing.{Standing, now, made_of, report_since, work_since}
use Rattle.tx_session.specs.declared.report.Report.{Report}
use Rattle.tx_session.proofs.Standings.{now-made_of}
use Rattle.tx_call.specs.Lines.{edit_line}
use Rattle.tx_call.specs.Replay.{refused_line}
use Rattle.tx_call.specs.Sitting.{Sitting, Comes, ComesInPart, next_edit, line_by, line_told, edit_effect}

same-most : (steps steps' turns : ℕ) → steps' ≡ steps → steps' ≤ raised steps turns
same-most steps steps' turns same = omega arith

module _ {S : Type 0} (m : Formatter S) (most : ℕ) (t : Sitting) (together : Bool) (changes : List Change) where
  -- where they were made
  next-made : (standing : Standing) → all_fit (now t.standing).files changes ≡ true → standing ≡ made_of m most t.standing changes
      → record { standing = standing; edits = t.edits + 1; places = t.places; outside = t.outside } ≡ next_edit m most t changes
  next-made standing fit made = λ i. record {
    standing = (made ∙ ap (λ (b : Bool). cond b (made_of m most t.standing changes) t.standing) (sym fit)) i;
    edits = t.edits + 1;
    places = t.places;
    outside = ap (λ (b : Bool). cond b t.outside true) (sym fit) i;
  }

  line-made : (standing : Standing) (report : Report) → first_outside (now t.standing).files changes ≡ None → standing ≡ made_of m most t.standing changes → report ≡ report_since m t.standing changes
      → edit_line (t.edits + 1) report (fresh m (now standing)).ran.end ≡ line_told m t together changes
  line-made standing report first made is =
      ap (λ (r : Report). edit_line (t.edits + 1) r (fresh m (now standing)).ran.end) is
      ∙ ap (λ (held : Held). edit_line (t.edits + 1) (report_since m t.standing changes) (fresh m held).ran.end) (ap now made ∙ now-made_of m most t.standing changes)
      ∙ ap (line_by m t together changes) (sym first)

  pub made-comes : (standing : Standing) (report : Report) {before after : Option Output} {steps steps' : ℕ}
      → all_fit (now t.standing).files changes ≡ true → first_outside (now t.standing).files changes ≡ None → standing ≡ made_of m most t.standing changes → report ≡ report_since m t.standing changes
      → after ≡ told before (Say (edit_line (t.edits + 1) report (fresh m (now standing)).ran.end) ∷ []) → steps' ≡ raised steps (work_since m t.standing changes)
      → Comes (edit_effect m most t together changes) (record { standing = standing; edits = t.edits + 1; places = t.places; outside = t.outside }) before after steps steps'
  made-comes standing report {before = before} {steps = steps} fit first made is puts counted = record {
    sitting_is = next-made standing fit made;
    output_is = puts ∙ ap (λ (line : List ℕ). told before (Say line ∷ [])) (line-made standing report first made is);
    steps_are = counted ∙ ap (λ (b : Bool). raised steps (cond b (work_since m t.standing changes) 0)) (sym fit);
  }

  pub made-comes-in-part : (standing : Standing) (report : Report) {before after : Option Output} {steps steps' : ℕ}
      → first_outside (now t.standing).files changes ≡ None → standing ≡ made_of m most t.standing changes → report ≡ report_since m t.standing changes
      → IsCutShort before (Say (edit_line (t.edits + 1) report (fresh m (now standing)).ran.end) ∷ []) after → steps' ≤ raised steps (edit_effect m most t together changes).turns
      → ComesInPart (edit_effect m most t together changes) before after steps steps'
  made-comes-in-part standing report {before = before} {after = after} first made is cut turns = record {
    cut = subst (λ (line : List ℕ). IsCutShort before (Say line ∷ []) after) (line-made standing report first made is) cut;
    most = turns;
  }

  -- where one of them goes past the end of its file
  next-outside : (standing : Standing) → all_fit (now t.standing).files changes ≡ false → standing ≡ t.standing
      → record { standing = standing; edits = t.edits + 1; places = t.places; outside = true } ≡ next_edit m most t changes
  next-outside standing fit same = λ i. record {
    standing = (same ∙ ap (λ (b : Bool). cond b (made_of m most t.standing changes) t.standing) (sym fit)) i;
    edits = t.edits + 1;
    places = t.places;
    outside = ap (λ (b : Bool). cond b t.outside true) (sym fit) i;
  }

  line-outside : (index len : ℕ) → first_outside (now t.standing).files changes ≡ Some (index, len) → refused_line together (t.edits + 1) (index, len) ≡ line_told m t together changes
  line-outside index len first = ap (line_by m t together changes) (sym first)

  pub outside-comes : (standing : Standing) (index len : ℕ) {before after : Option Output} {steps steps' : ℕ}
      → all_fit (now t.standing).files changes ≡ false → first_outside (now t.standing).files changes ≡ Some (index, len) → standing ≡ t.standing
      → after ≡ told before (Say (refused_line together (t.edits + 1) (index, len)) ∷ []) → steps' ≡ steps
      → Comes (edit_effect m most t together changes) (record { standing = standing; edits = t.edits + 1; places = t.places; outside = true }) before after steps steps'
  outside-comes standing index len {before = before} {steps = steps} fit first same puts no_turn = record {
    sitting_is = next-outside standing fit same;
    output_is = puts ∙ ap (λ (line : List ℕ). told before (Say line ∷ [])) (line-outside index len first);
    steps_are = no_turn ∙ sym (raised-zero steps) ∙ ap (λ (b : Bool). raised steps (cond b (work_since m t.standing changes) 0)) (sym fit);
  }

  pub outside-comes-in-part : (index len : ℕ) {before after : Option Output} {steps steps' : ℕ}
      → first_outside (now t.standing).files changes ≡ Some (index, len)
      → IsCutShort before (Say (refused_line together (t.edits + 1) (index, len)) ∷ []) after → steps' ≡ steps
      → ComesInPart (edit_effect m most t together changes) before after steps steps'
  outside-comes-in-part index len {before = before} {after = after} {steps = steps} {steps' = steps'} first cut no_turn = record {
    cut = subst (λ (line : List ℕ). IsCutShort before (Say line ∷ []) after) (line-outside index len first) cut;
    most = same-most steps steps' (edit_effect m most t together changes).turns no_turn;
  }
