-- The turns of requests are bounded by the limits of the document, whatever its files say.
use Rattle.std.proofs.Common.{◌≡◌, ℕ, suc, ◌+◌, ◌*◌, ◌≤◌, Bool, true, false, cond, List, [], ◌∷◌, ◌++◌, length, Some, None, refl, subst, arith, suc-mul}
use Rattle.std.specs.Prelude.{unwrap_or}
use Rattle.tx_files.specs.Changes.{all_fit}
use Rattle.tx_files.specs.declared.edit.Change.{Change}
use Rattle.tx_machine.specs.declared.types.Limits.{Limits}
use Rattle.tx_machine.specs.Machine.{Formatter, IsLawful}
use Rattle.tx_script.specs.declared.command.Command.{Command as ScriptCommand}
use Rattle.tx_script.specs.declared.command.Command.TheVariants.{Change as Lone, Batch, Save as SaveAs, Locate}
use Rattle.tx_request.specs.declared.request.Request.{Request}
use Rattle.tx_request.specs.declared.request.Request.TheVariants.{Command, File, Page, Log, LogOf}
use Rattle.tx_session.specs.Refusals.{may_want}
use Rattle.tx_session.specs.Standing.{Standing, now, settled, keeps, kept, made_of, next_standing, work_since, turns_since}
use Rattle.tx_call.specs.Answers.{Event, Answered, Wanting, Unread, answer_to, all_came, came, contents_changes, edit_wanting, most_changes, nothing}
use Rattle.tx_call.specs.Sitting.{Sitting, effect}
use Rattle.tx_call.proofs.TurnBounds.{most_of, work-most}

-- what a run of this document may take
abbrev pub most_at : Sitting → ℕ
most_at t = most_of t.standing.base

abbrev pub most_by : Limits → ℕ
most_by limits = (limits.pages + 1) * limits.budget

sum-most : (a b n most : ℕ) → a ≤ most → b ≤ n * most → a + b ≤ suc n * most
sum-most a b n most first others = omega (arith, suc-mul n most, first, others)

module _ {S : Type 0} (m : Formatter S) (lawful : IsLawful m) where
  work_since-most : (t : Standing) (changes : List Change) → work_since m t changes ≤ most_of t.base
  work_since-most t [] = omega arith
  work_since-most t (c ∷ changes) = work-most m lawful t.base (t.since ++ c ∷ changes)

  since-most : (t : Standing) (changes : List Change) → turns_since m t changes ≤ most_of t.base
  since-most t changes = by (all_fit (now t).files changes)
    where
      by : (fit : Bool) → cond fit (work_since m t changes) 0 ≤ most_of t.base
      by true = work_since-most t changes
      by false = omega arith

  effect-most : (t : Sitting) (c : ScriptCommand) → (effect m most_changes t c).turns ≤ most_at t
  effect-most t (Lone c) = since-most t.standing (c ∷ [])
  effect-most t (Batch changes) = since-most t.standing changes
  effect-most t (SaveAs name) = omega arith
  effect-most t (Locate at) = omega arith

  answer-most : (t : Sitting) (r : Request) → (answer_to m t r).turns ≤ most_at t
  answer-most t (Command c) = effect-most t c
  answer-most t (File f) = since-most t.standing (contents_changes t f)
  answer-most t (Page k) = omega arith
  answer-most t Log = omega arith
  answer-most t (LogOf k) = omega arith

  came-most : (t : Sitting) (e : Event) → (came m t e).turns ≤ most_at t
  came-most t (Answered r) = answer-most t r
  came-most t (Wanting r) = answer-most t r
  came-most t (Unread rule) = omega arith

  -- and the limits stay
  kept-limits : (t : Standing) → (kept m most_changes t).base.limits ≡ t.base.limits
  kept-limits t = by (keeps m most_changes t)
    where
      by : (stays : Bool) → (cond stays t (settled (now t))).base.limits ≡ t.base.limits
      by true = refl
      by false = refl

  made-limits : (t : Standing) (changes : List Change) → (made_of m most_changes t changes).base.limits ≡ t.base.limits
  made-limits t [] = refl
  made-limits t (c ∷ changes) = kept-limits (record t { since = t.since ++ c ∷ changes })

  next-limits : (t : Standing) (changes : List Change) → (next_standing m most_changes t changes).base.limits ≡ t.base.limits
  next-limits t changes = by (all_fit (now t).files changes)
    where
      by : (fit : Bool) → (cond fit (made_of m most_changes t changes) t).base.limits ≡ t.base.limits
      by true = made-limits t changes
      by false = refl

  -- also where memory may be wanting
  wanted-limits : (t : Sitting) (wants : Bool) → (unwrap_or (cond wants (Some (edit_wanting t)) None) (nothing t)).behind.standing.base.limits ≡ t.standing.base.limits
  wanted-limits t true = refl
  wanted-limits t false = refl

  came-limits : (t : Sitting) (e : Event) → (came m t e).behind.standing.base.limits ≡ t.standing.base.limits
  came-limits t (Answered (Command (Lone c))) = next-limits t.standing (c ∷ [])
  came-limits t (Answered (Command (Batch changes))) = next-limits t.standing changes
  came-limits t (Answered (Command (SaveAs name))) = refl
  came-limits t (Answered (Command (Locate at))) = refl
  came-limits t (Answered (File f)) = next-limits t.standing (contents_changes t f)
  came-limits t (Answered (Page k)) = refl
  came-limits t (Answered Log) = refl
  came-limits t (Answered (LogOf k)) = refl
  came-limits t (Wanting (Command (Lone c))) = wanted-limits t (may_want (now t.standing).files (c ∷ []))
  came-limits t (Wanting (Command (Batch changes))) = wanted-limits t (may_want (now t.standing).files changes)
  came-limits t (Wanting (Command (SaveAs name))) = refl
  came-limits t (Wanting (Command (Locate at))) = refl
  came-limits t (Wanting (File f)) = refl
  came-limits t (Wanting (Page k)) = refl
  came-limits t (Wanting Log) = refl
  came-limits t (Wanting (LogOf k)) = refl
  came-limits t (Unread rule) = refl

  pub all-most : (t : Sitting) (events : List Event) → (all_came m t events).turns ≤ length events * most_at t
  all-most t [] = omega arith
  all-most t (e ∷ events) =
      let rest : (all_came m (came m t e).behind events).turns ≤ length events * most_at t =
      subst (λ (limits : Limits). (all_came m (came m t e).behind events).turns ≤ length events * most_by limits) (came-limits t e) (all-most (came m t e).behind events) in
      sum-most _ _ (length events) (most_at t) (came-most t e) rest
