-- A document whose changes may be made of an earlier run than the last one: of the last one that ended by the end of its text, where
-- those since were cut off.
use Rattle.std.specs.Prelude.{ℕ, Bool, true, false, ◌&&◌, nat_le, List, [], ◌∷◌, ◌++◌, length, if◌then◌else◌}
use Rattle.tx_files.specs.Changes.{all_fit}
use Rattle.tx_files.specs.declared.edit.Change.{Change}
use Rattle.tx_machine.specs.declared.types.End.{End as RunEnd}
use Rattle.tx_machine.specs.declared.types.End.TheVariants.{End, Error, Budget, PageLimit}
use Rattle.tx_machine.specs.Machine.{Formatter}
use Rattle.tx_session.specs.declared.report.Report.{Report}
use Rattle.tx_session.specs.Held.{Held, fresh, changed_session}
use Rattle.tx_session.specs.Report.{report, report_of, work}

-- the document of which changes are made, and the changes that were made of it since
pub record Standing : Type 0 where
  pub base : Held
  pub since : List Change

-- the document as it is now
abbrev pub now : Standing → Held
now t = changed_session t.base t.since

-- a document of which nothing was made since
abbrev pub settled : Held → Standing
settled held = record { base = held; since = [] }

-- a run that ended by the end of its text
abbrev pub is_whole : RunEnd → Bool
is_whole End = true
is_whole (Error code name line) = false
is_whole Budget = false
is_whole PageLimit = false

-- a run that was cut off, by an error or by what a page may cost
abbrev pub is_cut : RunEnd → Bool
is_cut End = false
is_cut (Error code name line) = true
is_cut Budget = true
is_cut PageLimit = false

-- whether the earlier run is kept: it is whole, the one that the changes led to is cut off, and the changes are no more than this
abbrev pub keeps : {S : Type 0} → Formatter S → ℕ → Standing → Bool
keeps m most t = is_whole (fresh m t.base).ran.end && is_cut (fresh m (now t)).ran.end && nat_le (length t.since) most

abbrev pub kept : {S : Type 0} → Formatter S → ℕ → Standing → Standing
kept m most t = if keeps m most t then t else settled (now t)

-- after changes that can be made, at least one; and after some that may be none, or are left out where they can't be made
abbrev pub made_of : {S : Type 0} → Formatter S → ℕ → Standing → List Change → Standing
made_of m most t [] = t
made_of m most t (c ∷ changes) = kept m most (record t { since = t.since ++ c ∷ changes })

abbrev pub next_standing : {S : Type 0} → Formatter S → ℕ → Standing → List Change → Standing
next_standing m most t changes = if all_fit (now t).files changes then made_of m most t changes else t

-- what is reported of changes that can be made: all changes since the earlier run are one batch of it; none leave everything
abbrev pub report_since : {S : Type 0} → Formatter S → Standing → List Change → Report
report_since m t [] = report_of (length (fresh m (now t)).ran.pages) (length (fresh m (now t)).ran.pages) 0
report_since m t (c ∷ changes) = report m t.base (t.since ++ c ∷ changes)

-- and their turns, which are those of that batch
abbrev pub work_since : {S : Type 0} → Formatter S → Standing → List Change → ℕ
work_since m t [] = 0
work_since m t (c ∷ changes) = work m t.base (t.since ++ c ∷ changes)

abbrev pub turns_since : {S : Type 0} → Formatter S → Standing → List Change → ℕ
turns_since m t changes = if all_fit (now t).files changes then work_since m t changes else 0
