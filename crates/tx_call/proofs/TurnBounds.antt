-- The turns of a call are bounded by its words and its script.
use Rattle.std.proofs.Common.{◌≡◌, ℕ, ◌+◌, ◌*◌, ◌≤◌, Bool, true, false, cond, List, [], ◌∷◌, length, ap, arith}
use Rattle.std.proofs.Math.Nat.{mul-le-mul_right}
use Rattle.std.specs.FinMap.{empty}
use Rattle.tx_bytes.specs.Files.{Files, content}
use Rattle.tx_files.specs.Changes.{all_fit}
use Rattle.tx_files.specs.declared.edit.Change.{Change}
use Rattle.tx_machine.specs.Machine.{Formatter, IsLawful}
use Rattle.tx_machine.proofs.Running.{turns-run}
use Rattle.tx_machine.proofs.PageCounts.{pages-run_from}
use Rattle.tx_checkpoint.specs.Rows.{all_turns}
use Rattle.tx_checkpoint.proofs.Standing.{rows-tell}
use Rattle.tx_script.specs.declared.command.Command.{Command}
use Rattle.tx_script.specs.declared.command.Command.TheVariants.{Change as Lone, Batch, Save as SaveAs, Locate}
use Rattle.tx_session.specs.Held.{Held, fresh, rows_of, changed_session}
use Rattle.tx_session.specs.Report.{work, turns_of_changes}
use Rattle.tx_session.proofs.Reusing.{work-least}
use Rattle.tx_words.specs.declared.given.Asked.{Asked}
use Rattle.tx_words.specs.declared.given.Asked.TheVariants.{Run, Serve, Gen, Listing, Help, RunHelp, GenHelp, ListHelp, ServeHelp, Version, Nothing}
use Rattle.tx_call.specs.declared.listed.Listed.{Listed}
use Rattle.tx_call.specs.declared.listed.Listed.TheVariants.{Brings, Stops}
use Rattle.tx_call.specs.Listing.{listed_as}
use Rattle.tx_call.specs.declared.scripted.Scripted.{Scripted}
use Rattle.tx_call.specs.declared.scripted.Scripted.TheVariants.{Plays, Refused}
use Rattle.tx_call.specs.Replay.{Moment, opened, next_moment, turns_from}
use Rattle.tx_call.specs.Outcome.{listing, asked_outcome, document, served, with_listed, most_of_edits, most_turns}

le_trans : (a b c : ℕ) → a ≤ b → b ≤ c → a ≤ c
le_trans a b c first second = omega arith

both_most : (a b c d : ℕ) → a ≤ c → b ≤ d → a + b ≤ c + d
both_most a b c d first second = omega arith

-- what a run of this document may take
abbrev pub most_of : Held → ℕ
most_of held = (held.limits.pages + 1) * held.limits.budget

module _ {S : Type 0} (m : Formatter S) (lawful : IsLawful m) where
  fresh-most : (held : Held) → (fresh m held).turns ≤ most_of held
  fresh-most held =
      le_trans (fresh m held).turns ((length (fresh m held).ran.pages + 1) * held.limits.budget) (most_of held)
      (turns-run m held.files held.limits.budget lawful held.limits.pages (m.start held.date held.main) [])
      (mul-le-mul_right held.limits.budget (omega (arith, pages-run_from m held.files held.limits.budget held.limits.pages (m.start held.date held.main) [])))

  rows-most : (held : Held) → all_turns (rows_of m held) ≤ most_of held
  rows-most held =
      let same : (fresh m held).turns ≡ all_turns (rows_of m held) = ap (λ c. c.turns) (rows-tell m held.files held.limits.budget held.limits.pages (m.start held.date held.main) []) in
      omega (arith, same, fresh-most held)

  pub work-most : (held : Held) (changes : List Change) → work m held changes ≤ most_of held
  work-most held changes =
      le_trans (work m held changes) (all_turns (rows_of m (changed_session held changes))) (most_of held)
      (work-least m changes held.limits.pages (rows_of m held) (rows_of m (changed_session held changes))) (rows-most (changed_session held changes))

  changes-most : (held : Held) (changes : List Change) → turns_of_changes m held changes ≤ most_of held
  changes-most held changes = go (all_fit held.files changes)
    where
      go : (b : Bool) → cond b (work m held changes) 0 ≤ most_of held
      go true = work-most held changes
      go false = omega arith

  commands-most : (t : Moment) (commands : List Command) → turns_from m t commands ≤ most_of_edits (most_of t.held) commands
  commands-most t [] = omega arith
  commands-most t (Lone c ∷ commands) = both_most _ _ _ _ (changes-most t.held (c ∷ [])) (commands-most (next_moment t (Lone c)) commands)
  commands-most t (Batch changes ∷ commands) = both_most _ _ _ _ (changes-most t.held changes) (commands-most (next_moment t (Batch changes)) commands)
  commands-most t (SaveAs name ∷ commands) = let less : turns_from m t commands ≤ most_of_edits (most_of t.held) commands = commands-most t commands in omega (arith, less)
  commands-most t (Locate at ∷ commands) =
      let less : turns_from m (next_moment t (Locate at)) commands ≤ most_of_edits (most_of t.held) commands = commands-most (next_moment t (Locate at)) commands in omega (arith, less)

  listing-still : (listed : Listed) → (listing listed).turns ≤ 0
  listing-still (Brings pages) = omega arith
  listing-still (Stops place rule) = omega arith

  pub turns-most : (asked : Asked) (scripted : Scripted) (held : Files) → (asked_outcome m asked scripted held).turns ≤ most_turns asked scripted
  turns-most (Run given) (Plays commands) held =
      let d : Held = document given (with_listed held empty given.files) in
      both_most _ _ _ _ (fresh-most d) (commands-most (opened d) commands)
  turns-most (Run given) (Refused place rule) held = omega arith
  turns-most (Serve serving) scripted held = fresh-most (served serving (with_listed held empty serving.files))
  turns-most (Gen seed pages) scripted held = omega arith
  turns-most (Listing name) scripted held = listing-still (listed_as (content held name))
  turns-most Help scripted held = omega arith
  turns-most RunHelp scripted held = omega arith
  turns-most GenHelp scripted held = omega arith
  turns-most ListHelp scripted held = omega arith
  turns-most ServeHelp scripted held = omega arith
  turns-most Version scripted held = omega arith
  turns-most Nothing scripted held = omega arith
