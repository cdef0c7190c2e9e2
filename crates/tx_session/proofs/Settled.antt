-- A session stands where no earlier run is kept.
use Rattle.std.proofs.Common.{◌≡◌, ℕ, ◌<◌, Bool, true, false, cond, ◌&&◌, nat_le, List, [], ◌∷◌, length, refl, sym, ap, ◌∙◌, arith}
use Rattle.std.specs.List.{list_all}
use Rattle.std.proofs.lemmas.Bool.Decides.{leb_tells}
use Rattle.std.proofs.lemmas.List.{length-map}
use Rattle.tx_files.specs.Changes.{all_fit}
use Rattle.tx_files.specs.declared.edit.Change.{Change}
use Rattle.tx_machine.specs.Machine.{Formatter}
use Rattle.tx_checkpoint.specs.declared.row.Row.{Row}
use Rattle.tx_checkpoint.specs.Resume.{stays, stands}
use Rattle.tx_checkpoint.specs.Rows.{History, rows_in}
use Rattle.tx_quiesce.specs.Reuse.{reused_rows}
use Rattle.tx_session.specs.Held.{Held, fresh, rows_of, changed_session}
use Rattle.tx_session.specs.Report.{report_of, report, work, resumed_at, meeting_of, formatted_turns, turns_of_changes}
use Rattle.tx_session.specs.Standing.{Standing, now, settled, is_whole, is_cut, made_of, report_since, work_since, turns_since}
use Rattle.tx_session.proofs.Showing.{fresh-tells}

-- no change touches nothing
none-touch : {S : Type 0} (rows : List (Row S)) → list_all (stays []) rows ≡ true
none-touch [] = refl
none-touch (row ∷ rows) = none-touch rows

not-both : (a b c : Bool) → c ≡ false → (a && b && c) ≡ false
not-both true true c is = is
not-both true false c is = refl
not-both false b c is = refl

some-many : (n : ℕ) → 0 < n → nat_le n 0 ≡ false
some-many n some = grind (arith, leb_tells)

module _ {S : Type 0} (m : Formatter S) (held : Held) where
  abbrev old : History S
  old = rows_of m held

  none-stands : stands old [] ≡ true
  none-stands = ap (λ b. b && true) (none-touch (rows_in old.pages))

  pub settled-made : (changes : List Change) → made_of m 0 (settled held) changes ≡ settled (changed_session held changes)
  settled-made [] = refl
  settled-made (c ∷ changes) =
      let t : Standing = record { base = held; since = c ∷ changes } in
      ap (λ b. cond b t (settled (now t))) (not-both (is_whole (fresh m held).ran.end) (is_cut (fresh m (now t)).ran.end) (nat_le (length (c ∷ changes)) 0) (some-many (length (c ∷ changes)) (omega arith)))

  pub settled-report : (changes : List Change) → report_since m (settled held) changes ≡ report m held changes
  settled-report [] =
      let pages : length (fresh m held).ran.pages ≡ length old.pages = ap (λ c. length c.ran.pages) (fresh-tells m held) ∙ length-map old.pages (λ page. page.body) in
      (λ i. report_of (pages i) (pages i) 0)
      ∙ sym (ap (λ b. cond b (report_of (length old.pages) (length old.pages) 0) (report_of (length old.pages) (resumed_at old []) (reused_rows held.limits.pages (length old.pages) (resumed_at old []) (meeting_of m [] old old)))) none-stands)
  settled-report (c ∷ changes) = refl

  pub settled-work : (changes : List Change) → work_since m (settled held) changes ≡ work m held changes
  settled-work [] = sym (ap (λ b. cond b 0 (formatted_turns (resumed_at old []) (reused_rows held.limits.pages (length old.pages) (resumed_at old []) (meeting_of m [] old old)) old old (meeting_of m [] old old))) none-stands)
  settled-work (c ∷ changes) = refl

  pub settled-turns : (changes : List Change) → turns_since m (settled held) changes ≡ turns_of_changes m held changes
  settled-turns changes = ap (λ n. cond (all_fit held.files changes) n 0) (settled-work changes)
