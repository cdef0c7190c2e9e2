-- A run that was cut off, beside the earlier run of which changes are made.
use Rattle.std.specs.Prelude.{◌≡◌, ℕ, ◌≤◌, ◌^◌, Bool, true, false, ◌&&◌, nat_lt, List, [], ◌∷◌, ◌++◌, length, map, take, Option, Some, None}
use Rattle.std.specs.Option.{ForSome}
use Rattle.tx_bytes.specs.Files.{Files}
use Rattle.tx_files.specs.Changes.{name_of, changed, all_fit, all_changed}
use Rattle.tx_files.specs.Edits.{length_of}
use Rattle.tx_files.specs.declared.edit.Change.{Change}
use Rattle.tx_machine.specs.declared.types.End.{End as RunEnd}
use Rattle.tx_machine.specs.Machine.{Formatter}
use Rattle.tx_checkpoint.specs.Meant.{rows_meant}
use Rattle.tx_checkpoint.specs.Rows.{History, rows_in}
use Rattle.tx_quiesce.specs.declared.further.Further.{Further}
use Rattle.tx_quiesce.specs.declared.further.Further.TheVariants.{Goes, Stands}
use Rattle.tx_session.specs.declared.kept.Come.{Come}
use Rattle.tx_session.specs.declared.kept.Come.TheVariants.{Settled, Beside}
use Rattle.tx_session.specs.declared.kept.Cut.{Cut}
use Rattle.tx_session.specs.declared.kept.Earlier.{Earlier}
use Rattle.tx_session.specs.declared.kept.Made.{Made}
use Rattle.tx_session.specs.declared.report.Report.{Report}
use Rattle.tx_session.specs.Held.{Held, rows_of, joined_with, with_files}
use Rattle.tx_session.specs.Report.{report}
use Rattle.tx_session.specs.Shows.{Shows}
use Rattle.tx_session.specs.Standing.{Standing, keeps}

-- how a run ends of which this comes further
abbrev pub end_of : {S : Type 0} → Further S → RunEnd
end_of (Goes rows) = rows.last.end
end_of (Stands end) = end

-- the files of the run of which changes are made, and the changes that were made of them since: none where that is the last run
abbrev pub base_of : {S : Type 0} → Files → Option (Earlier S) → Files
base_of files None = files
base_of files (Some e) = e.files

abbrev pub since_of : {S : Type 0} → Option (Earlier S) → List Change
since_of None = []
since_of (Some e) = e.since

-- where a document stands, by its files as they are now
abbrev pub standing_of : {S : Type 0} → Held → Option (Earlier S) → Standing
standing_of held earlier = record { base = with_files held (base_of held.files earlier); since = since_of earlier }

-- on the way each file that is changed is one that memory can hold
abbrev pub are_small : Files → List Change → Bool
are_small files [] = true
are_small files (c ∷ changes) = nat_lt (length_of (changed files c) (name_of c)) (2 ^ 64) && are_small (changed files c) changes

-- what is kept is the run on these files, and the changes of them led to the files as they are now
pub record IsLed {S M : Type 0} (m : Formatter M) (meaning : S → M) (pending : S → List ℕ) (base : Files) (held : Held) (made : Made S) (changes : List Change) : Type 0 where
  pub shows : Shows m meaning pending (with_files held base) made
  pub fits : all_fit base changes ≡ true
  pub small : are_small base changes ≡ true
  pub led : held.files ≡ all_changed base changes

-- the first rows of what is kept, and those behind them, are those of a run, with its last stretch and its transcript
pub record IsCut {S M : Type 0} (meaning : S → M) (made : Made S) (cut : Cut S) (h : History M) : Type 0 where
  pub within : cut.kept ≤ length made.rows.rows.items
  pub pages_are : take cut.kept made.rows.pages.items ++ cut.part.pages.items ≡ map (λ page. page.body) h.pages
  pub pieces_are : take cut.kept made.rows.pieces.items ++ cut.part.pieces.items ≡ map (λ page. page.piece) h.pages
  pub rows_are : rows_meant meaning (take cut.kept made.rows.rows.items ++ cut.part.rows.items) ≡ rows_in h.pages
  pub last_is : cut.last ≡ h.last
  pub said : cut.said ≡ joined_with (take cut.kept made.rows.pieces.items ++ cut.part.pieces.items) cut.last.piece

-- the run on the files as they are now is beside the earlier one, which is to be kept
pub record IsKept {S M : Type 0} (m : Formatter M) (meaning : S → M) (held : Held) (made : Made S) (e : Earlier S) : Type 0 where
  pub cut : IsCut meaning made e.cut (rows_of m held)
  pub keeps_it : keeps m 1000 (record { base = with_files held e.files; since = e.since }) ≡ true

-- what a document keeps shows the run on its files as they are now
pub record ShowsLive {S M : Type 0} (m : Formatter M) (meaning : S → M) (pending : S → List ℕ) (held : Held) (made : Made S) (earlier : Option (Earlier S)) : Type 0 where
  pub led : IsLed m meaning pending (base_of held.files earlier) held made (since_of earlier)
  pub kept : ForSome earlier (IsKept m meaning held made)

-- what was kept shows the run on the changed files, and the earlier run isn't to be kept
pub record IsSettled {S M : Type 0} (m : Formatter M) (meaning : S → M) (pending : S → List ℕ) (base : Files) (held : Held) (changes : List Change) (made : Made S) (answer : Report) : Type 0 where
  pub shows : Shows m meaning pending held made
  pub report_is : answer ≡ report m (with_files held base) changes
  pub lets_go : keeps m 1000 (record { base = with_files held base; since = changes }) ≡ false

-- or it stands as before, and the run on the changed files is beside it
pub record IsBeside {S M : Type 0} (m : Formatter M) (meaning : S → M) (base : Files) (held : Held) (changes : List Change) (old new : Made S) (answer : Report) (cut : Cut S) : Type 0 where
  pub same : new ≡ old
  pub cut_is : IsCut meaning old cut (rows_of m held)
  pub report_is : answer ≡ report m (with_files held base) changes
  pub keeps_it : keeps m 1000 (record { base = with_files held base; since = changes }) ≡ true

abbrev pub HasCome : {S M : Type 0} → Formatter M → (S → M) → (S → List ℕ) → Files → Held → List Change → Made S → Made S → Come S → Type 0
HasCome m meaning pending base held changes old new (Settled answer) = IsSettled m meaning pending base held changes new answer
HasCome m meaning pending base held changes old new (Beside answer cut) = IsBeside m meaning base held changes old new answer cut
