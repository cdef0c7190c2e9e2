-- What an edit leaves at a place that was located.
use Rattle.std.specs.Prelude.{◌≡◌, ℕ, ◌-◌, true, List, [], ◌∷◌, length, take}
use Rattle.tx_files.specs.Edits.{fits_in}
use Rattle.tx_files.specs.declared.edit.Edit.{Edit as FileEdit}
use Rattle.tx_files.specs.declared.edit.Change.TheVariants.{Edit}
use Rattle.tx_machine.specs.declared.types.Ran.{Ran}
use Rattle.tx_machine.specs.Machine.{Formatter}
use Rattle.tx_checkpoint.specs.declared.located.Located.{Located}
use Rattle.tx_checkpoint.specs.declared.located.Located.TheVariants.{Page, After, Nowhere}
use Rattle.tx_session.specs.Held.{Held, fresh, edited_session}
use Rattle.tx_session.specs.Report.{work}

-- the first pages, so many, are the same, and their pieces of the transcript
pub record AreLeft (count : ℕ) (before after : Ran) : Type 0 where
  pub pages : take count after.pages ≡ take count before.pages
  pub pieces : take count after.pieces ≡ take count before.pieces

-- an edit leaves the pages before the one by which its place is first read, and all of them where none is; where the place isn't read at
-- all it leaves the whole run, and takes no turn
abbrev pub LeavesBy : {S : Type 0} → Formatter S → Held → FileEdit → Located → Type 0
LeavesBy m held e (Page k) = AreLeft (k - 1) (fresh m held).ran (fresh m (edited_session held e)).ran
LeavesBy m held e After = AreLeft (length (fresh m held).ran.pages) (fresh m held).ran (fresh m (edited_session held e)).ran
LeavesBy m held e Nowhere = (fresh m (edited_session held e) ≡ fresh m held) × (work m held (Edit e ∷ []) ≡ 0)

-- so for every edit at a place that fits its file
abbrev pub AllLeaveBy : {S : Type 0} → Formatter S → Held → List ℕ → ℕ → Located → Type 0
AllLeaveBy m held name place at = (e : FileEdit) → e.name ≡ name → e.place ≡ place → fits_in held.files e ≡ true → LeavesBy m held e at
