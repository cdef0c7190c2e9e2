-- What a session holds, and what it shows: the fresh run on its files, with no checkpoint and no reuse.
use Rattle.std.specs.Prelude.{ℕ, ◌-◌, List, [], ◌∷◌, ◌++◌, slice_get}
use Rattle.std.specs.Option.{option_map_or}
use Rattle.tx_bytes.specs.Files.{Files}
use Rattle.tx_files.specs.Changes.{all_changed, after_changes}
use Rattle.tx_files.specs.Edits.{edited, after_edit, replay}
use Rattle.tx_files.specs.declared.edit.Edit.{Edit}
use Rattle.tx_files.specs.declared.edit.Change.{Change}
use Rattle.tx_dvi.specs.Page.{Page}
use Rattle.tx_machine.specs.declared.types.Date.{Date}
use Rattle.tx_machine.specs.declared.types.Limits.{Limits}
use Rattle.tx_machine.specs.declared.types.Ran.{Ran}
use Rattle.tx_machine.specs.Machine.{Formatter}
use Rattle.tx_machine.specs.Run.{Counted, run}
use Rattle.tx_checkpoint.specs.Rows.{History, fresh_rows}

-- the files as they are now, and what stays the same: the main file's name, the date and the limits
pub record Held : Type 0 where
  pub files : Files
  pub main : List ℕ
  pub date : Date
  pub limits : Limits

-- these files, this main file's name, this date and these limits
abbrev pub held_of : Files → List ℕ → Date → Limits → Held
held_of files main date limits = record { files = files; main = main; date = date; limits = limits }

-- the fresh run on the files as they are now
abbrev pub fresh : {S : Type 0} → Formatter S → Held → Counted
fresh m held = run m held.files held.main held.date held.limits

-- its rows
abbrev pub rows_of : {S : Type 0} → Formatter S → Held → History S
rows_of m held = fresh_rows m held.files held.main held.date held.limits

-- the pieces of a transcript, joined, and what follows the last of them
abbrev pub joined_with : List (List ℕ) → List ℕ → List ℕ
joined_with [] last = last
joined_with (piece ∷ pieces) last = piece ++ joined_with pieces last

-- the whole transcript of a run
abbrev pub transcript : Ran → List ℕ
transcript ran = joined_with ran.pieces ran.last

-- the commands of the n-th page, counted from 1
abbrev pub body_of : List Page → ℕ → List ℕ
body_of pages n = option_map_or (λ page. page.body) (slice_get pages (n - 1)) []

-- a session with other files
abbrev pub with_files : Held → Files → Held
with_files held files = record held { files = files }

-- after changes that can be made, and after some that are refused where they can't
abbrev pub changed_session : Held → List Change → Held
changed_session held changes = with_files held (all_changed held.files changes)

abbrev pub after_all : Held → List Change → Held
after_all held changes = with_files held (after_changes held.files changes)

-- after an edit that fits, after one that is refused where it doesn't, and after some of these
abbrev pub edited_session : Held → Edit → Held
edited_session held e = with_files held (edited held.files e)

abbrev pub after : Held → Edit → Held
after held e = with_files held (after_edit held.files e)

abbrev pub replayed : Held → List Edit → Held
replayed held edits = with_files held (replay held.files edits)
