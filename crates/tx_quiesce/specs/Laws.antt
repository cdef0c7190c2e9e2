-- Why a rest may be reused: from two equal states, with files that read on alike, the same comes.
use Rattle.std.specs.Prelude.{◌≡◌, ◌≢◌, ℕ, true, List, take, drop, min, map}
use Rattle.std.specs.List.{AllZip}
use Rattle.tx_bytes.specs.Files.{Files, content}
use Rattle.tx_dvi.specs.declared.page.PageBody.{PageBody}
use Rattle.tx_machine.specs.declared.types.End.{End as RunEnd}
use Rattle.tx_machine.specs.declared.types.End.TheVariants.{End, Error, Budget, PageLimit}
use Rattle.tx_machine.specs.declared.types.OpenFile.{OpenFile}
use Rattle.tx_machine.specs.Machine.{Formatter}
use Rattle.tx_machine.specs.Opens.{bytes_of}
use Rattle.tx_checkpoint.specs.Rows.{History, PageRow, rows_in, rows_from}
use Rattle.tx_quiesce.specs.Meeting.{rest_asks}

-- two open files of one name, whose bytes behind the offsets are equal
pub record ReadsOnAlike (before after : Files) (old new : OpenFile) : Type 0 where
  pub name : new.name ≡ old.name
  pub bytes : drop new.offset (bytes_of after new.name) ≡ drop old.offset (bytes_of before old.name)

-- each file that a run asks for is the same in both
abbrev pub AsksAlike : {S : Type 0} → Files → Files → History S → Type 0
AsksAlike before after h = (name : List ℕ) → rest_asks (rows_in h.pages) h.last name ≡ true → content after name ≡ content before name

-- what a page shows, with its turns and the state after it
pub record Shown (S : Type 0) : Type 0 where
  pub body : PageBody
  pub piece : List ℕ
  pub turns : ℕ
  pub state : S

abbrev pub shown : {S : Type 0} → List (PageRow S) → List (Shown S)
shown pages = map (λ page. record { body = page.body; piece = page.piece; turns = page.row.turns; state = page.row.state }) pages

-- an end but for an error's line
abbrev pub but_for_line : RunEnd → RunEnd
but_for_line End = End
but_for_line (Error code name line) = Error code name 0
but_for_line Budget = Budget
but_for_line PageLimit = PageLimit

-- two rests, of at most so many pages each: the same pages up to the lower limit; and where neither ends at its limit, all
-- pages, and the same end but for an error's line
pub record AreSameRests {S : Type 0} (old new : History S) (most_old most_new : ℕ) : Type 0 where
  pub pages : take (min most_old most_new) (shown new.pages) ≡ take (min most_old most_new) (shown old.pages)
  pub whole : old.last.end ≢ PageLimit → new.last.end ≢ PageLimit → shown new.pages ≡ shown old.pages
  pub last : old.last.end ≢ PageLimit → new.last.end ≢ PageLimit → (new.last.piece ≡ old.last.piece) × (new.last.turns ≡ old.last.turns) × (but_for_line new.last.end ≡ but_for_line old.last.end)

abbrev pub SuffixLaw : {S : Type 0} → Formatter S → Type 0
SuffixLaw {S} m = (before after : Files) (budget most_old most_new : ℕ) (state : S) (old new : List OpenFile) →
    AllZip (ReadsOnAlike before after) old new → AsksAlike before after (rows_from m before budget most_old state old) →
    AreSameRests (rows_from m before budget most_old state old) (rows_from m after budget most_new state new) most_old most_new
