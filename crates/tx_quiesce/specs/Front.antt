-- What is formatted after changes up to the first meeting, or to the run's end where none comes.
use Rattle.std.specs.Prelude.{◌≡◌, ℕ, List, [], map, take, Option, Some, None}
use Rattle.tx_checkpoint.specs.Meant.{rows_meant}
use Rattle.tx_checkpoint.specs.Rows.{History, PageRow, rows_in, turns_of, all_turns}
use Rattle.tx_quiesce.specs.declared.front.Front.{Front}
use Rattle.tx_quiesce.specs.declared.front.Stopped.TheVariants.{Over, Met}
use Rattle.tx_quiesce.specs.Meeting.{Meeting}

-- no page yet
pub record IsEmpty {S : Type 0} (front : Front S) : Type 0 where
  pub no_pages : front.pages.items ≡ []
  pub no_pieces : front.pieces.items ≡ []
  pub no_rows : front.rows.items ≡ []

-- bodies, pieces and rows are those of some pages
pub record AreFront {S M : Type 0} (meaning : S → M) (front : Front S) (pages : List (PageRow M)) : Type 0 where
  pub bodies_are : front.pages.items ≡ map (λ page. page.body) pages
  pub pieces_are : front.pieces.items ≡ map (λ page. page.piece) pages
  pub rows_are : rows_meant meaning front.rows.items ≡ rows_in pages

-- the pages up to the first meeting, or all of them
abbrev pub Reaches : {S M : Type 0} → (S → M) → History M → Option Meeting → Front S → Type 0
Reaches meaning whole None front = AreFront meaning front whole.pages × (front.stopped ≡ Over whole.last)
Reaches meaning whole (Some meeting) front = AreFront meaning front (take meeting.formatted whole.pages) × (front.stopped ≡ Met meeting.old)

-- their turns
abbrev pub turns_to : {S : Type 0} → History S → Option Meeting → ℕ
turns_to whole None = all_turns whole
turns_to whole (Some meeting) = turns_of (take meeting.formatted whole.pages)
