-- The pages before the first meeting, and what is formatted up to it.
use Rattle.std.proofs.Common.{◌≡◌, ℕ, zero, suc, ◌+◌, List, [], ◌∷◌, ◌++◌, length, take, Option, Some, None, refl, sym, ap, ◌∙◌, arith}
use Rattle.tx_files.specs.declared.edit.Change.{Change}
use Rattle.tx_machine.specs.Machine.{Formatter}
use Rattle.tx_checkpoint.specs.declared.row.Row.{Row}
use Rattle.tx_checkpoint.specs.declared.row.Last.{Last}
use Rattle.tx_checkpoint.specs.Rows.{History, PageRow, rows_in, behind, turns_of}
use Rattle.tx_quiesce.specs.Front.{turns_to}
use Rattle.tx_quiesce.specs.Meeting.{Meeting, met_row, one_later, meeting_at, first_meeting}

some_is : {X : Type 0} (x : X) → None ≡ Some x → ⊥
some_is x is = let none : None ≡ Some x = is in cc

module _ {S : Type 0} (m : Formatter S) (changes : List Change) (olds : List (Row S)) (last : Last) (resumed : ℕ) where
  abbrev pub first : List (PageRow S) → Option Meeting
  first pages = first_meeting m changes olds last resumed (rows_in pages)

  abbrev pub here : PageRow S → Option ℕ
  here page = met_row m changes olds last resumed page.row

  -- no meeting so far: none at the first page, and none at the others
  one_none : (o : Option Meeting) → one_later o ≡ None → o ≡ None
  one_none None is = refl
  one_none (Some meeting) is = absurd (some_is _ (sym is))

  at_none : (o : Option ℕ) (later : Option Meeting) → meeting_at o later ≡ None → (o ≡ None) × (later ≡ None)
  at_none None later is = (refl, one_none later is)
  at_none (Some old) later is = absurd (some_is _ (sym is))

  -- the turns up to a meeting that comes a page later
  later_turns : (page : PageRow S) (rest : History S) (o : Option Meeting) → turns_to (behind (page ∷ []) rest) (one_later o) ≡ page.row.turns + turns_to rest o
  later_turns page rest None = omega arith
  later_turns page rest (Some meeting) = let next : meeting.formatted + 1 ≡ suc meeting.formatted = omega arith in ap (λ n. turns_of (take n (page ∷ rest.pages))) next

  -- some pages without a meeting, and what comes behind them
  later_by : ℕ → Option Meeting → Option Meeting
  later_by zero o = o
  later_by (suc n) o = one_later (later_by n o)

  first_behind : (done : List (PageRow S)) (rest : History S) → first done ≡ None → first (done ++ rest.pages) ≡ later_by (length done) (first rest.pages)
  unfolding later_by
  first_behind [] rest none = refl
  first_behind (page ∷ done) rest none =
      let parts = at_none (here page) (first done) none in
      (λ i. meeting_at (parts.0 i) (first_behind done rest parts.1 i))

  turns_behind : (done : List (PageRow S)) (rest : History S) (o : Option Meeting) → turns_to (behind done rest) (later_by (length done) o) ≡ turns_of done + turns_to rest o
  unfolding later_by
  turns_behind [] rest o = omega arith
  turns_behind (page ∷ done) rest o =
      let on : turns_to (behind done rest) (later_by (length done) o) ≡ turns_of done + turns_to rest o = turns_behind done rest o in
      let here_too : turns_to (behind (page ∷ done) rest) (one_later (later_by (length done) o)) ≡ page.row.turns + turns_to (behind done rest) (later_by (length done) o) = later_turns page (behind done rest) (later_by (length done) o) in
      omega arith

  pub front-turns : {whole : History S} (done : List (PageRow S)) (rest : History S) → whole ≡ behind done rest → first done ≡ None → turns_to whole (first whole.pages) ≡ turns_of done + turns_to rest (first rest.pages)
  front-turns {whole = whole} done rest is none =
      ap (λ h. turns_to h (first h.pages)) is ∙ ap (turns_to (behind done rest)) (first_behind done rest none) ∙ turns_behind done rest (first rest.pages)

  -- a page that meets an old row
  met_by : (n old : ℕ) → later_by n (Some (record { formatted = 1; old = old })) ≡ Some (record { formatted = n + 1; old = old })
  unfolding later_by
  met_by zero old = refl
  met_by (suc n) old = ap one_later (met_by n old) ∙ (let next : n + 1 + 1 ≡ suc n + 1 = omega arith in ap (λ k. Some (record { formatted = k; old = old })) next)

  taken_with : (done later : List (PageRow S)) (page : PageRow S) → take (length done + 1) (done ++ page ∷ later) ≡ done ++ page ∷ []
  taken_with [] later page = refl
  taken_with (first_page ∷ done) later page =
      let next : suc (length done) + 1 ≡ suc (length done + 1) = omega arith in
      ap (λ n. take n (first_page ∷ done ++ page ∷ later)) next ∙ ap (λ pages. first_page ∷ pages) (taken_with done later page)

  pub record MeetsAt (whole : History S) (done : List (PageRow S)) (page : PageRow S) (old : ℕ) : Type 0 where
    pub meeting : first whole.pages ≡ Some (record { formatted = length done + 1; old = old })
    pub pages : take (length done + 1) whole.pages ≡ done ++ page ∷ []

  pub meets-at : {whole : History S} (done : List (PageRow S)) (page : PageRow S) (later : History S) {old : ℕ} → whole ≡ behind done (behind (page ∷ []) later) → first done ≡ None → here page ≡ Some old → MeetsAt whole done page old
  meets-at {whole = whole} done page later {old = old} is none meets = record {
    meeting = ap (λ h. first h.pages) is ∙ first_behind done (behind (page ∷ []) later) none ∙ ap (later_by (length done)) (ap (λ o. meeting_at o (first later.pages)) meets) ∙ met_by (length done) old;
    pages = ap (λ h. take (length done + 1) h.pages) is ∙ taken_with done later.pages page;
  }

  -- a page that meets none
  pub none-more : (done : List (PageRow S)) (page : PageRow S) → first done ≡ None → here page ≡ None → first (done ++ page ∷ []) ≡ None
  none-more [] page none misses = ap (λ o. meeting_at o None) misses
  none-more (first_page ∷ done) page none misses = let parts = at_none (here first_page) (first done) none in λ i. meeting_at (parts.0 i) (none-more done page parts.1 misses i)
