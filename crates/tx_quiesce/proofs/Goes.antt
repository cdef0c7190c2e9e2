-- A run that is known for one number of pages, for another.
use Rattle.std.proofs.Common.{◌≡◌, ℕ, zero, suc, ◌-◌, ◌<◌, ◌≤◌, Bool, true, false, cond, List, [], ◌∷◌, length, Option, Some, None, refl, sym, ap, ◌∙◌, arith, nat_le, unwrap_or, true≢false}
use Rattle.std.proofs.lemmas.Bool.{leb-true, leb-false, le-leb, lt-leb}
use Rattle.tx_bytes.specs.Files.{Files}
use Rattle.tx_machine.specs.declared.types.Close.{Close}
use Rattle.tx_machine.specs.declared.types.Close.TheVariants.{Page, Halt, Spent}
use Rattle.tx_machine.specs.declared.types.OpenFile.{OpenFile}
use Rattle.tx_machine.specs.declared.types.End.TheVariants.{Budget}
use Rattle.tx_event.specs.declared.types.Stop.{Stop}
use Rattle.tx_event.specs.declared.types.Stop.TheVariants.{End as StopEnd, Error as StopError}
use Rattle.tx_machine.specs.Machine.{Formatter}
use Rattle.tx_machine.specs.Opens.{innermost}
use Rattle.tx_machine.specs.Run.{page_start, end_of, error_at}
use Rattle.tx_machine.specs.Turn.{Progress, stretch}
use Rattle.tx_checkpoint.specs.Resume.{Begun, after_rows}
use Rattle.tx_checkpoint.specs.declared.row.Last.{Last}
use Rattle.tx_checkpoint.specs.Rows.{History, PageRow, page_row, rows_in, last_of, at_limit, behind, only, closed_rows, rows_from}
use Rattle.tx_quiesce.specs.Limits.{is_page_limit, cut, gone_on, up_to}

le_suc : (a b : ℕ) → nat_le (suc a) (suc b) ≡ nat_le a b
le_suc a b = by (nat_le a b) refl
  where
    by : (c : Bool) → nat_le a b ≡ c → nat_le (suc a) (suc b) ≡ c
    by true is = le-leb (suc a) (suc b) (let below : a ≤ b = leb-true a b is in omega arith)
    by false is = lt-leb (suc a) (suc b) (let above : b < a = leb-false a b is in omega arith)

some_left : (most : ℕ) → nat_le (suc most) 0 ≡ false
some_left most = lt-leb (suc most) 0 (omega arith)

module _ {S : Type 0} (m : Formatter S) (files : Files) (budget : ℕ) where
  -- a stretch never ends a run at the page limit
  no_limit_error : (code : ℕ) (file : Option OpenFile) → is_page_limit (error_at files code file) ≡ false
  no_limit_error code None = refl
  no_limit_error code (Some file) = refl

  no_limit : (opens : List OpenFile) (stop : Stop) → is_page_limit (end_of files opens stop) ≡ false
  no_limit opens StopEnd = refl
  no_limit opens (StopError code) = no_limit_error code (innermost opens)

  -- a page comes before all of it
  page_before : (most : ℕ) (begun : Begun S) (page : PageRow S) (h : History S)
      → behind (page ∷ []) (up_to m files budget most (record { state = page.row.state; opens = page.row.opens }) h) ≡ up_to m files budget (suc most) begun (behind (page ∷ []) h)
  page_before most begun page h =
      by (nat_le most (length h.pages)) (is_page_limit h.last.end)
      ∙ ap (λ b. cond b (cut (suc most) begun (behind (page ∷ []) h)) (cond (is_page_limit h.last.end) (gone_on m files budget (suc most) begun (behind (page ∷ []) h)) (behind (page ∷ []) h)))
      (sym (le_suc most (length h.pages)))
    where
      at : Begun S
      at = record { state = page.row.state; opens = page.row.opens }

      fewer : suc most - suc (length h.pages) ≡ most - length h.pages
      fewer = omega arith

      last : Begun S
      last = after_rows at (rows_in h.pages)

      by : (b c : Bool) → behind (page ∷ []) (cond b (cut most at h) (cond c (gone_on m files budget most at h) h))
          ≡ cond b (cut (suc most) begun (behind (page ∷ []) h)) (cond c (gone_on m files budget (suc most) begun (behind (page ∷ []) h)) (behind (page ∷ []) h))
      by true c = refl
      by false true = ap (λ n. behind (page ∷ h.pages) (rows_from m files budget n last.state last.opens)) (sym fewer)
      by false false = refl

  over_up : (most : ℕ) (begun : Begun S) (last : Last) → is_page_limit last.end ≡ false → only last ≡ up_to m files budget (suc most) begun (only last)
  over_up most begun last over =
      sym ((λ i. cond (some_left most i) (cut (suc most) begun (only last)) (cond (over i) (gone_on m files budget (suc most) begun (only last)) (only last))))

  closed_up : (most : ℕ) (begun : Begun S) (t : Progress S) (close : Close) (later known : History S)
      → later ≡ up_to m files budget most (record { state = t.place.state; opens = t.place.opens }) known
      → closed_rows files t close later ≡ up_to m files budget (suc most) begun (closed_rows files t close known)
  closed_up most begun t (Page body) later known is = ap (behind (page_row t body ∷ [])) is ∙ page_before most begun (page_row t body) known
  closed_up most begun t (Halt stop) later known is = over_up most begun (last_of t (end_of files t.place.opens stop)) (no_limit t.place.opens stop)
  closed_up most begun t Spent later known is = over_up most begun (last_of t Budget) refl

  none_left : (begun : Begun S) (h : History S) → cut 0 begun h ≡ up_to m files budget 0 begun h
  none_left begun h = ap (λ b. cond b (cut 0 begun h) (cond (is_page_limit h.last.end) (gone_on m files budget 0 begun h) h)) (sym (le-leb 0 (length h.pages) (omega arith)))

  pub goes-on-to : (most known : ℕ) (state : S) (opens : List OpenFile)
      → rows_from m files budget most state opens ≡ up_to m files budget most (record { state = state; opens = opens }) (rows_from m files budget known state opens)
  unfolding rows_from
  goes-on-to zero known state opens = none_left (record { state = state; opens = opens }) (rows_from m files budget known state opens)
  goes-on-to (suc most) zero state opens =
      let all : suc most ≡ suc most - 0 = omega arith in
      ap (λ n. rows_from m files budget n state opens) all
      ∙ sym (ap (λ b. cond b (cut (suc most) (record { state = state; opens = opens }) (only (at_limit opens))) (gone_on m files budget (suc most) (record { state = state; opens = opens }) (only (at_limit opens)))) (some_left most))
  goes-on-to (suc most) (suc known) state opens =
      let t : Progress S = stretch m files (page_start state opens budget) in
      closed_up most (record { state = state; opens = opens }) t (unwrap_or t.close Spent) (rows_from m files budget most t.place.state t.place.opens) (rows_from m files budget known t.place.state t.place.opens)
      (goes-on-to most known t.place.state t.place.opens)

  -- a run has no more pages than it may, and at the page limit as many
  few : (most : ℕ) (t : Progress S) (close : Close) (later : History S) → length later.pages ≤ most → length (closed_rows files t close later).pages ≤ suc most
  few most t (Page body) later within = omega arith
  few most t (Halt stop) later within = omega arith
  few most t Spent later within = omega arith

  pub few-rows : (most : ℕ) (state : S) (opens : List OpenFile) → length (rows_from m files budget most state opens).pages ≤ most
  unfolding rows_from
  few-rows zero state opens = omega arith
  few-rows (suc most) state opens =
      let t : Progress S = stretch m files (page_start state opens budget) in
      few most t (unwrap_or t.close Spent) (rows_from m files budget most t.place.state t.place.opens) (few-rows most t.place.state t.place.opens)

  full : (most : ℕ) (t : Progress S) (close : Close) (later : History S) → (is_page_limit later.last.end ≡ true → length later.pages ≡ most) → is_page_limit (closed_rows files t close later).last.end ≡ true
      → length (closed_rows files t close later).pages ≡ suc most
  full most t (Page body) later all limit = ap suc (all limit)
  full most t (Halt stop) later all limit = absurd (true≢false (sym limit ∙ no_limit t.place.opens stop))
  full most t Spent later all limit = absurd (true≢false (sym limit))

  pub full-rows : (most : ℕ) (state : S) (opens : List OpenFile) → is_page_limit (rows_from m files budget most state opens).last.end ≡ true → length (rows_from m files budget most state opens).pages ≡ most
  unfolding rows_from
  full-rows zero state opens limit = refl
  full-rows (suc most) state opens limit =
      let t : Progress S = stretch m files (page_start state opens budget) in
      full most t (unwrap_or t.close Spent) (rows_from m files budget most t.place.state t.place.opens) (full-rows most t.place.state t.place.opens) limit
