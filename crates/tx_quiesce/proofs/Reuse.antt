-- From a meeting on, the new run is the old rest, moved, up to the page limit.
use Rattle.std.proofs.Common.{◌≡◌, ℕ, ◌-◌, ◌<◌, ◌≤◌, Bool, true, false, cond, List, length, take, min, refl, sym, ap, ◌∙◌, arith, nat_le, append-nil}
use Rattle.std.proofs.lemmas.Bool.{leb-true, leb-false}
use Rattle.std.proofs.lemmas.List.{take_all}
use Rattle.tx_bytes.specs.Files.{Files}
use Rattle.tx_files.specs.Changes.{all_fit, all_changed}
use Rattle.tx_files.specs.declared.edit.Change.{Change}
use Rattle.tx_machine.specs.Machine.{Formatter}
use Rattle.tx_checkpoint.specs.Resume.{Begun, after_rows}
use Rattle.tx_checkpoint.specs.Rows.{History, rows_in, behind, only, rows_from, at_limit}
use Rattle.tx_quiesce.specs.Limits.{is_page_limit, cut, gone_on, up_to}
use Rattle.tx_quiesce.specs.Meeting.{opens_fit, rest_asks_any}
use Rattle.tx_quiesce.specs.Moves.{carried_opens}
use Rattle.tx_quiesce.specs.Reuse.{moved, moved_begun, reused, further}
use Rattle.tx_quiesce.proofs.Behind.{OpensFit, opens-so}
use Rattle.tx_quiesce.proofs.Goes.{goes-on-to}
use Rattle.tx_quiesce.proofs.AllMoved.{moved-all}

-- a run up to some pages, by its first pages and what comes behind them
further_is : {S : Type 0} (m : Formatter S) (files : Files) (budget most : ℕ) (begun : Begun S) (h : History S) → up_to m files budget most begun h ≡ behind (take (reused most h) h.pages) (further m files budget most begun h)
further_is {S = S} m files budget most begun h = by (nat_le most (length h.pages)) (is_page_limit h.last.end) refl
  where
    all : most ≤ length h.pages → take (min most (length h.pages)) h.pages ≡ take most h.pages
    all within = let same : min most (length h.pages) ≡ most = omega arith in ap (λ n. take n h.pages) same

    whole : length h.pages < most → take (min most (length h.pages)) h.pages ≡ h.pages
    whole above = let same : min most (length h.pages) ≡ length h.pages = omega arith in ap (λ n. take n h.pages) same ∙ take_all (length h.pages) h.pages (omega arith)

    by : (b c : Bool) → nat_le most (length h.pages) ≡ b
        → cond b (cut most begun h) (cond c (gone_on m files budget most begun h) h)
        ≡ behind (take (min most (length h.pages)) h.pages) (cond b (only (at_limit (after_rows begun (rows_in (take most h.pages))).opens))
        (cond c (rows_from m files budget (most - length h.pages) (after_rows begun (rows_in h.pages)).state (after_rows begun (rows_in h.pages)).opens) (only h.last)))
    by true c is =
        let limit = at_limit (after_rows begun (rows_in (take most h.pages))).opens in
        λ i. record { pages = (sym (append-nil (take (min most (length h.pages)) h.pages) ∙ all (leb-true _ _ is))) i; last = limit }
    by false true is =
        let rest : History S = rows_from m files budget (most - length h.pages) (after_rows begun (rows_in h.pages)).state (after_rows begun (rows_in h.pages)).opens in
        λ i. behind (sym (whole (leb-false _ _ is)) i) rest
    by false false is = λ i. record { pages = (sym (append-nil (take (min most (length h.pages)) h.pages) ∙ whole (leb-false _ _ is))) i; last = h.last }

-- the rest behind a row
module _ {S : Type 0} (m : Formatter S) (budget : ℕ) (files : Files) (changes : List Change) (fits : all_fit files changes ≡ true) where
  pub from-meeting : (old_most new_most : ℕ) (old new : Begun S) → opens_fit changes old.opens new.opens ≡ true → new.state ≡ old.state
      → rest_asks_any (rows_in (rows_from m files budget old_most old.state old.opens).pages) (rows_from m files budget old_most old.state old.opens).last changes ≡ false
      → rows_from m (all_changed files changes) budget new_most new.state new.opens
      ≡ behind (take (reused new_most (moved (all_changed files changes) changes (rows_from m files budget old_most old.state old.opens))) (moved (all_changed files changes) changes (rows_from m files budget old_most old.state old.opens)).pages)
      (further m (all_changed files changes) budget new_most (moved_begun changes old) (moved (all_changed files changes) changes (rows_from m files budget old_most old.state old.opens)))
  from-meeting old_most new_most old new opens state asks =
      let after : Files = all_changed files changes in
      let fit : OpensFit changes old.opens new.opens = opens-so changes old.opens new.opens opens in
      (λ i. rows_from m after budget new_most (state i) (fit.is i))
      ∙ goes-on-to m after budget new_most old_most old.state (carried_opens changes old.opens)
      ∙ ap (up_to m after budget new_most (moved_begun changes old)) (moved-all m budget changes files fits old_most old.state old.opens fit.behind asks)
      ∙ further_is m after budget new_most (moved_begun changes old) (moved after changes (rows_from m files budget old_most old.state old.opens))
