-- The pages of a run that are done so far, joined to those that are left, are the whole run, part by part.
use Rattle.std.proofs.Common.{◌≡◌, ℕ, zero, suc, ◌+◌, ◌*◌, ◌≤◌, List, [], ◌∷◌, ◌++◌, length, Some, refl, sym, ap, ◌∙◌, arith, append_assoc, append-nil, add-mul, one-mul, unwrap_or}
use Rattle.tx_bytes.specs.Files.{Files}
use Rattle.tx_dvi.specs.declared.page.PageBody.{PageBody}
use Rattle.tx_machine.specs.declared.types.Close.{Close}
use Rattle.tx_machine.specs.declared.types.Close.TheVariants.{Page, Halt, Spent}
use Rattle.tx_machine.specs.declared.types.End.{End as RunEnd}
use Rattle.tx_machine.specs.declared.types.End.TheVariants.{PageLimit}
use Rattle.tx_machine.specs.declared.types.OpenFile.{OpenFile}
use Rattle.tx_event.specs.declared.types.Stop.{Stop}
use Rattle.tx_machine.specs.declared.spot.Closed.{Closed}
use Rattle.tx_event.specs.Turns.{Ready}
use Rattle.tx_machine.specs.Machine.{Formatter, IsLawful}
use Rattle.tx_machine.specs.Counts.{Closes}
use Rattle.tx_machine.specs.Steps.{raised}
use Rattle.tx_machine.specs.Turn.{Place, Progress, stretch}
use Rattle.tx_machine.specs.Run.{Counted, run_from, closed_run, ended, end_of, page_start}
use Rattle.tx_machine.proofs.Stretch.{turns-stretch, ready-stretch}
use Rattle.tx_machine.proofs.Going.{raised-raised, raised-le, raised-zero}

module _ {S : Type 0} (m : Formatter S) (files : Files) (budget : ℕ) where
  -- the run goes on behind its first stretch
  pub run-suc : (pages : ℕ) (state : S) (opens : List OpenFile) → run_from m files budget (suc pages) state opens
      ≡ closed_run files (stretch m files (page_start state opens budget)) (unwrap_or (stretch m files (page_start state opens budget)).close Spent)
      (run_from m files budget pages (stretch m files (page_start state opens budget)).place.state (stretch m files (page_start state opens budget)).place.opens)
  unfolding run_from
  run-suc pages state opens = refl

  pub run-zero : (state : S) (opens : List OpenFile) → run_from m files budget zero state opens ≡ ended [] 0 PageLimit
  unfolding run_from
  run-zero state opens = refl

  -- a run takes at most the budget for each page, and once more behind the last
  turns_of_close : IsLawful m → (pages : ℕ) (state : S) (opens : List OpenFile) (rest : Counted) (c : Close) → rest.turns ≤ (length rest.ran.pages + 1) * budget
      → (closed_run files (stretch m files (page_start state opens budget)) c rest).turns ≤ (length (closed_run files (stretch m files (page_start state opens budget)) c rest).ran.pages + 1) * budget
  turns_of_close lawful pages state opens rest (Page body) h =
      let first : (stretch m files (page_start state opens budget)).turns ≤ budget = turns-stretch m files lawful (page_start state opens budget) in
      let sum : (length rest.ran.pages + 1 + 1) * budget ≡ (length rest.ran.pages + 1) * budget + budget = add-mul (length rest.ran.pages + 1) 1 budget ∙ ap (λ n. (length rest.ran.pages + 1) * budget + n) (one-mul budget) in
      omega arith
  turns_of_close lawful pages state opens rest (Halt stop) h =
      let first : (stretch m files (page_start state opens budget)).turns ≤ budget = turns-stretch m files lawful (page_start state opens budget) in rw (one-mul budget) first
  turns_of_close lawful pages state opens rest Spent h =
      let first : (stretch m files (page_start state opens budget)).turns ≤ budget = turns-stretch m files lawful (page_start state opens budget) in rw (one-mul budget) first

  pub turns-run : IsLawful m → (pages : ℕ) (state : S) (opens : List OpenFile) → (run_from m files budget pages state opens).turns ≤ (length (run_from m files budget pages state opens).ran.pages + 1) * budget
  turns-run lawful zero state opens = rw (run-zero state opens) (omega arith)
  turns-run lawful (suc pages) state opens = rw (run-suc pages state opens) (turns_of_close lawful pages state opens _ _ (turns-run lawful pages _ _))

  -- so a count that it raised has risen by no more than that
  pub run-bound : IsLawful m → (pages : ℕ) {state start : S} {opens none : List OpenFile} (before : ℕ) {now : ℕ} → state ≡ start → opens ≡ none → now ≤ raised before (run_from m files budget pages state opens).turns
      → now ≤ before + (length (run_from m files budget pages start none).ran.pages + 1) * budget
  run-bound lawful pages {state = state} {start = start} {opens = opens} {none = none} before {now = now} begins empty count =
      let same : raised before (run_from m files budget pages state opens).turns ≡ raised before (run_from m files budget pages start none).turns = λ i. raised before (run_from m files budget pages (begins i) (empty i)).turns in
      let turns : (run_from m files budget pages start none).turns ≤ (length (run_from m files budget pages start none).ran.pages + 1) * budget = turns-run lawful pages start none in
      let most : raised before (run_from m files budget pages start none).turns ≤ before + (run_from m files budget pages start none).turns = omega arith in
      omega arith

-- the whole run, where so many pages may still come from this state, and these pages and pieces are done
pub record Running {S : Type 0} (m : Formatter S) (files : Files) (budget : ℕ) (whole : Counted) (left : ℕ) (state : S) (opens : List OpenFile) (pages : List PageBody) (pieces : List (List ℕ)) (before now : ℕ) : Type 0 where
  pub ready : m.mode state ≡ Ready
  pub turns : ℕ
  pub counted : now ≡ raised before turns
  pub pages_are : whole.ran.pages ≡ pages ++ (run_from m files budget left state opens).ran.pages
  pub pieces_are : whole.ran.pieces ≡ pieces ++ (run_from m files budget left state opens).ran.pieces
  pub last_is : whole.ran.last ≡ (run_from m files budget left state opens).ran.last
  pub end_is : whole.ran.end ≡ (run_from m files budget left state opens).ran.end
  pub total : whole.turns ≡ turns + (run_from m files budget left state opens).turns

pub running-begins : {S : Type 0} (m : Formatter S) (files : Files) (budget left : ℕ) (state : S) (opens : List OpenFile) (pages : List PageBody) (pieces : List (List ℕ)) (now : ℕ)
    → m.mode state ≡ Ready → pages ≡ [] → pieces ≡ [] → Running m files budget (run_from m files budget left state opens) left state opens pages pieces now now
running-begins m files budget left state opens pages pieces now ready no_pages no_pieces =
    let run : Counted = run_from m files budget left state opens in
    record {
      ready = ready;
      turns = 0;
      counted = sym (raised-zero now);
      pages_are = ap (λ xs. xs ++ run.ran.pages) (sym no_pages);
      pieces_are = ap (λ xs. xs ++ run.ran.pieces) (sym no_pieces);
      last_is = refl;
      end_is = refl;
      total = omega arith;
    }

module _ {S : Type 0} {m : Formatter S} {files : Files} {budget : ℕ} {whole : Counted} {left : ℕ} {state : S} {opens : List OpenFile} {pages : List PageBody} {pieces : List (List ℕ)} {before now : ℕ}
    (lawful : IsLawful m) (more : ℕ) (there : left ≡ suc more) (so_far : Running m files budget whole left state opens pages pieces before now) where
  -- the stretch that comes next, and the run from here on as it unrolls
  abbrev first : Progress S
  first = stretch m files (page_start state opens budget)

  abbrev later : Counted
  later = run_from m files budget more first.place.state first.place.opens

  unrolled : (c : Close) → first.close ≡ Some c → run_from m files budget left state opens ≡ closed_run files first c later
  unrolled c closes = ap (λ n. run_from m files budget n state opens) there ∙ run-suc m files budget more state opens ∙ ap (λ o. closed_run files first (unwrap_or o Spent) later) closes

  -- a page was done
  pub running-page : {closed : Closed} {body : PageBody} {next : Place S} {now' : ℕ} → Closes first closed next → closed.close ≡ Page body → now' ≡ raised now first.turns
      → Running m files budget whole more next.state next.opens (pages ++ body ∷ []) (pieces ++ closed.piece ∷ []) before now'
  running-page {closed = closed} {body = body} {next = next} closes is count =
      let ends : first.close ≡ Some (Page body) = closes.close_is ∙ ap Some is in
      let on : run_from m files budget left state opens ≡ closed_run files first (Page body) later = unrolled (Page body) ends in
      let same : first.place ≡ next = sym closes.place_is in
      let run : Place S → Counted = λ p. run_from m files budget more p.state p.opens in
      record {
        ready = ap (λ (p : Place S). m.mode p.state) closes.place_is ∙ ready-stretch m files lawful (page_start state opens budget) so_far.ready ends;
        turns = so_far.turns + first.turns;
        counted = count ∙ ap (λ n. raised n first.turns) so_far.counted ∙ raised-raised before so_far.turns first.turns;
        pages_are = so_far.pages_are ∙ ap (λ r. pages ++ r.ran.pages) on ∙ ap (λ p. pages ++ body ∷ (run p).ran.pages) same ∙ sym (append_assoc pages (body ∷ []) _);
        pieces_are = so_far.pieces_are ∙ ap (λ r. pieces ++ r.ran.pieces) on ∙ (λ i. pieces ++ sym closes.piece_is i ∷ (run (same i)).ran.pieces) ∙ sym (append_assoc pieces (closed.piece ∷ []) _);
        last_is = so_far.last_is ∙ ap (λ r. r.ran.last) on ∙ ap (λ p. (run p).ran.last) same;
        end_is = so_far.end_is ∙ ap (λ r. r.ran.end) on ∙ ap (λ p. (run p).ran.end) same;
        total = so_far.total ∙ ap (λ r. so_far.turns + r.turns) on ∙ (let e : later.turns ≡ (run next).turns = ap (λ p. (run p).turns) same in omega arith);
      }

  -- the run ended
  pub running-ended : {closed : Closed} (c : Close) {next : Place S} {end : RunEnd} → Closes first closed next → closed.close ≡ c → closed_run files first c later ≡ ended first.said first.turns end
      → record { pages = pages; pieces = pieces; last = closed.piece; end = end } ≡ whole.ran
  running-ended {closed = closed} c {end = end} closes is over =
      let on : run_from m files budget left state opens ≡ ended first.said first.turns end = unrolled c (closes.close_is ∙ ap Some is) ∙ over in
      sym (λ i. record {
        pages = (so_far.pages_are ∙ ap (λ r. pages ++ r.ran.pages) on ∙ append-nil pages) i;
        pieces = (so_far.pieces_are ∙ ap (λ r. pieces ++ r.ran.pieces) on ∙ append-nil pieces) i;
        last = (so_far.last_is ∙ ap (λ r. r.ran.last) on ∙ sym closes.piece_is) i;
        end = (so_far.end_is ∙ ap (λ r. r.ran.end) on) i;
      })

  -- with the end of an error as the place after the stretch has it
  pub running-halted : {closed : Closed} {stop : Stop} {next : Place S} {end : RunEnd} → Closes first closed next → closed.close ≡ Halt stop → end ≡ end_of files next.opens stop
      → record { pages = pages; pieces = pieces; last = closed.piece; end = end } ≡ whole.ran
  running-halted {stop = stop} closes is ends =
      running-ended (Halt stop) closes is (ap (ended first.said first.turns) (sym (ends ∙ ap (λ p. end_of files p.opens stop) closes.place_is)))

  -- how many turns the run has taken, once it ended
  pub ended-counted : {closed : Closed} (c : Close) {next : Place S} {now' : ℕ} → Closes first closed next → closed.close ≡ c → (closed_run files first c later).turns ≡ first.turns → now' ≡ raised now first.turns
      → now' ≡ raised before whole.turns
  ended-counted c closes is same count =
      count ∙ ap (λ n. raised n first.turns) so_far.counted ∙ raised-raised before so_far.turns first.turns
      ∙ ap (raised before) (sym (so_far.total ∙ ap (λ r. so_far.turns + r.turns) (unrolled c (closes.close_is ∙ ap Some is)) ∙ ap (λ n. so_far.turns + n) same))

  turns_of_closed : (c : Close) → first.turns ≤ (closed_run files first c later).turns
  turns_of_closed (Page body) = omega arith
  turns_of_closed (Halt stop) = omega arith
  turns_of_closed Spent = omega arith

  -- whatever comes, the first stretch has no more turns than the run
  turns_of_first : first.turns ≤ (run_from m files budget left state opens).turns
  turns_of_first =
      rw (ap (λ n. run_from m files budget n state opens) there ∙ run-suc m files budget more state opens) (turns_of_closed (unwrap_or first.close Spent))

  pub running-bound : {now' : ℕ} → now' ≤ raised now first.turns → now' ≤ raised before whole.turns
  running-bound count =
      let fewer : first.turns ≤ (run_from m files budget left state opens).turns = turns_of_first in
      let total : whole.turns ≡ so_far.turns + (run_from m files budget left state opens).turns = so_far.total in
      let all : raised now first.turns ≡ raised before (so_far.turns + first.turns) = ap (λ n. raised n first.turns) so_far.counted ∙ raised-raised before so_far.turns first.turns in
      let within : raised before (so_far.turns + first.turns) ≤ raised before whole.turns = raised-le before _ _ (omega arith) in
      omega arith

module _ {S : Type 0} {m : Formatter S} {files : Files} {budget : ℕ} {whole : Counted} {left : ℕ} {state : S} {opens : List OpenFile} {pages : List PageBody} {pieces : List (List ℕ)} {before now : ℕ}
    (none : left ≡ 0) (so_far : Running m files budget whole left state opens pages pieces before now) where
  at_limit : run_from m files budget left state opens ≡ ended [] 0 PageLimit
  at_limit = ap (λ n. run_from m files budget n state opens) none ∙ run-zero m files budget state opens

  pub running-limit : {last : List ℕ} → last ≡ [] → record { pages = pages; pieces = pieces; last = last; end = PageLimit } ≡ whole.ran
  running-limit empty = sym (λ i. record {
    pages = (so_far.pages_are ∙ ap (λ r. pages ++ r.ran.pages) at_limit ∙ append-nil pages) i;
    pieces = (so_far.pieces_are ∙ ap (λ r. pieces ++ r.ran.pieces) at_limit ∙ append-nil pieces) i;
    last = (so_far.last_is ∙ ap (λ r. r.ran.last) at_limit ∙ sym empty) i;
    end = (so_far.end_is ∙ ap (λ r. r.ran.end) at_limit) i;
  })

  pub limit-counted : now ≡ raised before whole.turns
  limit-counted = let none_left : (run_from m files budget left state opens).turns ≡ 0 = ap (λ r. r.turns) at_limit in
      let total : whole.turns ≡ so_far.turns + (run_from m files budget left state opens).turns = so_far.total in
      so_far.counted ∙ ap (raised before) (omega arith)
