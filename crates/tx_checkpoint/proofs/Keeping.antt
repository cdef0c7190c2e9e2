-- The pages that were formatted so far, and the run from the place after them, are the whole run.
use Rattle.std.proofs.Common.{◌≡◌, ℕ, zero, suc, ◌+◌, ◌≤◌, List, [], ◌∷◌, ◌++◌, map, Some, refl, sym, ap, subst, ◌∙◌, arith, append_assoc, append-nil, unwrap_or}
use Rattle.std.proofs.lemmas.List.{map-append}
use Rattle.std.proofs.lemmas.List.Elements.{All-push}
use Rattle.tx_bytes.specs.Files.{Files}
use Rattle.tx_dvi.specs.declared.page.PageBody.{PageBody}
use Rattle.tx_machine.specs.declared.types.Close.{Close}
use Rattle.tx_machine.specs.declared.types.Close.TheVariants.{Page, Halt, Spent}
use Rattle.tx_machine.specs.declared.types.OpenFile.{OpenFile}
use Rattle.tx_event.specs.Turns.{Ready}
use Rattle.tx_machine.specs.Machine.{Formatter, IsLawful}
use Rattle.tx_machine.specs.Run.{page_start}
use Rattle.tx_machine.specs.Steps.{raised}
use Rattle.tx_machine.specs.Turn.{Place, Progress, stretch}
use Rattle.tx_machine.proofs.Going.{raised-raised, raised-le, raised-zero}
use Rattle.tx_machine.proofs.Stretch.{ready-stretch}
use Rattle.tx_checkpoint.specs.declared.row.Last.{Last}
use Rattle.tx_checkpoint.specs.declared.row.Row.{Row}
use Rattle.tx_checkpoint.specs.declared.row.Formatted.{Formatted}
use Rattle.tx_checkpoint.specs.declared.row.Formatted.TheVariants.{Page as PageOf, Over}
use Rattle.tx_checkpoint.specs.Meant.{IsFormatted, FormattedIsIdle, IsIdle, AreIdle, row_meant}
use Rattle.tx_checkpoint.specs.Rows.{History, PageRow, page_row, rows_in, at_limit, behind, only, closed_rows, rows_from, turns_of, all_turns}

-- where a page was closed the machine is ready for the next one
pub ready-page : {S : Type 0} (m : Formatter S) (files : Files) → IsLawful m → (p : Place S) → m.mode p.state ≡ Ready → {close : Close} {body : PageBody} {next : Place S}
    → (stretch m files p).close ≡ Some close → close ≡ Page body → next ≡ (stretch m files p).place → m.mode next.state ≡ Ready
ready-page {S = S} m files lawful p ready closes is there = ap (λ (q : Place S). m.mode q.state) there ∙ ready-stretch m files lawful p ready (closes ∙ ap Some is)

-- a state that is shared is as idle as the one that it was shared from
pub shared-idle : {S M : Type 0} (m : Formatter M) (meaning : S → M) (pending : S → List ℕ) (state shared : S) → meaning shared ≡ meaning state → pending shared ≡ pending state → IsIdle m meaning pending state
    → IsIdle m meaning pending shared
shared-idle m meaning pending state shared means waits idle = record { ready = ap m.mode means ∙ idle.ready; taken = waits ∙ idle.taken }

pub idle-push : {S M : Type 0} (m : Formatter M) (meaning : S → M) (pending : S → List ℕ) (rows : List (Row S)) (row : Row S) → AreIdle m meaning pending rows → IsIdle m meaning pending row.state
    → AreIdle m meaning pending (rows ++ row ∷ [])
idle-push m meaning pending rows row idle more = All-push (λ kept. IsIdle m meaning pending kept.state) rows row idle more

-- the turns of some pages and one more
turns-push : {S : Type 0} (pages : List (PageRow S)) (page : PageRow S) → turns_of (pages ++ page ∷ []) ≡ turns_of pages + page.row.turns
turns-push [] page = omega arith
turns-push (first ∷ pages) page = let rest : turns_of (pages ++ page ∷ []) ≡ turns_of pages + page.row.turns = turns-push pages page in omega arith

pub turns-behind : {S : Type 0} (pages : List (PageRow S)) (later : History S) → all_turns (behind pages later) ≡ turns_of pages + all_turns later
turns-behind [] later = omega arith
turns-behind (first ∷ pages) later = let rest : all_turns (behind pages later) ≡ turns_of pages + all_turns later = turns-behind pages later in omega arith

module _ {S : Type 0} (m : Formatter S) (files : Files) (budget : ℕ) where
  pub rows-suc : (pages : ℕ) (state : S) (opens : List OpenFile) → rows_from m files budget (suc pages) state opens
      ≡ closed_rows files (stretch m files (page_start state opens budget)) (unwrap_or (stretch m files (page_start state opens budget)).close Spent)
      (rows_from m files budget pages (stretch m files (page_start state opens budget)).place.state (stretch m files (page_start state opens budget)).place.opens)
  unfolding rows_from
  rows-suc pages state opens = refl

  pub rows-zero : (state : S) (opens : List OpenFile) → rows_from m files budget zero state opens ≡ only (at_limit opens)
  unfolding rows_from
  rows-zero state opens = refl

-- so many pages may still come from this state, and these bodies, pieces and rows are done
pub record Keeping {S : Type 0} (m : Formatter S) (files : Files) (budget : ℕ) (whole : History S) (left : ℕ) (state : S) (opens : List OpenFile)
    (bodies : List PageBody) (pieces : List (List ℕ)) (rows : List (Row S)) (before now : ℕ) : Type 0 where
  pub done : List (PageRow S)
  pub bodies_are : bodies ≡ map (λ page. page.body) done
  pub pieces_are : pieces ≡ map (λ page. page.piece) done
  pub rows_are : rows ≡ rows_in done
  pub whole_is : whole ≡ behind done (rows_from m files budget left state opens)
  pub counted : now ≡ raised before (turns_of done)

pub keeping-begins : {S : Type 0} (m : Formatter S) (files : Files) (budget most left : ℕ) (state : S) (opens : List OpenFile) (bodies : List PageBody) (pieces : List (List ℕ)) (rows : List (Row S)) (now : ℕ)
    → most ≡ left → bodies ≡ [] → pieces ≡ [] → rows ≡ [] → Keeping m files budget (rows_from m files budget most state opens) left state opens bodies pieces rows now now
keeping-begins m files budget most left state opens bodies pieces rows now all no_bodies no_pieces no_rows =
    record { done = []; bodies_are = no_bodies; pieces_are = no_pieces; rows_are = no_rows; whole_is = ap (λ n. rows_from m files budget n state opens) all; counted = sym (raised-zero now) }

-- what was formatted, where it is a page and where it is the end
module _ {S M : Type 0} (m : Formatter M) (meaning : S → M) (pending : S → List ℕ) (files : Files) (t : Progress M) (formatted : Formatted S) where
  pub page-formatted : {body : PageBody} {piece : List ℕ} {row : Row S} → formatted ≡ PageOf body piece row → IsFormatted meaning files t formatted
      → (t.close ≡ Some (Page body)) × (record { body = body; piece = piece; row = row_meant meaning row } ≡ page_row t body)
  page-formatted is h = subst (IsFormatted meaning files t) is h

  pub page-idle : {body : PageBody} {piece : List ℕ} {row : Row S} {state : S} → formatted ≡ PageOf body piece row → FormattedIsIdle m meaning pending formatted state
      → IsIdle m meaning pending row.state × IsIdle m meaning pending state
  page-idle {state = state} is h = subst (λ (f : Formatted S). FormattedIsIdle m meaning pending f state) is h

  pub end-formatted : {last : Last} → formatted ≡ Over last → IsFormatted meaning files t formatted → (later : History M) → closed_rows files t (unwrap_or t.close Spent) later ≡ only last
  end-formatted is h = subst (IsFormatted meaning files t) is h

-- these bodies, pieces and rows, and the stretch after them, are those of the whole run
pub record Told {S : Type 0} (whole : History S) (bodies : List PageBody) (pieces : List (List ℕ)) (rows : List (Row S)) (last : Last) : Type 0 where
  pub bodies_are : bodies ≡ map (λ page. page.body) whole.pages
  pub pieces_are : pieces ≡ map (λ page. page.piece) whole.pages
  pub rows_are : rows ≡ rows_in whole.pages
  pub last_is : last ≡ whole.last

told_of : {S : Type 0} {m : Formatter S} {files : Files} {budget : ℕ} {whole : History S} {left : ℕ} {state : S} {opens : List OpenFile} {bodies : List PageBody} {pieces : List (List ℕ)} {rows : List (Row S)} {before now : ℕ}
    → (so_far : Keeping m files budget whole left state opens bodies pieces rows before now) → {last : Last} → whole ≡ behind so_far.done (only last) → Told whole bodies pieces rows last
told_of so_far is =
    let pages = ap (λ h. h.pages) is ∙ append-nil so_far.done in
    record {
      bodies_are = so_far.bodies_are ∙ sym (ap (map (λ page. page.body)) pages);
      pieces_are = so_far.pieces_are ∙ sym (ap (map (λ page. page.piece)) pages);
      rows_are = so_far.rows_are ∙ sym (ap rows_in pages);
      last_is = sym (ap (λ h. h.last) is);
    }

module _ {S : Type 0} {m : Formatter S} {files : Files} {budget : ℕ} {whole : History S} {left : ℕ} {state : S} {opens : List OpenFile} {bodies : List PageBody} {pieces : List (List ℕ)} {rows : List (Row S)} {before now : ℕ}
    (more : ℕ) (there : left ≡ suc more) (so_far : Keeping m files budget whole left state opens bodies pieces rows before now) where
  abbrev first : Progress S
  first = stretch m files (page_start state opens budget)

  abbrev later : History S
  later = rows_from m files budget more first.place.state first.place.opens

  unrolled : rows_from m files budget left state opens ≡ closed_rows files first (unwrap_or first.close Spent) later
  unrolled = ap (λ n. rows_from m files budget n state opens) there ∙ rows-suc m files budget more state opens

  -- a page was done
  pub keeping-page : {body : PageBody} {piece : List ℕ} {row : Row S} {next : Place S} {bodies' : List PageBody} {pieces' : List (List ℕ)} {rows' : List (Row S)} {now' : ℕ}
      → first.close ≡ Some (Page body) → record { body = body; piece = piece; row = row } ≡ page_row first body → next ≡ first.place → now' ≡ raised now first.turns
      → bodies' ≡ bodies ++ body ∷ [] → pieces' ≡ pieces ++ piece ∷ [] → rows' ≡ rows ++ row ∷ []
      → Keeping m files budget whole more next.state next.opens bodies' pieces' rows' before now'
  keeping-page {body = body} {piece = piece} {row = row} {next = next} closes is place count more_bodies more_pieces more_rows =
      let page : PageRow S = page_row first body in
      let done : List (PageRow S) = so_far.done ++ page ∷ [] in
      let on : rows_from m files budget left state opens ≡ behind (page ∷ []) later = unrolled ∙ ap (λ close. closed_rows files first (unwrap_or close Spent) later) closes in
      let after : History S = rows_from m files budget more next.state next.opens in
      let same : later ≡ after = ap (λ (p : Place S). rows_from m files budget more p.state p.opens) (sym place) in
      record {
        done = done;
        bodies_are = more_bodies ∙ (λ i. so_far.bodies_are i ++ (is i).body ∷ []) ∙ sym (map-append (λ (kept : PageRow S). kept.body) so_far.done (page ∷ []));
        pieces_are = more_pieces ∙ (λ i. so_far.pieces_are i ++ (is i).piece ∷ []) ∙ sym (map-append (λ (kept : PageRow S). kept.piece) so_far.done (page ∷ []));
        rows_are = more_rows ∙ (λ i. so_far.rows_are i ++ (is i).row ∷ []) ∙ sym (map-append (λ (kept : PageRow S). kept.row) so_far.done (page ∷ []));
        whole_is = so_far.whole_is ∙ ap (behind so_far.done) (on ∙ ap (behind (page ∷ [])) same)
            ∙ (λ i. record { pages = sym (append_assoc so_far.done (page ∷ []) after.pages) i; last = after.last });
        counted = count ∙ ap (λ n. raised n first.turns) so_far.counted ∙ raised-raised before (turns_of so_far.done) first.turns ∙ ap (raised before) (sym (turns-push so_far.done page));
      }

  -- the run ended after a stretch, or goes on behind it
  over_turns : (close : Close) (rest : History S) {last : Last} → closed_rows files first close rest ≡ only last → first.turns ≡ last.turns
  over_turns (Page body) rest {last = last} over = absurd (let none : page_row first body ∷ rest.pages ≡ [] = ap (λ h. h.pages) over in cc)
  over_turns (Halt stop) rest over = ap (λ h. h.last.turns) over
  over_turns Spent rest over = ap (λ h. h.last.turns) over

  first_turns : (close : Close) (rest : History S) → first.turns ≤ all_turns (closed_rows files first close rest)
  first_turns (Page body) rest = omega arith
  first_turns (Halt stop) rest = omega arith
  first_turns Spent rest = omega arith

  pub keeping-told : {last : Last} → ((rest : History S) → closed_rows files first (unwrap_or first.close Spent) rest ≡ only last) → Told whole bodies pieces rows last
  keeping-told over = told_of so_far (so_far.whole_is ∙ ap (behind so_far.done) (unrolled ∙ over later))

  pub keeping-counted : {last : Last} {now' : ℕ} → ((rest : History S) → closed_rows files first (unwrap_or first.close Spent) rest ≡ only last) → now' ≡ raised now first.turns → now' ≡ raised before (all_turns whole)
  keeping-counted {last = last} over count =
      let whole_turns : all_turns whole ≡ turns_of so_far.done + (0 + last.turns) = ap all_turns (so_far.whole_is ∙ ap (behind so_far.done) (unrolled ∙ over later)) ∙ turns-behind so_far.done (only last) in
      let last_turns : first.turns ≡ last.turns = over_turns (unwrap_or first.close Spent) later (over later) in
      let all : turns_of so_far.done + first.turns ≡ all_turns whole = omega arith in
      count ∙ ap (λ n. raised n first.turns) so_far.counted ∙ raised-raised before (turns_of so_far.done) first.turns ∙ ap (raised before) all

  pub keeping-bound : {now' : ℕ} → now' ≤ raised now first.turns → now' ≤ raised before (all_turns whole)
  keeping-bound count =
      let whole_turns : all_turns whole ≡ turns_of so_far.done + all_turns (closed_rows files first (unwrap_or first.close Spent) later) = ap all_turns (so_far.whole_is ∙ ap (behind so_far.done) unrolled) ∙ turns-behind so_far.done (closed_rows files first (unwrap_or first.close Spent) later) in
      let fewer : first.turns ≤ all_turns (closed_rows files first (unwrap_or first.close Spent) later) = first_turns (unwrap_or first.close Spent) later in
      let now_is : raised now first.turns ≡ raised before (turns_of so_far.done + first.turns) = ap (λ n. raised n first.turns) so_far.counted ∙ raised-raised before (turns_of so_far.done) first.turns in
      let within : raised before (turns_of so_far.done + first.turns) ≤ raised before (all_turns whole) = raised-le before _ _ (omega arith) in
      omega arith

-- at the page limit
module _ {S : Type 0} {m : Formatter S} {files : Files} {budget : ℕ} {whole : History S} {left : ℕ} {state : S} {opens : List OpenFile} {bodies : List PageBody} {pieces : List (List ℕ)} {rows : List (Row S)} {before now : ℕ}
    (none : left ≡ 0) (so_far : Keeping m files budget whole left state opens bodies pieces rows before now) where
  limit_whole : whole ≡ behind so_far.done (only (at_limit opens))
  limit_whole = so_far.whole_is ∙ ap (behind so_far.done) (ap (λ n. rows_from m files budget n state opens) none ∙ rows-zero m files budget state opens)

  pub limit-told : Told whole bodies pieces rows (at_limit opens)
  limit-told = told_of so_far limit_whole

  pub limit-counted : now ≡ raised before (all_turns whole)
  limit-counted =
      let whole_turns : all_turns whole ≡ turns_of so_far.done + (0 + 0) = ap all_turns limit_whole ∙ turns-behind so_far.done (only (at_limit opens)) in
      let all : turns_of so_far.done ≡ all_turns whole = omega arith in
      so_far.counted ∙ ap (raised before) all
