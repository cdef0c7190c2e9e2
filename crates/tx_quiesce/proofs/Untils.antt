-- The loop that formats until a new row meets an old one.
use Rattle.std.proofs.Common.{◌≡◌, ℕ, suc, ◌+◌, ◌≤◌, List, [], ◌∷◌, ◌++◌, length, map, take, Option, Some, None, sym, ap, subst, ◌∙◌, arith, append-nil, unwrap_or}
use Rattle.std.proofs.lemmas.List.{map-append}
use Rattle.tx_bytes.specs.Files.{Files}
use Rattle.tx_dvi.specs.declared.page.PageBody.{PageBody}
use Rattle.tx_files.specs.declared.edit.Change.{Change}
use Rattle.tx_machine.specs.declared.types.Close.{Close}
use Rattle.tx_machine.specs.declared.types.Close.TheVariants.{Page, Halt, Spent}
use Rattle.tx_machine.specs.declared.types.OpenFile.{OpenFile}
use Rattle.tx_machine.specs.Machine.{Formatter}
use Rattle.tx_machine.specs.Run.{page_start}
use Rattle.tx_machine.specs.Steps.{raised}
use Rattle.tx_machine.specs.Turn.{Place, Progress, stretch}
use Rattle.tx_machine.proofs.Going.{raised-raised, raised-le}
use Rattle.tx_checkpoint.specs.declared.row.Row.{Row}
use Rattle.tx_checkpoint.specs.declared.row.Last.{Last}
use Rattle.tx_checkpoint.specs.declared.row.Formatted.{Formatted}
use Rattle.tx_checkpoint.specs.declared.row.Formatted.TheVariants.{Page as PageOf, Over as OverOf}
use Rattle.tx_checkpoint.specs.Meant.{IsFormatted, row_meant, rows_meant}
use Rattle.tx_checkpoint.specs.Rows.{History, PageRow, page_row, rows_in, at_limit, behind, only, closed_rows, rows_from, turns_of}
use Rattle.tx_checkpoint.proofs.Keeping.{Keeping, keeping-page, keeping-told, keeping-counted, limit-told, limit-counted, rows-suc, rows-zero}
use Rattle.tx_quiesce.specs.declared.front.Front.{Front}
use Rattle.tx_quiesce.specs.declared.front.Stopped.TheVariants.{Over, Met}
use Rattle.tx_quiesce.specs.Front.{Reaches, turns_to}
use Rattle.tx_quiesce.specs.Meeting.{Meeting, met_row, meeting_at, first_meeting}
use Rattle.tx_quiesce.proofs.Fronts.{first, front-turns, MeetsAt, meets-at, none-more}

-- the turns of some pages and one more
turns-push : {S : Type 0} (pages : List (PageRow S)) (page : PageRow S) → turns_of (pages ++ page ∷ []) ≡ turns_of pages + page.row.turns
turns-push [] page = omega arith
turns-push (front ∷ pages) page = let rest : turns_of (pages ++ page ∷ []) ≡ turns_of pages + page.row.turns = turns-push pages page in omega arith

module _ {S : Type 0} {m : Formatter S} {files : Files} {budget : ℕ} {whole : History S} {left : ℕ} {state : S} {opens : List OpenFile} {bodies : List PageBody} {pieces : List (List ℕ)} {rows : List (Row S)} {before now : ℕ}
    (changes : List Change) (olds : List (Row S)) (last : Last) (resumed : ℕ)
    (so_far : Keeping m files budget whole left state opens bodies pieces rows before now) (none : first_meeting m changes olds last resumed rows ≡ None) where
  none_done : first m changes olds last resumed so_far.done ≡ None
  none_done = sym (ap (first_meeting m changes olds last resumed) so_far.rows_are) ∙ none

  module _ (more : ℕ) (there : left ≡ suc more) where
    abbrev t : Progress S
    t = stretch m files (page_start state opens budget)

    abbrev later : History S
    later = rows_from m files budget more t.place.state t.place.opens

    abbrev rest : Close → History S
    rest close = closed_rows files t close later

    whole_is : whole ≡ behind so_far.done (rest (unwrap_or t.close Spent))
    whole_is = so_far.whole_is ∙ ap (behind so_far.done) (ap (λ n. rows_from m files budget n state opens) there ∙ rows-suc m files budget more state opens)

    -- the turns of the next stretch are among those that are due
    page_due : (body : PageBody) (o : Option ℕ) (behind_it : Option Meeting) → t.turns ≤ turns_to (behind (page_row t body ∷ []) later) (meeting_at o behind_it)
    page_due body None None = omega arith
    page_due body None (Some meeting) =
        let next : meeting.formatted + 1 ≡ suc meeting.formatted = omega arith in
        let is : turns_of (take (meeting.formatted + 1) (page_row t body ∷ later.pages)) ≡ t.turns + turns_of (take meeting.formatted later.pages) = ap (λ n. turns_of (take n (page_row t body ∷ later.pages))) next in
        omega arith
    page_due body (Some old) behind_it = omega arith

    due : (close : Close) → t.turns ≤ turns_to (rest close) (first m changes olds last resumed (rest close).pages)
    due (Page body) = page_due body (met_row m changes olds last resumed (page_row t body).row) (first m changes olds last resumed later.pages)
    due (Halt stop) = omega arith
    due Spent = omega arith

    pub until-bound : {now' : ℕ} → now' ≤ raised now t.turns → now' ≤ raised before (turns_to whole (first m changes olds last resumed whole.pages))
    until-bound {now' = now'} count =
        let all : turns_to whole (first m changes olds last resumed whole.pages) ≡ turns_of so_far.done + turns_to (rest (unwrap_or t.close Spent)) (first m changes olds last resumed (rest (unwrap_or t.close Spent)).pages) =
        front-turns m changes olds last resumed so_far.done (rest (unwrap_or t.close Spent)) whole_is none_done in
        let part : t.turns ≤ turns_to (rest (unwrap_or t.close Spent)) (first m changes olds last resumed (rest (unwrap_or t.close Spent)).pages) = due (unwrap_or t.close Spent) in
        let now_is : raised now t.turns ≡ raised before (turns_of so_far.done + t.turns) = ap (λ n. raised n t.turns) so_far.counted ∙ raised-raised before (turns_of so_far.done) t.turns in
        let within : raised before (turns_of so_far.done + t.turns) ≤ raised before (turns_to whole (first m changes olds last resumed whole.pages)) = raised-le before _ _ (omega arith) in
        omega arith

    -- the page meets an old row
    pub record UntilMet (body : PageBody) (old : ℕ) (now' : ℕ) : Type 0 where
      pub meeting : first m changes olds last resumed whole.pages ≡ Some (record { formatted = length so_far.done + 1; old = old })
      pub pages : take (length so_far.done + 1) whole.pages ≡ so_far.done ++ page_row t body ∷ []
      pub counted : now' ≡ raised before (turns_of (take (length so_far.done + 1) whole.pages))

    pub until-met : {body : PageBody} {old : ℕ} {now' : ℕ} → t.close ≡ Some (Page body) → met_row m changes olds last resumed (page_row t body).row ≡ Some old → now' ≡ raised now t.turns → UntilMet body old now'
    until-met {body = body} closes meets count =
        let is : whole ≡ behind so_far.done (behind (page_row t body ∷ []) later) = whole_is ∙ ap (λ close. behind so_far.done (rest (unwrap_or close Spent))) closes in
        let at : MeetsAt m changes olds last resumed whole so_far.done (page_row t body) _ = meets-at m changes olds last resumed so_far.done (page_row t body) later is none_done meets in
        record {
          meeting = at.meeting;
          pages = at.pages;
          counted = count ∙ ap (λ n. raised n t.turns) so_far.counted ∙ raised-raised before (turns_of so_far.done) t.turns
              ∙ ap (raised before) (sym (ap turns_of at.pages ∙ turns-push so_far.done (page_row t body)));
        }

    pub record FrontTold (body : PageBody) (bodies' : List PageBody) (pieces' : List (List ℕ)) (rows' : List (Row S)) : Type 0 where
      pub bodies_are : bodies' ≡ map (λ page. page.body) (so_far.done ++ page_row t body ∷ [])
      pub pieces_are : pieces' ≡ map (λ page. page.piece) (so_far.done ++ page_row t body ∷ [])
      pub rows_are : rows' ≡ rows_in (so_far.done ++ page_row t body ∷ [])

    pub front-told : {body : PageBody} {piece : List ℕ} {row : Row S} {bodies' : List PageBody} {pieces' : List (List ℕ)} {rows' : List (Row S)} → record { body = body; piece = piece; row = row } ≡ page_row t body
        → bodies' ≡ bodies ++ body ∷ [] → pieces' ≡ pieces ++ piece ∷ [] → rows' ≡ rows ++ row ∷ [] → FrontTold body bodies' pieces' rows'
    front-told {body = body} is more_bodies more_pieces more_rows = record {
      bodies_are = more_bodies ∙ (λ i. so_far.bodies_are i ++ (is i).body ∷ []) ∙ sym (map-append (λ (kept : PageRow S). kept.body) so_far.done (page_row t body ∷ []));
      pieces_are = more_pieces ∙ (λ i. so_far.pieces_are i ++ (is i).piece ∷ []) ∙ sym (map-append (λ (kept : PageRow S). kept.piece) so_far.done (page_row t body ∷ []));
      rows_are = more_rows ∙ (λ i. so_far.rows_are i ++ (is i).row ∷ []) ∙ sym (map-append (λ (kept : PageRow S). kept.row) so_far.done (page_row t body ∷ []));
    }

    -- it meets none
    pub until-misses : (body : PageBody) → met_row m changes olds last resumed (page_row t body).row ≡ None → {rows' : List (Row S)} → rows' ≡ rows ++ (page_row t body).row ∷ [] → first_meeting m changes olds last resumed rows' ≡ None
    until-misses body misses more_rows =
        ap (first_meeting m changes olds last resumed) (more_rows ∙ ap (λ rs. rs ++ (page_row t body).row ∷ []) so_far.rows_are ∙ sym (map-append (λ (kept : PageRow S). kept.row) so_far.done (page_row t body ∷ [])))
        ∙ none-more m changes olds last resumed so_far.done (page_row t body) none_done misses

    -- the run ended
    pub until-over : {over : Last} → ((h : History S) → closed_rows files t (unwrap_or t.close Spent) h ≡ only over) → first m changes olds last resumed whole.pages ≡ None
    until-over over =
        ap (first m changes olds last resumed) (ap (λ h. h.pages) (whole_is ∙ ap (behind so_far.done) (over later)) ∙ append-nil so_far.done) ∙ none_done

  pub until-limit : left ≡ 0 → first m changes olds last resumed whole.pages ≡ None
  until-limit no_more =
      ap (first m changes olds last resumed) (ap (λ h. h.pages) (so_far.whole_is ∙ ap (behind so_far.done) (ap (λ n. rows_from m files budget n state opens) no_more ∙ rows-zero m files budget state opens)) ∙ append-nil so_far.done) ∙ none_done

-- formatting stops: what was formatted reaches the first meeting, or the end
pub record Stops {S M : Type 0} (meaning : S → M) (whole : History M) (meeting : Option Meeting) (before now : ℕ) (front : Front S) : Type 0 where
  pub reaches : Reaches meaning whole meeting front
  pub counted : now ≡ raised before (turns_to whole meeting)

stops-at : {S M : Type 0} {meaning : S → M} {whole : History M} {before now : ℕ} {front : Front S} {meeting : Option Meeting} (o : Option Meeting) → meeting ≡ o → Stops meaning whole o before now front → Stops meaning whole meeting before now front
stops-at {meaning = meaning} {whole = whole} {before = before} {now = now} {front = front} o is stops = subst (λ (o : Option Meeting). Stops meaning whole o before now front) (sym is) stops

module _ {S M : Type 0} {m : Formatter M} (meaning : S → M) {files : Files} {budget : ℕ} {whole : History M} {left : ℕ} {state : M} {opens : List OpenFile} {before now : ℕ}
    (changes : List Change) (olds : List (Row M)) (last : Last) (resumed : ℕ) (front : Front S)
    (so_far : Keeping m files budget whole left state opens front.pages.items front.pieces.items (rows_meant meaning front.rows.items) before now)
    (none : first_meeting m changes olds last resumed (rows_meant meaning front.rows.items) ≡ None) where
  abbrev this : Progress M
  this = stretch m files (page_start state opens budget)

  module _ (more : ℕ) (there : left ≡ suc more) {formatted : Formatted S} (is_formatted : IsFormatted meaning files this formatted) where
    module _ {body : PageBody} {piece : List ℕ} {row : Row S} (is_page : formatted ≡ PageOf body piece row) {found : Option ℕ} (found_is : found ≡ met_row m changes olds last resumed (row_meant meaning row))
        (front' : Front S) (pages : front'.pages.items ≡ front.pages.items ++ body ∷ []) (pieces : front'.pieces.items ≡ front.pieces.items ++ piece ∷ []) (rows : front'.rows.items ≡ front.rows.items ++ row ∷ []) where
      page : (this.close ≡ Some (Page body)) × (record { body = body; piece = piece; row = row_meant meaning row } ≡ page_row this body)
      page = subst (IsFormatted meaning files this) is_page is_formatted

      more_rows : rows_meant meaning front'.rows.items ≡ rows_meant meaning front.rows.items ++ row_meant meaning row ∷ []
      more_rows = ap (rows_meant meaning) rows ∙ map-append (row_meant meaning) front.rows.items (row ∷ [])

      here_is : met_row m changes olds last resumed (page_row this body).row ≡ found
      here_is = ap (λ (p : PageRow M). met_row m changes olds last resumed p.row) (sym page.1) ∙ sym found_is

      pub stops-met : {number : ℕ} → found ≡ Some number → front'.stopped ≡ Met number → {now' : ℕ} → now' ≡ raised now this.turns → Stops meaning whole (first m changes olds last resumed whole.pages) before now' front'
      stops-met some stopped count =
          let at = until-met changes olds last resumed so_far none more there page.0 (here_is ∙ some) count in
          let told = front-told changes olds last resumed so_far none more there page.1 pages pieces more_rows in
          stops-at _ at.meeting (record {
            reaches = (
              record {
                bodies_are = told.bodies_are ∙ ap (map (λ p. p.body)) (sym at.pages);
                pieces_are = told.pieces_are ∙ ap (map (λ p. p.piece)) (sym at.pages);
                rows_are = told.rows_are ∙ ap rows_in (sym at.pages);
              },
              stopped,
            );
            counted = at.counted;
          })

      -- it goes on
      pub goes-on : found ≡ None → {next : Place M} {now' : ℕ} → next ≡ this.place → now' ≡ raised now this.turns
          → Keeping m files budget whole more next.state next.opens front'.pages.items front'.pieces.items (rows_meant meaning front'.rows.items) before now'
      goes-on misses place count = keeping-page more there so_far page.0 page.1 place count pages pieces more_rows

      pub none-so_far : found ≡ None → first_meeting m changes olds last resumed (rows_meant meaning front'.rows.items) ≡ None
      none-so_far misses =
          until-misses changes olds last resumed so_far none more there body (here_is ∙ misses) (more_rows ∙ ap (λ (p : PageRow M). rows_meant meaning front.rows.items ++ p.row ∷ []) page.1)

    pub stops-over : {over : Last} → formatted ≡ OverOf over → (front' : Front S) → front'.pages.items ≡ front.pages.items → front'.pieces.items ≡ front.pieces.items → front'.rows.items ≡ front.rows.items → front'.stopped ≡ Over over
        → {now' : ℕ} → now' ≡ raised now this.turns → Stops meaning whole (first m changes olds last resumed whole.pages) before now' front'
    stops-over {over = over} is_over front' pages pieces rows stopped count =
        let ends : (later : History M) → closed_rows files this (unwrap_or this.close Spent) later ≡ only over = subst (IsFormatted meaning files this) is_over is_formatted in
        let told = keeping-told more there so_far ends in
        stops-at None (until-over changes olds last resumed so_far none more there ends) (record {
          reaches = (record { bodies_are = pages ∙ told.bodies_are; pieces_are = pieces ∙ told.pieces_are; rows_are = ap (rows_meant meaning) rows ∙ told.rows_are }, stopped ∙ ap Over told.last_is);
          counted = keeping-counted more there so_far ends count;
        })

  pub stops-limit : left ≡ 0 → (front' : Front S) → front'.pages.items ≡ front.pages.items → front'.pieces.items ≡ front.pieces.items → front'.rows.items ≡ front.rows.items → front'.stopped ≡ Over (at_limit opens)
      → Stops meaning whole (first m changes olds last resumed whole.pages) before now front'
  stops-limit no_more front' pages pieces rows stopped =
      let told = limit-told no_more so_far in
      stops-at None (until-limit changes olds last resumed so_far none no_more) (record {
        reaches = (record { bodies_are = pages ∙ told.bodies_are; pieces_are = pieces ∙ told.pieces_are; rows_are = ap (rows_meant meaning) rows ∙ told.rows_are }, stopped ∙ ap Over told.last_is);
        counted = limit-counted no_more so_far;
      })
