-- Two runs that read on alike in files that are kin, from equal states, are the same rows.
use Rattle.std.proofs.Common.{◌≡◌, ℕ, zero, suc, ◌-◌, length, Bool, true, false, ◌||◌, List, [], Option, Some, None, refl, sym, ap, subst, unwrap_or}
use Rattle.std.specs.Prelude.{slice_get}
use Rattle.std.specs.List.{AllZip, list_any}
use Rattle.tx_bytes.specs.Files.{Files}
use Rattle.tx_files.specs.declared.reads.Note.{Note}
use Rattle.tx_files.specs.Reads.{Reads, reads_of, asks_for}
use Rattle.tx_machine.specs.declared.types.Close.{Close}
use Rattle.tx_machine.specs.declared.types.Close.TheVariants.{Page, Halt, Spent}
use Rattle.tx_machine.specs.declared.types.End.TheVariants.{Error}
use Rattle.tx_machine.specs.declared.types.OpenFile.{OpenFile}
use Rattle.tx_event.specs.declared.types.Stop.{Stop}
use Rattle.tx_event.specs.declared.types.Stop.TheVariants.{End as StopEnd, Error as StopError}
use Rattle.tx_machine.specs.Machine.{Formatter}
use Rattle.tx_machine.specs.Opens.{innermost}
use Rattle.tx_machine.specs.Run.{page_start, end_of, error_at}
use Rattle.tx_machine.specs.Turn.{Progress, stretch}
use Rattle.tx_checkpoint.specs.declared.row.Row.{Row}
use Rattle.tx_checkpoint.specs.declared.row.Last.{Last}
use Rattle.tx_checkpoint.specs.Rows.{History, PageRow, rows_in, closed_rows, rows_from}
use Rattle.tx_quiesce.specs.Laws.{but_for_line}
use Rattle.tx_quiesce.specs.Meeting.{rest_asks}
use Rattle.tx_quiesce.specs.Shift.{end_now}
use Rattle.tx_quiesce.proofs.Asked.{AreAsked, asked-log, or-left}
use Rattle.tx_quiesce.proofs.Kin.{IsKin, AreKin, kin-stretch}
use Rattle.tx_quiesce.proofs.Zips.{AreBoth, zip-get, zip-length}

module _ (R : OpenFile → OpenFile → Type 0) (Q : Reads → Reads → Type 0) where
  -- the same page, but for where the open files stand and how much of them was read
  pub record PageKin {S : Type 0} (p q : PageRow S) : Type 0 where
    pub body : q.body ≡ p.body
    pub piece : q.piece ≡ p.piece
    pub turns : q.row.turns ≡ p.row.turns
    pub state : q.row.state ≡ p.row.state
    pub seen : Q p.row.seen q.row.seen
    pub opens : AllZip R p.row.opens q.row.opens

  -- the same stretch, its end by the files as they are now
  pub record LastKin (after : Files) (l k : Last) : Type 0 where
    pub piece : k.piece ≡ l.piece
    pub turns : k.turns ≡ l.turns
    pub seen : Q l.seen k.seen
    pub opens : AllZip R l.opens k.opens
    pub end : k.end ≡ end_now after k.opens l.end
    pub same_end : but_for_line k.end ≡ but_for_line l.end

  pub record HistoryKin {S : Type 0} (after : Files) (h g : History S) : Type 0 where
    pub pages : AllZip PageKin h.pages g.pages
    pub last : LastKin after h.last g.last

-- only these files are asked for
abbrev pub AsksOnly : {S : Type 0} → (List ℕ → Type 0) → History S → Type 0
AsksOnly A h = (name : List ℕ) → rest_asks (rows_in h.pages) h.last name ≡ true → A name

module _ {S : Type 0} (m : Formatter S) {before after : Files} {R : OpenFile → OpenFile → Type 0} {N : Note → Note → Type 0} {A : List ℕ → Type 0} (kin : IsKin before after R N A)
    (Q : Reads → Reads → Type 0) (logs : (log later : List Note) → AllZip N log later → Q (reads_of log) (reads_of later)) (budget : ℕ) where
  -- the end of a stretch
  error_now : (code : ℕ) (opens : List OpenFile) (file : Option OpenFile) → error_at after code (innermost opens) ≡ end_now after opens (error_at before code file)
  error_now code opens None = refl
  error_now code opens (Some file) = refl

  end_kin : (old new : List OpenFile) (stop : Stop) → end_of after new stop ≡ end_now after new (end_of before old stop)
  end_kin old new StopEnd = refl
  end_kin old new (StopError code) = error_now code new (innermost old)

  error_kin : (code : ℕ) (o p : Option OpenFile) → AreBoth R o p → but_for_line (error_at after code p) ≡ but_for_line (error_at before code o)
  error_kin code None None r = refl
  error_kin code None (Some p) r = absurd r
  error_kin code (Some o) None r = absurd r
  error_kin code (Some o) (Some p) r = ap (λ name. Error code (Some name) 0) (kin.names o p r)

  same_end : (old new : List OpenFile) (stop : Stop) → AllZip R old new → but_for_line (end_of after new stop) ≡ but_for_line (end_of before old stop)
  same_end old new StopEnd zip = refl
  same_end old new (StopError code) zip =
      error_kin code (innermost old) (innermost new) (subst (λ k. AreBoth R (innermost old) (slice_get new k)) (ap (λ n. n - 1) (sym (zip-length R old new zip))) (zip-get R old new (length old - 1) zip))

  -- what a stretch asks for
  stretch_asks : (t : Progress S) (close : Close) (later : History S) → AsksOnly A (closed_rows before t close later) → AreAsked A t.log
  stretch_asks t (Page body) later only =
      asked-log A t.log (λ name is. only name (or-left _ _ (or-left (asks_for (reads_of t.log) name) (list_any (λ (row : Row S). asks_for row.seen name) (rows_in later.pages)) is)))
  stretch_asks t (Halt stop) later only = asked-log A t.log (λ name is. only name is)
  stretch_asks t Spent later only = asked-log A t.log (λ name is. only name is)

  moved : (a b c : Bool) → (b || c) ≡ true → ((a || b) || c) ≡ true
  moved true b c is = refl
  moved false b c is = is

  closed_kin : (t u : Progress S) (close : Close) (later last : History S) → AreKin R N t u → (AsksOnly A later → HistoryKin R Q after later last) → AsksOnly A (closed_rows before t close later)
      → HistoryKin R Q after (closed_rows before t close later) (closed_rows after u close last)
  closed_kin t u (Page body) later last same behind only =
      let rest : HistoryKin R Q after later last =
      behind (λ name is. only name (moved (asks_for (reads_of t.log) name) (list_any (λ (row : Row S). asks_for row.seen name) (rows_in later.pages)) (asks_for later.last.seen name) is)) in
      record {
        pages = (record { body = refl; piece = same.said; turns = same.turns; state = same.state; seen = logs t.log u.log same.log; opens = same.opens }, rest.pages);
        last = rest.last;
      }
  closed_kin t u (Halt stop) later last same behind only = record {
    pages = tt;
    last = record { piece = same.said; turns = same.turns; seen = logs t.log u.log same.log; opens = same.opens; end = end_kin t.place.opens u.place.opens stop; same_end = same_end t.place.opens u.place.opens stop same.opens };
  }
  closed_kin t u Spent later last same behind only = record {
    pages = tt;
    last = record { piece = same.said; turns = same.turns; seen = logs t.log u.log same.log; opens = same.opens; end = refl; same_end = refl };
  }

  pub kin-rows : (pages : ℕ) (state new_state : S) (os ps : List OpenFile) → new_state ≡ state → AllZip R os ps → AsksOnly A (rows_from m before budget pages state os)
      → HistoryKin R Q after (rows_from m before budget pages state os) (rows_from m after budget pages new_state ps)
  unfolding rows_from
  kin-rows zero state new_state os ps is zip only = record { pages = tt; last = record { piece = refl; turns = refl; seen = logs [] [] tt; opens = zip; end = refl; same_end = refl } }
  kin-rows (suc pages) state new_state os ps is zip only =
      let t : Progress S = stretch m before (page_start state os budget) in
      let u : Progress S = stretch m after (page_start new_state ps budget) in
      let later : History S = rows_from m before budget pages t.place.state t.place.opens in
      let last : History S = rows_from m after budget pages u.place.state u.place.opens in
      let same : AreKin R N t u = kin-stretch kin m (page_start state os budget) (page_start new_state ps budget) is refl zip (stretch_asks t (unwrap_or t.close Spent) later only) in
      subst (λ (close : Option Close). HistoryKin R Q after (closed_rows before t (unwrap_or t.close Spent) later) (closed_rows after u (unwrap_or close Spent) last)) (sym same.close)
      (closed_kin t u (unwrap_or t.close Spent) later last same (λ asks. kin-rows pages t.place.state u.place.state t.place.opens u.place.opens same.state same.opens asks) only)
