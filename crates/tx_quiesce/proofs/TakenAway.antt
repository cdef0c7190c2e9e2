-- Where a file is taken away that isn't open, and isn't asked for, what follows is the same.
use Rattle.std.proofs.Common.{◌≡◌, ◌≢◌, ℕ, suc, ◌+◌, false, List, [], ◌∷◌, map, drop, refl, sym, ap, ◌∙◌, arith, true≢false, unwrap_or}
use Rattle.std.specs.Cmp.Lexicographic.{bytes_decides}
use Rattle.std.specs.FinMap.{remove}
use Rattle.std.specs.List.{All, AllZip}
use Rattle.tx_bytes.specs.Files.{Files}
use Rattle.tx_files.specs.declared.edit.Change.TheVariants.{Remove}
use Rattle.tx_files.specs.declared.reads.Note.{Note}
use Rattle.tx_files.specs.declared.reads.Sight.TheVariants.{Line, End}
use Rattle.tx_files.specs.Reads.{Reads, reads_of}
use Rattle.tx_machine.specs.declared.types.OpenFile.{OpenFile}
use Rattle.tx_machine.specs.Machine.{Formatter}
use Rattle.tx_machine.specs.Opens.{bytes_of}
use Rattle.tx_checkpoint.specs.declared.row.Last.{Last}
use Rattle.tx_checkpoint.specs.Rows.{PageRow, rows_in, rows_from}
use Rattle.tx_checkpoint.proofs.Removed.{removed-others}
use Rattle.tx_quiesce.specs.Meeting.{rest_asks}
use Rattle.tx_quiesce.specs.Moves.{carried_page, last_now}
use Rattle.tx_quiesce.specs.Shift.{end_now}
use Rattle.tx_quiesce.proofs.Kin.{IsKin}
use Rattle.tx_quiesce.proofs.KinRows.{PageKin, LastKin, HistoryKin, kin-rows}
use Rattle.tx_quiesce.proofs.Moved.{IsOther, others-asked}
use Rattle.tx_quiesce.proofs.Zips.{zip-is, zip-same}

-- an open file is another one, and stays
record FileStays (gone : List ℕ) (old new : OpenFile) : Type 0 where
  other : IsOther gone old.name
  is : new ≡ old

abbrev NoteStays : Note → Note → Type 0
NoteStays note new = new ≡ note

abbrev ReadsStay : Reads → Reads → Type 0
ReadsStay reads new = new ≡ reads

module _ (before : Files) (gone : List ℕ) where
  abbrev after : Files
  after = remove before gone

  apart : (name : List ℕ) → IsOther gone name → name ≢ gone
  apart name other = λ same. true≢false (sym ((bytes_decides name gone).1 same) ∙ other)

  stay_kin : IsKin before after (FileStays gone) NoteStays (IsOther gone)
  stay_kin = record {
    names = λ o p r. ap (λ (f : OpenFile). f.name) r.is;
    rests = λ o p r. ap (λ (f : OpenFile). drop f.offset (bytes_of after f.name)) r.is ∙ ap (λ held. drop o.offset (unwrap_or held [])) (removed-others before gone o.name (apart o.name r.other));
    moves = λ o p r n within. record { other = r.other; is = ap (λ (f : OpenFile). record f { offset = f.offset + n }) r.is };
    lines = λ o p r n within. ap {B = Note} (λ (f : OpenFile). record { name = f.name; sight = Line (f.offset + n) }) r.is;
    ends = λ o p r. ap {B = Note} (λ (f : OpenFile). record { name = f.name; sight = End }) r.is;
    same = λ name other. removed-others before gone name (apart name other);
    opened = λ name other bytes there. record { other = other; is = refl };
    asked = λ name sight other asks. refl;
  }

  zip_stays : (opens : List OpenFile) → All (λ (file : OpenFile). IsOther gone file.name) opens → AllZip (FileStays gone) opens opens
  zip_stays [] others = tt
  zip_stays (file ∷ opens) others = (record { other = others 0 file (omega arith); is = refl }, zip_stays opens (λ k d below. others (suc k) d (omega arith)))

  module _ {S : Type 0} (m : Formatter S) (budget : ℕ) where
    page_stays : (p q : PageRow S) → PageKin (FileStays gone) ReadsStay p q → q ≡ carried_page (Remove gone ∷ []) p
    page_stays p q same =
        let opens : q.row.opens ≡ p.row.opens = zip-same (FileStays gone) (λ o p r. r.is) p.row.opens q.row.opens same.opens in
        λ i. record { body = same.body i; piece = same.piece i; row = record { turns = same.turns i; seen = same.seen i; opens = opens i; state = same.state i } }

    last_stays : (l k : Last) → LastKin (FileStays gone) ReadsStay after l k → k ≡ last_now after (Remove gone ∷ []) l
    last_stays l k same =
        let opens : k.opens ≡ l.opens = zip-same (FileStays gone) (λ o p r. r.is) l.opens k.opens same.opens in
        let end = same.end ∙ ap (λ now. (last_with now).end) opens in
        λ i. record { piece = same.piece i; turns = same.turns i; seen = same.seen i; opens = opens i; end = end i }
      where
        last_with : List OpenFile → Last
        last_with now = record l { end = end_now after now l.end }

    logs : (log later : List Note) → AllZip NoteStays log later → ReadsStay (reads_of log) (reads_of later)
    logs log later zip = ap reads_of (zip-same NoteStays (λ note new is. is) log later zip)

    pub stayed-rows : (pages : ℕ) (state : S) (opens : List OpenFile) → All (λ (file : OpenFile). IsOther gone file.name) opens
        → rest_asks (rows_in (rows_from m before budget pages state opens).pages) (rows_from m before budget pages state opens).last gone ≡ false
        → rows_from m after budget pages state opens
        ≡ record { pages = map (carried_page (Remove gone ∷ [])) (rows_from m before budget pages state opens).pages; last = last_now after (Remove gone ∷ []) (rows_from m before budget pages state opens).last }
    stayed-rows pages state opens others none =
        let kin : HistoryKin (FileStays gone) ReadsStay after (rows_from m before budget pages state opens) (rows_from m after budget pages state opens) =
        kin-rows m stay_kin ReadsStay logs budget pages state state opens opens refl (zip_stays opens others) (others-asked (rows_from m before budget pages state opens) gone none) in
        λ i. record {
          pages = zip-is (PageKin (FileStays gone) ReadsStay) (carried_page (Remove gone ∷ [])) page_stays _ _ kin.pages i;
          last = last_stays _ _ kin.last i;
        }
