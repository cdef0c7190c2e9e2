-- A run reads no file past its end.
use Rattle.std.proofs.Common.{◌≡◌, ℕ, suc, ◌+◌, ◌-◌, ◌≤◌, Bool, true, false, cond, List, [], ◌∷◌, length, drop, Option, Some, None, refl, sym, ap, ◌∙◌, subst, arith, true≢false, length-drop}
use Rattle.std.specs.Ordering.{nat_cmp}
use Rattle.std.specs.Cmp.Lexicographic.{slice_cmp, nat_list_cmp_total, bytes_decides}
use Rattle.std.specs.FinMap.{get, empty, get-insert, get-empty}
use Rattle.std.specs.List.{All, AllZip}
use Rattle.std.specs.Str.{bytes_eq}
use Rattle.std.proofs.lemmas.Map.Text.{is_eq-slice_cmp}
use Rattle.tx_bytes.specs.Files.{Files}
use Rattle.tx_files.specs.declared.reads.Extent.{Extent}
use Rattle.tx_files.specs.declared.reads.Extent.TheVariants.{Absent, Upto, Whole}
use Rattle.tx_files.specs.declared.reads.FileReads.{FileReads}
use Rattle.tx_files.specs.declared.reads.Note.{Note}
use Rattle.tx_files.specs.declared.reads.Sight.{Sight}
use Rattle.tx_files.specs.declared.reads.Sight.TheVariants.{Absent as NotThere, Opened, Line, End, Whole as Taken}
use Rattle.tx_files.specs.Reads.{Reads, together, extent_of, is_asked, seen_more, noted, noting, reads_of}
use Rattle.tx_machine.specs.declared.types.OpenFile.{OpenFile}
use Rattle.tx_machine.specs.Machine.{Formatter}
use Rattle.tx_machine.specs.Opens.{bytes_of}
use Rattle.tx_checkpoint.specs.Rows.{rows_from}
use Rattle.tx_quiesce.proofs.Kin.{IsKin}
use Rattle.tx_quiesce.proofs.KinRows.{HistoryKin, kin-rows}

-- an open file, read within it
abbrev pub IsInside : Files → OpenFile → Type 0
IsInside files file = file.offset ≤ length (bytes_of files file.name)

pub record StaysInside (files : Files) (old new : OpenFile) : Type 0 where
  pub is : new ≡ old
  pub inside : IsInside files old

abbrev SightInside : ℕ → Sight → Type 0
SightInside size NotThere = Unit {0}
SightInside size Opened = Unit {0}
SightInside size (Line end) = end ≤ size
SightInside size End = Unit {0}
SightInside size Taken = Unit {0}

abbrev pub ExtentInside : ℕ → Extent → Type 0
ExtentInside size Absent = Unit {0}
ExtentInside size (Upto n) = n ≤ size
ExtentInside size Whole = Unit {0}

abbrev pub HeldInside : ℕ → Option FileReads → Type 0
HeldInside size None = Unit {0}
HeldInside size (Some held) = ExtentInside size held.extent

abbrev pub ReadsInside : Files → Reads → Type 0
ReadsInside files reads = (name : List ℕ) → HeldInside (length (bytes_of files name)) (get reads name)

module _ (files : Files) where
  abbrev NoteInside : Note → Note → Type 0
  NoteInside note new = SightInside (length (bytes_of files note.name)) note.sight

  moved_inside : (o : OpenFile) (n : ℕ) → IsInside files o → n ≤ length (drop o.offset (bytes_of files o.name)) → o.offset + n ≤ length (bytes_of files o.name)
  moved_inside o n inside within = let left : length (drop o.offset (bytes_of files o.name)) ≡ length (bytes_of files o.name) - o.offset = length-drop o.offset (bytes_of files o.name) in omega arith

  asked_inside : (size : ℕ) (sight : Sight) → is_asked sight ≡ true → SightInside size sight
  asked_inside size NotThere asks = tt
  asked_inside size Opened asks = tt
  asked_inside size (Line end) asks = absurd (true≢false (sym asks))
  asked_inside size End asks = tt
  asked_inside size Taken asks = tt

  inside_kin : IsKin files files (StaysInside files) NoteInside (λ _. Unit {0})
  inside_kin = record {
    names = λ o p r. ap (λ (f : OpenFile). f.name) r.is;
    rests = λ o p r. ap (λ (f : OpenFile). drop f.offset (bytes_of files f.name)) r.is;
    moves = λ o p r n within. record { is = ap (λ (f : OpenFile). record f { offset = f.offset + n }) r.is; inside = moved_inside o n r.inside within };
    lines = λ o p r n within. moved_inside o n r.inside within;
    ends = λ o p r. tt;
    same = λ name any. refl;
    opened = λ name any bytes there. record { is = refl; inside = omega arith };
    asked = λ name sight any asks. asked_inside (length (bytes_of files name)) sight asks;
  }

  both_inside : (size : ℕ) (first later : Extent) → ExtentInside size first → ExtentInside size later → ExtentInside size (together first later)
  both_inside size Absent later a b = tt
  both_inside size Whole Absent a b = tt
  both_inside size Whole (Upto n) a b = tt
  both_inside size Whole Whole a b = tt
  both_inside size (Upto n) Absent a b = tt
  both_inside size (Upto n) (Upto k) a b = omega arith
  both_inside size (Upto n) Whole a b = tt

  extent_inside : (size : ℕ) (sight : Sight) → SightInside size sight → ExtentInside size (extent_of sight)
  extent_inside size NotThere inside = tt
  extent_inside size Opened inside = omega arith
  extent_inside size (Line end) inside = inside
  extent_inside size End inside = tt
  extent_inside size Taken inside = tt

  more_inside : (size : ℕ) (held : Option FileReads) (sight : Sight) → HeldInside size held → SightInside size sight → HeldInside size (Some (seen_more held sight))
  more_inside size None sight held inside = extent_inside size sight inside
  more_inside size (Some reads) sight held inside = both_inside size reads.extent (extent_of sight) held (extent_inside size sight inside)

  noted_inside : (reads : Reads) (note : Note) → ReadsInside files reads → SightInside (length (bytes_of files note.name)) note.sight → ReadsInside files (noted reads note)
  noted_inside reads note held inside name =
      subst (HeldInside (length (bytes_of files name)))
      (sym (get-insert nat_list_cmp_total reads note.name (seen_more (get reads note.name) note.sight) name ∙ ap (λ b. cond b (Some (seen_more (get reads note.name) note.sight)) (get reads name)) (is_eq-slice_cmp name note.name)))
      (by (bytes_eq name note.name) refl)
    where
      by : (b : Bool) → bytes_eq name note.name ≡ b → HeldInside (length (bytes_of files name)) (cond b (Some (seen_more (get reads note.name) note.sight)) (get reads name))
      by true is =
          let same : name ≡ note.name = (bytes_decides name note.name).0 is in
          subst (λ a. HeldInside (length (bytes_of files a)) (Some (seen_more (get reads note.name) note.sight))) (sym same) (more_inside (length (bytes_of files note.name)) (get reads note.name) note.sight (held note.name) inside)
      by false is = held name

  noting_inside : (reads : Reads) (log later : List Note) → ReadsInside files reads → AllZip NoteInside log later → ReadsInside files (noting reads log)
  noting_inside reads [] [] held zip = held
  noting_inside reads [] (new ∷ later) held zip = absurd zip
  noting_inside reads (note ∷ log) [] held zip = absurd zip
  noting_inside reads (note ∷ log) (new ∷ later) held zip = noting_inside (noted reads note) log later (noted_inside reads note held zip.0) zip.1

  abbrev pub ReadInside : Reads → Reads → Type 0
  ReadInside reads new = ReadsInside files reads

  logs_inside : (log later : List Note) → AllZip NoteInside log later → ReadInside (reads_of log) (reads_of later)
  logs_inside log later zip = noting_inside empty log later (λ name. subst (HeldInside (length (bytes_of files name))) (sym (get-empty (slice_cmp nat_cmp) name)) tt) zip

  zip_inside : (opens : List OpenFile) → All (IsInside files) opens → AllZip (StaysInside files) opens opens
  zip_inside [] inside = tt
  zip_inside (file ∷ opens) inside = (record { is = refl; inside = inside 0 file (omega arith) }, zip_inside opens (λ k d below. inside (suc k) d (omega arith)))

  pub rows-inside : {S : Type 0} (m : Formatter S) (budget pages : ℕ) (state : S) (opens : List OpenFile) → All (IsInside files) opens
      → HistoryKin (StaysInside files) ReadInside files (rows_from m files budget pages state opens) (rows_from m files budget pages state opens)
  rows-inside m budget pages state opens inside =
      kin-rows m inside_kin ReadInside logs_inside budget pages state state opens opens refl (zip_inside opens inside) (λ name any. tt)
