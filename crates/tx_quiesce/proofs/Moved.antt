-- Behind an edit the files before and after it are kin: what follows is the same, moved.
use Rattle.std.proofs.Common.{◌≡◌, ℕ, zero, suc, ◌+◌, ◌-◌, ◌≤◌, Bool, true, false, cond, List, [], ◌∷◌, ◌++◌, length, map, take, drop, refl, sym, ap, ◌∙◌, arith, true≢false, append_assoc, unwrap_or}
use Rattle.std.specs.Cmp.Lexicographic.{bytes_decides}
use Rattle.std.specs.List.{All, AllZip}
use Rattle.std.specs.Str.{bytes_eq}
use Rattle.std.proofs.lemmas.List.{drop-drop, length-take-le}
use Rattle.tx_bytes.specs.Files.{Files, content}
use Rattle.tx_files.specs.declared.edit.Edit.{Edit as FileEdit}
use Rattle.tx_files.specs.declared.edit.Change.TheVariants.{Edit}
use Rattle.tx_files.specs.declared.reads.Note.{Note}
use Rattle.tx_files.specs.declared.reads.Sight.TheVariants.{Line, End}
use Rattle.tx_files.specs.Edits.{spliced}
use Rattle.tx_files.specs.Shift.{shifted, IsBehind}
use Rattle.tx_machine.specs.declared.types.OpenFile.{OpenFile}
use Rattle.tx_machine.specs.Machine.{Formatter}
use Rattle.tx_machine.specs.Opens.{bytes_of}
use Rattle.tx_checkpoint.specs.declared.row.Last.{Last}
use Rattle.tx_checkpoint.specs.Rows.{History, PageRow, rows_in, rows_from}
use Rattle.tx_checkpoint.proofs.Edited.{Edited}
use Rattle.tx_quiesce.specs.Meeting.{rest_asks}
use Rattle.tx_quiesce.specs.Moves.{carried_page, last_now}
use Rattle.tx_quiesce.specs.Shift.{end_now, shifted_file, shifted_opens}
use Rattle.tx_quiesce.proofs.Kin.{IsKin}
use Rattle.tx_quiesce.proofs.KinRows.{PageKin, LastKin, HistoryKin, kin-rows}
use Rattle.tx_quiesce.proofs.Shifted.{shifted_sight, NoteShifts, ReadsShift, reads-shifted}
use Rattle.tx_quiesce.proofs.Zips.{zip-is}

-- what follows a front
drop_past : {X : Type 0} (xs ys : List X) (n k : ℕ) → n ≡ length xs + k → drop n (xs ++ ys) ≡ drop k ys
drop_past [] ys n k is = let same : n ≡ k = omega arith in ap (λ a. drop a ys) same
drop_past (x ∷ xs) ys zero k is = absurd (omega arith)
drop_past (x ∷ xs) ys (suc n) k is = drop_past xs ys n k (omega arith)

shifted_rest : (bytes put : List ℕ) (place removed offset : ℕ) → place ≤ length bytes → place + removed ≤ offset
    → drop (offset - removed + length put) (spliced bytes place removed put) ≡ drop offset bytes
shifted_rest bytes put place removed offset inside behind =
    let front : length (take place bytes) ≡ place = length-take-le place bytes inside in
    let past : offset - removed + length put ≡ length (take place bytes) + (length put + (offset - removed - place)) = omega arith in
    let sum : place + removed + (offset - removed - place) ≡ offset = omega arith in
    ap (drop (offset - removed + length put)) (append_assoc (take place bytes) put (drop (place + removed) bytes))
    ∙ drop_past (take place bytes) (put ++ drop (place + removed) bytes) (offset - removed + length put) (length put + (offset - removed - place)) past
    ∙ drop_past put (drop (place + removed) bytes) (length put + (offset - removed - place)) (offset - removed - place) refl
    ∙ drop-drop (offset - removed - place) (place + removed) bytes ∙ ap (λ n. drop n bytes) sum

-- an open file that stands behind the edit, and where it stands after it
abbrev pub FileBehind : FileEdit → OpenFile → Type 0
FileBehind e file = bytes_eq file.name e.name ≡ true → IsBehind e file.offset

pub record FileShifts (e : FileEdit) (old new : OpenFile) : Type 0 where
  pub behind : FileBehind e old
  pub is : new ≡ shifted_file e old

abbrev pub IsOther : List ℕ → List ℕ → Type 0
IsOther changed name = bytes_eq name changed ≡ false

-- where a run doesn't ask for a file, it asks for others alone
pub others-asked : {S : Type 0} (h : History S) (changed : List ℕ) → rest_asks (rows_in h.pages) h.last changed ≡ false → (name : List ℕ) → rest_asks (rows_in h.pages) h.last name ≡ true → IsOther changed name
others-asked h changed none name asks = by (bytes_eq name changed) refl
  where
    by : (b : Bool) → bytes_eq name changed ≡ b → bytes_eq name changed ≡ false
    by true is = absurd (true≢false (sym asks ∙ ap (rest_asks (rows_in h.pages) h.last) ((bytes_decides name changed).0 is) ∙ none))
    by false is = is

module _ (e : FileEdit) where
  abbrev by_name : OpenFile → Bool → OpenFile
  by_name file b = cond b (record file { offset = shifted e file.offset }) file

  name_same : (o : OpenFile) (b : Bool) → (by_name o b).name ≡ o.name
  name_same o true = refl
  name_same o false = refl

  moved_by : (o : OpenFile) (n : ℕ) (b : Bool) → (b ≡ true → IsBehind e o.offset) → record (by_name o b) { offset = (by_name o b).offset + n } ≡ by_name (record o { offset = o.offset + n }) b
  moved_by o n true behind =
      let past : e.place + e.removed ≤ o.offset = behind refl in
      let sum : o.offset - e.removed + length e.put + n ≡ o.offset + n - e.removed + length e.put = omega arith in
      ap (λ offset. record o { offset = offset }) sum
  moved_by o n false behind = refl

  line_by : (o : OpenFile) (n : ℕ) (b : Bool) → (b ≡ true → IsBehind e o.offset)
      → ◌≡◌ {A = Note} (record { name = (by_name o b).name; sight = Line ((by_name o b).offset + n) }) (cond b (record { name = o.name; sight = Line (shifted e (o.offset + n)) }) (record { name = o.name; sight = Line (o.offset + n) }))
  line_by o n true behind =
      let past : e.place + e.removed ≤ o.offset = behind refl in
      let sum : o.offset - e.removed + length e.put + n ≡ o.offset + n - e.removed + length e.put = omega arith in
      ap {B = Note} (λ offset. record { name = o.name; sight = Line offset }) sum
  line_by o n false behind = refl

  end_by : (o : OpenFile) (b : Bool) → ◌≡◌ {A = Note} (record { name = (by_name o b).name; sight = End }) (cond b (record { name = o.name; sight = shifted_sight e End }) (record { name = o.name; sight = End }))
  end_by o true = refl
  end_by o false = refl

  module _ {before after : Files} (edit : Edited before after e) where
    rests_by : (o : OpenFile) (b : Bool) → bytes_eq o.name e.name ≡ b → (b ≡ true → IsBehind e o.offset) → drop (by_name o b).offset (bytes_of after (by_name o b).name) ≡ drop o.offset (bytes_of before o.name)
    rests_by o true is behind =
        let name : o.name ≡ e.name = (bytes_decides o.name e.name).0 is in
        ap (λ a. drop (shifted e o.offset) (bytes_of after a)) name
        ∙ ap (λ held. drop (shifted e o.offset) (unwrap_or held [])) edit.here
        ∙ shifted_rest (bytes_of before e.name) e.put e.place e.removed o.offset edit.place (behind refl)
        ∙ ap (λ a. drop o.offset (bytes_of before a)) (sym name)
    rests_by o false is behind = ap (λ held. drop o.offset (unwrap_or held [])) (same_other o.name is)
      where
        same_other : (name : List ℕ) → bytes_eq name e.name ≡ false → content after name ≡ content before name
        same_other name other = edit.others name (λ same. true≢false (sym ((bytes_decides name e.name).1 same) ∙ other))

    shift_kin : IsKin before after (FileShifts e) (NoteShifts e) (IsOther e.name)
    shift_kin = record {
      names = λ o p r. ap (λ (f : OpenFile). f.name) r.is ∙ name_same o (bytes_eq o.name e.name);
      rests = λ o p r. ap (λ (f : OpenFile). drop f.offset (bytes_of after f.name)) r.is ∙ rests_by o (bytes_eq o.name e.name) refl r.behind;
      moves = λ o p r n within. record {
        behind = λ is. (let past : e.place + e.removed ≤ o.offset = r.behind is in omega arith);
        is = ap (λ (f : OpenFile). record f { offset = f.offset + n }) r.is ∙ moved_by o n (bytes_eq o.name e.name) r.behind;
      };
      lines = λ o p r n within. (
        λ is. (let past : e.place + e.removed ≤ o.offset = r.behind is in omega arith),
        ap {B = Note} (λ (f : OpenFile). record { name = f.name; sight = Line (f.offset + n) }) r.is ∙ line_by o n (bytes_eq o.name e.name) r.behind,
      );
      ends = λ o p r. (λ is. tt, ap {B = Note} (λ (f : OpenFile). record { name = f.name; sight = End }) r.is ∙ end_by o (bytes_eq o.name e.name));
      same = λ name other. edit.others name (λ same. true≢false (sym ((bytes_decides name e.name).1 same) ∙ other));
      opened = λ name other bytes there. record {
        behind = λ is. absurd (true≢false (sym is ∙ other));
        is = sym (ap (by_name (record { name = name; offset = 0 })) other);
      };
      asked = λ name sight other asks. (
        λ is. absurd (true≢false (sym is ∙ other)),
        sym (ap {B = Note} (λ b. cond b (record { name = name; sight = shifted_sight e sight }) (record { name = name; sight = sight })) other),
      );
    }

    -- open files that all stand behind the edit
    zip_shifted : (opens : List OpenFile) → All (FileBehind e) opens → AllZip (FileShifts e) opens (shifted_opens e opens)
    zip_shifted [] behind = tt
    zip_shifted (file ∷ opens) behind = (record { behind = behind 0 file (omega arith); is = refl }, zip_shifted opens (λ k d below. behind (suc k) d (omega arith)))

    opens_shifted : (olds news : List OpenFile) → AllZip (FileShifts e) olds news → news ≡ shifted_opens e olds
    opens_shifted olds news zip = zip-is (FileShifts e) (shifted_file e) (λ o p r. r.is) olds news zip

    module _ {S : Type 0} (m : Formatter S) (budget : ℕ) where
      page_shifted : (p q : PageRow S) → PageKin (FileShifts e) (ReadsShift e) p q → q ≡ carried_page (Edit e ∷ []) p
      page_shifted p q same =
          let opens : q.row.opens ≡ shifted_opens e p.row.opens = opens_shifted p.row.opens q.row.opens same.opens in
          λ i. record { body = same.body i; piece = same.piece i; row = record { turns = same.turns i; seen = same.seen.0 i; opens = opens i; state = same.state i } }

      last_shifted : (l k : Last) → LastKin (FileShifts e) (ReadsShift e) after l k → k ≡ last_now after (Edit e ∷ []) l
      last_shifted l k same =
          let opens : k.opens ≡ shifted_opens e l.opens = opens_shifted l.opens k.opens same.opens in
          let end = same.end ∙ ap (λ now. (last_with now).end) opens in
          λ i. record { piece = same.piece i; turns = same.turns i; seen = same.seen.0 i; opens = opens i; end = end i }
        where
          last_with : List OpenFile → Last
          last_with now = record l { end = end_now after now l.end }

      -- the run behind the edit
      pub moved-kin : (pages : ℕ) (state : S) (opens : List OpenFile) → All (FileBehind e) opens → rest_asks (rows_in (rows_from m before budget pages state opens).pages) (rows_from m before budget pages state opens).last e.name ≡ false
          → HistoryKin (FileShifts e) (ReadsShift e) after (rows_from m before budget pages state opens) (rows_from m after budget pages state (shifted_opens e opens))
      moved-kin pages state opens behind none =
          kin-rows m shift_kin (ReadsShift e) (λ log later zip. reads-shifted e log later zip) budget pages state state opens (shifted_opens e opens) refl (zip_shifted opens behind)
          (others-asked (rows_from m before budget pages state opens) e.name none)

      pub moved-rows : (pages : ℕ) (state : S) (opens : List OpenFile) → All (FileBehind e) opens → rest_asks (rows_in (rows_from m before budget pages state opens).pages) (rows_from m before budget pages state opens).last e.name ≡ false
          → rows_from m after budget pages state (shifted_opens e opens)
          ≡ record { pages = map (carried_page (Edit e ∷ [])) (rows_from m before budget pages state opens).pages; last = last_now after (Edit e ∷ []) (rows_from m before budget pages state opens).last }
      moved-rows pages state opens behind none =
          let kin = moved-kin pages state opens behind none in
          λ i. record {
            pages = zip-is (PageKin (FileShifts e) (ReadsShift e)) (carried_page (Edit e ∷ [])) page_shifted _ _ kin.pages i;
            last = last_shifted _ _ kin.last i;
          }
