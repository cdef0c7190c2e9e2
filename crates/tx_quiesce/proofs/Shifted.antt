-- What was read behind an edit is read behind it on the edited files, moved with the bytes.
use Rattle.std.proofs.Common.{◌≡◌, ℕ, Bool, true, false, cond, ◌||◌, max, List, [], ◌∷◌, Option, Some, None, refl, sym, ap, ◌∙◌, subst, arith, true≢false}
use Rattle.std.specs.Ordering.{nat_cmp, eq_by_cmp}
use Rattle.std.specs.Cmp.Lexicographic.{slice_cmp, nat_list_cmp_total, bytes_decides}
use Rattle.std.specs.FinMap.{get, empty, get-insert, get-empty, same_map, slice_cmp-IsAntisymmetric, nat_cmp-IsAntisymmetric}
use Rattle.std.specs.List.{AllZip}
use Rattle.std.specs.Str.{bytes_eq}
use Rattle.std.proofs.lemmas.Map.Text.{is_eq-slice_cmp}
use Rattle.tx_files.specs.declared.edit.Edit.{Edit}
use Rattle.tx_files.specs.declared.reads.Extent.{Extent}
use Rattle.tx_files.specs.declared.reads.Extent.TheVariants.{Absent, Upto, Whole}
use Rattle.tx_files.specs.declared.reads.FileReads.{FileReads}
use Rattle.tx_files.specs.declared.reads.Note.{Note}
use Rattle.tx_files.specs.declared.reads.Sight.{Sight}
use Rattle.tx_files.specs.declared.reads.Sight.TheVariants.{Absent as NotThere, Opened, Line, End, Whole as Taken}
use Rattle.tx_files.specs.Reads.{Reads, together, extent_of, is_asked, seen_more, noted, noting, reads_of, was_asked, asks_for}
use Rattle.tx_files.specs.Shift.{shifted, IsBehind, shifted_extent, shifted_by, shifted_reads}

-- what a line shows of the edited file, moved
abbrev pub shifted_sight : Edit → Sight → Sight
shifted_sight e NotThere = NotThere
shifted_sight e Opened = Opened
shifted_sight e (Line end) = Line (shifted e end)
shifted_sight e End = End
shifted_sight e Taken = Taken

abbrev pub shifted_note : Edit → Note → Note
shifted_note e note = cond (bytes_eq note.name e.name) (record note { sight = shifted_sight e note.sight }) note

-- the edited file is seen behind the edit alone, and isn't asked for
abbrev pub SightBehind : Edit → Sight → Type 0
SightBehind e NotThere = ⊥
SightBehind e Opened = ⊥
SightBehind e (Line end) = IsBehind e end
SightBehind e End = Unit {0}
SightBehind e Taken = ⊥

abbrev pub NoteBehind : Edit → Note → Type 0
NoteBehind e note = bytes_eq note.name e.name ≡ true → SightBehind e note.sight

abbrev pub ExtentBehind : Edit → Extent → Type 0
ExtentBehind e Absent = Unit {0}
ExtentBehind e (Upto n) = IsBehind e n
ExtentBehind e Whole = Unit {0}

abbrev pub HeldBehind : Edit → Option FileReads → Type 0
HeldBehind e None = Unit {0}
HeldBehind e (Some held) = ExtentBehind e held.extent

abbrev shifted_held : Edit → Option FileReads → Option FileReads
shifted_held e None = None
shifted_held e (Some held) = Some (record held { extent = shifted_extent e held.extent })

-- the keys of a map are told apart as texts are
told : (a b : List ℕ) → eq_by_cmp (slice_cmp nat_cmp) a b ≡ bytes_eq a b
told a b = is_eq-slice_cmp a b

module _ (e : Edit) where
  get_shifted : (reads : Reads) (q : List ℕ) → get (shifted_reads e reads) q ≡ cond (bytes_eq q e.name) (shifted_held e (get reads e.name)) (get reads q)
  get_shifted reads q = by (get reads e.name) refl
    where
      none : (b : Bool) → bytes_eq q e.name ≡ b → get reads e.name ≡ None → get reads q ≡ cond b None (get reads q)
      none true is there = ap (get reads) ((bytes_decides q e.name).0 is) ∙ there
      none false is there = refl

      by : (held : Option FileReads) → get reads e.name ≡ held → get (shifted_by e reads held) q ≡ cond (bytes_eq q e.name) (shifted_held e held) (get reads q)
      by None is = none (bytes_eq q e.name) refl is
      by (Some held) is =
          get-insert nat_list_cmp_total reads e.name (record held { extent = shifted_extent e held.extent }) q
          ∙ ap (λ b. cond b (Some (record held { extent = shifted_extent e held.extent })) (get reads q)) (told q e.name)

  -- the same files were asked for
  held_asked : (held : Option FileReads) → was_asked (shifted_held e held) ≡ was_asked held
  held_asked None = refl
  held_asked (Some held) = refl

  pub asks-shifted : (reads : Reads) (q : List ℕ) → asks_for (shifted_reads e reads) q ≡ asks_for reads q
  asks-shifted reads q = ap was_asked (get_shifted reads q) ∙ by (bytes_eq q e.name) refl
    where
      by : (b : Bool) → bytes_eq q e.name ≡ b → was_asked (cond b (shifted_held e (get reads e.name)) (get reads q)) ≡ was_asked (get reads q)
      by true is = held_asked (get reads e.name) ∙ ap (λ name. was_asked (get reads name)) (sym ((bytes_decides q e.name).0 is))
      by false is = refl

  -- to see more of the edited file
  together_shifted : (first later : Extent) → together (shifted_extent e first) (shifted_extent e later) ≡ shifted_extent e (together first later)
  together_shifted Absent later = refl
  together_shifted Whole Absent = refl
  together_shifted Whole (Upto n) = refl
  together_shifted Whole Whole = refl
  together_shifted (Upto n) Absent = refl
  together_shifted (Upto n) (Upto k) = let most : max (shifted e n) (shifted e k) ≡ shifted e (max n k) = omega arith in ap Upto most
  together_shifted (Upto n) Whole = refl

  extent_shifted : (sight : Sight) → SightBehind e sight → extent_of (shifted_sight e sight) ≡ shifted_extent e (extent_of sight)
  extent_shifted NotThere behind = refl
  extent_shifted Opened behind = absurd behind
  extent_shifted (Line end) behind = refl
  extent_shifted End behind = refl
  extent_shifted Taken behind = refl

  asked_shifted : (sight : Sight) → is_asked (shifted_sight e sight) ≡ is_asked sight
  asked_shifted NotThere = refl
  asked_shifted Opened = refl
  asked_shifted (Line end) = refl
  asked_shifted End = refl
  asked_shifted Taken = refl

  more_shifted : (held : Option FileReads) (sight : Sight) → SightBehind e sight → Some (seen_more (shifted_held e held) (shifted_sight e sight)) ≡ shifted_held e (Some (seen_more held sight))
  more_shifted None sight behind = λ i. Some (record { extent = extent_shifted sight behind i; asked = asked_shifted sight i })
  more_shifted (Some held) sight behind =
      let both : together (shifted_extent e held.extent) (extent_of (shifted_sight e sight)) ≡ shifted_extent e (together held.extent (extent_of sight)) =
      ap (together (shifted_extent e held.extent)) (extent_shifted sight behind) ∙ together_shifted held.extent (extent_of sight) in
      λ i. Some (record { extent = both i; asked = held.asked || asked_shifted sight i })

  -- a note more
  get_noted : (reads : Reads) (note : Note) (q : List ℕ) → get (noted reads note) q ≡ cond (bytes_eq q note.name) (Some (seen_more (get reads note.name) note.sight)) (get reads q)
  get_noted reads note q =
      get-insert nat_list_cmp_total reads note.name (seen_more (get reads note.name) note.sight) q
      ∙ ap (λ b. cond b (Some (seen_more (get reads note.name) note.sight)) (get reads q)) (told q note.name)

  same_itself : (name : List ℕ) → bytes_eq name name ≡ true
  same_itself name = (bytes_decides name name).1 refl

  apart : (a b : List ℕ) → bytes_eq a b ≡ false → bytes_eq b a ≡ false
  apart a b is = by (bytes_eq b a) refl
    where
      by : (c : Bool) → bytes_eq b a ≡ c → bytes_eq b a ≡ false
      by true same = absurd (true≢false (sym (same_itself a) ∙ ap (bytes_eq a) (sym ((bytes_decides b a).0 same)) ∙ is))
      by false other = other

  -- of the edited file
  here_shifted : (reads : Reads) (sight : Sight) → SightBehind e sight → (q : List ℕ)
      → get (noted (shifted_reads e reads) (record { name = e.name; sight = shifted_sight e sight })) q ≡ get (shifted_reads e (noted reads (record { name = e.name; sight = sight }))) q
  here_shifted reads sight behind q =
      let old : get (shifted_reads e reads) e.name ≡ shifted_held e (get reads e.name) =
      get_shifted reads e.name ∙ ap (λ b. cond b (shifted_held e (get reads e.name)) (get reads e.name)) (same_itself e.name) in
      let new : get (noted reads (record { name = e.name; sight = sight })) e.name ≡ Some (seen_more (get reads e.name) sight) =
      get_noted reads (record { name = e.name; sight = sight }) e.name ∙ ap (λ b. cond b (Some (seen_more (get reads e.name) sight)) (get reads e.name)) (same_itself e.name) in
      get_noted (shifted_reads e reads) (record { name = e.name; sight = shifted_sight e sight }) q
      ∙ (λ i. cond (bytes_eq q e.name) (Some (seen_more (old i) (shifted_sight e sight))) (get_shifted reads q i))
      ∙ by (bytes_eq q e.name)
      ∙ sym (get_shifted (noted reads (record { name = e.name; sight = sight })) q ∙ (λ i. cond (bytes_eq q e.name) (shifted_held e (new i)) (get_noted reads (record { name = e.name; sight = sight }) q i)))
    where
      by : (b : Bool) → cond b (Some (seen_more (shifted_held e (get reads e.name)) (shifted_sight e sight))) (cond b (shifted_held e (get reads e.name)) (get reads q))
          ≡ cond b (shifted_held e (Some (seen_more (get reads e.name) sight))) (cond b (Some (seen_more (get reads e.name) sight)) (get reads q))
      by true = more_shifted (get reads e.name) sight behind
      by false = refl

  -- of another file
  other_shifted : (reads : Reads) (note : Note) → bytes_eq note.name e.name ≡ false → (q : List ℕ) → get (noted (shifted_reads e reads) note) q ≡ get (shifted_reads e (noted reads note)) q
  other_shifted reads note other q =
      let old : get (shifted_reads e reads) note.name ≡ get reads note.name =
      get_shifted reads note.name ∙ ap (λ b. cond b (shifted_held e (get reads e.name)) (get reads note.name)) other in
      let new : get (noted reads note) e.name ≡ get reads e.name =
      get_noted reads note e.name ∙ ap (λ b. cond b (Some (seen_more (get reads note.name) note.sight)) (get reads e.name)) (apart note.name e.name other) in
      get_noted (shifted_reads e reads) note q
      ∙ (λ i. cond (bytes_eq q note.name) (Some (seen_more (old i) note.sight)) (get_shifted reads q i))
      ∙ by (bytes_eq q note.name) (bytes_eq q e.name) refl refl
      ∙ sym (get_shifted (noted reads note) q ∙ (λ i. cond (bytes_eq q e.name) (shifted_held e (new i)) (get_noted reads note q i)))
    where
      by : (b c : Bool) → bytes_eq q note.name ≡ b → bytes_eq q e.name ≡ c
          → cond b (Some (seen_more (get reads note.name) note.sight)) (cond c (shifted_held e (get reads e.name)) (get reads q))
          ≡ cond c (shifted_held e (get reads e.name)) (cond b (Some (seen_more (get reads note.name) note.sight)) (get reads q))
      by true true is too = absurd (true≢false (sym too ∙ ap (λ name. bytes_eq name e.name) ((bytes_decides q note.name).0 is) ∙ other))
      by true false is too = refl
      by false true is too = refl
      by false false is too = refl

  noted_shifted : (reads : Reads) (note : Note) → NoteBehind e note → noted (shifted_reads e reads) (shifted_note e note) ≡ shifted_reads e (noted reads note)
  noted_shifted reads note behind = by (bytes_eq note.name e.name) refl
    where
      alike : (n : Note) → ((q : List ℕ) → get (noted (shifted_reads e reads) n) q ≡ get (shifted_reads e (noted reads note)) q) → noted (shifted_reads e reads) n ≡ shifted_reads e (noted reads note)
      alike n same = same_map nat_list_cmp_total (slice_cmp-IsAntisymmetric nat_cmp-IsAntisymmetric) _ _ same

      by : (b : Bool) → bytes_eq note.name e.name ≡ b → noted (shifted_reads e reads) (cond b (record note { sight = shifted_sight e note.sight }) note) ≡ shifted_reads e (noted reads note)
      by true is =
          let name : e.name ≡ note.name = sym ((bytes_decides note.name e.name).0 is) in
          alike (record note { sight = shifted_sight e note.sight })
          (λ q. subst (λ a. get (noted (shifted_reads e reads) (record { name = a; sight = shifted_sight e note.sight })) q ≡ get (shifted_reads e (noted reads (record { name = a; sight = note.sight }))) q) name
          (here_shifted reads note.sight (behind is) q))
      by false is = alike note (λ q. other_shifted reads note is q)

  -- what is noted stands behind the edit
  both_behind : (first later : Extent) → ExtentBehind e first → ExtentBehind e later → ExtentBehind e (together first later)
  both_behind Absent later a b = tt
  both_behind Whole Absent a b = tt
  both_behind Whole (Upto n) a b = tt
  both_behind Whole Whole a b = tt
  both_behind (Upto n) Absent a b = tt
  both_behind (Upto n) (Upto k) a b = omega arith
  both_behind (Upto n) Whole a b = tt

  extent_behind : (sight : Sight) → SightBehind e sight → ExtentBehind e (extent_of sight)
  extent_behind NotThere behind = tt
  extent_behind Opened behind = absurd behind
  extent_behind (Line end) behind = behind
  extent_behind End behind = tt
  extent_behind Taken behind = tt

  more_behind : (held : Option FileReads) (sight : Sight) → HeldBehind e held → SightBehind e sight → HeldBehind e (Some (seen_more held sight))
  more_behind None sight held behind = extent_behind sight behind
  more_behind (Some reads) sight held behind = both_behind reads.extent (extent_of sight) held (extent_behind sight behind)

  noted_behind : (reads : Reads) (note : Note) → HeldBehind e (get reads e.name) → NoteBehind e note → HeldBehind e (get (noted reads note) e.name)
  noted_behind reads note held behind = subst (HeldBehind e) (sym (get_noted reads note e.name)) (by (bytes_eq e.name note.name) refl)
    where
      by : (b : Bool) → bytes_eq e.name note.name ≡ b → HeldBehind e (cond b (Some (seen_more (get reads note.name) note.sight)) (get reads e.name))
      by true is =
          let name : e.name ≡ note.name = (bytes_decides e.name note.name).0 is in
          more_behind (get reads note.name) note.sight (subst (λ a. HeldBehind e (get reads a)) name held) (behind (ap (λ a. bytes_eq a e.name) (sym name) ∙ same_itself e.name))
      by false is = held

  -- a log, and all that was read
  abbrev pub NoteShifts : Note → Note → Type 0
  NoteShifts note new = NoteBehind e note × (new ≡ shifted_note e note)

  noting_shifted : (reads : Reads) (log later : List Note) → HeldBehind e (get reads e.name) → AllZip NoteShifts log later
      → (noting (shifted_reads e reads) later ≡ shifted_reads e (noting reads log)) × HeldBehind e (get (noting reads log) e.name)
  noting_shifted reads [] [] held zip = (refl, held)
  noting_shifted reads [] (new ∷ later) held zip = absurd zip
  noting_shifted reads (note ∷ log) [] held zip = absurd zip
  noting_shifted reads (note ∷ log) (new ∷ later) held zip =
      let first : noted (shifted_reads e reads) new ≡ shifted_reads e (noted reads note) = ap (noted (shifted_reads e reads)) zip.0.1 ∙ noted_shifted reads note zip.0.0 in
      let rest = noting_shifted (noted reads note) log later (noted_behind reads note held zip.0.0) zip.1 in
      (ap (λ r. noting r later) first ∙ rest.0, rest.1)

  abbrev pub ReadsShift : Reads → Reads → Type 0
  ReadsShift reads new = (new ≡ shifted_reads e reads) × HeldBehind e (get reads e.name)

  pub reads-shifted : (log later : List Note) → AllZip NoteShifts log later → ReadsShift (reads_of log) (reads_of later)
  reads-shifted log later zip =
      let none : shifted_reads e empty ≡ empty = ap (shifted_by e empty) (get-empty (slice_cmp nat_cmp) e.name) in
      let nothing : HeldBehind e (get empty e.name) = subst (HeldBehind e) (sym (get-empty (slice_cmp nat_cmp) e.name)) tt in
      let both = noting_shifted empty log later nothing zip in
      (ap (λ r. noting r later) (sym none) ∙ both.0, both.1)
