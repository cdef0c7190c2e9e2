-- What changes leave of the reads of a stretch they leave of each sight that the stretch had.
use Rattle.std.proofs.Common.{◌≡◌, ℕ, Bool, true, false, cond, List, [], ◌∷◌, ◌++◌, Option, Some, None, refl, sym, ap, ◌∙◌, true≢false, arith}
use Rattle.std.specs.Ordering.{nat_cmp, eq_by_cmp}
use Rattle.std.specs.Cmp.Lexicographic.{slice_cmp, same_text, nat_list_cmp_total, bytes_decides}
use Rattle.std.specs.FinMap.{get, get-insert, empty}
use Rattle.std.proofs.lemmas.Bool.{and_parts}
use Rattle.std.proofs.lemmas.Map.Text.{is_eq-slice_cmp}
use Rattle.tx_files.specs.Changes.{name_of}
use Rattle.tx_files.specs.declared.edit.Change.{Change}
use Rattle.tx_files.specs.declared.edit.Change.TheVariants.{Edit, Remove}
use Rattle.tx_files.specs.declared.reads.Sight.{Sight}
use Rattle.tx_files.specs.declared.reads.Extent.{Extent}
use Rattle.tx_files.specs.declared.reads.Extent.TheVariants.{Absent, Upto, Whole}
use Rattle.tx_files.specs.declared.reads.FileReads.{FileReads}
use Rattle.tx_files.specs.declared.reads.Note.{Note}
use Rattle.tx_files.specs.Reads.{Reads, together, extent_of, seen_more, noted, noting, reads_of, lies_before, leaves, is_unseen, untouched_by, untouched}

-- whether a change leaves what was read of its file: an edit what lies before its place, a removal nothing
abbrev pub spared : Change → Extent → Bool
spared (Edit e) extent = lies_before extent e.place
spared (Remove name) extent = false

abbrev pub leaves_by : Change → Option FileReads → Bool
leaves_by c None = true
leaves_by c (Some reads) = spared c reads.extent

untouched-is : (reads : Reads) (c : Change) → untouched_by reads c ≡ leaves_by c (get reads (name_of c))
untouched-is reads (Edit e) = by (get reads e.name)
  where
    by : (held : Option FileReads) → leaves held e.place ≡ leaves_by (Edit e) held
    by None = refl
    by (Some held) = refl
untouched-is reads (Remove name) = by (get reads name)
  where
    by : (held : Option FileReads) → is_unseen held ≡ leaves_by (Remove name) held
    by None = refl
    by (Some held) = refl

-- a sight of the changed file is one that the change leaves
abbrev pub IsLeftBy : Change → Note → Type 0
IsLeftBy c note = note.name ≡ name_of c → spared c (extent_of note.sight) ≡ true

abbrev pub AreLeftBy : Change → List Note → Type 0
AreLeftBy c [] = Unit {0}
AreLeftBy c (note ∷ log) = IsLeftBy c note × AreLeftBy c log

left_front : (c : Change) (log later : List Note) → AreLeftBy c (log ++ later) → AreLeftBy c log
left_front c [] later left = tt
left_front c (note ∷ log) later left = (left.0, left_front c log later left.1)

left_back : (c : Change) (log later : List Note) → AreLeftBy c (log ++ later) → AreLeftBy c later
left_back c [] later left = left
left_back c (note ∷ log) later left = left_back c log later left.1

-- each change of a list leaves all sights
abbrev pub AreLeft : List Change → List Note → Type 0
AreLeft [] log = Unit {0}
AreLeft (c ∷ changes) log = AreLeftBy c log × AreLeft changes log

pub AreLeft-front : (changes : List Change) (log later : List Note) → AreLeft changes (log ++ later) → AreLeft changes log
AreLeft-front [] log later left = tt
AreLeft-front (c ∷ changes) log later left = (left_front c log later left.0, AreLeft-front changes log later left.1)

pub AreLeft-back : (changes : List Change) (log later : List Note) → AreLeft changes (log ++ later) → AreLeft changes later
AreLeft-back [] log later left = tt
AreLeft-back (c ∷ changes) log later left = (left_back c log later left.0, AreLeft-back changes log later left.1)

-- both of two readings lie before a place before which they lie together
both_lie : (first later : Extent) (place : ℕ) → lies_before (together first later) place ≡ true → (lies_before first place ≡ true) × (lies_before later place ≡ true)
both_lie Absent later place h = absurd (true≢false (sym h))
both_lie Whole Absent place h = absurd (true≢false (sym h))
both_lie Whole (Upto n) place h = absurd (true≢false (sym h))
both_lie Whole Whole place h = absurd (true≢false (sym h))
both_lie (Upto n) Absent place h = absurd (true≢false (sym h))
both_lie (Upto n) (Upto k) place h = (grind arith, grind arith)
both_lie (Upto n) Whole place h = absurd (true≢false (sym h))

both_spared : (c : Change) (first later : Extent) → spared c (together first later) ≡ true → (spared c first ≡ true) × (spared c later ≡ true)
both_spared (Edit e) first later h = both_lie first later e.place h
both_spared (Remove name) first later h = absurd (true≢false (sym h))

more_spared : (c : Change) (held : Option FileReads) (sight : Sight) → spared c (seen_more held sight).extent ≡ true → (leaves_by c held ≡ true) × (spared c (extent_of sight) ≡ true)
more_spared c None sight h = (refl, h)
more_spared c (Some reads) sight h = both_spared c reads.extent (extent_of sight) h

same_name : (a b : List ℕ) → a ≡ b → eq_by_cmp (slice_cmp nat_cmp) a b ≡ true
same_name a b same = is_eq-slice_cmp a b ∙ (bytes_decides a b).1 same

note_left : (reads : Reads) (note : Note) (c : Change) → leaves_by c (get (noted reads note) (name_of c)) ≡ true → (leaves_by c (get reads (name_of c)) ≡ true) × IsLeftBy c note
note_left reads note c h =
    by (eq_by_cmp (slice_cmp nat_cmp) (name_of c) note.name) refl (sym (ap (λ o. leaves_by c o) (get-insert nat_list_cmp_total reads note.name (seen_more (get reads note.name) note.sight) (name_of c))) ∙ h)
  where
    by : (b : Bool) → eq_by_cmp (slice_cmp nat_cmp) (name_of c) note.name ≡ b → leaves_by c (cond b (Some (seen_more (get reads note.name) note.sight)) (get reads (name_of c))) ≡ true
        → (leaves_by c (get reads (name_of c)) ≡ true) × IsLeftBy c note
    by true is left =
        let name : name_of c ≡ note.name = same_text (name_of c) note.name (sym (sym (is_eq-slice_cmp (name_of c) note.name) ∙ is)) in
        let both : (leaves_by c (get reads note.name) ≡ true) × (spared c (extent_of note.sight) ≡ true) = more_spared c (get reads note.name) note.sight left in
        (ap (λ a. leaves_by c (get reads a)) name ∙ both.0, λ _. both.1)
    by false is left = (left, λ same. absurd (true≢false (sym (same_name (name_of c) note.name (sym same)) ∙ is)))

notes_left : (reads : Reads) (log : List Note) (c : Change) → leaves_by c (get (noting reads log) (name_of c)) ≡ true → (leaves_by c (get reads (name_of c)) ≡ true) × AreLeftBy c log
notes_left reads [] c h = (h, tt)
notes_left reads (note ∷ log) c h =
    let later : (leaves_by c (get (noted reads note) (name_of c)) ≡ true) × AreLeftBy c log = notes_left (noted reads note) log c h in
    let first : (leaves_by c (get reads (name_of c)) ≡ true) × IsLeftBy c note = note_left reads note c later.0 in
    (first.0, (first.1, later.1))

pub untouched-left : (log : List Note) (changes : List Change) → untouched (reads_of log) changes ≡ true → AreLeft changes log
untouched-left log [] h = tt
untouched-left log (c ∷ changes) h =
    let parts = and_parts (untouched_by (reads_of log) c) (untouched (reads_of log) changes) h in
    ((notes_left empty log c (sym (untouched-is (reads_of log) c) ∙ parts.0)).1, untouched-left log changes parts.1)
