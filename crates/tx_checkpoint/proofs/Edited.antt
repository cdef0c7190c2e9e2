-- What an edit leaves of the sights of a turn, it leaves of the replies in it.
use Rattle.std.proofs.Common.{◌≡◌, ◌≢◌, ℕ, ◌+◌, ◌≤◌, Bool, true, false, cond, ◌⊎◌, inl, inr, ⊎_elim, List, [], ◌∷◌, ◌++◌, length, take, drop, Option, Some, None, refl, sym, ap, ◌∙◌, arith, true≢false, append_assoc, unwrap_or, length-take}
use Rattle.std.specs.Ordering.{nat_cmp, eq_by_cmp}
use Rattle.std.specs.Cmp.Lexicographic.{slice_cmp, same_text, nat_list_cmp_total, bytes_decides}
use Rattle.std.specs.Str.{bytes_eq}
use Rattle.std.specs.FinMap.{get-insert}
use Rattle.std.proofs.lemmas.Bool.{leb-true}
use Rattle.std.proofs.lemmas.Map.Text.{is_eq-slice_cmp}
use Rattle.std.proofs.lemmas.List.{take-append-drop, take-append-le}
use Rattle.tx_bytes.specs.Files.{Files, content}
use Rattle.tx_files.specs.declared.edit.Edit.{Edit as FileEdit}
use Rattle.tx_files.specs.declared.edit.Change.TheVariants.{Edit}
use Rattle.tx_files.specs.declared.line.NextLine.{NextLine}
use Rattle.tx_files.specs.declared.line.NextLine.TheVariants.{Line as LineTo, End as AtEnd}
use Rattle.tx_files.specs.declared.reads.Note.{Note}
use Rattle.tx_files.specs.declared.reads.Sight.TheVariants.{Opened, Whole as WholeSeen}
use Rattle.tx_files.specs.Edits.{spliced, edited, fits_in}
use Rattle.tx_files.specs.Lines.{next_line_at}
use Rattle.tx_files.specs.Reads.{extent_of, lies_before}
use Rattle.tx_event.specs.declared.types.Ask.{Ask}
use Rattle.tx_event.specs.declared.types.Ask.TheVariants.{Open, Line, Close, Whole}
use Rattle.tx_machine.specs.declared.types.OpenFile.{OpenFile}
use Rattle.tx_event.specs.declared.types.Reply.TheVariants.{Line as Told}
use Rattle.tx_machine.specs.Notes.{notes_of, line_notes, line_sight, found_sight}
use Rattle.tx_machine.specs.Opens.{bytes_of, innermost, moved_to, opening, reading_on, reading, whole, reply_to}
use Rattle.tx_checkpoint.proofs.Lines.{SameLine, line_in_front}
use Rattle.tx_checkpoint.proofs.Untouched.{AreLeftBy}

-- the files before and after an edit that fits
pub record Edited (before after : Files) (e : FileEdit) : Type 0 where
  pub here : content after e.name ≡ Some (spliced (bytes_of before e.name) e.place e.removed e.put)
  pub others : (name : List ℕ) → name ≢ e.name → content after name ≡ content before name
  pub place : e.place ≤ length (bytes_of before e.name)

pub known : (a b : List ℕ) → (a ≡ b) ⊎ (a ≢ b)
known a b = by (bytes_eq a b) refl
  where
    by : (c : Bool) → bytes_eq a b ≡ c → (a ≡ b) ⊎ (a ≢ b)
    by true e = inl (same_text a b (sym e))
    by false e = inr (λ same. true≢false (sym ((bytes_decides a b).1 same) ∙ e))

pub edited-is : (files : Files) (e : FileEdit) → fits_in files e ≡ true → Edited files (edited files e) e
edited-is files e fits =
    let put : List ℕ = spliced (bytes_of files e.name) e.place e.removed e.put in
    record {
      here = get-insert nat_list_cmp_total files e.name put e.name ∙ ap (λ b. cond b (Some put) (content files e.name)) (is_eq-slice_cmp e.name e.name ∙ (bytes_decides e.name e.name).1 refl);
      others = λ name other. get-insert nat_list_cmp_total files e.name put name ∙ not_it put name other (eq_by_cmp (slice_cmp nat_cmp) name e.name) refl;
      place = let within : e.place + e.removed ≤ length (bytes_of files e.name) = leb-true _ _ fits in omega arith;
    }
  where
    not_it : (put name : List ℕ) → name ≢ e.name → (b : Bool) → eq_by_cmp (slice_cmp nat_cmp) name e.name ≡ b → cond b (Some put) (content files name) ≡ content files name
    not_it put name other true is = absurd (other (same_text name e.name (sym (sym (is_eq-slice_cmp name e.name) ∙ is))))
    not_it put name other false is = refl

-- the reply to an ask, and what it shows, are the same
pub record SameAsk (before after : Files) (opens : List OpenFile) (ask : Ask) : Type 0 where
  pub reply : reply_to after opens ask ≡ reply_to before opens ask
  pub notes : notes_of after opens ask ≡ notes_of before opens ask

-- the bytes before the place are the same
module _ {before after : Files} {e : FileEdit} (edit : Edited before after e) where
  abbrev front : List ℕ
  front = take e.place (bytes_of before e.name)

  abbrev old : List ℕ
  old = drop e.place (bytes_of before e.name)

  abbrev new : List ℕ
  new = e.put ++ drop (e.place + e.removed) (bytes_of before e.name)

  front_length : length front ≡ e.place
  front_length = let within : e.place ≤ length (bytes_of before e.name) = edit.place in length-take e.place (bytes_of before e.name) ∙ omega arith

  before_is : front ++ old ≡ bytes_of before e.name
  before_is = take-append-drop e.place (bytes_of before e.name)

  after_is : bytes_of after e.name ≡ front ++ new
  after_is = ap (λ o. unwrap_or o []) edit.here ∙ append_assoc front e.put _

  -- a sight of a file that is found, where the edit leaves it
  open_same : (opens : List OpenFile) (name bytes : List ℕ) (held : Option (List ℕ)) → lies_before (extent_of (found_sight Opened held)) e.place ≡ true
      → (opening opens name (Some bytes) ≡ opening opens name held) × (found_sight Opened (Some bytes) ≡ found_sight Opened held)
  open_same opens name bytes None left = absurd (true≢false (sym left))
  open_same opens name bytes (Some it) left = (refl, refl)

  never_whole : (held : Option (List ℕ)) → lies_before (extent_of (found_sight WholeSeen held)) e.place ≡ true → ⊥
  never_whole None left = true≢false (sym left)
  never_whole (Some it) left = true≢false (sym left)

  line_same : (opens : List OpenFile) (file : OpenFile) (line : NextLine) → next_line_at (front ++ old) file.offset ≡ line → lies_before (extent_of (line_sight line)) e.place ≡ true
      → (reading_on opens file (front ++ new) (next_line_at (front ++ new) file.offset) ≡ reading_on opens file (front ++ old) line) × (next_line_at (front ++ new) file.offset ≡ line)
  line_same opens file AtEnd is left = absurd (true≢false (sym left))
  line_same opens file (LineTo end false) is left = absurd (true≢false (sym left))
  line_same opens file (LineTo end true) is left =
      let within : end ≤ length front = (let lies : end ≤ e.place = leb-true _ _ left in rw front_length lies) in
      let same : SameLine (front ++ old) (front ++ new) file.offset end = line_in_front front old new file.offset end is within in
      (ap (reading_on opens file (front ++ new)) same.line ∙ ap (λ bytes. record { reply = Told bytes; opens = moved_to opens file end }) same.bytes, same.line)

  same_open : (opens : List OpenFile) (name : List ℕ) → AreLeftBy (Edit e) (notes_of before opens (Open name)) → SameAsk before after opens (Open name)
  same_open opens name left = ⊎_elim it other (known name e.name)
    where
      it : name ≡ e.name → SameAsk before after opens (Open name)
      it same =
          let there : content after name ≡ Some (front ++ e.put ++ drop (e.place + e.removed) (bytes_of before e.name)) = ap (content after) same ∙ edit.here in
          let both = open_same opens name (front ++ e.put ++ drop (e.place + e.removed) (bytes_of before e.name)) (content before name) (left.0 same) in
          record {
            reply = ap (opening opens name) there ∙ both.0;
            notes = λ i. record { name = name; sight = (ap (found_sight Opened) there ∙ both.1) i } ∷ [];
          }

      other : name ≢ e.name → SameAsk before after opens (Open name)
      other not = record {
        reply = ap (opening opens name) (edit.others name not);
        notes = ap (λ held. record { name = name; sight = found_sight Opened held } ∷ []) (edit.others name not);
      }

  same_whole : (opens : List OpenFile) (name : List ℕ) → AreLeftBy (Edit e) (notes_of before opens (Whole name)) → SameAsk before after opens (Whole name)
  same_whole opens name left = ⊎_elim it other (known name e.name)
    where
      it : name ≡ e.name → SameAsk before after opens (Whole name)
      it same = absurd (never_whole (content before name) (left.0 same))

      other : name ≢ e.name → SameAsk before after opens (Whole name)
      other not = record {
        reply = ap (whole opens) (edit.others name not);
        notes = ap (λ held. record { name = name; sight = found_sight WholeSeen held } ∷ []) (edit.others name not);
      }

  same_line : (opens : List OpenFile) (file : Option OpenFile) → AreLeftBy (Edit e) (line_notes before file) → (reading after opens file ≡ reading before opens file) × (line_notes after file ≡ line_notes before file)
  same_line opens None left = (refl, refl)
  same_line opens (Some file) left = ⊎_elim it other (known file.name e.name)
    where
      noted : NextLine → List Note
      noted line = record { name = file.name; sight = line_sight line } ∷ []

      it : file.name ≡ e.name → (reading after opens (Some file) ≡ reading before opens (Some file)) × (line_notes after (Some file) ≡ line_notes before (Some file))
      it same =
          let old_bytes : front ++ old ≡ bytes_of before file.name = before_is ∙ ap (bytes_of before) (sym same) in
          let new_bytes : bytes_of after file.name ≡ front ++ new = ap (bytes_of after) same ∙ after_is in
          let both = line_same opens file (next_line_at (bytes_of before file.name) file.offset) (ap (λ bytes. next_line_at bytes file.offset) old_bytes) (left.0 same) in (
            ap (λ bytes. reading_on opens file bytes (next_line_at bytes file.offset)) new_bytes ∙ both.0
                ∙ ap (λ bytes. reading_on opens file bytes (next_line_at (bytes_of before file.name) file.offset)) old_bytes,
            ap (λ bytes. record { name = file.name; sight = line_sight (next_line_at bytes file.offset) } ∷ []) new_bytes
                ∙ ap (λ line. record { name = file.name; sight = line_sight line } ∷ []) both.1,
          )

      other : file.name ≢ e.name → (reading after opens (Some file) ≡ reading before opens (Some file)) × (line_notes after (Some file) ≡ line_notes before (Some file))
      other not =
          let same : bytes_of after file.name ≡ bytes_of before file.name = ap (λ o. unwrap_or o []) (edit.others file.name not) in (
            ap (λ bytes. reading_on opens file bytes (next_line_at bytes file.offset)) same,
            ap (λ bytes. record { name = file.name; sight = line_sight (next_line_at bytes file.offset) } ∷ []) same,
          )

  pub same-ask : (opens : List OpenFile) (ask : Ask) → AreLeftBy (Edit e) (notes_of before opens ask) → SameAsk before after opens ask
  same-ask opens (Open name) left = same_open opens name left
  same-ask opens Line left = let both = same_line opens (innermost opens) left in record { reply = both.0; notes = both.1 }
  same-ask opens Close left = record { reply = refl; notes = refl }
  same-ask opens (Whole name) left = same_whole opens name left

  -- the bytes that were read of an open file are the same
  pub same-read : (name : List ℕ) (offset : ℕ) → (name ≡ e.name → offset ≤ e.place) → take offset (bytes_of after name) ≡ take offset (bytes_of before name)
  same-read name offset within = ⊎_elim it other (known name e.name)
    where
      it : name ≡ e.name → take offset (bytes_of after name) ≡ take offset (bytes_of before name)
      it same =
          let lies : offset ≤ e.place = within same in
          let inside : offset ≤ length front = rw front_length lies in
          ap (take offset) (ap (bytes_of after) same ∙ after_is) ∙ take-append-le offset front new inside
          ∙ sym (ap (take offset) (ap (bytes_of before) same ∙ sym before_is) ∙ take-append-le offset front old inside)

      other : name ≢ e.name → take offset (bytes_of after name) ≡ take offset (bytes_of before name)
      other not = ap (λ o. take offset (unwrap_or o [])) (edit.others name not)
