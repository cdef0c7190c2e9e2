-- Files of which one was taken away: replies that show nothing of it are the same.
use Rattle.std.proofs.Common.{◌≡◌, ◌≢◌, ℕ, Bool, true, false, cond, List, [], ◌∷◌, Option, Some, None, refl, sym, ap, ◌∙◌, true≢false, unwrap_or}
use Rattle.std.specs.Ordering.{nat_cmp, eq_by_cmp}
use Rattle.std.specs.Cmp.Lexicographic.{slice_cmp, same_text, nat_list_cmp_total}
use Rattle.std.specs.FinMap.{remove, get-remove}
use Rattle.std.proofs.lemmas.Map.Text.{is_eq-slice_cmp}
use Rattle.tx_bytes.specs.Files.{Files, content}
use Rattle.tx_files.specs.declared.edit.Change.TheVariants.{Remove}
use Rattle.tx_files.specs.declared.reads.Sight.TheVariants.{Opened, Whole as WholeSeen}
use Rattle.tx_files.specs.Lines.{next_line_at}
use Rattle.tx_event.specs.declared.types.Ask.{Ask}
use Rattle.tx_event.specs.declared.types.Ask.TheVariants.{Open, Line, Close, Whole}
use Rattle.tx_machine.specs.declared.types.OpenFile.{OpenFile}
use Rattle.tx_machine.specs.Notes.{notes_of, line_notes, line_sight, found_sight}
use Rattle.tx_machine.specs.Opens.{bytes_of, innermost, opening, reading_on, reading, whole}
use Rattle.tx_checkpoint.proofs.Edited.{SameAsk}
use Rattle.tx_checkpoint.proofs.Untouched.{AreLeftBy}

-- the other files stay
pub removed-others : (files : Files) (gone name : List ℕ) → name ≢ gone → content (remove files gone) name ≡ content files name
removed-others files gone name other = get-remove nat_list_cmp_total files gone name ∙ by (eq_by_cmp (slice_cmp nat_cmp) name gone) refl
  where
    by : (b : Bool) → eq_by_cmp (slice_cmp nat_cmp) name gone ≡ b → cond b None (content files name) ≡ content files name
    by true is = absurd (other (same_text name gone (sym (sym (is_eq-slice_cmp name gone) ∙ is))))
    by false is = refl

module _ (before : Files) (gone : List ℕ) where
  abbrev after : Files
  after = remove before gone

  same_line : (opens : List OpenFile) (file : Option OpenFile) → AreLeftBy (Remove gone) (line_notes before file) → (reading after opens file ≡ reading before opens file) × (line_notes after file ≡ line_notes before file)
  same_line opens None left = (refl, refl)
  same_line opens (Some file) left =
      let same : bytes_of after file.name ≡ bytes_of before file.name = ap (λ o. unwrap_or o []) (removed-others before gone file.name (λ is. true≢false (sym (left.0 is)))) in (
        ap (λ bytes. reading_on opens file bytes (next_line_at bytes file.offset)) same,
        ap (λ bytes. record { name = file.name; sight = line_sight (next_line_at bytes file.offset) } ∷ []) same,
      )

  pub same-removed : (opens : List OpenFile) (ask : Ask) → AreLeftBy (Remove gone) (notes_of before opens ask) → SameAsk before after opens ask
  same-removed opens (Open name) left =
      let there : content after name ≡ content before name = removed-others before gone name (λ is. true≢false (sym (left.0 is))) in
      record {
        reply = ap (opening opens name) there;
        notes = ap (λ held. record { name = name; sight = found_sight Opened held } ∷ []) there;
      }
  same-removed opens Line left = let both = same_line opens (innermost opens) left in record { reply = both.0; notes = both.1 }
  same-removed opens Close left = record { reply = refl; notes = refl }
  same-removed opens (Whole name) left =
      let there : content after name ≡ content before name = removed-others before gone name (λ is. true≢false (sym (left.0 is))) in
      record {
        reply = ap (whole opens) there;
        notes = ap (λ held. record { name = name; sight = found_sight WholeSeen held } ∷ []) there;
      }
