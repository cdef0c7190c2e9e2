-- The script: its text, that it is one, and what its edits replace.
use Rattle.std.proofs.Common.{◌≡◌, ℕ, zero, suc, ◌<◌, ◌≤◌, List, [], ◌∷◌, ◌++◌, length, refl, sym, ap, ◌∙◌, arith, append_assoc}
use Rattle.std.specs.Prelude.{codes, slice_index}
use Rattle.std.specs.Fmt.{decimal}
use Rattle.std.specs.List.{flat_map, AllByRecursion}
use Rattle.std.proofs.lemmas.Fmt.{decimal_digit}
use Rattle.std.proofs.lemmas.Grind.{flat_map-append}
use Rattle.tx_files.specs.declared.edit.Change.TheVariants.{Edit}
use Rattle.tx_script.specs.declared.command.Command.{Command}
use Rattle.tx_script.specs.declared.command.Command.TheVariants.{Change as Lone}
use Rattle.tx_script.specs.declared.error.Rule.{Rule}
use Rattle.tx_script.specs.Text.{bytes_of, elements, text, greatest, IsCommand, IsScript}
use Rattle.tx_gen.specs.Draws.{next, drawn, joined, with_more, times}
use Rattle.tx_gen.specs.Book.{letter, page, page_start, page_starts, book_of}
use Rattle.tx_gen.specs.Edits.{replacing, drawn_edit, commands_of, lines_of, edit_text, IsReplacement}
use Rattle.tx_gen.proofs.Letters.{letter-is, letter-starts}
use Rattle.tx_gen.proofs.Lengths.{start-within}
use Rattle.tx_gen.proofs.Starts.{length-starts, start-at}

text-append : (a b : List Command) → text (a ++ b) ≡ text a ++ text b
text-append a b = ap bytes_of (flat_map-append elements a b) ∙ flat_map-append (λ (e : Rule × List ℕ). e.1) (flat_map elements a) (flat_map elements b)

-- an edit by its lines is the text of a script of it alone
lines-are : (place code : ℕ) → lines_of place code ≡ text (Lone (Edit (replacing place code)) ∷ [])
lines-are place code =
    let one : decimal 1 ≡ 49 ∷ [] = decimal_digit 1 (omega arith) in
    ap (λ (t : List ℕ). codes "edit " ++ t)
    (append_assoc (decimal place) (codes " 1 1 book.tex\n") (code ∷ 10 ∷ []) ∙ sym (append_assoc (decimal place) (32 ∷ []) (codes "1 1 book.tex\n" ++ code ∷ 10 ∷ [])))
    ∙ ap (λ (d : List ℕ). codes "edit " ++ ((decimal place ++ 32 ∷ []) ++ ((d ++ 32 ∷ []) ++ ((d ++ 32 ∷ []) ++ ((codes "book.tex" ++ 10 ∷ []) ++ (code ∷ 10 ∷ [])))))) (sym one)

paired : (state : ℕ) {a b : List ℕ} → a ≡ b → ◌≡◌ {A = List ℕ × ℕ} (a, state) (b, state)
paired state same = λ i. (same i, state)

-- edits by their lines, and the text of edits
script-lines : (start : ℕ → ℕ) (pages count state : ℕ)
    → times count (edit_text start pages) state ≡ (text (times count (drawn_edit start pages) state).0, (times count (drawn_edit start pages) state).1)
unfolding times
script-lines start pages zero state = refl
script-lines start pages (suc count) state =
    let front : List Command × ℕ = times count (drawn_edit start pages) state in
    let place : ℕ = start (drawn pages front.1) in
    let code : ℕ = letter (next front.1) in
    ap (λ (made : List ℕ × ℕ). with_more made (edit_text start pages)) (script-lines start pages count state)
    ∙ paired (next (next front.1)) (ap (λ (t : List ℕ). text front.0 ++ t) (lines-are place code) ∙ sym (text-append front.0 (Lone (Edit (replacing place code)) ∷ [])))

-- edits of pages that begin at the same places
edits-alike : (start other : ℕ → ℕ) (pages : ℕ) → ((number : ℕ) → number < pages → start number ≡ other number) → (count state : ℕ) → count ≤ pages
    → times count (edit_text start pages) state ≡ times count (edit_text other pages) state
unfolding times
edits-alike start other pages same zero state few = refl
edits-alike start other pages same (suc count) state few =
    let front : List ℕ × ℕ = times count (edit_text other pages) state in
    let below : drawn pages front.1 < pages = omega arith in
    ap (λ (made : List ℕ × ℕ). with_more made (edit_text start pages)) (edits-alike start other pages same count state (omega arith))
    ∙ ap (λ (place : ℕ). joined front (lines_of place (letter (next front.1)), next (next front.1))) (same (drawn pages front.1) below)

-- the lines that are written are the script's text
pub script-is : (seed pages : ℕ) {starts before script : List ℕ} {state : ℕ} → starts ≡ page_starts seed pages → state ≡ (times pages page seed).1 → before ≡ []
    → script ≡ before ++ (times (length starts) (edit_text (slice_index starts) (length starts)) state).0 → script ≡ text (commands_of seed pages)
script-is seed pages {starts = starts} {before = before} {script = script} {state = state} starts_are state_is none are =
    let places : List ℕ = page_starts seed pages in
    let later : ℕ = (times pages page seed).1 in
    are
    ∙ ap (λ (b : List ℕ). b ++ (times (length starts) (edit_text (slice_index starts) (length starts)) state).0) none
    ∙ ap (λ (s : List ℕ). (times (length s) (edit_text (slice_index s) (length s)) state).0) starts_are
    ∙ ap (λ (n : ℕ). (times n (edit_text (slice_index places) n) state).0) (length-starts seed pages)
    ∙ ap (λ (s : ℕ). (times pages (edit_text (slice_index places) pages) s).0) state_is
    ∙ ap (λ (made : List ℕ × ℕ). made.0) (edits-alike (slice_index places) (page_start seed) pages (start-at seed pages) pages later (omega arith))
    ∙ ap (λ (made : List ℕ × ℕ). made.0) (script-lines (page_start seed) pages pages later)

all-append : (P : Command → Type 0) (a b : List Command) → AllByRecursion P a → AllByRecursion P b → AllByRecursion P (a ++ b)
all-append P [] b first later = later
all-append P (c ∷ a) b first later = (first.0, all-append P a b first.1 later)

-- what is so of an edit of each page and letter is so of all commands
all-edits : (P : Command → Type 0) (start : ℕ → ℕ) (pages : ℕ) → ((number state : ℕ) → number < pages → P (Lone (Edit (replacing (start number) (letter state))))) → (count state : ℕ) → count ≤ pages
    → AllByRecursion P (times count (drawn_edit start pages) state).0
unfolding times
all-edits P start pages each zero state few = tt
all-edits P start pages each (suc count) state few =
    let front : List Command × ℕ = times count (drawn_edit start pages) state in
    let below : drawn pages front.1 < pages = omega arith in
    all-append P front.0 (drawn_edit start pages front.1).0 (all-edits P start pages each count state (omega arith)) (each (drawn pages front.1) (next front.1) below, tt)

-- a document of up to 1000 pages has a script
pub commands-script : (seed pages : ℕ) → pages ≤ 1000 → IsScript (commands_of seed pages)
commands-script seed pages few = all-edits IsCommand (page_start seed) pages one pages (times pages page seed).1 (omega arith)
  where
    one : (number state : ℕ) → number < pages → IsCommand (Lone (Edit (replacing (page_start seed number) (letter state))))
    one number state below =
        let within : page_start seed number ≤ greatest = omega (arith, start-within seed number) in
        record { place = within; removed = omega arith; put = omega arith; is_named = refl }

-- each of its edits replaces a letter
pub commands-replace : (seed pages : ℕ) → AllByRecursion (IsReplacement (book_of seed pages)) (commands_of seed pages)
commands-replace seed pages = all-edits (IsReplacement (book_of seed pages)) (page_start seed) pages one pages (times pages page seed).1 (omega arith)
  where
    one : (number state : ℕ) → number < pages → IsReplacement (book_of seed pages) (Lone (Edit (replacing (page_start seed number) (letter state))))
    one number state below = record {
      name_is = refl;
      stands = letter-starts seed pages number below;
      removed_is = refl;
      code = letter state;
      is_letter = letter-is state;
      put_is = refl;
    }
