-- Rows of the table of ligature commands.
use Rattle.std.proofs.Common.{◌≡◌, ℕ, ◌<◌, ◌≤◌, Option, Some, None, List, [], length, get_or, option_and_then, refl, sym, ap, ◌∙◌, arith, inl, inr}
use Rattle.std.proofs.lemmas.Bool.{cases_lt}
use Rattle.std.proofs.lemmas.Bool.Decides.{nat_tests}
use Rattle.std.proofs.lemmas.List.{get_or_past}
use Rattle.tx_tfm.specs.declared.file.Tfm.{Tfm}
use Rattle.tx_tfm.specs.declared.file.Word.{Word}
use Rattle.tx_tfm.specs.LigKern.{found, start_of, code_of, command_of, boundary_code}
use Rattle.tx_tfm.specs.Rewriting.{ligature_of}
use Rattle.tx_tfm.specs.Table.{IsRowOf, IsRowFrom, ligature, entry_of, piece_of}

-- none of none is none
nothing : (f : Word → Option Word) (code : Option ℕ) → option_and_then f (option_and_then (λ (r : ℕ). None) code) ≡ None
nothing f None = refl
nothing f (Some r) = refl

-- a piece without a program meets no command
ligature_of-without : (t : Tfm) (left right : Option ℕ) → start_of t left ≡ None → ligature_of t left right ≡ None
unfolding ligature_of command_of
ligature_of-without t left right none = rw none (nothing _ (code_of t right))

pub row-without : (t : Tfm) (left : Option ℕ) → start_of t left ≡ None → IsRowOf t left []
row-without t left none = record { entry = λ k less. sym (ligature_of-without t left (piece_of k) none) }

-- the command for the right of a pair in the program from a place on
abbrev met_from : Tfm → ℕ → Option ℕ → Option Word
met_from t start code = option_and_then (λ r. found t t.lengths.commands start r) code

-- a piece with a program meets what is found there
ligature_of-with : (t : Tfm) (left right : Option ℕ) (start : ℕ) → start_of t left ≡ Some start → ligature_of t left right ≡ ligature (met_from t start (code_of t right))
unfolding ligature_of command_of
ligature_of-with t left right start e = rw e refl

piece_of-character : (k : ℕ) → k < 256 → piece_of k ≡ Some k
piece_of-character k less = grind (arith, nat_tests)

pub row-with : (t : Tfm) (left : Option ℕ) (start : ℕ) (walked row : List (Option Word)) → start_of t left ≡ Some start → IsRowFrom t start walked → ((k : ℕ) → k < 256 → entry_of row k ≡ entry_of walked k) → entry_of row 256 ≡ ligature (met_from t start (boundary_code t)) → IsRowOf t left row
row-with t left start walked row e from same boundary = record { entry = λ k less. elim (cases_lt k 256) [ inl character ↦ here k character | inr end ↦ last k (omega arith) ] }
  where
    here : (k : ℕ) → k < 256 → entry_of row k ≡ ligature_of t left (piece_of k)
    here k less =
        same k less ∙ from.entry k less ∙ sym (ligature_of-with t left (Some k) start e) ∙ ap (ligature_of t left) (sym (piece_of-character k less))

    last : (k : ℕ) → k ≡ 256 → entry_of row k ≡ ligature_of t left (piece_of k)
    last k is = rw is (boundary ∙ sym (ligature_of-with t left None start e))

pub boundary-without : (t : Tfm) (start : ℕ) (row : List (Option Word)) → boundary_code t ≡ None → IsRowFrom t start row → entry_of row 256 ≡ ligature (met_from t start (boundary_code t))
boundary-without t start row e from = from.boundary ∙ sym (ap (λ code. ligature (met_from t start code)) e)

pub boundary-with : (t : Tfm) (start code : ℕ) (walked row : List (Option Word)) → boundary_code t ≡ Some code → code < 256 → IsRowFrom t start walked → entry_of row 256 ≡ entry_of walked code → entry_of row 256 ≡ ligature (met_from t start (boundary_code t))
boundary-with t start code walked row e less from same = same ∙ from.entry code less ∙ sym (ap (λ code. ligature (met_from t start code)) e)

-- a row that is filled up with nothing has the same entries
pub entry_of-padded : (old new : List (Option Word)) (n : ℕ) → length old ≤ n → length new ≡ n → ((k : ℕ) (d : Option Word) → k < n → k < length old → get_or new k d ≡ get_or old k d) → ((k : ℕ) (d : Option Word) → length old ≤ k → k < n → get_or new k d ≡ None) → (k : ℕ) → entry_of new k ≡ entry_of old k
entry_of-padded old new n fits long kept filled k =
    elim (cases_lt k (length old)) [
      | inl before ↦ kept k None (omega arith) before
      | inr past ↦ elim (cases_lt k n) [
        | inl inside ↦ filled k None past inside ∙ sym (get_or_past old k None past)
        | inr beyond ↦ get_or_past new k None (omega arith) ∙ sym (get_or_past old k None past)
      ]
    ]
