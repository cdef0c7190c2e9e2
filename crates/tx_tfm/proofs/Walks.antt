-- Filling a row by a walk along a program.
use Rattle.std.proofs.Common.{◌≡◌, ◌≢◌, ℕ, ◌+◌, ◌-◌, ◌<◌, ◌≤◌, Bool, true, false, nat_lt, if◌then◌else◌, Option, Some, None, refl, sym, ap, ◌∙◌, arith, inl, inr}
use Rattle.std.proofs.lemmas.Bool.{cases_eq}
use Rattle.tx_tfm.specs.declared.file.Tfm.{Tfm}
use Rattle.tx_tfm.specs.declared.file.Word.{Word}
use Rattle.tx_tfm.specs.declared.ligatures.Filling.{Filling}
use Rattle.tx_tfm.specs.LigKern.{command_at, found}
use Rattle.tx_tfm.specs.Table.{IsRowFrom, ligature, entry_of}
use Rattle.tx_tfm.specs.Filling.{is_met, Takes}
use Rattle.tx_tfm.proofs.Programs.{found-halt, found-here, found-last, found-later, found-none}

-- what is known of a right piece: once a command for it was met, its entry; before that, that it has none and that the rest
-- of the program decides
abbrev pub IsSettled : Bool → Option Word → Option Word → Option Word → Type 0
IsSettled true entry rest whole = entry ≡ ligature whole
IsSettled false entry rest whole = (entry ≡ None) × (rest ≡ whole)

-- the walk has come to a place, with so many steps left
pub record Walks (t : Tfm) (start : ℕ) (f : Filling) (place left : ℕ) : Type 0 where
  pub settled : (k : ℕ) → k < 256 → IsSettled (is_met f k) (entry_of f.row k) (found t left place k) (found t t.lengths.commands start k)
  pub boundary : entry_of f.row 256 ≡ None

-- a command for this right piece
here : (met met' : Bool) (entry entry' rest rest' whole : Option Word) (w : Word) → met' ≡ true → (met ≡ true → entry' ≡ entry) → (met ≡ false → entry' ≡ (if nat_lt w.c 128 then Some w else entry)) → rest ≡ Some w → IsSettled met entry rest whole → IsSettled met' entry' rest' whole
here met false entry entry' rest rest' whole w is again first found settled = cc
here true true entry entry' rest rest' whole w is again first found settled = again refl ∙ settled
here false true entry entry' rest rest' whole w is again first found settled =
    first refl ∙ ap (λ e. if nat_lt w.c 128 then Some w else e) settled.0 ∙ ap ligature (sym found ∙ settled.1)

-- a command for another one
there : (met met' : Bool) (entry entry' rest rest' whole : Option Word) → met' ≡ met → entry' ≡ entry → rest ≡ rest' → IsSettled met entry rest whole → IsSettled met' entry' rest' whole
there true true entry entry' rest rest' whole is same on settled = same ∙ settled
there true false entry entry' rest rest' whole is same on settled = cc
there false true entry entry' rest rest' whole is same on settled = cc
there false false entry entry' rest rest' whole is same on settled = (same ∙ settled.0, sym on ∙ settled.1)

-- a command was taken, and what follows it decides the rest
took : (t : Tfm) (start place left : ℕ) (f f' : Filling) (w : Word) → Walks t start f place left → w ≡ command_at t place → 0 < left → w.a ≤ 128 → Takes f w f' → (k : ℕ) → k < 256 → (rest : Option Word) → (w.b ≢ k → found t left place k ≡ rest) → IsSettled (is_met f' k) (entry_of f'.row k) rest (found t t.lengths.commands start k)
took t start place left f f' w walks is some low takes k less rest on = elim (cases_eq k w.b) [ inl same ↦ at same (omega arith) | inr other ↦ off other ]
  where
    at : k ≡ w.b → w.b < 256 → IsSettled (is_met f' k) (entry_of f'.row k) rest (found t t.lengths.commands start k)
    at same below =
        rw same (here (is_met f w.b) (is_met f' w.b) (entry_of f.row w.b) (entry_of f'.row w.b) (found t left place w.b) rest (found t t.lengths.commands start w.b) w takes.met takes.again takes.first (found-here t left place w.b w is some low refl) (walks.settled w.b below))

    off : k ≢ w.b → IsSettled (is_met f' k) (entry_of f'.row k) rest (found t t.lengths.commands start k)
    off other =
        there (is_met f k) (is_met f' k) (entry_of f.row k) (entry_of f'.row k) (found t left place k) rest (found t t.lengths.commands start k) (takes.other_met k other) (takes.other_entry k other) (on (λ e. other (sym e))) (walks.settled k less)

pub walks-on : (t : Tfm) (start place left j : ℕ) (f f' : Filling) (w : Word) → Walks t start f place left → w ≡ command_at t place → 0 < left → w.a ≤ 128 → w.a ≢ 128 → j ≡ place + w.a + 1 → Takes f w f' → w.b < 256 → Walks t start f' j (left - 1)
walks-on t start place left j f f' w walks is some low on to takes below = record {
  settled = λ k less. took t start place left f f' w walks is some low takes k less (found t (left - 1) j k) (λ other. found-later t left place k j w is some low other on to);
  boundary = takes.other_entry 256 (omega arith) ∙ walks.boundary;
}

-- where nothing is left, each entry is the command that the whole program has
settles : (met : Bool) (entry rest whole : Option Word) → rest ≡ None → IsSettled met entry rest whole → entry ≡ ligature whole
settles true entry rest whole none settled = settled
settles false entry rest whole none settled = settled.0 ∙ ap ligature (sym none ∙ settled.1)

pub walks-spent : (t : Tfm) (start place left : ℕ) (f : Filling) → Walks t start f place left → left ≡ 0 → IsRowFrom t start f.row
walks-spent t start place left f walks spent = record {
  entry = λ k less. settles (is_met f k) _ (found t left place k) _ (ap (λ n. found t n place k) spent ∙ found-none t place k) (walks.settled k less);
  boundary = walks.boundary;
}

pub walks-halt : (t : Tfm) (start place left : ℕ) (f : Filling) (w : Word) → Walks t start f place left → w ≡ command_at t place → 0 < left → 128 < w.a → IsRowFrom t start f.row
walks-halt t start place left f w walks is some halt = record {
  entry = λ k less. settles (is_met f k) _ (found t left place k) _ (found-halt t left place k w is some halt) (walks.settled k less);
  boundary = walks.boundary;
}

pub walks-last : (t : Tfm) (start place left : ℕ) (f f' : Filling) (w : Word) → Walks t start f place left → w ≡ command_at t place → 0 < left → w.a ≡ 128 → Takes f w f' → w.b < 256 → IsRowFrom t start f'.row
walks-last t start place left f f' w walks is some last takes below = record {
  entry = λ k less. settles (is_met f' k) (entry_of f'.row k) None (found t t.lengths.commands start k) refl (took t start place left f f' w walks is some (omega arith) takes k less None (λ other. found-last t left place k w is some other last));
  boundary = takes.other_entry 256 (omega arith) ∙ walks.boundary;
}
