-- Open files that fit are as many, and stand where they have moved to.
use Rattle.std.proofs.Common.{◌≡◌, ◌≢◌, ℕ, zero, suc, ◌+◌, ◌<◌, ◌≤◌, Bool, true, false, cond, ◌&&◌, List, [], ◌∷◌, ◌++◌, length, map, take, drop, slice_set, slice_index_or, Option, Some, None, refl, sym, ap, ◌∙◌, subst, arith, true≢false}
use Rattle.std.specs.Prelude.{slice_get, IfSome}
use Rattle.std.specs.List.{All}
use Rattle.std.specs.Str.{bytes_eq}
use Rattle.tx_files.specs.declared.edit.Edit.{Edit}
use Rattle.tx_files.specs.declared.edit.Change.{Change}
use Rattle.tx_files.specs.Shift.{shifted}
use Rattle.tx_machine.specs.declared.types.OpenFile.{OpenFile}
use Rattle.tx_quiesce.specs.Meeting.{file_fits, opens_fit}
use Rattle.tx_quiesce.specs.Shift.{shifted_file}

never : (b : Bool) → b ≢ true → false ≡ b
never true differ = absurd (differ refl)
never false _ = refl

as_many : (changes : List Change) (olds news : List OpenFile) → opens_fit changes olds news ≡ true → length olds ≡ length news
as_many changes [] [] fit = refl
as_many changes [] (new ∷ news) fit = absurd (true≢false (sym fit))
as_many changes (old ∷ olds) [] fit = absurd (true≢false (sym fit))
as_many changes (old ∷ olds) (new ∷ news) fit = ap suc (as_many changes olds news (rest (file_fits changes old new) fit))
  where
    rest : (b : Bool) → (b && opens_fit changes olds news) ≡ true → opens_fit changes olds news ≡ true
    rest true both = both
    rest false both = absurd (true≢false (sym both))

pub never-fit : (changes : List Change) (olds news : List OpenFile) → length olds ≢ length news → false ≡ opens_fit changes olds news
never-fit changes olds news differ = never (opens_fit changes olds news) (λ fit. differ (as_many changes olds news fit))

drop_all : {X : Type 0} (k : ℕ) (xs : List X) → length xs ≤ k → drop k xs ≡ []
drop_all zero [] short = refl
drop_all zero (x ∷ xs) short = absurd (omega arith)
drop_all (suc k) [] short = refl
drop_all (suc k) (x ∷ xs) short = drop_all k xs (omega arith)

-- so far they fit
fit_step : (changes : List Change) (k : ℕ) (olds news : List OpenFile) (old new : OpenFile) → k < length olds → k < length news → old ≡ slice_index_or olds k old → new ≡ slice_index_or news k new
    → opens_fit changes (drop k olds) (drop k news) ≡ (file_fits changes old new && opens_fit changes (drop (suc k) olds) (drop (suc k) news))
fit_step changes k [] news old new below short is too = absurd (omega arith)
fit_step changes k (x ∷ olds) [] old new below short is too = absurd (omega arith)
fit_step changes zero (x ∷ olds) (y ∷ news) old new below short is too = λ i. file_fits changes (sym is i) (sym too i) && opens_fit changes olds news
fit_step changes (suc k) (x ∷ olds) (y ∷ news) old new below short is too = fit_step changes k olds news old new (omega arith) (omega arith) is too

module _ (changes : List Change) (k : ℕ) (olds news : List OpenFile) (as_long : length olds ≡ length news) (so_far : opens_fit changes (drop k olds) (drop k news) ≡ opens_fit changes olds news) where
  pub fit-on : {old new : OpenFile} → k < length olds → old ≡ slice_index_or olds k old → new ≡ slice_index_or news k new → true ≡ file_fits changes old new
      → opens_fit changes (drop (k + 1) olds) (drop (k + 1) news) ≡ opens_fit changes olds news
  fit-on {old = old} {new = new} below is too fit =
      let next : k + 1 ≡ suc k = omega arith in
      ap (λ n. opens_fit changes (drop n olds) (drop n news)) next ∙ ap (λ b. b && opens_fit changes (drop (suc k) olds) (drop (suc k) news)) fit
      ∙ sym (fit_step changes k olds news old new below (let other = as_long in omega arith) is too) ∙ so_far

  pub fit-stops : {old new : OpenFile} → k < length olds → old ≡ slice_index_or olds k old → new ≡ slice_index_or news k new → false ≡ file_fits changes old new → false ≡ opens_fit changes olds news
  fit-stops {old = old} {new = new} below is too fit =
      ap (λ b. b && opens_fit changes (drop (suc k) olds) (drop (suc k) news)) fit
      ∙ sym (fit_step changes k olds news old new below (let other = as_long in omega arith) is too) ∙ so_far

  pub fit-all : length olds ≤ k → true ≡ opens_fit changes olds news
  fit-all all = sym ((λ i. opens_fit changes (none_left olds all i) (none_left news (let other = as_long in omega arith) i))) ∙ so_far
    where
      none_left : (xs : List OpenFile) → length xs ≤ k → drop k xs ≡ []
      none_left xs short = drop_all k xs short

-- the first elements are mapped already, and the others aren't
abbrev pub mapped_to : {X : Type 0} → (X → X) → ℕ → List X → List X
mapped_to f k xs = map f (take k xs) ++ drop k xs

module _ {X : Type 0} (f : X → X) where
  pub mapped-get : (k : ℕ) (xs : List X) → slice_get (mapped_to f k xs) k ≡ slice_get xs k
  mapped-get zero xs = refl
  mapped-get (suc k) [] = refl
  mapped-get (suc k) (x ∷ xs) = mapped-get k xs

  pub mapped-more : (k : ℕ) (xs : List X) (x : X) → slice_get xs k ≡ Some x → slice_set (mapped_to f k xs) k (f x) ≡ mapped_to f (suc k) xs
  mapped-more k [] x is = absurd (let none : None ≡ Some x = is in cc)
  mapped-more zero (y ∷ ys) x is = let same : y ≡ x = cc in ap (λ it. f it ∷ ys) (sym same)
  mapped-more (suc k) (y ∷ ys) x is = ap (λ rest. f y ∷ rest) (mapped-more k ys x is)

  pub mapped-length : (k : ℕ) (xs : List X) → length (mapped_to f k xs) ≡ length xs
  mapped-length zero xs = refl
  mapped-length (suc k) [] = refl
  mapped-length (suc k) (x ∷ xs) = ap suc (mapped-length k xs)

  pub mapped-all : (k : ℕ) (xs : List X) → length xs ≤ k → mapped_to f k xs ≡ map f xs
  mapped-all zero [] all = refl
  mapped-all zero (x ∷ xs) all = absurd (omega arith)
  mapped-all (suc k) [] all = refl
  mapped-all (suc k) (x ∷ xs) all = ap (λ rest. f x ∷ rest) (mapped-all k xs (omega arith))

  -- the next element is mapped
  pub mapped-step : (k : ℕ) (xs : List X) {now new : List X} → now ≡ mapped_to f k xs → k < length xs → IfSome (slice_get now k) (λ x. new ≡ slice_set now k (f x)) → new ≡ mapped_to f (k + 1) xs
  mapped-step k xs {now = now} {new = new} is below set =
      let next : suc k ≡ k + 1 = omega arith in
      by (slice_get xs k) refl (subst (λ (o : Option X). IfSome o (λ x. new ≡ slice_set now k (f x))) (ap (λ ys. slice_get ys k) is ∙ mapped-get k xs) set) ∙ ap (λ n. mapped_to f n xs) next
    where
      within : (n : ℕ) (ys : List X) → n < length ys → slice_get ys n ≢ None
      within n [] short = absurd (omega arith)
      within zero (y ∷ ys) short = λ none. (let some : Some y ≡ None = none in cc)
      within (suc n) (y ∷ ys) short = within n ys (omega arith)

      by : (o : Option X) → slice_get xs k ≡ o → IfSome o (λ x. new ≡ slice_set now k (f x)) → new ≡ mapped_to f (suc k) xs
      by None none some = absurd (within k xs below none)
      by (Some x) there some = some ∙ ap (λ ys. slice_set ys k (f x)) is ∙ mapped-more k xs x there

  pub mapped-begins : (xs : List X) → xs ≡ mapped_to f 0 xs
  mapped-begins xs = refl

  -- and has a property that all have
  pub mapped-still : (P : X → Type 0) (k : ℕ) (xs : List X) {now : List X} → now ≡ mapped_to f k xs → All P xs → IfSome (slice_get now k) P
  mapped-still P k xs is all = subst (λ (o : Option X). IfSome o P) (sym (ap (λ ys. slice_get ys k) is ∙ mapped-get k xs)) (each k xs all)
    where
      each : (n : ℕ) (ys : List X) → All P ys → IfSome (slice_get ys n) P
      each n [] all = tt
      each zero (y ∷ ys) all = all 0 y (omega arith)
      each (suc n) (y ∷ ys) all = each n ys (λ j d below. all (suc j) d (omega arith))

-- a file that isn't the edited one stays where it is
pub keeps : (e : Edit) (opens : List OpenFile) (at : ℕ) (file : OpenFile) → file ≡ slice_index_or opens at file → false ≡ bytes_eq file.name e.name
    → IfSome (slice_get opens at) (λ f. opens ≡ slice_set opens at (shifted_file e f))
keeps e [] at file is other = tt
keeps e (x ∷ opens) zero file is other =
    let name : bytes_eq x.name e.name ≡ false = ap (λ (f : OpenFile). bytes_eq f.name e.name) (sym is) ∙ sym other in
    sym (ap (λ b. cond b (record x { offset = shifted e x.offset }) x ∷ opens) name)
keeps e (x ∷ opens) (suc at) file is other = by (slice_get opens at) (keeps e opens at file is other)
  where
    by : (o : Option OpenFile) → IfSome o (λ f. opens ≡ slice_set opens at (shifted_file e f)) → IfSome o (λ f. (x ∷ opens) ≡ x ∷ slice_set opens at (shifted_file e f))
    by None same = tt
    by (Some f) same = ap (λ rest. x ∷ rest) same

-- the same, where the element is given by its place
module _ {X : Type 0} (f : X → X) where
  at_place : (k : ℕ) (xs : List X) (x : X) → k < length xs → x ≡ slice_index_or xs k x → slice_get xs k ≡ Some x
  at_place k [] x below is = absurd (omega arith)
  at_place zero (y ∷ ys) x below is = ap Some (sym is)
  at_place (suc k) (y ∷ ys) x below is = at_place k ys x (omega arith) is

  pub mapped-here : (k : ℕ) (xs : List X) {now new : List X} {x moved : X} → now ≡ mapped_to f k xs → k < length xs → x ≡ slice_index_or now k x → moved ≡ f x → new ≡ slice_set now k moved → new ≡ mapped_to f (k + 1) xs
  mapped-here k xs {now = now} {new = new} {x = x} {moved = moved} so_far below is moves set =
      let inside : k < length now = subst (λ n. k < n) (sym (ap length so_far ∙ mapped-length f k xs)) below in
      mapped-step f k xs so_far below (subst (λ (o : Option X). IfSome o (λ y. new ≡ slice_set now k (f y))) (sym (at_place k now x inside is)) (set ∙ ap (slice_set now k) moves))

  pub mapped-has : (P : X → Type 0) (k : ℕ) (xs : List X) {now : List X} {x : X} → now ≡ mapped_to f k xs → k < length xs → All P xs → x ≡ slice_index_or now k x → P x
  mapped-has P k xs {now = now} {x = x} so_far below all is =
      let inside : k < length now = subst (λ n. k < n) (sym (ap length so_far ∙ mapped-length f k xs)) below in
      subst (λ (o : Option X). IfSome o P) (at_place k now x inside is) (mapped-still f P k xs so_far all)
