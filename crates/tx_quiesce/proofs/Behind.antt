-- Open files that fit stand behind each change, as the changes before it leave them, and the new ones where they have moved to.
use Rattle.std.proofs.Common.{◌≡◌, ℕ, zero, suc, ◌+◌, ◌≤◌, Bool, true, false, cond, List, [], ◌∷◌, Option, Some, None, refl, sym, ap, ◌∙◌, subst, arith, nat_le, true≢false}
use Rattle.std.specs.Cmp.Lexicographic.{bytes_decides}
use Rattle.std.specs.List.{All}
use Rattle.std.specs.Option.{option_and_then}
use Rattle.std.specs.Str.{bytes_eq}
use Rattle.std.proofs.lemmas.Bool.{leb-true, eqb-true, and_parts}
use Rattle.tx_files.specs.Carry.{carried, carried_place, moved_place, place_after}
use Rattle.tx_files.specs.Shift.{shifted}
use Rattle.tx_files.specs.declared.edit.Edit.{Edit as FileEdit}
use Rattle.tx_files.specs.declared.edit.Change.{Change}
use Rattle.tx_files.specs.declared.edit.Change.TheVariants.{Edit, Remove}
use Rattle.tx_machine.specs.declared.types.OpenFile.{OpenFile}
use Rattle.tx_quiesce.specs.Meeting.{comes_to, file_fits, opens_fit}
use Rattle.tx_quiesce.specs.Moves.{opens_by, carried_opens}
use Rattle.tx_quiesce.specs.Shift.{shifted_file, shifted_opens}
use Rattle.tx_quiesce.proofs.Moved.{FileBehind, IsOther}

-- an open file that a change moves, or leaves
abbrev pub BehindBy : Change → OpenFile → Type 0
BehindBy (Edit e) file = FileBehind e file
BehindBy (Remove gone) file = IsOther gone file.name

abbrev file_by : Change → OpenFile → OpenFile
file_by (Edit e) file = shifted_file e file
file_by (Remove gone) file = file

-- open files that each change of a list moves or leaves
abbrev pub AreBehind : List Change → List OpenFile → Type 0
AreBehind [] opens = Unit {0}
AreBehind (c ∷ changes) opens = All (BehindBy c) opens × AreBehind changes (opens_by c opens)

-- and one of them
abbrev IsBehindAll : List Change → OpenFile → Type 0
IsBehindAll [] file = Unit {0}
IsBehindAll (c ∷ changes) file = BehindBy c file × IsBehindAll changes (file_by c file)

-- a list whose first element and all others have a property
pub all-of : {X : Type 0} (P : X → Type 0) (x : X) (xs : List X) → P x → All P xs → All P (x ∷ xs)
all-of P x xs first others zero d below = first
all-of P x xs first others (suc k) d below = others k d (omega arith)

pub others-of : {X : Type 0} (P : X → Type 0) (x : X) (xs : List X) → All P (x ∷ xs) → All P xs
others-of P x xs all = λ k d below. all (suc k) d (omega arith)

pub none-behind : (changes : List Change) → AreBehind changes []
none-behind [] = tt
none-behind (Edit e ∷ changes) = (λ k d below. absurd (omega arith), none-behind changes)
none-behind (Remove gone ∷ changes) = (λ k d below. absurd (omega arith), none-behind changes)

none_carried : (changes : List Change) → carried_opens changes [] ≡ []
none_carried [] = refl
none_carried (Edit e ∷ changes) = none_carried changes
none_carried (Remove gone ∷ changes) = none_carried changes

one_behind : (changes : List Change) (file : OpenFile) (opens : List OpenFile) → IsBehindAll changes file → AreBehind changes opens → AreBehind changes (file ∷ opens)
one_behind [] file opens first others = tt
one_behind (Edit e ∷ changes) file opens first others = (all-of (FileBehind e) file opens first.0 others.0, one_behind changes (shifted_file e file) (shifted_opens e opens) first.1 others.1)
one_behind (Remove gone ∷ changes) file opens first others = (all-of (λ (it : OpenFile). IsOther gone it.name) file opens first.0 others.0, one_behind changes file opens first.1 others.1)

one_carried : (changes : List Change) (file : OpenFile) (opens : List OpenFile) → carried_opens changes (file ∷ opens) ≡ carried file_by changes file ∷ carried_opens changes opens
one_carried [] file opens = refl
one_carried (Edit e ∷ changes) file opens = one_carried changes (shifted_file e file) (shifted_opens e opens)
one_carried (Remove gone ∷ changes) file opens = one_carried changes file opens

-- where a change leads a place of an open file
pub value-is : {a b : ℕ} → Some a ≡ Some b → a ≡ b
value-is {a = a} {b = b} is = let same : Some a ≡ Some b = is in cc

pub none-never : {a : ℕ} → None ≡ Some a → ⊥
none-never {a = a} is = let none : None ≡ Some a = is in cc

edit_leads : (e : FileEdit) (file : OpenFile) (next : ℕ) → place_after (Edit e) file.name file.offset ≡ Some next → FileBehind e file × (shifted_file e file ≡ record file { offset = next })
edit_leads e file next is = by (bytes_eq file.name e.name) refl is
  where
    moves : (b : Bool) → nat_le (e.place + e.removed) file.offset ≡ b → cond b (Some (shifted e file.offset)) None ≡ Some next → (e.place + e.removed ≤ file.offset) × (shifted e file.offset ≡ next)
    moves true within there = (leb-true _ _ within, value-is there)
    moves false within there = absurd (none-never there)

    by : (b : Bool) → bytes_eq file.name e.name ≡ b → cond b (moved_place e file.offset) (Some file.offset) ≡ Some next
        → FileBehind e file × (cond b (record file { offset = shifted e file.offset }) file ≡ record file { offset = next })
    by true same there =
        let both = moves (nat_le (e.place + e.removed) file.offset) refl there in
        (λ _. both.0, ap (λ offset. record file { offset = offset }) both.1)
    by false other there = (λ same. absurd (true≢false (sym same ∙ other)), ap (λ offset. record file { offset = offset }) (value-is there))

remove_leads : (gone : List ℕ) (file : OpenFile) (next : ℕ) → place_after (Remove gone) file.name file.offset ≡ Some next → IsOther gone file.name × (file ≡ record file { offset = next })
remove_leads gone file next is = by (bytes_eq file.name gone) refl is
  where
    by : (b : Bool) → bytes_eq file.name gone ≡ b → cond b None (Some file.offset) ≡ Some next → IsOther gone file.name × (file ≡ record file { offset = next })
    by true same there = absurd (none-never there)
    by false other there = (other, ap (λ offset. record file { offset = offset }) (value-is there))

leads : (c : Change) (file : OpenFile) (next : ℕ) → place_after c file.name file.offset ≡ Some next → BehindBy c file × (file_by c file ≡ record file { offset = next })
leads (Edit e) file next is = edit_leads e file next is
leads (Remove gone) file next is = remove_leads gone file next is

-- and where the changes lead it
carries : (changes : List Change) (file : OpenFile) (to : ℕ) → carried_place changes file.name file.offset ≡ Some to → IsBehindAll changes file × (carried file_by changes file ≡ record file { offset = to })
carries [] file to is = (tt, ap (λ offset. record file { offset = offset }) (value-is is))
carries (c ∷ changes) file to is = by (carries changes) (place_after c file.name file.offset) refl is
  where
    by : ((it : OpenFile) (end : ℕ) → carried_place changes it.name it.offset ≡ Some end → IsBehindAll changes it × (carried file_by changes it ≡ record it { offset = end }))
        → (o : Option ℕ) → place_after c file.name file.offset ≡ o → option_and_then (λ at. carried_place changes file.name at) o ≡ Some to
        → IsBehindAll (c ∷ changes) file × (carried file_by (c ∷ changes) file ≡ record file { offset = to })
    by on None first later = absurd (none-never later)
    by on (Some next) first later =
        let here = leads c file next first in
        let there = on (record file { offset = next }) to later in (
          (here.0, subst (IsBehindAll changes) (sym here.1) there.0),
          ap (carried file_by changes) here.1 ∙ there.1,
        )

file_so : (changes : List Change) (old new : OpenFile) → file_fits changes old new ≡ true → IsBehindAll changes old × (new ≡ carried file_by changes old)
file_so changes old new fits =
    let parts = and_parts (bytes_eq new.name old.name) (comes_to (carried_place changes old.name old.offset) new.offset) fits in
    by (carried_place changes old.name old.offset) refl parts.0 parts.1
  where
    by : (o : Option ℕ) → carried_place changes old.name old.offset ≡ o → bytes_eq new.name old.name ≡ true → comes_to o new.offset ≡ true → IsBehindAll changes old × (new ≡ carried file_by changes old)
    by None is name there = absurd (true≢false (sym there))
    by (Some to) is name there =
        let both = carries changes old to is in
        let same : new ≡ record old { offset = to } = λ i. record { name = (bytes_decides new.name old.name).0 name i; offset = eqb-true new.offset to there i } in
        (both.0, same ∙ sym both.1)

-- open files that fit
pub record OpensFit (changes : List Change) (olds news : List OpenFile) : Type 0 where
  pub behind : AreBehind changes olds
  pub is : news ≡ carried_opens changes olds

pub opens-so : (changes : List Change) (olds news : List OpenFile) → opens_fit changes olds news ≡ true → OpensFit changes olds news
opens-so changes [] [] fits = record { behind = none-behind changes; is = sym (none_carried changes) }
opens-so changes [] (new ∷ news) fits = absurd (true≢false (sym fits))
opens-so changes (old ∷ olds) [] fits = absurd (true≢false (sym fits))
opens-so changes (old ∷ olds) (new ∷ news) fits =
    let parts = and_parts (file_fits changes old new) (opens_fit changes olds news) fits in
    let here = file_so changes old new parts.0 in
    let there : OpensFit changes olds news = opens-so changes olds news parts.1 in
    record {
      behind = one_behind changes old olds here.0 there.behind;
      is = (λ i. here.1 i ∷ there.is i) ∙ sym (one_carried changes old olds);
    }
