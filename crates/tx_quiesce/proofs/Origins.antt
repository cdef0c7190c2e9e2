-- The only place of a file that changes lead to another one, found from the last change back to the first.
use Rattle.std.proofs.Common.{◌≡◌, ℕ, ◌+◌, ◌-◌, ◌<◌, ◌≤◌, Bool, true, false, cond, List, [], ◌∷◌, length, drop, get_or, Option, Some, None, refl, sym, ap, ◌∙◌, subst, arith, nat_le, true≢false}
use Rattle.std.specs.Prelude.{slice_get}
use Rattle.std.specs.Cmp.Lexicographic.{bytes_decides}
use Rattle.std.specs.List.{AllZip}
use Rattle.std.specs.Option.{option_and_then}
use Rattle.std.specs.Str.{bytes_eq}
use Rattle.std.proofs.lemmas.Bool.{leb-true, eqb-true, and_parts}
use Rattle.std.proofs.lemmas.List.{drop_more, drop_all}
use Rattle.tx_files.specs.Carry.{carried_place, moved_place, place_after}
use Rattle.tx_files.specs.Shift.{shifted}
use Rattle.tx_files.specs.declared.edit.Edit.{Edit as FileEdit}
use Rattle.tx_files.specs.declared.edit.Change.{Change}
use Rattle.tx_files.specs.declared.edit.Change.TheVariants.{Edit, Remove}
use Rattle.tx_machine.specs.declared.types.OpenFile.{OpenFile}
use Rattle.tx_machine.specs.Opens.{innermost}
use Rattle.tx_quiesce.specs.Meeting.{comes_to, file_fits, opens_fit}
use Rattle.tx_quiesce.specs.Tails.{offset_of, IsMovedFrom, IsLedFrom, IsCarriedFrom, IsOrigin}
use Rattle.tx_quiesce.proofs.Behind.{value-is, none-never}
use Rattle.tx_quiesce.proofs.Zips.{AreBoth, zip-get, zip-length}

-- by one change
led_back : (e : FileEdit) (name : List ℕ) (here from : ℕ) → bytes_eq name e.name ≡ true → IsMovedFrom e here (Some from) → IsLedFrom (Edit e) name here (Some from)
led_back e name here from same moved old is = by (nat_le (e.place + e.removed) old) refl (sym (ap (λ b. cond b (moved_place e old) (Some old)) same) ∙ is)
  where
    by : (b : Bool) → nat_le (e.place + e.removed) old ≡ b → cond b (Some (shifted e old)) None ≡ Some here → old ≡ from
    by true within there = moved old (leb-true _ _ within) (value-is there)
    by false within there = absurd (none-never there)

pub led-edit : (e : FileEdit) (name : List ℕ) (here : ℕ) (o : Option ℕ) → bytes_eq name e.name ≡ true → IsMovedFrom e here o → IsLedFrom (Edit e) name here o
led-edit e name here None same moved = tt
led-edit e name here (Some from) same moved = led_back e name here from same moved

pub led-other : (e : FileEdit) (name : List ℕ) (here : ℕ) → bytes_eq name e.name ≡ false → IsLedFrom (Edit e) name here (Some here)
led-other e name here other old is = value-is (sym (ap (λ b. cond b (moved_place e old) (Some old)) other) ∙ is)

pub led-kept : (gone name : List ℕ) (here : ℕ) → IsLedFrom (Remove gone) name here (Some here)
led-kept gone name here old is = by (bytes_eq name gone) is
  where
    by : (b : Bool) → cond b None (Some old) ≡ Some here → old ≡ here
    by true there = absurd (none-never there)
    by false there = value-is there

-- by the changes from one on
led_first : (c : Change) (changes : List Change) (name : List ℕ) (here mid from : ℕ) → IsLedFrom c name mid (Some from) → IsCarriedFrom changes name here (Some mid) → IsCarriedFrom (c ∷ changes) name here (Some from)
led_first c changes name here mid from first later old is = by (place_after c name old) refl is
  where
    by : (o : Option ℕ) → place_after c name old ≡ o → option_and_then (λ at. carried_place changes name at) o ≡ Some here → old ≡ from
    by None there on = absurd (none-never on)
    by (Some next) there on = first old (there ∙ ap Some (later next on))

pub carried-end : (changes : List Change) (name : List ℕ) (here n : ℕ) → length changes ≤ n → IsCarriedFrom (drop n changes) name here (Some here)
carried-end changes name here n past = subst (λ (rest : List Change). IsCarriedFrom rest name here (Some here)) (sym (drop_all n changes past)) (λ old is. value-is is)

pub carried-back : (changes : List Change) (name : List ℕ) {here left mid from : ℕ} {c : Change} → 0 < left → left ≤ length changes → c ≡ get_or changes (left - 1) c → IsLedFrom c name mid (Some from)
    → IsCarriedFrom (drop left changes) name here (Some mid) → IsCarriedFrom (drop (left - 1) changes) name here (Some from)
carried-back changes name {here = here} {left = left} {mid = mid} {from = from} {c = c} some within is first later =
    let next : left - 1 + 1 ≡ left = omega arith in
    subst (λ (rest : List Change). IsCarriedFrom rest name here (Some from)) (sym (drop_more changes (left - 1) c (omega arith) ∙ (λ i. sym is i ∷ drop (next i) changes)))
    (led_first c (drop left changes) name here mid from first later)

pub carried-whole : (changes : List Change) (name : List ℕ) (left : ℕ) {here from : ℕ} → left ≤ 0 → IsCarriedFrom (drop left changes) name here (Some from) → IsCarriedFrom changes name here (Some from)
carried-whole changes name left {here = here} {from = from} none so_far =
    let zero_left : left ≡ 0 = omega arith in
    subst (λ n. IsCarriedFrom (drop n changes) name here (Some from)) zero_left so_far

-- the innermost of open files that fit
module _ (changes : List Change) where
  abbrev Fits : OpenFile → OpenFile → Type 0
  Fits old new = file_fits changes old new ≡ true

  zip_fits : (olds news : List OpenFile) → opens_fit changes olds news ≡ true → AllZip Fits olds news
  zip_fits [] [] fit = tt
  zip_fits [] (new ∷ news) fit = absurd (true≢false (sym fit))
  zip_fits (old ∷ olds) [] fit = absurd (true≢false (sym fit))
  zip_fits (old ∷ olds) (new ∷ news) fit = let both = and_parts (file_fits changes old new) (opens_fit changes olds news) fit in (both.0, zip_fits olds news both.1)

  both_innermost : (olds news : List OpenFile) → opens_fit changes olds news ≡ true → AreBoth Fits (innermost olds) (innermost news)
  both_innermost olds news fit =
      let zip : AllZip Fits olds news = zip_fits olds news fit in
      subst (λ k. AreBoth Fits (innermost olds) (slice_get news k)) (ap (λ n. n - 1) (sym (zip-length Fits olds news zip))) (zip-get Fits olds news (length olds - 1) zip)

  pub origin-none : (news : List OpenFile) → innermost news ≡ None → IsOrigin changes news (Some 0)
  origin-none news none olds fit = by (innermost olds) (subst (AreBoth Fits (innermost olds)) none (both_innermost olds news fit))
    where
      by : (o : Option OpenFile) → AreBoth Fits o None → offset_of o ≡ 0
      by None both = refl
      by (Some old) both = absurd both

  came_from : (old new : OpenFile) (from : ℕ) → IsCarriedFrom changes new.name new.offset (Some from) → file_fits changes old new ≡ true → old.offset ≡ from
  came_from old new from known fits =
      let parts = and_parts (bytes_eq new.name old.name) (comes_to (carried_place changes old.name old.offset) new.offset) fits in
      known old.offset (ap (λ name. carried_place changes name old.offset) ((bytes_decides new.name old.name).0 parts.0) ∙ by (carried_place changes old.name old.offset) parts.1)
    where
      by : (o : Option ℕ) → comes_to o new.offset ≡ true → o ≡ Some new.offset
      by None there = absurd (true≢false (sym there))
      by (Some to) there = ap Some (sym (eqb-true new.offset to there))

  origin_back : (news : List OpenFile) (new : OpenFile) (from : ℕ) → innermost news ≡ Some new → IsCarriedFrom changes new.name new.offset (Some from) → IsOrigin changes news (Some from)
  origin_back news new from some known olds fit = by (innermost olds) (subst (AreBoth Fits (innermost olds)) some (both_innermost olds news fit))
    where
      by : (o : Option OpenFile) → AreBoth Fits o (Some new) → offset_of o ≡ from
      by None both = absurd both
      by (Some old) both = came_from old new from known both

  pub origin-some : (news : List OpenFile) (new : OpenFile) (o : Option ℕ) → innermost news ≡ Some new → IsCarriedFrom changes new.name new.offset o → IsOrigin changes news o
  origin-some news new None some known = tt
  origin-some news new (Some from) some known = origin_back news new from some known
