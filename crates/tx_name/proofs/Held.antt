-- What parts hold that may be shared: an owner's clone holds the same, and changes alone.
use Rattle.std.proofs.Common.{◌≡◌, ℕ, zero, suc, ◌+◌, ◌<◌, List, [], ◌∷◌, ◌++◌, length, take, map, get_or, set, refl, sym, ap, subst, ◌∙◌, ◌⊎◌, inl, inr, Vec, vec_len, Global, Result, Ok, Err, OnErr, arith}
use Rattle.std.proofs.lemmas.List.{get_or-map, map-set, map_more, length-map}
use Rattle.std.proofs.Math.Seq.{map-set_same}
use Rattle.std.specs.declared.rc.Rc.{Rc}
use Rattle.std.specs.Rc.{rc_value}
use Rattle.std.specs.Vec.{with_item}
use Rattle.std.specs.List.{AllZip, AllClonesOf}
use Rattle.std.specs.FinMap.{empty, insert, remove}
use Rattle.tx_name.specs.Names.{Names}
use Rattle.tx_name.specs.Buckets.{IsPlaced, part_at, held, together}
use Rattle.tx_name.proofs.Together.{empty-placed, empty-together, placed-insert, together-insert, placed-remove, together-remove}

-- a part that may be shared
abbrev pub Shared : Type 0 → Type 0
Shared X = Rc (Names X) Global

-- one is a clone of another
abbrev pub IsClone : {X : Type 0} → Shared X → Shared X → Type 0
IsClone part copy = copy.value ≡ part.value

-- what holds holds where an error comes
pub on-err : {A E P : Type 0} (r : Result A E) → P → OnErr r P
on-err (Ok a) holds = tt
on-err (Err e) holds = holds

module _ {X : Type 0} where
  pub held-clones : (xs ys : List (Shared X)) → AllZip IsClone xs ys → held ys ≡ held xs
  held-clones [] [] clones = refl
  held-clones [] (y ∷ ys) clones = absurd clones
  held-clones (x ∷ xs) [] clones = absurd clones
  held-clones (x ∷ xs) (y ∷ ys) clones = λ i. clones.0 i ∷ held-clones xs ys clones.1 i

  -- an owner's list is the one that was shared, or a clone of it
  abbrev pub IsOwn : Vec (Shared X) Global → Vec (Shared X) Global → Type 0
  IsOwn v own = (own ≡ v) ⊎ (AllZip IsClone v.items own.items × (vec_len own ≡ vec_len v))

  held-own : (v own : Vec (Shared X) Global) → IsOwn v own → held own.items ≡ held v.items
  held-own v own (inl same) = ap (λ w. held w.items) same
  held-own v own (inr clones) = held-clones v.items own.items clones.0

  -- clones of an empty part
  all-empty : (part : Shared X) → part.value ≡ empty → (ys : List (Shared X)) → AllClonesOf IsClone part ys → (i : ℕ) → part_at (held ys) i ≡ empty
  all-empty part e [] clones i = refl
  all-empty part e (y ∷ ys) clones zero = elim clones.0 [ inl same ↦ ap rc_value same ∙ e | inr copy ↦ copy ∙ e ]
  all-empty part e (y ∷ ys) clones (suc i) = all-empty part e ys clones.1 i

module _ {X : Type 0} {part_of : List ℕ → ℕ} where
  -- also where memory was wanting
  pub still-placed : (v own : Vec (Shared X) Global) {A E : Type 0} (r : Result A E) (e : E) → r ≡ Err e → OnErr r (IsOwn v own) → IsPlaced part_of (held v.items) → IsPlaced part_of (held own.items)
  still-placed v own r e failed is = subst (IsPlaced part_of) (sym (held-own v own (subst (λ r. OnErr r (IsOwn v own)) failed is)))

  pub empty-held : (part : Shared X) → part.value ≡ empty → (v : Vec (Shared X) Global) → AllClonesOf IsClone part v.items → vec_len v ≡ 32 → (w : Vec (Shared X) Global) → w ≡ v → IsPlaced part_of (held w.items) × (together (held w.items) ≡ empty)
  empty-held part e v clones count w same =
      let all : (i : ℕ) → part_at (held w.items) i ≡ empty = λ i. ap (λ u. part_at (held u.items) i) same ∙ all-empty part e v.items clones i in
      (empty-placed (held w.items) (length-map w.items rc_value ∙ ap (λ u. length u.items) same ∙ sym v.ok.0 ∙ count) all, empty-together (held w.items) all)

  -- what is read at a place below 32 is the part of that number
  read-here : (own : List (Shared X)) → IsPlaced part_of (held own) → (at : ℕ) (part : Shared X) → at < 32 → part ≡ get_or own at part → part.value ≡ part_at (held own) at
  read-here own is at part within read = ap rc_value read ∙ sym (get_or-map rc_value own at part empty (omega (arith, within, is.count, length-map own rc_value)))

  pub part-read : (v : Vec (Shared X) Global) → IsPlaced part_of (held v.items) → (w : Vec (Shared X) Global) → w ≡ v → (at : ℕ) (part : Shared X) → at < 32 → part ≡ get_or w.items at part → part.value ≡ part_at (held v.items) at
  part-read v is w same at part within read = read-here v.items is at part within (read ∙ ap (λ u. get_or u.items at part) same)

  -- a part is written over in an owner's list
  module _ (v : Vec (Shared X) Global) (is : IsPlaced part_of (held v.items)) (own : Vec (Shared X) Global) (is_own : IsOwn v own) (at : ℕ) (within : at < 32) (part : Shared X) (read : part ≡ get_or own.items at part) (new : Shared X) (w : Vec (Shared X) Global) (after : w ≡ with_item own at new) where
    kept : held own.items ≡ held v.items
    kept = held-own v own is_own

    was : part.value ≡ part_at (held v.items) at
    was = read-here own.items (subst (IsPlaced part_of) (sym kept) is) at part within read ∙ ap (λ parts. part_at parts at) kept

    written : held w.items ≡ set (held v.items) at new.value
    written = ap (λ u. held u.items) after ∙ map-set rc_value own.items at new ∙ ap (λ parts. set parts at new.value) kept

    module _ (name : List ℕ) (here : at ≡ part_of name) where
      below : part_of name < 32
      below = subst (λ k. k < 32) here within

      now-written : held w.items ≡ set (held v.items) (part_of name) new.value
      now-written = written ∙ ap (λ k. set (held v.items) k new.value) here

      pub inserted : (value : X) → new.value ≡ insert part.value name value → IsPlaced part_of (held w.items) × (together (held w.items) ≡ insert (together (held v.items)) name value)
      inserted value e =
          let now = e ∙ ap (λ m. insert m name value) (was ∙ ap (part_at (held v.items)) here) in
          (subst (IsPlaced part_of) (sym now-written) (placed-insert (held v.items) is name below value new.value now), ap together now-written ∙ together-insert (held v.items) is name below value new.value now)

      pub removed : new.value ≡ remove part.value name → IsPlaced part_of (held w.items) × (together (held w.items) ≡ remove (together (held v.items)) name)
      removed e =
          let now = e ∙ ap (λ m. remove m name) (was ∙ ap (part_at (held v.items)) here) in
          (subst (IsPlaced part_of) (sym now-written) (placed-remove (held v.items) is name below new.value now), ap together now-written ∙ together-remove (held v.items) is name below new.value now)

    -- where memory is wanting, by what it was
    pub unchanged : new.value ≡ part.value → IsPlaced part_of (held w.items) × (together (held w.items) ≡ together (held v.items))
    unchanged same =
        let now = ap (λ u. held u.items) after ∙ map-set_same rc_value own.items at new part (same ∙ ap rc_value read) ∙ kept in
        (subst (IsPlaced part_of) (sym now) is, ap together now)

module _ {P : Type 0} where
  -- two lists are compared from their beginning on
  module _ (xs ys : List (Rc P Global)) (k : ℕ) (x y : Rc P Global) (within : k < length xs) (long : length xs ≡ length ys) (one : x ≡ get_or xs k x) (other : y ≡ get_or ys k y) where
    pub same-more : map rc_value (take k xs) ≡ map rc_value (take k ys) → x.value ≡ y.value → map rc_value (take (k + 1) xs) ≡ map rc_value (take (k + 1) ys)
    same-more before same = map_more rc_value xs k x within
        ∙ (λ i. before i ++ (sym (ap rc_value one) ∙ same ∙ ap rc_value other) i ∷ [])
        ∙ sym (map_more rc_value ys k y (omega (arith, within, long)))

    pub same-here : map rc_value xs ≡ map rc_value ys → x.value ≡ y.value
    same-here same = ap rc_value one
        ∙ sym (get_or-map rc_value xs k x x.value within)
        ∙ ap (λ (parts : List P). get_or parts k x.value) same
        ∙ get_or-map rc_value ys k y x.value (omega (arith, within, long))
        ∙ sym (ap rc_value other)
