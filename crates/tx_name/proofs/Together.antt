-- The map that parts make up together answers as the part of a name does.
use Rattle.std.proofs.Common.{◌≡◌, ◌≢◌, ℕ, zero, suc, ◌<◌, Bool, true, false, cond, List, [], ◌∷◌, ◌++◌, length, set, Option, Some, None, refl, sym, ap, ◌∙◌, ◌⊎◌, inl, inr, arith}
use Rattle.std.proofs.lemmas.Bool.{cases_lt}
use Rattle.std.proofs.lemmas.List.{length-set, get_or-set_same, get_or-set_other, ext_get_or}
use Rattle.std.specs.Cmp.Lexicographic.{nat_list_cmp_total}
use Rattle.std.specs.FinMap.{empty, entries, get, insert, remove, same_map, get-empty, get-entries, get-insert, get-remove, get-from_entries, slice_cmp-IsAntisymmetric, nat_cmp-IsAntisymmetric}
use Rattle.std.specs.FinMap.Entries.{find}
use Rattle.tx_name.specs.Names.{Names}
use Rattle.tx_name.specs.Buckets.{IsPlaced, part_at, entries_in, together}
use Rattle.tx_name.proofs.Places.{by_bytes, same_name, named_same}

-- two numbers are equal or not
equal-or-not : (i j : ℕ) → (i ≡ j) ⊎ (i ≢ j)
equal-or-not i j = elim (cases_lt i j) [
  | inl less ↦ inr (λ e. omega (arith, less, e))
  | inr other ↦ elim (cases_lt j i) [ inl greater ↦ inr (λ e. omega (arith, greater, e)) | inr also ↦ inl (omega (arith, other, also)) ]
]

module _ {X : Type 0} where
  abbrev first_found : Option X → Option X → Option X
  first_found None later = later
  first_found (Some v) later = Some v

  found-or-none : (o : Option X) → first_found o None ≡ o
  found-or-none None = refl
  found-or-none (Some v) = refl

  find-join : (q : List ℕ) (xs ys : List (List ℕ × X)) → find by_bytes q (xs ++ ys) ≡ first_found (find by_bytes q xs) (find by_bytes q ys)
  find-join q [] ys = refl
  find-join q (e ∷ xs) ys = elim (same_name q e.0) as (λ b. cond b (Some e.1) (find by_bytes q (xs ++ ys)) ≡ first_found (cond b (Some e.1) (find by_bytes q xs)) (find by_bytes q ys)) [
    | true ↦ refl
    | false ↦ find-join q xs ys
  ]

  -- what is found behind a part that lacks the name
  find-behind : (q : List ℕ) (part : Names X) (parts : List (Names X)) → get part q ≡ None → find by_bytes q (entries_in (part ∷ parts)) ≡ find by_bytes q (entries_in parts)
  find-behind q part parts none = find-join q (entries part) (entries_in parts)
      ∙ ap (λ o. first_found o (find by_bytes q (entries_in parts))) (sym (get-entries part q) ∙ none)

  find-none : (q : List ℕ) (parts : List (Names X)) → ((i : ℕ) → get (part_at parts i) q ≡ None) → find by_bytes q (entries_in parts) ≡ None
  find-none q [] none = refl
  find-none q (part ∷ parts) none = find-behind q part parts (none 0) ∙ find-none q parts (λ i. none (suc i))

  find-in : (q : List ℕ) (parts : List (Names X)) (at : ℕ) → ((i : ℕ) → i ≢ at → get (part_at parts i) q ≡ None) → find by_bytes q (entries_in parts) ≡ get (part_at parts at) q
  find-in q [] at others = sym (get-empty by_bytes q)
  find-in q (part ∷ parts) zero others = find-join q (entries part) (entries_in parts)
      ∙ ap (λ o. first_found (find by_bytes q (entries part)) o) (find-none q parts (λ i. others (suc i) (λ e. omega (arith, e))))
      ∙ found-or-none (find by_bytes q (entries part))
      ∙ sym (get-entries part q)
  find-in q (part ∷ parts) (suc at) others = find-behind q part parts (others 0 (λ e. omega (arith, e)))
      ∙ find-in q parts at (λ i apart. others (suc i) (λ e. apart (omega (arith, e))))

  -- a map has changed at one name alone
  abbrev pub Changes : Names X → Names X → List ℕ → Option X → Type 0
  Changes old new name now = (q : List ℕ) → get new q ≡ cond (same_name q name) now (get old q)

  none-kept : (b : Bool) (now old : Option X) → b ≢ true → old ≡ None → cond b now old ≡ None
  none-kept true now old apart none = absurd (apart refl)
  none-kept false now old apart none = none

  old-kept : (b : Bool) (now old : Option X) → b ≢ true → old ≡ cond b now old
  old-kept true now old apart = absurd (apart refl)
  old-kept false now old apart = refl

  -- a value put in, and a value taken away
  changes-insert : (m : Names X) (name : List ℕ) (v : X) → Changes m (insert m name v) name (Some v)
  changes-insert m name v q = get-insert nat_list_cmp_total m name v q

  changes-remove : (m : Names X) (name : List ℕ) → Changes m (remove m name) name None
  changes-remove m name q = get-remove nat_list_cmp_total m name q

  -- maps that have changed alike from the same one are equal
  alike : (old some other : Names X) (name : List ℕ) (now : Option X) → Changes old some name now → Changes old other name now → some ≡ other
  alike old some other name now first second = same_map nat_list_cmp_total (slice_cmp-IsAntisymmetric nat_cmp-IsAntisymmetric) some other (λ q. first q ∙ sym (second q))

  pub empty-together : (parts : List (Names X)) → ((i : ℕ) → part_at parts i ≡ empty) → together parts ≡ empty
  empty-together parts all = same_map nat_list_cmp_total (slice_cmp-IsAntisymmetric nat_cmp-IsAntisymmetric) _ _ (λ q.
      get-from_entries nat_list_cmp_total _ q ∙ find-none q parts (λ i. ap (λ m. get m q) (all i) ∙ get-empty by_bytes q) ∙ sym (get-empty by_bytes q))

-- each name has its own of the parts
module _ {X : Type 0} {part_of : List ℕ → ℕ} where
  -- a name's value is the one in its part
  pub get-together : (parts : List (Names X)) → IsPlaced part_of parts → (q : List ℕ) → get (together parts) q ≡ get (part_at parts (part_of q)) q
  get-together parts is q = get-from_entries nat_list_cmp_total _ q ∙ find-in q parts (part_of q) (λ i apart. is.placed i q (λ e. apart (sym e)))

  module _ (parts : List (Names X)) (is : IsPlaced part_of parts) (name : List ℕ) (within : part_of name < 32) (new : Names X) (now : Option X) (changes : Changes (part_at parts (part_of name)) new name now) where
    inside : part_of name < length parts
    inside = omega (arith, within, is.count)

    pub placed-changed : IsPlaced part_of (set parts (part_of name) new)
    placed-changed = record {
      count = length-set parts (part_of name) new ∙ is.count;
      placed = λ at q apart. elim (equal-or-not at (part_of name)) [
        | inl same ↦ ap (λ k. get (part_at (set parts (part_of name) new) k) q) same
            ∙ ap (λ m. get m q) (get_or-set_same parts (part_of name) new empty inside)
            ∙ changes q
            ∙ none-kept (same_name q name) now _ (λ e. apart (ap part_of (named_same q name e) ∙ sym same)) (is.placed (part_of name) q (λ e. apart (e ∙ sym same)))
        | inr other ↦ ap (λ m. get m q) (get_or-set_other parts (part_of name) at new empty other) ∙ is.placed at q apart
      ];
    }

    pub together-changed : Changes (together parts) (together (set parts (part_of name) new)) name now
    together-changed q = get-together _ placed-changed q ∙ elim (equal-or-not (part_of q) (part_of name)) [
      | inl same ↦ ap (λ k. get (part_at (set parts (part_of name) new) k) q) same
          ∙ ap (λ m. get m q) (get_or-set_same parts (part_of name) new empty inside)
          ∙ changes q
          ∙ ap (λ k. cond (same_name q name) now (get (part_at parts k) q)) (sym same)
          ∙ ap (cond (same_name q name) now) (sym (get-together parts is q))
      | inr other ↦ ap (λ m. get m q) (get_or-set_other parts (part_of name) (part_of q) new empty other)
          ∙ sym (get-together parts is q)
          ∙ old-kept (same_name q name) now _ (λ e. other (ap part_of (named_same q name e)))
    ]

  pub together-insert : (parts : List (Names X)) → IsPlaced part_of parts → (name : List ℕ) → part_of name < 32 → (v : X) (new : Names X) → new ≡ insert (part_at parts (part_of name)) name v → together (set parts (part_of name) new) ≡ insert (together parts) name v
  together-insert parts is name within v new e = alike (together parts) _ _ name (Some v)
      (together-changed parts is name within new (Some v) (λ q. ap (λ m. get m q) e ∙ changes-insert _ name v q)) (changes-insert _ name v)

  pub placed-insert : (parts : List (Names X)) → IsPlaced part_of parts → (name : List ℕ) → part_of name < 32 → (v : X) (new : Names X) → new ≡ insert (part_at parts (part_of name)) name v → IsPlaced part_of (set parts (part_of name) new)
  placed-insert parts is name within v new e = placed-changed parts is name within new (Some v) (λ q. ap (λ m. get m q) e ∙ changes-insert _ name v q)

  pub together-remove : (parts : List (Names X)) → IsPlaced part_of parts → (name : List ℕ) → part_of name < 32 → (new : Names X) → new ≡ remove (part_at parts (part_of name)) name → together (set parts (part_of name) new) ≡ remove (together parts) name
  together-remove parts is name within new e = alike (together parts) _ _ name None
      (together-changed parts is name within new None (λ q. ap (λ m. get m q) e ∙ changes-remove _ name q)) (changes-remove _ name)

  pub placed-remove : (parts : List (Names X)) → IsPlaced part_of parts → (name : List ℕ) → part_of name < 32 → (new : Names X) → new ≡ remove (part_at parts (part_of name)) name → IsPlaced part_of (set parts (part_of name) new)
  placed-remove parts is name within new e = placed-changed parts is name within new None (λ q. ap (λ m. get m q) e ∙ changes-remove _ name q)

  -- equal maps have equal parts
  pub same-together : (some other : List (Names X)) → IsPlaced part_of some → IsPlaced part_of other → together some ≡ together other → some ≡ other
  same-together some other is also same = ext_get_or empty some other (is.count ∙ sym also.count) (λ i within.
      same_map nat_list_cmp_total (slice_cmp-IsAntisymmetric nat_cmp-IsAntisymmetric) _ _ (λ q. elim (equal-or-not (part_of q) i) [
        | inl here ↦ ap (λ k. get (part_at some k) q) (sym here) ∙ sym (get-together some is q) ∙ ap (λ m. get m q) same ∙ get-together other also q ∙ ap (λ k. get (part_at other k) q) here
        | inr apart ↦ is.placed i q apart ∙ sym (also.placed i q apart)
      ]))

  -- parts that are all empty
  pub empty-placed : (parts : List (Names X)) → length parts ≡ 32 → ((i : ℕ) → part_at parts i ≡ empty) → IsPlaced part_of parts
  empty-placed parts count all = record { count = count; placed = λ at q apart. ap (λ m. get m q) (all at) ∙ get-empty by_bytes q }
