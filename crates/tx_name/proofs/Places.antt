-- What stands at a place of entries whose names rise, and what a change there makes of the map.
use Rattle.std.proofs.Common.{◌≡◌, ◌≢◌, drop, ℕ, zero, suc, ◌<◌, ◌≤◌, Bool, true, false, cond, not, ◌&&◌, List, [], ◌∷◌, length, get_or, set, Option, Some, None, Result, Ok, Err, IfOk, IfErr, refl, sym, ap, subst, ◌∙◌, arith}
use Rattle.std.specs.Prelude.{T, insert, remove, IsSome, is_some}
use mathlib.Core.Bool.{false≢true}
use Rattle.std.proofs.Common.{◌⊎◌, inl, inr}
use Rattle.std.proofs.lemmas.Bool.{cases_lt}
use Rattle.std.specs.declared.cmp.Ordering.{Ordering}
use Rattle.std.specs.declared.cmp.Ordering.TheVariants.{Less, Equal, Greater}
use Rattle.std.specs.Ordering.{nat_cmp, is_lt, is_eq, ordering_reverse, ordering_index, eq_by_cmp}
use Rattle.std.specs.List.Sorted.{IsSearchInRange, IsBinarySearchResult, IsNonDecreasingBy}
use Rattle.std.specs.Cmp.{alike_right, eq_by_cmp_equiv}
use Rattle.std.specs.Cmp.Lexicographic.{slice_cmp, nat_list_cmp_total}
use Rattle.std.specs.FinMap as map
use Rattle.std.specs.FinMap.{entries, get, same_map, same_entries_map, entries-from_sorted, entries-insert, get-from_sorted, get-remove, slice_cmp-IsAntisymmetric, nat_cmp-IsAntisymmetric}
use Rattle.std.specs.FinMap.Entries.{find, put, where_key, below_all, by_order, is_sorted-put, is_sorted-where_key, find-where_key}
use Rattle.tx_name.specs.Names.{Names}
use Rattle.tx_name.specs.Buckets.{IsRising, map_of, IsAt, IsGap}

-- the order of names
abbrev pub by_bytes : List ℕ → List ℕ → Ordering
by_bytes = slice_cmp nat_cmp

-- whether two names are equal, as a map finds it
abbrev pub same_name : List ℕ → List ℕ → Bool
same_name q name = eq_by_cmp by_bytes q name

-- whether a name is another than this one
abbrev pub other_name : List ℕ → List ℕ → Bool
other_name name x = not (same_name name x)

both-of : (a b : Bool) → T (a && b) → T a × T b
both-of true b h = (tt, h)
both-of false b h = absurd h

is_less : (o : Ordering) → T (is_lt o) → o ≡ Less
is_less Less h = refl
is_less Equal h = absurd h
is_less Greater h = absurd h

at_most_two : (o : Ordering) → ordering_index o ≤ 2
at_most_two Less = omega arith
at_most_two Equal = omega arith
at_most_two Greater = omega arith

-- what turning a comparison round answers
turned-less : (x y : List ℕ) → by_bytes x y ≡ Less → by_bytes y x ≡ Greater
turned-less x y e = nat_list_cmp_total.antisymm y x ∙ ap ordering_reverse e

turned-equal : (x y : List ℕ) → by_bytes x y ≡ Equal → by_bytes y x ≡ Equal
turned-equal x y e = nat_list_cmp_total.antisymm y x ∙ ap ordering_reverse e

turned-greater : (x y : List ℕ) → by_bytes x y ≡ Greater → by_bytes y x ≡ Less
turned-greater x y e = nat_list_cmp_total.antisymm y x ∙ ap ordering_reverse e

-- a lesser name compares with a third as less, or as the greater one does
index-rises : (x y name : List ℕ) → by_bytes x y ≡ Less → ordering_index (by_bytes x name) ≤ ordering_index (by_bytes y name)
index-rises x y name less =
    elim (by_bytes y name) as (λ o. by_bytes y name ≡ o → ordering_index (by_bytes x name) ≤ ordering_index o) [
      | Less ↦ λ e. subst (λ o. ordering_index o ≤ 0) (sym (nat_list_cmp_total.trans x y name less e)) (omega arith)
      | Equal ↦ λ e. subst (λ o. ordering_index o ≤ 1) (sym (sym (alike_right nat_list_cmp_total y name x e) ∙ less)) (omega arith)
      | Greater ↦ λ e. at_most_two (by_bytes x name)
    ] refl

-- names that a map takes for equal are equal
pub named_same : (q name : List ℕ) → same_name q name ≡ true → q ≡ name
named_same q name e = slice_cmp-IsAntisymmetric nat_cmp-IsAntisymmetric q name (is_equal (by_bytes q name) e)
  where
    is_equal : (o : Ordering) → is_eq o ≡ true → o ≡ Equal
    is_equal Less e = absurd (false≢true e)
    is_equal Equal e = refl
    is_equal Greater e = absurd (false≢true e)

module _ {X : Type 0} where
  below-at : (name : List ℕ) (es : List (List ℕ × X)) → T (below_all by_bytes name es) → (j : ℕ) (d : List ℕ × X) → j < length es → by_bytes name (get_or es j d).0 ≡ Less
  below-at name [] h j d within = absurd (omega (arith, within))
  below-at name (e ∷ es) h zero d within = is_less _ (both-of _ _ h).0
  below-at name (e ∷ es) h (suc j) d within = below-at name es (both-of _ _ h).1 j d (omega (arith, within))

  -- of two entries the first has the lesser name
  rising-at : (es : List (List ℕ × X)) → IsRising es → (i j : ℕ) (d : List ℕ × X) → i < j → j < length es → by_bytes (get_or es i d).0 (get_or es j d).0 ≡ Less
  rising-at [] h i j d before within = absurd (omega (arith, within))
  rising-at (e ∷ es) h i zero d before within = absurd (omega (arith, before))
  rising-at (e ∷ es) h zero (suc j) d before within = below-at e.0 es (both-of _ _ h).0 j d (omega (arith, within))
  rising-at (e ∷ es) h (suc i) (suc j) d before within = rising-at es (both-of _ _ h).1 i j d (omega (arith, before)) (omega (arith, within))

  -- the comparisons with a name rise along the entries, as a binary search asks
  comparisons_rise : (es : List (List ℕ × X)) → IsRising es → (name : List ℕ) → IsNonDecreasingBy (λ e. ordering_index (by_bytes e.0 name)) es
  comparisons_rise es rising name i j d upto within =
      elim (ordered i j upto) [
        | inl before ↦ index-rises (get_or es i d).0 (get_or es j d).0 name (rising-at es rising i j d before within)
        | inr same ↦ subst (λ k. ordering_index (by_bytes (get_or es i d).0 name) ≤ ordering_index (by_bytes (get_or es k d).0 name)) same (omega arith)
      ]
    where
      ordered : (i j : ℕ) → i ≤ j → (i < j) ⊎ (i ≡ j)
      ordered i j upto = elim (cases_lt i j) [ inl before ↦ inl before | inr other ↦ inr (omega (arith, upto, other)) ]

  -- a binary search ends at the name, or at the gap for it
  pub searched : (es : List (List ℕ × X)) → IsRising es → (name : List ℕ) (r : Result ℕ ℕ) → IsSearchInRange r (length es) → IsBinarySearchResult (λ e. by_bytes e.0 name) es r → IfOk r (IsAt es name) × IfErr r (IsGap es name)
  searched es rising name (Ok at) within equal = (
    record {
      inside = within;
      before = λ j d before. turned-less (get_or es j d).0 name (sym (alike_right nat_list_cmp_total (get_or es at d).0 name (get_or es j d).0 (equal d)) ∙ rising-at es rising j at d before within);
      here = λ d. turned-equal (get_or es at d).0 name (equal d);
      after = λ j d after inside. sym (nat_list_cmp_total.congr (get_or es at d).0 name (get_or es j d).0 (equal d)) ∙ rising-at es rising at j d (omega (arith, after)) inside;
    },
    tt,
  )
  searched es rising name (Err at) within parted =
      let parts = parted (comparisons_rise es rising name) in (
        tt,
        record {
          inside = within;
          before = λ j d before. turned-less (get_or es j d).0 name (parts.0 j d (omega arith) before);
          after = λ j d after inside. turned-greater (get_or es j d).0 name (parts.1 j d after inside);
        },
      )

  -- in the tail a place is one lower
  at-tail : (e : List ℕ × X) (es : List (List ℕ × X)) (name : List ℕ) (at : ℕ) → IsAt (e ∷ es) name (suc at) → IsAt es name at
  at-tail e es name at is = record {
    inside = omega (arith, is.inside);
    before = λ j d before. is.before (suc j) d (omega (arith, before));
    here = is.here;
    after = λ j d after inside. is.after (suc j) d (omega (arith, after)) (omega (arith, inside));
  }

  gap-tail : (e : List ℕ × X) (es : List (List ℕ × X)) (name : List ℕ) (at : ℕ) → IsGap (e ∷ es) name (suc at) → IsGap es name at
  gap-tail e es name at is = record {
    inside = omega (arith, is.inside);
    before = λ j d before. is.before (suc j) d (omega (arith, before));
    after = λ j d after inside. is.after (suc j) d (omega (arith, after)) (omega (arith, inside));
  }

  first-gap-tail : (e : List ℕ × X) (es : List (List ℕ × X)) (name : List ℕ) → IsGap (e ∷ es) name 0 → IsGap es name 0
  first-gap-tail e es name is = record {
    inside = omega arith;
    before = λ j d before. absurd (omega (arith, before));
    after = λ j d after inside. is.after (suc j) d (omega arith) (omega (arith, inside));
  }

  -- what is found from a place on: the entry there, if it has the name, or what is found behind it
  pub find-here : (es : List (List ℕ × X)) (k : ℕ) (name : List ℕ) (d : List ℕ × X) → k < length es → (get_or es k d).0 ≡ name → find by_bytes name (drop k es) ≡ Some (get_or es k d).1
  find-here [] k name d within same = absurd (omega (arith, within))
  find-here (e ∷ es) zero name d within same = ap (λ b. cond b (Some e.1) (find by_bytes name es)) (ap (same_name name) same ∙ (eq_by_cmp_equiv nat_list_cmp_total).refl name)
  find-here (e ∷ es) (suc k) name d within same = find-here es k name d (omega (arith, within)) same

  pub find-on : (es : List (List ℕ × X)) (k : ℕ) (name : List ℕ) (d : List ℕ × X) → k < length es → (get_or es k d).0 ≢ name → find by_bytes name (drop k es) ≡ find by_bytes name (drop (suc k) es)
  find-on [] k name d within apart = absurd (omega (arith, within))
  find-on (e ∷ es) zero name d within apart =
      elim (same_name name e.0) as (λ b. same_name name e.0 ≡ b → cond b (Some e.1) (find by_bytes name es) ≡ find by_bytes name es) [
        | true ↦ λ same. absurd (apart (sym (named_same name e.0 same)))
        | false ↦ λ same. refl
      ] refl
  find-on (e ∷ es) (suc k) name d within apart = find-on es k name d (omega (arith, within)) apart

  -- what is found at a gap
  pub find-gap : (es : List (List ℕ × X)) (name : List ℕ) (at : ℕ) → IsGap es name at → find by_bytes name es ≡ None
  find-gap [] name at is = refl
  find-gap (e ∷ es) name zero is = ap (λ o. cond (is_eq o) (Some e.1) (find by_bytes name es)) (is.after 0 e (omega arith) (omega arith)) ∙ find-gap es name 0 (first-gap-tail e es name is)
  find-gap (e ∷ es) name (suc at) is = ap (λ o. cond (is_eq o) (Some e.1) (find by_bytes name es)) (is.before 0 e (omega arith)) ∙ find-gap es name at (gap-tail e es name at is)

  -- what a value written there, an entry put there and an entry taken there make of the entries
  put-at : (es : List (List ℕ × X)) (name : List ℕ) (v : X) (at : ℕ) (d : List ℕ × X) → IsAt es name at → put by_bytes name v es ≡ set es at ((get_or es at d).0, v)
  put-at [] name v at d is = absurd (omega (arith, is.inside))
  put-at (e ∷ es) name v zero d is = ap (λ o. by_order o ((name, v) ∷ e ∷ es) ((e.0, v) ∷ es) (e ∷ put by_bytes name v es)) (is.here d)
  put-at (e ∷ es) name v (suc at) d is = ap (λ o. by_order o ((name, v) ∷ e ∷ es) ((e.0, v) ∷ es) (e ∷ put by_bytes name v es)) (is.before 0 d (omega arith))
      ∙ ap (λ rest. e ∷ rest) (put-at es name v at d (at-tail e es name at is))

  put-gap : (es : List (List ℕ × X)) (name : List ℕ) (v : X) (at : ℕ) → IsGap es name at → put by_bytes name v es ≡ insert es at (name, v)
  put-gap [] name v zero is = refl
  put-gap [] name v (suc at) is = absurd (omega (arith, is.inside))
  put-gap (e ∷ es) name v zero is = ap (λ o. by_order o ((name, v) ∷ e ∷ es) ((e.0, v) ∷ es) (e ∷ put by_bytes name v es)) (is.after 0 e (omega arith) (omega arith))
  put-gap (e ∷ es) name v (suc at) is = ap (λ o. by_order o ((name, v) ∷ e ∷ es) ((e.0, v) ∷ es) (e ∷ put by_bytes name v es)) (is.before 0 e (omega arith))
      ∙ ap (λ rest. e ∷ rest) (put-gap es name v at (gap-tail e es name at is))

  where-gap : (es : List (List ℕ × X)) (name : List ℕ) → IsGap es name 0 → where_key by_bytes (other_name name) es ≡ es
  where-gap [] name is = refl
  where-gap (e ∷ es) name is = ap (λ o. cond (not (is_eq o)) (e ∷ where_key by_bytes (other_name name) es) (where_key by_bytes (other_name name) es)) (is.after 0 e (omega arith) (omega arith))
      ∙ ap (λ rest. e ∷ rest) (where-gap es name (first-gap-tail e es name is))

  where-at : (es : List (List ℕ × X)) (name : List ℕ) (at : ℕ) → IsAt es name at → where_key by_bytes (other_name name) es ≡ remove es at
  where-at [] name at is = absurd (omega (arith, is.inside))
  where-at (e ∷ es) name zero is = ap (λ o. cond (not (is_eq o)) (e ∷ where_key by_bytes (other_name name) es) (where_key by_bytes (other_name name) es)) (is.here e)
      ∙ where-gap es name (record { inside = omega arith; before = λ j d before. absurd (omega (arith, before)); after = λ j d after inside. is.after (suc j) d (omega arith) (omega (arith, inside)) })
  where-at (e ∷ es) name (suc at) is = ap (λ o. cond (not (is_eq o)) (e ∷ where_key by_bytes (other_name name) es) (where_key by_bytes (other_name name) es)) (is.before 0 e (omega arith))
      ∙ ap (λ rest. e ∷ rest) (where-at es name at (at-tail e es name at is))

  -- the map of the entries
  pub get-map_of : (es : List (List ℕ × X)) → IsRising es → (name : List ℕ) → get (map_of es) name ≡ find by_bytes name es
  get-map_of es rising name = get-from_sorted by_bytes es name rising

  pub same-map_of : (es fs : List (List ℕ × X)) → IsRising es → IsRising fs → map_of es ≡ map_of fs → es ≡ fs
  same-map_of es fs rising also same = sym (entries-from_sorted by_bytes es rising) ∙ ap entries same ∙ entries-from_sorted by_bytes fs also

  map_of-put : (es : List (List ℕ × X)) → IsRising es → (name : List ℕ) (v : X) → map_of (put by_bytes name v es) ≡ map.insert (map_of es) name v
  map_of-put es rising name v = same_entries_map _ _ (entries-from_sorted by_bytes _ (is_sorted-put by_bytes nat_list_cmp_total name v es rising)
      ∙ sym (entries-insert nat_list_cmp_total (map_of es) name v ∙ ap (put by_bytes name v) (entries-from_sorted by_bytes es rising)))

  turned-cond : (b : Bool) (x y : Option X) → cond (not b) x y ≡ cond b y x
  turned-cond true x y = refl
  turned-cond false x y = refl

  map_of-where : (es : List (List ℕ × X)) → IsRising es → (name : List ℕ) → map_of (where_key by_bytes (other_name name) es) ≡ map.remove (map_of es) name
  map_of-where es rising name = same_map nat_list_cmp_total (slice_cmp-IsAntisymmetric nat_cmp-IsAntisymmetric) _ _ (λ q.
      get-from_sorted by_bytes _ q (is_sorted-where_key by_bytes (other_name name) es rising)
      ∙ find-where_key by_bytes (other_name name) q (λ x tie. ap (λ o. not (is_eq o)) (sym (alike_right nat_list_cmp_total q x name tie))) es
      ∙ turned-cond (same_name name q) (find by_bytes q es) None
      ∙ ap (λ b. cond b None (find by_bytes q es)) ((eq_by_cmp_equiv nat_list_cmp_total).symm name q)
      ∙ sym (get-remove nat_list_cmp_total (map_of es) name q ∙ ap (cond (same_name q name) None) (get-map_of es rising q)))

  -- what each change makes of the map, and that the names still rise
  pub rising-written : (es : List (List ℕ × X)) → IsRising es → (name : List ℕ) (v : X) (at : ℕ) (d : List ℕ × X) → IsAt es name at → IsRising (set es at ((get_or es at d).0, v))
  rising-written es rising name v at d is = subst IsRising (put-at es name v at d is) (is_sorted-put by_bytes nat_list_cmp_total name v es rising)

  pub map-written : (es : List (List ℕ × X)) → IsRising es → (name : List ℕ) (v : X) (at : ℕ) (d : List ℕ × X) → IsAt es name at → map_of (set es at ((get_or es at d).0, v)) ≡ map.insert (map_of es) name v
  map-written es rising name v at d is = ap map_of (sym (put-at es name v at d is)) ∙ map_of-put es rising name v

  pub rising-put : (es : List (List ℕ × X)) → IsRising es → (name : List ℕ) (v : X) (at : ℕ) → IsGap es name at → IsRising (insert es at (name, v))
  rising-put es rising name v at is = subst IsRising (put-gap es name v at is) (is_sorted-put by_bytes nat_list_cmp_total name v es rising)

  pub map-put : (es : List (List ℕ × X)) → IsRising es → (name : List ℕ) (v : X) (at : ℕ) → IsGap es name at → map_of (insert es at (name, v)) ≡ map.insert (map_of es) name v
  map-put es rising name v at is = ap map_of (sym (put-gap es name v at is)) ∙ map_of-put es rising name v

  pub rising-taken : (es : List (List ℕ × X)) → IsRising es → (name : List ℕ) (at : ℕ) → IsAt es name at → IsRising (remove es at)
  rising-taken es rising name at is = subst IsRising (where-at es name at is) (is_sorted-where_key by_bytes (other_name name) es rising)

  pub map-taken : (es : List (List ℕ × X)) → IsRising es → (name : List ℕ) (at : ℕ) → IsAt es name at → map_of (remove es at) ≡ map.remove (map_of es) name
  map-taken es rising name at is = ap map_of (sym (where-at es name at is)) ∙ map_of-where es rising name

  -- a name that has no value can't lose it
  absent-cond : (b : Bool) (o : Option X) → (b ≡ true → o ≡ None) → cond b None o ≡ o
  absent-cond true o none = sym (none refl)
  absent-cond false o none = refl

  pub remove-absent : (m : Names X) (name : List ℕ) → get m name ≡ None → map.remove m name ≡ m
  remove-absent m name none = same_map nat_list_cmp_total (slice_cmp-IsAntisymmetric nat_cmp-IsAntisymmetric) _ _ (λ q.
      get-remove nat_list_cmp_total m name q ∙ absent-cond (same_name q name) (get m q) (λ e. ap (get m) (named_same q name e) ∙ none))

  -- no entry at all
  pub map_of-nothing : map_of {X = X} [] ≡ map.empty
  map_of-nothing = same_map nat_list_cmp_total (slice_cmp-IsAntisymmetric nat_cmp-IsAntisymmetric) (map_of {X = X} []) map.empty (λ q. get-from_sorted by_bytes [] q tt ∙ sym (map.get-empty by_bytes q))

  -- nothing is found and not found
  pub not_there : {o : Option X} {Any : Type 0} → o ≡ None → IsSome o → Any
  not_there none some = absurd (false≢true (sym (ap is_some none) ∙ some))
