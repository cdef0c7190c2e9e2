-- The map that the entries stand for answers as a search of the entries does, and a change of an entry is one in it.
use Rattle.std.proofs.Common.{◌≡◌, ℕ, Bool, true, false, cond, List, [], ◌∷◌, map, Option, Some, None, refl, sym, ap, subst, ◌∙◌, ◌≤◌, length, slice_get, arith, nat_eq, true≢false}
use Rattle.std.specs.Global.{Vec}
use Rattle.std.specs.Ordering.{nat_cmp}
use Rattle.std.specs.Cmp.Lexicographic.{slice_cmp}
use Rattle.std.specs.Cmp.Lexicographic.{pointwise, same_text, bytes_decides, nat_list_cmp_total, nat_list_eq_equiv}
use Rattle.std.specs.Str.{bytes_eq}
use Rattle.std.specs.Map.{lookup, KeepsOthers}
use Rattle.std.specs.FinMap.{find, get, insert, remove, get-from_entries, get-insert, get-remove, same_map, slice_cmp-IsAntisymmetric, nat_cmp-IsAntisymmetric}
use Rattle.std.proofs.lemmas.Map.Text.{is_eq-slice_cmp}
use Rattle.indexmap.specs.IndexMap.{insert_entry}
use Rattle.tx_files.specs.Entries.{by_names}

-- the test by which the entries' keys are told apart
abbrev pub same_key : Vec ℕ → Vec ℕ → Bool
same_key a b = pointwise nat_eq a.items b.items

-- at keys that are told apart, only one of two tests of a third key passes
one_of_two : (q k e : List ℕ) (b c : Bool) {X : Type 0} (v old rest : X) → bytes_eq q k ≡ b → bytes_eq q e ≡ c → bytes_eq k e ≡ false → cond c old (cond b v rest) ≡ cond b v (cond c old rest)
one_of_two q k e true true v old rest qk qe ke = absurd (true≢false (sym qe ∙ ap (λ x. bytes_eq x e) (same_text q k (sym qk)) ∙ ke))
one_of_two q k e true false v old rest qk qe ke = refl
one_of_two q k e false true v old rest qk qe ke = refl
one_of_two q k e false false v old rest qk qe ke = refl

twice : (c : Bool) {X : Type 0} (v old rest : X) → cond c v rest ≡ cond c v (cond c old rest)
twice true v old rest = refl
twice false v old rest = refl

module _ {X : Type 0} where
  pub find-entries : (es : List (Vec ℕ × X)) (q : List ℕ) → find (slice_cmp nat_cmp) q (map (λ e. (e.0.items, e.1)) es) ≡ lookup (λ k. bytes_eq q k.items) es
  find-entries [] q = refl
  find-entries (e ∷ es) q = λ i. cond (is_eq-slice_cmp q e.0.items i) (Some e.1) (find-entries es q i)

  pub get-by_names : (es : List (Vec ℕ × X)) (q : List ℕ) → get (by_names es) q ≡ lookup (λ k. bytes_eq q k.items) es
  get-by_names es q = get-from_entries nat_list_cmp_total _ q ∙ find-entries es q

  pub lookup-insert_entry : (es : List (Vec ℕ × X)) (k : Vec ℕ) (v : X) (q : List ℕ) → lookup (λ x. bytes_eq q x.items) (insert_entry same_key es k v) ≡ cond (bytes_eq q k.items) (Some v) (lookup (λ x. bytes_eq q x.items) es)
  lookup-insert_entry [] k v q = refl
  lookup-insert_entry (e ∷ es) k v q = by (same_key k e.0) refl (lookup-insert_entry es k v q)
    where
      find_in : List (Vec ℕ × X) → Option X
      find_in = lookup (λ x. bytes_eq q x.items)

      by : (b : Bool) → same_key k e.0 ≡ b → find_in (insert_entry same_key es k v) ≡ cond (bytes_eq q k.items) (Some v) (find_in es)
          → find_in (cond b ((e.0, v) ∷ es) (e ∷ insert_entry same_key es k v)) ≡ cond (bytes_eq q k.items) (Some v) (cond (bytes_eq q e.0.items) (Some e.1) (find_in es))
      by true h rest = twice (bytes_eq q e.0.items) (Some v) (Some e.1) (find_in es) ∙ ap (λ x. cond (bytes_eq q x) (Some v) (cond (bytes_eq q e.0.items) (Some e.1) (find_in es))) (sym (same_text k.items e.0.items (sym h)))
      by false h rest = ap (λ r. cond (bytes_eq q e.0.items) (Some e.1) r) rest ∙ one_of_two q k.items e.0.items _ _ (Some v) (Some e.1) (find_in es) refl refl h

  pub by_names-insert_entry : (es : List (Vec ℕ × X)) (k : Vec ℕ) (v : X) → by_names (insert_entry same_key es k v) ≡ insert (by_names es) k.items v
  by_names-insert_entry es k v = same_map nat_list_cmp_total (slice_cmp-IsAntisymmetric nat_cmp-IsAntisymmetric) _ _ (λ q.
      get-by_names (insert_entry same_key es k v) q
      ∙ lookup-insert_entry es k v q
      ∙ sym (λ i. cond (is_eq-slice_cmp q k.items i) (Some v) (get-by_names es q i))
      ∙ sym (get-insert nat_list_cmp_total (by_names es) k.items v q))

  others : (name q : List ℕ) (old new : List (Vec ℕ × X)) → bytes_eq name q ≡ false → KeepsOthers same_key (λ k. bytes_eq name k.items) old new
      → lookup (λ k. bytes_eq q k.items) new ≡ lookup (λ k. bytes_eq q k.items) old
  unfolding KeepsOthers
  others name q old new apart keeps = keeps (λ k. bytes_eq q k.items) (λ x y. nat_list_eq_equiv.congr q x.items y.items) (λ k same. nat_list_eq_equiv.symm q k.items ∙ sym (nat_list_eq_equiv.congr name k.items q same) ∙ apart)

  -- after a change of the entry with one key, the map is as before, but at this name
  pub get-updates : (name : List ℕ) (old new : List (Vec ℕ × X)) (now : Option X) → lookup (λ k. bytes_eq name k.items) new ≡ now → KeepsOthers same_key (λ k. bytes_eq name k.items) old new
      → (q : List ℕ) → get (by_names new) q ≡ cond (bytes_eq q name) now (get (by_names old) q)
  get-updates name old new now here keeps q = get-by_names new q ∙ by (bytes_eq q name) refl
    where
      by : (same : Bool) → bytes_eq q name ≡ same → lookup (λ k. bytes_eq q k.items) new ≡ cond same now (get (by_names old) q)
      by true e = ap (λ x. lookup (λ k. bytes_eq x k.items) new) ((bytes_decides q name).0 e) ∙ here
      by false e = others name q old new (nat_list_eq_equiv.symm name q ∙ e) keeps ∙ sym (get-by_names old q)

  pub by_names-removed : (name : List ℕ) (old new : List (Vec ℕ × X)) → lookup (λ k. bytes_eq name k.items) new ≡ None → KeepsOthers same_key (λ k. bytes_eq name k.items) old new → by_names new ≡ remove (by_names old) name
  by_names-removed name old new here keeps = same_map nat_list_cmp_total (slice_cmp-IsAntisymmetric nat_cmp-IsAntisymmetric) _ _ (λ q.
      get-updates name old new None here keeps q
      ∙ sym (get-remove nat_list_cmp_total (by_names old) name q ∙ ap (λ b. cond b None (get (by_names old) q)) (is_eq-slice_cmp q name)))

  pub by_names-changed : (name : List ℕ) (value : X) (old new : List (Vec ℕ × X)) → lookup (λ k. bytes_eq name k.items) new ≡ Some value → KeepsOthers same_key (λ k. bytes_eq name k.items) old new → by_names new ≡ insert (by_names old) name value
  by_names-changed name value old new here keeps = same_map nat_list_cmp_total (slice_cmp-IsAntisymmetric nat_cmp-IsAntisymmetric) _ _ (λ q.
      get-updates name old new (Some value) here keeps q
      ∙ sym (get-insert nat_list_cmp_total (by_names old) name value q ∙ ap (λ b. cond b (Some value) (get (by_names old) q)) (is_eq-slice_cmp q name)))

  -- without an entry no name has one
  pub get-nothing : (es : List (Vec ℕ × X)) → slice_get es 0 ≡ None → (q : List ℕ) → get (by_names es) q ≡ None
  get-nothing [] none q = get-by_names [] q
  get-nothing (e ∷ es) none q = absurd (let it : Some e ≡ None = none in cc)

  -- where there is one entry at most, each name has that one or none
  pub get-one : (P : Option X → Type 0) (es : List (Vec ℕ × X)) {e : Vec ℕ × X} → length es ≤ 1 → slice_get es 0 ≡ Some e → P None → P (Some e.1) → (q : List ℕ) → P (get (by_names es) q)
  get-one P [] few first none one q = absurd (let it : None ≡ Some _ = first in cc)
  get-one P (x ∷ y ∷ es) few first none one q = absurd (omega arith)
  get-one P (x ∷ []) {e = e} few first none one q =
      subst P (sym (get-by_names (x ∷ []) q)) (by (bytes_eq q x.0.items))
    where
      same : x ≡ e
      same = let it : Some x ≡ Some e = first in cc

      by : (b : Bool) → P (cond b (Some x.1) None)
      by true = subst (λ (v : Vec ℕ × X). P (Some v.1)) (sym same) one
      by false = none
