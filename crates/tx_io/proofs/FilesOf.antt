-- The files that a map's entries stand for answer as a search of the entries does, and follow an insertion.
use Rattle.std.proofs.Common.{◌≡◌, ℕ, cond, List, [], ◌∷◌, map, Some, refl, sym, ap, ◌∙◌}
use Rattle.std.specs.Global.{Vec}
use Rattle.std.specs.Ordering.{nat_cmp, eq_by_cmp, is_eq, match_ordering}
use Rattle.std.specs.declared.cmp.Ordering.{Ordering}
use Rattle.std.specs.declared.cmp.Ordering.TheVariants.{Less, Equal, Greater}
use Rattle.std.specs.Cmp.Lexicographic.{slice_cmp, nat_list_cmp_total}
use Rattle.std.specs.Map.{lookup}
use Rattle.std.specs.FinMap.{find, put, insert, get-from_entries, get-insert, same_map, slice_cmp-IsAntisymmetric, nat_cmp-IsAntisymmetric}
use Rattle.std.specs.FinMap.Entries.{by_order, find-put}
use Rattle.std.specs.BTreeMap.{insert_entry}
use Rattle.tx_bytes.specs.Files.{content}
use Rattle.tx_io.specs.Entries.{files_of}

-- the order of names
abbrev by_bytes : List ℕ → List ℕ → Ordering
by_bytes = slice_cmp nat_cmp

-- an entry with its name as a list
abbrev plain : Vec ℕ × List ℕ → List ℕ × List ℕ
plain entry = (entry.0.items, entry.1)

find-plain : (es : List (Vec ℕ × List ℕ)) (q : List ℕ) → find by_bytes q (map plain es) ≡ lookup (λ k. is_eq (by_bytes q k.items)) es
find-plain [] q = refl
find-plain (e ∷ es) q = ap (cond (is_eq (by_bytes q e.0.items)) (Some e.1)) (find-plain es q)

pub content-files_of : (es : List (Vec ℕ × List ℕ)) (q : List ℕ) → content (files_of es) q ≡ lookup (λ k. is_eq (by_bytes q k.items)) es
content-files_of es q = get-from_entries nat_list_cmp_total _ q ∙ find-plain es q

plain-insert_entry : (es : List (Vec ℕ × List ℕ)) (k : Vec ℕ) (v : List ℕ)
    → map plain (insert_entry (λ a b. by_bytes a.items b.items) es k v) ≡ put by_bytes k.items v (map plain es)
plain-insert_entry [] k v = refl
plain-insert_entry (e ∷ es) k v =
    elim (by_bytes k.items e.0.items) as (λ o. map plain (match_ordering o ((k, v) ∷ e ∷ es) ((e.0, v) ∷ es) (e ∷ insert_entry (λ a b. by_bytes a.items b.items) es k v))
    ≡ by_order o ((k.items, v) ∷ plain e ∷ map plain es) ((e.0.items, v) ∷ map plain es) (plain e ∷ put by_bytes k.items v (map plain es))) [
      | Less ↦ refl
      | Equal ↦ refl
      | Greater ↦ ap (λ rest. plain e ∷ rest) (plain-insert_entry es k v)
    ]

pub files_of-insert_entry : (es : List (Vec ℕ × List ℕ)) (k : Vec ℕ) (v : List ℕ)
    → files_of (insert_entry (λ a b. by_bytes a.items b.items) es k v) ≡ insert (files_of es) k.items v
files_of-insert_entry es k v = same_map nat_list_cmp_total (slice_cmp-IsAntisymmetric nat_cmp-IsAntisymmetric) _ _ (λ q.
    get-from_entries nat_list_cmp_total _ q
    ∙ ap (find by_bytes q) (plain-insert_entry es k v)
    ∙ find-put by_bytes nat_list_cmp_total q k.items v (map plain es)
    ∙ sym (get-insert nat_list_cmp_total (files_of es) k.items v q ∙ ap (cond (eq_by_cmp by_bytes q k.items) (Some v)) (get-from_entries nat_list_cmp_total (map plain es) q)))
