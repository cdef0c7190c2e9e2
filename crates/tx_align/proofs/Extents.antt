-- A column begins behind the columns before it, with their skips.
use Rattle.std.proofs.Common.{◌≡◌, ℕ, zero, suc, ℤ, pos, ◌+ℤ◌, ◌-ℤ◌, Bool, true, false, cond, List, [], ◌∷◌, ◌++◌, drop, length, slice_get, Option, Some, None, Result, Ok, Err, refl, sym, ap, subst, arith}
use Rattle.std.proofs.lemmas.Int.{ints}
use Rattle.tx_num.specs.Glue.{GlueSpec, zero_glue}
use Rattle.tx_pack.specs.Packing.{if_fits}
use Rattle.tx_num.specs.Limits.{fits}
use Rattle.tx_align.specs.declared.entry.Entry.{Entry}
use Rattle.tx_align.specs.declared.error.AlignError.{AlignError}
use Rattle.tx_align.specs.declared.sized.SizedColumn.{SizedColumn}
use Rattle.tx_align.specs.declared.sized.Sizing.{Sizing}
use Rattle.tx_align.specs.Preambles.{Forming}
use Rattle.tx_align.specs.Columns.{skip_behind}
use Rattle.tx_align.specs.Widths.{begin_of, next_begins, none_sized, sized_from, sizing_next, widest, with_ending, with_narrow, with_next, with_width}
use Rattle.tx_align.specs.Extents.{LeavesRoom, extent}

-- columns one behind the other, from one place to another
abbrev Chain : ℤ → List SizedColumn → ℤ → Type 0
Chain begins [] end = end ≡ begins
Chain begins (c ∷ rest) end = (c.begins ≡ begins) × Chain (begins +ℤ c.width +ℤ c.skip.width) rest end

chain-more : (begins end : ℤ) (columns : List SizedColumn) (width : ℤ) (skip : GlueSpec) → Chain begins columns end
    → Chain begins (columns ++ record { begins = end; width = width; skip = skip } ∷ []) (end +ℤ width +ℤ skip.width)
chain-more begins end [] width skip h = (h, ap (λ (z : ℤ). z +ℤ width +ℤ skip.width) h)
chain-more begins end (c ∷ rest) width skip h = (h.0, chain-more (begins +ℤ c.width +ℤ c.skip.width) end rest width skip h.1)

-- the room that they take
chain-extent : (begins end : ℤ) (columns : List SizedColumn) → Chain begins columns end → end ≡ begins +ℤ extent columns
chain-extent begins end [] h = let here : end ≡ begins = h in let e : end ≡ begins +ℤ pos 0 = omega (arith, ints, here) in e
chain-extent begins end (c ∷ rest) h =
    let later : end ≡ begins +ℤ c.width +ℤ c.skip.width +ℤ extent rest = chain-extent (begins +ℤ c.width +ℤ c.skip.width) end rest h.1 in
    let e : end ≡ begins +ℤ (c.width +ℤ c.skip.width +ℤ extent rest) = omega (arith, ints, later) in
    e

chain-left : (begins end : ℤ) (columns : List SizedColumn) (i : ℕ) → Chain begins columns end → end -ℤ begin_of (slice_get columns i) end ≡ extent (drop i columns)
chain-left begins end [] zero h = let e : end -ℤ end ≡ pos 0 = omega (arith, ints) in e
chain-left begins end [] (suc i) h = let e : end -ℤ end ≡ pos 0 = omega (arith, ints) in e
chain-left begins end (c ∷ rest) zero h =
    let whole : end ≡ begins +ℤ (c.width +ℤ c.skip.width +ℤ extent rest) = chain-extent begins end (c ∷ rest) h in
    let here : c.begins ≡ begins = h.0 in
    let e : end -ℤ c.begins ≡ c.width +ℤ c.skip.width +ℤ extent rest = omega (arith, ints, whole, here) in
    e
chain-left begins end (c ∷ rest) (suc i) h = chain-left (begins +ℤ c.width +ℤ c.skip.width) end rest i h.1

-- columns whose widths are known are so
abbrev IsLaid : ℤ → Sizing → Type 0
IsLaid begins s = Chain begins s.columns s.begins

abbrev size_or : ℤ → Option ℤ → ℤ
size_or other None = other
size_or other (Some size) = size

abbrev sizing_or : Sizing → Result Sizing AlignError → Sizing
sizing_or other (Err e) = other
sizing_or other (Ok s) = s

by-fits : (size n : ℤ) (b : Bool) → cond b (Some size) None ≡ Some n → n ≡ size
by-fits size n true is = sym (ap (size_or size) is)
by-fits size n false is = absurd (cc)

fits-is : (size n : ℤ) → if_fits size ≡ Some n → n ≡ size
fits-is size n is = by-fits size n (fits size) is

next-laid : (begins : ℤ) (s t : Sizing) (width : ℤ) (skip : GlueSpec) (o : Option ℤ) → if_fits (next_begins s width skip) ≡ o → with_next s width skip o ≡ Ok t
    → IsLaid begins s → IsLaid begins t
next-laid begins s t width skip None fit is h = absurd (cc)
next-laid begins s t width skip (Some n) fit is h =
    subst (IsLaid begins) (ap (sizing_or s) is)
    (subst (Chain begins (s.columns ++ record { begins = s.begins; width = width; skip = skip } ∷ [])) (sym (fits-is (next_begins s width skip) n fit))
    (chain-more begins s.begins s.columns width skip h))

narrow-laid : (begins : ℤ) (s t : Sizing) (skip : GlueSpec) (o : Option ℤ) → with_narrow s skip o ≡ Ok t → IsLaid begins s → IsLaid begins t
narrow-laid begins s t skip None is h = absurd (cc)
narrow-laid begins s t skip (Some width) is h = next-laid begins s t width skip (if_fits (next_begins s width skip)) refl is h

width-laid : (begins : ℤ) (s t : Sizing) (skip : GlueSpec) (o : Option ℤ) → with_width s skip o ≡ Ok t → IsLaid begins s → IsLaid begins t
width-laid begins s t skip None is h = narrow-laid begins s t zero_glue (if_fits (pos 0)) is h
width-laid begins s t skip (Some width) is h = narrow-laid begins s t skip (if_fits width) is h

ending-laid : (begins : ℤ) (p : Forming) (s t : Sizing) (ending : List Entry) → with_ending p s ending ≡ Ok t → IsLaid begins s → IsLaid begins t
ending-laid begins p s t ending is h = width-laid begins s t (skip_behind p (length s.columns)) (widest s ending) is h

step-laid : (begins : ℤ) (p : Forming) (s t : Sizing) (ending : List Entry) (rest : List (List Entry)) (r : Result Sizing AlignError)
    → ((u : Sizing) → sized_from p u rest ≡ Ok t → IsLaid begins u → IsLaid begins t)
    → with_ending p s ending ≡ r → sizing_next (λ more. sized_from p more rest) r ≡ Ok t → IsLaid begins s → IsLaid begins t
step-laid begins p s t ending rest (Err e) later made is h = absurd (cc)
step-laid begins p s t ending rest (Ok u) later made is h = later u is (ending-laid begins p s u ending made h)

all-laid : (begins : ℤ) (p : Forming) (s t : Sizing) (groups : List (List Entry)) → sized_from p s groups ≡ Ok t → IsLaid begins s → IsLaid begins t
all-laid begins p s t [] is h = subst (IsLaid begins) (ap (sizing_or s) is) h
all-laid begins p s t (ending ∷ rest) is h =
    step-laid begins p s t ending rest (with_ending p s ending) (λ u made laid. all-laid begins p u t rest made laid) refl is h

pub leaves_room : (p : Forming) → LeavesRoom p
leaves_room p groups s entry is =
    let laid : IsLaid p.first.width s = all-laid p.first.width p (none_sized p) s groups is refl in
    ap (λ (z : ℤ). entry.width -ℤ z) (chain-left p.first.width s.begins s.columns entry.first laid)
