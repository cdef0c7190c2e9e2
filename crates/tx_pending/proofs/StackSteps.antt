-- Reading the innermost of the sources on a stack.
use Rattle.std.proofs.Common.{◌≡◌, ◌≢◌, ℕ, zero, suc, ◌+◌, ◌-◌, Option, Some, None, IfSome, List, [], ◌∷◌, ◌++◌, length, take, set, get_or, slice_get, refl, ap, sym, subst, ◌∙◌, arith, Bool, true, false}
use Rattle.std.proofs.lemmas.List.{take_all, take_more, take-set, take_more_set, length-set}
use Rattle.std.proofs.lemmas.List.Sums.{fold-append}
use Rattle.std.proofs.lemmas.Option.{slice_get_read}
use Rattle.tx_char.specs.declared.category.Cat.{Cat}
use Rattle.tx_pending.specs.declared.next.ColumnPart.{ColumnPart}
use Rattle.tx_pending.specs.declared.next.ColumnPart.TheVariants.{U, V}
use Rattle.tx_pending.specs.declared.next.Next.{Next}
use Rattle.tx_pending.specs.declared.next.Next.TheVariants.{Token, Held, Marker, PartEnd, Used, E1}
use Rattle.tx_pending.specs.declared.source.Source.{Source}
use Rattle.tx_pending.specs.declared.source.Source.TheVariants as source
use Rattle.tx_pending.specs.Elements.{Element, Given as Element_given, Held as Element_held, Mark, PartEnd as Element_part, Unread, begins_entry, behind_part, step_of, stepped}
use Rattle.tx_pending.specs.Sources.{IsReady, before, elements_of, stack_elements}
use Rattle.tx_pending.specs.Steps.{Gives, Takes, is_used, left_of}
use Rattle.tx_pending.proofs.ListSteps.{no-entry}

-- the elements of a stack are those of its innermost source, and then those of the others
pub stack_elements-top : (below : List Source) (top : Source) → stack_elements (below ++ top ∷ []) ≡ elements_of top ++ stack_elements below
stack_elements-top below top = fold-append before [] below (top ∷ [])

-- a stack whose innermost source is this one
pub stack-split : (stack : List Source) (i : ℕ) (top : Source) → length stack ≡ i + 1 → top ≡ get_or stack i top → stack ≡ take i stack ++ top ∷ []
stack-split stack i top long is =
    sym (take_all (i + 1) stack (omega arith)) ∙ take_more stack i top (omega arith) ∙ ap (λ t. take i stack ++ t ∷ []) (sym is)

pub stack-set : (stack : List Source) (i : ℕ) (top : Source) → length stack ≡ i + 1 → set stack i top ≡ take i stack ++ top ∷ []
stack-set stack i top long =
    let l : length (set stack i top) ≡ i + 1 = length-set stack i top ∙ long in
    sym (take_all (i + 1) (set stack i top) (omega arith)) ∙ take_more_set stack i top (omega arith)

-- of a line that is used up nothing is left, and of what gives another thing all that it leaves
left-none : (next : Next) (left : List Element) → is_used next ≡ true → left_of next left ≡ []
left-none (Token t) left used = absurd (cc)
left-none (Held t) left used = absurd (cc)
left-none Marker left used = absurd (cc)
left-none (PartEnd part) left used = absurd (cc)
left-none (Used close) left used = refl
left-none E1 left used = absurd (cc)

left-all : (next : Next) (left : List Element) → is_used next ≡ false → left_of next left ≡ left
left-all (Token t) left other = refl
left-all (Held t) left other = refl
left-all Marker left other = refl
left-all (PartEnd part) left other = refl
left-all (Used close) left other = absurd (cc)
left-all E1 left other = refl

-- what the innermost source gives, the whole gives
pub takes-top : (codes : List Cat) (closing : Bool) (stack : List Source) (i : ℕ) (from to : Source) (next : Next) → length stack ≡ i + 1 → from ≡ get_or stack i from → Gives codes closing (elements_of from) next (elements_of to) → is_used next ≡ false → Takes codes closing (stack_elements stack) next (stack_elements (set stack i to))
takes-top codes closing stack i from to next long is gives other =
    let below : List Element = stack_elements (take i stack) in
    let e : stack_elements stack ≡ elements_of from ++ below = ap stack_elements (stack-split stack i from long is) ∙ stack_elements-top (take i stack) from in
    let e' : stack_elements (set stack i to) ≡ elements_of to ++ below = ap stack_elements (stack-set stack i to long) ∙ stack_elements-top (take i stack) to in
    let left : left_of next (elements_of to) ++ below ≡ stack_elements (set stack i to) = ap (λ (xs : List Element). xs ++ below) (left-all next (elements_of to) other) ∙ sym e' in
    record {
      steps = λ level. ap (step_of codes closing level) e ∙ gives.steps level below ∙ ap (λ (xs : List Element). stepped closing level xs next) left;
    }

-- a line that is used up is taken away
pub takes-line : (codes : List Cat) (closing : Bool) (stack : List Source) (i : ℕ) (from to : Source) (next : Next) → length stack ≡ i + 1 → from ≡ get_or stack i from → Gives codes closing (elements_of from) next (elements_of to) → is_used next ≡ true → Takes codes closing (stack_elements stack) next (stack_elements (take i (set stack i to)))
takes-line codes closing stack i from to next long is gives used =
    let below : List Element = stack_elements (take i stack) in
    let e : stack_elements stack ≡ elements_of from ++ below = ap stack_elements (stack-split stack i from long is) ∙ stack_elements-top (take i stack) from in
    let left : left_of next (elements_of to) ++ below ≡ below = ap (λ (xs : List Element). xs ++ below) (left-none next (elements_of to) used) in
    rw take-set (record {
      steps = λ level. ap (step_of codes closing level) e ∙ gives.steps level below ∙ ap (λ (xs : List Element). stepped closing level xs next) left;
    })

-- something is left of the innermost source
pub ready-top : (stack : List Source) (i : ℕ) (top : Source) → length stack ≡ i + 1 → top ≡ get_or stack i top → IsReady stack → elements_of top ≢ []
ready-top stack i top long is ready =
    let last : length stack - 1 ≡ i = omega arith in
    let there : slice_get stack (length stack - 1) ≡ Some top = ap (slice_get stack) last ∙ slice_get_read stack (length stack) i top refl (omega arith) is in
    let P : Option Source → Type 0 = λ found. IfSome found (λ t. elements_of t ≢ []) in
    subst P there ready

-- what stands behind the first element doesn't matter
entry-front : (xs ys : List Element) → xs ≢ [] → begins_entry xs ≡ begins_entry (xs ++ ys)
entry-front [] ys some = absurd (some refl)
entry-front (Element_given t ∷ xs) ys some = refl
entry-front (Element_held t ∷ xs) ys some = refl
entry-front (Mark ∷ xs) ys some = refl
entry-front (Element_part U ∷ xs) ys some = refl
entry-front (Element_part V ∷ xs) ys some = refl
entry-front (Unread unread state ∷ xs) ys some = refl

-- an entry begins in front where the innermost source is the end of a u-part
pub entry-top : (stack : List Source) (i : ℕ) (top : Source) (found : Bool) → length stack ≡ i + 1 → top ≡ get_or stack i top → IsReady stack → found ≡ begins_entry (elements_of top) → found ≡ begins_entry (stack_elements stack)
entry-top stack i top found long is ready begins =
    begins
    ∙ entry-front (elements_of top) (stack_elements (take i stack)) (ready-top stack i top long is ready)
    ∙ ap begins_entry (sym (ap stack_elements (stack-split stack i top long is) ∙ stack_elements-top (take i stack) top))

-- such a source is that end alone
entry-only : (s : Source) → begins_entry (elements_of s) ≡ true → elements_of s ≡ Element_part U ∷ []
entry-only (source.List l) begins = absurd (let none = no-entry (source.List l) l refl in cc)
entry-only (source.Line l) begins = absurd (cc)
entry-only (source.Token None) begins = absurd (cc)
entry-only (source.Token (Some t)) begins = absurd (cc)
entry-only (source.Held None) begins = absurd (cc)
entry-only (source.Held (Some t)) begins = absurd (cc)
entry-only (source.PartEnd None) begins = absurd (cc)
entry-only (source.PartEnd (Some U)) begins = refl
entry-only (source.PartEnd (Some V)) begins = absurd (cc)

last-of : (stack : List Source) (i : ℕ) → length stack ≡ i + 1 → (top : Source) × (top ≡ get_or stack i top)
last-of [] i long = absurd (omega arith)
last-of (s ∷ []) zero long = (s, refl)
last-of (s ∷ []) (suc i) long = absurd (omega arith)
last-of (s ∷ t ∷ stack) zero long = absurd (omega arith)
last-of (s ∷ t ∷ stack) (suc i) long = last-of (t ∷ stack) i (omega arith)

-- what stands behind it is that of the sources around
pub entry-taken : (stack : List Source) → IsReady stack → begins_entry (stack_elements stack) ≡ true → stack_elements (take (length stack - 1) stack) ≡ behind_part (stack_elements stack)
entry-taken [] ready begins = absurd (cc)
entry-taken (s ∷ stack) ready begins =
    let all : List Source = s ∷ stack in
    let i : ℕ = length all - 1 in
    let long : length all ≡ i + 1 = omega arith in
    let top = last-of all i long in
    let whole : stack_elements all ≡ elements_of top.0 ++ stack_elements (take i all) = ap stack_elements (stack-split all i top.0 long top.1) ∙ stack_elements-top (take i all) top.0 in
    let here : begins_entry (elements_of top.0) ≡ true = entry-front (elements_of top.0) (stack_elements (take i all)) (ready-top all i top.0 long top.1 ready) ∙ ap begins_entry (sym whole) ∙ begins in
    sym (ap behind_part (whole ∙ ap (λ (xs : List Element). xs ++ stack_elements (take i all)) (entry-only top.0 here)))

-- where none begins all stays
pub none-begins : (xs : List Element) → begins_entry xs ≡ false → xs ≡ behind_part xs
none-begins [] none = refl
none-begins (Element_given t ∷ xs) none = refl
none-begins (Element_held t ∷ xs) none = refl
none-begins (Mark ∷ xs) none = refl
none-begins (Element_part U ∷ xs) none = absurd (cc)
none-begins (Element_part V ∷ xs) none = refl
none-begins (Unread unread state ∷ xs) none = refl
