-- What holds of the sums along a list of which there are sums.
use Rattle.std.proofs.Common.{◌≡◌, ◌≤◌, ◌<◌, ◌^◌, ℕ, zero, suc, ℤ, pos, ◌+ℤ◌, Bool, true, false, ◌&&◌, List, [], ◌∷◌, ◌++◌, fold, drop, get_or, length, Option, Some, None, refl, sym, ap, ◌∙◌, subst, arith, unsigned_abs, nat_lt, max, if◌then◌else◌}
use Rattle.std.specs.Prelude.{is_some}
use Rattle.std.proofs.lemmas.Int.{ints}
use Rattle.std.proofs.Math.Seq.{drop-cons}
use Rattle.tx_num.specs.Glue.{GlueSpec}
use Rattle.tx_node.specs.declared.head.BoxHead.{BoxHead}
use Rattle.tx_node.specs.declared.head.Change.{Change}
use Rattle.tx_node.specs.declared.head.Change.TheVariants.{Stretch, Shrink}
use Rattle.tx_node.specs.declared.head.Direction.{Direction}
use Rattle.tx_node.specs.declared.head.Direction.TheVariants.{Horizontal, Vertical}
use Rattle.tx_node.specs.declared.head.GlueSet.{GlueSet}
use Rattle.tx_node.specs.declared.head.Setting.{Setting}
use Rattle.tx_node.specs.declared.head.Setting.TheVariants.{Natural, Set}
use Rattle.tx_node.specs.declared.plain.Shared.TheVariants.{Rule}
use Rattle.tx_node.specs.declared.rule.Rule.{Rule as RuleSides}
use Rattle.tx_node.specs.Items.{Item, shared, items_of}
use Rattle.tx_node.specs.Counts.{nesting_of}
use Rattle.tx_node.specs.declared.node.Node.{Node}
use Rattle.tx_node.specs.Nodes.{IsBox, item_of, list_of}
use Rattle.tx_node.specs.Sizes.{glue_of_item}
use Rattle.tx_node.specs.Setting.{IsSet, sums_fit, share, part, part_of_glue}
use Rattle.tx_pack.specs.declared.sums.Orders.{Orders}
use Rattle.tx_pack.specs.declared.sums.Sums.{Sums}
use Rattle.tx_num.specs.Limits.{fits}
use Rattle.tx_pack.specs.Sums.{all_fit, asked_fit, orders_fit, with_glue, joined, joined_if_fit, with_item, nothing, sums_of}
use Rattle.tx_pack.specs.Verdicts.{ended_by}
use Rattle.tx_pack.proofs.Tests.{both, together}

-- the sum of one order, and the sums of stretch or of shrink
abbrev pick : ℕ → Orders → ℤ
pick zero o = o.normal
pick (suc zero) o = o.fil
pick (suc (suc zero)) o = o.fill
pick (suc (suc (suc n))) o = o.filll

abbrev orders_of : Change → Sums → Orders
orders_of Stretch s = s.stretch
orders_of Shrink s = s.shrink

no-more : (z : ℤ) → z ≡ z +ℤ pos 0
no-more z = omega (arith, ints)

pick-with : (change : Change) (order : ℕ) → order ≤ 3 → (g : Option GlueSpec) (o : Orders) → pick order (with_glue change g o) ≡ pick order o +ℤ part_of_glue change order g
pick-with change order h None o = no-more (pick order o)
pick-with change zero h (Some g) o = refl
pick-with change (suc zero) h (Some g) o = refl
pick-with change (suc (suc zero)) h (Some g) o = refl
pick-with change (suc (suc (suc zero))) h (Some g) o = refl
pick-with change (suc (suc (suc (suc n)))) h (Some g) o = absurd (omega (arith, h))

pick-joined : (direction : Direction) (change : Change) (order : ℕ) → order ≤ 3 → (s : Sums) (item : Item)
    → pick order (orders_of change (joined direction s item)) ≡ pick order (orders_of change s) +ℤ part change order item
pick-joined Horizontal Stretch order h s item = pick-with Stretch order h (glue_of_item item) s.stretch
pick-joined Horizontal Shrink order h s item = pick-with Shrink order h (glue_of_item item) s.shrink
pick-joined Vertical Stretch order h s item = pick-with Stretch order h (glue_of_item item) s.stretch
pick-joined Vertical Shrink order h s item = pick-with Shrink order h (glue_of_item item) s.shrink

pick-fits : (order : ℕ) (o : Orders) → orders_fit o ≡ true → fits (pick order o) ≡ true
pick-fits zero o e = (both (both e).0).0
pick-fits (suc zero) o e = (both (both e).0).1
pick-fits (suc (suc zero)) o e = (both (both e).1).0
pick-fits (suc (suc (suc n))) o e = (both (both e).1).1

all-fit : (change : Change) (order : ℕ) (s : Sums) → all_fit s ≡ true → fits (pick order (orders_of change s)) ≡ true
all-fit Stretch order s e = pick-fits order s.stretch (both (both e).1).0
all-fit Shrink order s e = pick-fits order s.shrink (both (both e).1).1

-- without sums behind an item there are none in the end
abbrev IsRun : Direction → Option Sums → List Item → Type 0
IsRun direction sums list = is_some (fold (with_item direction) sums list) ≡ true

no-run : (direction : Direction) (list : List Item) → is_some (fold (with_item direction) None list) ≡ false
no-run direction [] = refl
no-run direction (item ∷ rest) = no-run direction rest

none-stays : (direction : Direction) (list : List Item) → fold (with_item direction) None list ≡ None
none-stays direction [] = refl
none-stays direction (item ∷ rest) = none-stays direction rest

-- there are no sums of a whole list where a node can't be joined
pub stops : (direction : Direction) (xs : List Node) (i : ℕ) {x : Node} (s : Sums) {whole : Option Sums} → i < length xs → x ≡ get_or xs i x
    → fold (with_item direction) (Some s) (list_of (drop i xs)) ≡ whole → None ≡ joined_if_fit direction s (item_of x) → None ≡ whole
stops direction xs i {x} s h is whole_is isnt =
    sym (none-stays direction (list_of (drop (suc i) xs)))
    ∙ ap (λ sums. fold (with_item direction) sums (list_of (drop (suc i) xs))) (isnt ∙ ap (λ y. joined_if_fit direction s (item_of y)) is)
    ∙ ap (λ ys. fold (with_item direction) (Some s) (list_of ys)) (sym (drop-cons xs i x h)) ∙ whole_is

-- behind an item that could be joined
on : (direction : Direction) (s : Sums) (item : Item) (rest : List Item) (test : Bool)
    → is_some (fold (with_item direction) (if test then Some (joined direction s item) else None) rest) ≡ true → (test ≡ true) × IsRun direction (Some (joined direction s item)) rest
on direction s item rest true e = (refl, e)
on direction s item rest false e = absurd (cc (no-run direction rest, e))

run-fits : (direction : Direction) (g : GlueSet) → g.order ≤ 3 → (list : List Item) (s : Sums) → IsRun direction (Some s) list
    → sums_fit (Set g) (pick g.order (orders_of g.change s)) (items_of list) ≡ true
run-fits direction g h [] s e = refl
run-fits direction g h (item ∷ rest) s e =
    let next = on direction s item rest (asked_fit direction item && all_fit (joined direction s item)) e in
    let here : fits (pick g.order (orders_of g.change (joined direction s item))) ≡ true = all-fit g.change g.order (joined direction s item) (both next.0).1 in
    let later : sums_fit (Set g) (pick g.order (orders_of g.change (joined direction s item))) (items_of rest) ≡ true = run-fits direction g h rest (joined direction s item) next.1 in
    let P : ℤ → Type 0 = λ z. (nat_lt (unsigned_abs z) (2 ^ 30) && sums_fit (Set g) z (items_of rest)) ≡ true in
    subst P (pick-joined direction g.change g.order h s item) (together here later)

pick-nothing : (change : Change) (order : ℕ) → pick order (orders_of change nothing) ≡ pos 0
pick-nothing Stretch zero = refl
pick-nothing Stretch (suc zero) = refl
pick-nothing Stretch (suc (suc zero)) = refl
pick-nothing Stretch (suc (suc (suc n))) = refl
pick-nothing Shrink zero = refl
pick-nothing Shrink (suc zero) = refl
pick-nothing Shrink (suc (suc zero)) = refl
pick-nothing Shrink (suc (suc (suc n))) = refl

natural-fits : (list : List Item) → sums_fit Natural (pos 0) (items_of list) ≡ true
natural-fits [] = refl
natural-fits (item ∷ rest) = natural-fits rest

-- each sum along a list of which there are sums is a dimension, whichever part of its glue is set
pub set-fits : (direction : Direction) (setting : Setting) (list : List Item) → IsSet setting → is_some (sums_of direction list) ≡ true
    → sums_fit setting (pos 0) (items_of list) ≡ true
set-fits direction Natural list is_set e = natural-fits list
set-fits direction (Set g) list is_set e =
    let P : ℤ → Type 0 = λ z. sums_fit (Set g) z (items_of list) ≡ true in
    subst P (pick-nothing g.change g.order) (run-fits direction g is_set.order_in list nothing e)

-- a rule at the end changes neither nesting nor sums
rule-nests : (r : RuleSides) (list : List Item) → nesting_of (items_of (list ++ shared (Rule r) ∷ [])) ≡ nesting_of (items_of list)
rule-nests r [] = refl
rule-nests r (item ∷ rest) = ap (max _) (rule-nests r rest)

rule-share : (setting : Setting) (r : RuleSides) (z : ℤ) → z +ℤ share setting (shared (Rule r)) ≡ z
rule-share Natural r z = sym (no-more z)
rule-share (Set g) r z = sym (no-more z)

rule-fits : (setting : Setting) (r : RuleSides) (list : List Item) (z : ℤ) → fits z ≡ true → sums_fit setting z (items_of list) ≡ true
    → sums_fit setting z (items_of (list ++ shared (Rule r) ∷ [])) ≡ true
rule-fits setting r [] z here e = together (ap fits (rule-share setting r z) ∙ here) refl
rule-fits setting r (item ∷ rest) z here e = together (both e).0 (rule-fits setting r rest (z +ℤ share setting item) (both e).0 (both e).1)

-- a list that can be a box's can be with a rule at its end
pub ended-is : (head : BoxHead) (list : List Item) (width : Option ℤ) → IsBox head list → IsBox head (ended_by list width)
ended-is head list None is = is
ended-is head list (Some width) is =
    let r : RuleSides = record { width = Some width; height = None; depth = None } in
    record {
      nesting = subst (λ (n : ℕ). suc n ≤ 500) (sym (rule-nests r list)) is.nesting;
      is_set = is.is_set;
      sums = rule-fits head.setting r list (pos 0) refl is.sums;
    }
