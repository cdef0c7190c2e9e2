use Rattle.std.proofs.Common.{◌≡◌, ◌<◌, ◌-◌, ◌∙◌, ℕ, ap, arith, get_or, length, refl, set}
use Rattle.std.specs.Prelude.{reverse}
use Rattle.std.proofs.lemmas.List.{length-reverse}
use Rattle.tx_list.proofs.Reversed.{first-set, first-value}
use Rattle.tx_list.proofs.stack.Stack.first_mut.Goals as goal

pub overflow_sub-last : goal.overflow_sub-last
overflow_sub-last g c =
    let there = rw (← c.self.view_is) at c.requires in
    omega (arith, length-reverse c.self.inside.oldest_first)

pub item_mut-requires : goal.item_mut-requires
item_mut-requires g c =
    let there = rw (← c.self.view_is) at c.requires in
    omega (arith, length-reverse c.self.inside.oldest_first)

pub returns : goal.returns
returns g c =
    let xs = c.self.inside.oldest_first in
    let there = rw (← c.self.view_is) at c.requires in
    let some : 0 < length xs = omega (arith, length-reverse xs) in
    let at : c.len-last.result - 1 ≡ length xs - 1 = ap (λ (n : ℕ). n - 1) c.len-last.ensures in (
      (refl, λ w. rw (← c.self.view_is) (ap (λ (k : ℕ). reverse (set xs k w)) at ∙ first-set xs w some)),
      record {
        writes_back = tt;
        value = rw (← c.self.view_is) (c.item_mut.ensures.value ∙ ap (λ (k : ℕ). get_or xs k c.item_mut.result.now) at ∙ first-value xs c.item_mut.result.now);
      },
    )
