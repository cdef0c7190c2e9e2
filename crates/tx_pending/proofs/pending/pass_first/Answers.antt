use Rattle.std.proofs.Common.{◌≡◌, ◌≢◌, ◌+◌, ◌-◌, arith, false-eqb, ℕ, List, [], ◌∷◌, ◌++◌, get_or, length, set, take, refl, ap, sym, ◌∙◌}
use Rattle.tx_lex.specs.declared.types.ReadState.{ReadState}
use Rattle.tx_pending.specs.declared.source.Source.{Source}
use Rattle.tx_pending.specs.Elements.{Element, Given, Held, Mark, PartEnd, Unread}
use Rattle.tx_pending.specs.Plain.{passed}
use Rattle.tx_pending.specs.Sources.{elements_of, stack_elements}
use Rattle.tx_pending.proofs.StackSteps.{ready-top, stack_elements-top, stack-set, stack-split}
use Rattle.tx_pending.proofs.pending.pass_first.Goals as goal

-- what stands behind the first element doesn't matter
passed-front : (now : ReadState) (xs ys : List Element) → xs ≢ [] → passed now xs ++ ys ≡ passed now (xs ++ ys)
passed-front now [] ys some = absurd (some refl)
passed-front now (Given t ∷ xs) ys some = refl
passed-front now (Held t ∷ xs) ys some = refl
passed-front now (Mark ∷ xs) ys some = refl
passed-front now (PartEnd part ∷ xs) ys some = refl
passed-front now (Unread unread state ∷ xs) ys some = refl

-- what the innermost source passes, the whole passes
passes-top : (now : ReadState) (stack : List Source) (i : ℕ) (from to : Source) → length stack ≡ i + 1 → from ≡ get_or stack i from → elements_of from ≢ [] → elements_of to ≡ passed now (elements_of from) → stack_elements (set stack i to) ≡ passed now (stack_elements stack)
passes-top now stack i from to long is some passes =
    let below : List Element = stack_elements (take i stack) in
    ap stack_elements (stack-set stack i to long) ∙ stack_elements-top (take i stack) to ∙ ap (λ (xs : List Element). xs ++ below) passes
    ∙ passed-front now (elements_of from) below some
    ∙ ap (passed now) (sym (ap stack_elements (stack-split stack i from long is) ∙ stack_elements-top (take i stack) from))

pub returns : goal.returns
returns c =
    let stack : List Source = c.args.stack.now.items in
    let some : c.args.stack.now.len ≢ 0 = false-eqb c.args.stack.now.len 0 (sym (sym c.is_empty.ensures ∙ c.if-is_empty.false)) in
    let long : length stack ≡ c.len-top.result - 1 + 1 = omega (arith, c.args.stack.now.ok, c.len-top.ensures) in
    let ready : elements_of c.index_mut.result.now ≢ [] = ready-top stack (c.len-top.result - 1) c.index_mut.result.now long c.index_mut.ensures.value c.requires in
    passes-top c.args.state stack (c.len-top.result - 1) c.index_mut.result.now c.pass_first.new.self long c.index_mut.ensures.value ready c.pass_first.ensures
