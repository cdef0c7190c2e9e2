use Rattle.std.proofs.Common.{◌≡◌, ◌≢◌, ◌+◌, ◌-◌, arith, false-eqb, ℕ, Option, Some, None, IfSome, List, ◌++◌, get_or, length, take, ap, sym, ◌∙◌}
use Rattle.tx_char.specs.declared.category.Cat.{Cat}
use Rattle.tx_lex.specs.declared.types.PlainToken.{PlainToken}
use Rattle.tx_pending.specs.declared.source.Source.{Source}
use Rattle.tx_pending.specs.Elements.{Element}
use Rattle.tx_pending.specs.Sources.{elements_of, stack_elements}
use Rattle.tx_pending.specs.Steps.{BeginsPlain}
use Rattle.tx_pending.proofs.StackSteps.{stack_elements-top, stack-split}
use Rattle.tx_pending.proofs.pending.first_plain.Goals as goal

-- what the innermost source begins with, the whole begins with
top-begins : (codes : List Cat) (stack : List Source) (i : ℕ) (top : Source) (found : Option PlainToken) → length stack ≡ i + 1 → top ≡ get_or stack i top → IfSome found (BeginsPlain codes (elements_of top)) → IfSome found (BeginsPlain codes (stack_elements stack))
top-begins codes stack i top None long is begins = tt
top-begins codes stack i top (Some plain) long is begins = record {
  element = begins.element;
  behind = begins.behind ++ stack_elements (take i stack);
  is = ap stack_elements (stack-split stack i top long is) ∙ stack_elements-top (take i stack) top ∙ ap (λ (xs : List Element). xs ++ stack_elements (take i stack)) begins.is;
  first = begins.first;
}

pub returns : goal.returns
returns c =
    let some : length c.args.stack.now ≢ 0 = false-eqb (length c.args.stack.now) 0 (sym (sym c.is_empty.ensures ∙ c.if-is_empty.false)) in
    let long : length c.args.stack.now ≡ length c.args.stack.now - 1 + 1 = omega arith in
    top-begins c.args.codes.now c.args.stack.now (length c.args.stack.now - 1) c.index-stack-stack.result c.first_plain.result long c.index-stack-stack.is c.first_plain.ensures
