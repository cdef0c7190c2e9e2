use Rattle.std.proofs.Common.{ℕ, ◌+◌, ◌++◌, Bool, false, Some, List, drop, arith, refl, subst, ap, ◌∙◌, get_or}
use Rattle.std.proofs.lemmas.List.{take_rest}
use Rattle.std.proofs.lemmas.Result.{IfOk-equal}
use Rattle.tx_node.specs.Items.{Item}
use Rattle.tx_word.specs.Composed.{word_list, IsPaired}
use Rattle.tx_word.proofs.Fronts.{last-had, last-left, on-pair}
use Rattle.tx_word.proofs.word.append_behind.Goals as goal

pub loop-at-init : goal.loop-at-init
loop-at-init c = record { put = refl; inside = c.requires.some }

pub loop-at-preserved : goal.loop-at-preserved
loop-at-preserved c = record {
  put = on-pair c.args.fonts.now c.args.font c.args.named.now c.args.hyphen c.requires.named c.requires.sound c.args.chars.now c.loop-at.at c.args.right c.loop-at.list c.append_pair.new.list c.loop-at-test.true c.requires.there
      (subst (λ (done : Bool). IsPaired c.args.fonts.now c.args.font c.args.hyphen c.args.named.now.font (Some (get_or c.args.chars.now c.loop-at.at 0)) (Some (get_or c.args.chars.now (c.loop-at.at + 1) 0)) done c.loop-at.list c.append_pair.new.list)
      c.if-not-done.false c.in_ok-done.ensures)
      ∙ c.loop-at.invariant.put;
  inside = omega arith;
}

pub append_last-requires-clause-there : goal.append_last-requires-clause-there
append_last-requires-clause-there c = last-had c.args.fonts.now c.args.font c.args.chars.now c.loop-at.at c.loop-at.invariant.inside c.loop-at-test.false c.requires.there

pub returns : goal.returns
returns c =
    IfOk-equal c.append_last.result _ _ _ c.append_last.ensures
    (last-left c.args.fonts.now c.args.font c.args.named.now c.args.hyphen c.requires.named c.requires.sound c.args.chars.now c.loop-at.at c.args.right c.loop-at.list c.loop-at.invariant.inside c.loop-at-test.false
    ∙ c.loop-at.invariant.put)

pub returns-then-not-done : goal.returns-then-not-done
returns-then-not-done c =
    let kept = subst (λ (done : Bool). IsPaired c.args.fonts.now c.args.font c.args.hyphen c.args.named.now.font (Some (get_or c.args.chars.now c.loop-at.at 0)) (Some (get_or c.args.chars.now (c.loop-at.at + 1) 0)) done c.loop-at.list c.append_pair.new.list)
    c.if-not-done.true c.in_ok-done.ensures in
    IfOk-equal c.append_whole.result _ _ _ c.append_whole.ensures.value
    (ap (λ (part : List ℕ). c.append_pair.new.list ++ word_list c.args.fonts.now c.args.font part false c.args.right c.args.hyphen) (take_rest c.args.chars.now c.loop-at.at)
    ∙ ap (λ (list : List Item). list ++ word_list c.args.fonts.now c.args.font (drop c.loop-at.at c.args.chars.now) false c.args.right c.args.hyphen) kept
    ∙ c.loop-at.invariant.put)
