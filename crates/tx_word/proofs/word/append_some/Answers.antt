use Rattle.std.proofs.Common.{◌++◌, Bool, Some, None, sym, subst, ap, ◌∙◌, get_or}
use Rattle.std.proofs.lemmas.Result.{IfOk-equal}
use Rattle.tx_word.specs.Composed.{word_list, IsPaired}
use Rattle.tx_word.proofs.Fronts.{on-left}
use Rattle.tx_word.proofs.word.append_some.Goals as goal

pub returns : goal.returns
returns c =
    IfOk-equal c.append_behind-2.result _ _ _ c.append_behind-2.ensures
    (on-left c.args.fonts.now c.args.font c.args.named.now c.args.hyphen c.requires.named c.requires.sound c.args.chars.now c.args.right c.args.list.now c.append_pair.new.list c.requires.some c.requires.there
    (subst (λ (done : Bool). IsPaired c.args.fonts.now c.args.font c.args.hyphen c.args.named.now.font None (Some (get_or c.args.chars.now 0 0)) done c.args.list.now c.append_pair.new.list) c.if-not-done.false c.in_ok-done.ensures)
    ∙ ap (λ (left : Bool). c.args.list.now ++ word_list c.args.fonts.now c.args.font c.args.chars.now left c.args.right c.args.hyphen) (sym c.if-not-left.false))

pub returns-then-not-done : goal.returns-then-not-done
returns-then-not-done c =
    let kept = subst (λ (done : Bool). IsPaired c.args.fonts.now c.args.font c.args.hyphen c.args.named.now.font None (Some (get_or c.args.chars.now 0 0)) done c.args.list.now c.append_pair.new.list) c.if-not-done.true c.in_ok-done.ensures in
    let left_is = sym c.if-not-left.false in
    IfOk-equal c.append_whole.result _ _ _ c.append_whole.ensures.value
    (λ i. kept i ++ word_list c.args.fonts.now c.args.font c.args.chars.now (left_is i) c.args.right c.args.hyphen)

pub returns-then-not-left : goal.returns-then-not-left
returns-then-not-left c =
    IfOk-equal c.append_behind.result _ _ _ c.append_behind.ensures
    (ap (λ (left : Bool). c.args.list.now ++ word_list c.args.fonts.now c.args.font c.args.chars.now left c.args.right c.args.hyphen) (sym c.if-not-left.true))
