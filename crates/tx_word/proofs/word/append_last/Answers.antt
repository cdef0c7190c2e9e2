use Rattle.std.proofs.Common.{◌∷◌, ◌++◌, [], Bool, false, Some, None, sym, ap, subst, ◌∙◌}
use Rattle.std.proofs.lemmas.Result.{IfOk-equal}
use Rattle.tx_word.specs.Composed.{word_list, IsPaired}
use Rattle.tx_word.proofs.Fronts.{on-last, on-last-alone}
use Rattle.tx_word.proofs.word.append_last.Goals as goal

pub returns-then-not-right : goal.returns-then-not-right
returns-then-not-right c =
    IfOk-equal c.append_item.result _ _ _ c.append_item.ensures
    (on-last-alone c.args.fonts.now c.args.font c.args.named.now c.args.hyphen c.requires.named c.requires.sound c.args.code c.args.list.now c.requires.there
    ∙ ap (λ (right : Bool). c.args.list.now ++ word_list c.args.fonts.now c.args.font (c.args.code ∷ []) false right c.args.hyphen) (sym c.if-not-right.true))

pub returns-then-done : goal.returns-then-done
returns-then-done c =
    on-last c.args.fonts.now c.args.font c.args.named.now c.args.hyphen c.requires.named c.requires.sound c.args.code c.args.list.now c.append_pair.new.list c.requires.there
    (subst (λ (done : Bool). IsPaired c.args.fonts.now c.args.font c.args.hyphen c.args.named.now.font (Some c.args.code) None done c.args.list.now c.append_pair.new.list) c.if-done.true c.in_ok-done.ensures)
    ∙ ap (λ (right : Bool). c.args.list.now ++ word_list c.args.fonts.now c.args.font (c.args.code ∷ []) false right c.args.hyphen) (sym c.if-not-right.false)

pub returns : goal.returns
returns c =
    let kept = subst (λ (done : Bool). IsPaired c.args.fonts.now c.args.font c.args.hyphen c.args.named.now.font (Some c.args.code) None done c.args.list.now c.append_pair.new.list) c.if-done.false c.in_ok-done.ensures in
    let right_is = sym c.if-not-right.false in
    IfOk-equal c.append_whole.result _ _ _ c.append_whole.ensures.value
    (λ i. kept i ++ word_list c.args.fonts.now c.args.font (c.args.code ∷ []) false (right_is i) c.args.hyphen)
