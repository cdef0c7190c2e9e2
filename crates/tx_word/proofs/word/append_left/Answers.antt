use Rattle.std.proofs.Common.{◌++◌, ℕ, Option, sym, ap, ◌∙◌}
use Rattle.std.specs.List.{flat_map}
use Rattle.std.proofs.lemmas.Result.{IfOk-equal}
use Rattle.tx_ligkern.specs.declared.item.LigItem.TheVariants.{Char}
use Rattle.tx_word.specs.Composed.{left_items}
use Rattle.tx_word.specs.Words.{word_items}
use Rattle.tx_word.proofs.Fronts.{one-item}
use Rattle.tx_word.proofs.word.append_left.Goals as goal

pub returns-in-Some : goal.returns-in-Some
returns-in-Some c =
    let f = word_items c.args.fonts.now c.args.font c.args.hyphen in
    IfOk-equal c.append_item.result _ _ _ c.append_item.ensures
    (one-item f c.args.list.now (Char c.in-Some.code) ∙ ap (λ (left : Option ℕ). c.args.list.now ++ flat_map f (left_items left)) (sym c.in-Some.is))
