use Rattle.std.proofs.Common.{◌++◌, ℤ, sym, ap, ◌∙◌, rules, w32, FitsSigned, to_z-of_z}
use Rattle.std.specs.List.{flat_map}
use Rattle.std.proofs.lemmas.Result.{IfOk-equal}
use Rattle.tx_ligkern.specs.declared.item.LigItem.TheVariants.{Kern}
use Rattle.tx_ligkern.specs.declared.pair.Met.{Met}
use Rattle.tx_ligkern.specs.Pairs.{kern_in}
use Rattle.tx_word.specs.Words.{word_items}
use Rattle.tx_word.proofs.Fronts.{one-item}
use Rattle.tx_word.proofs.word.append_kern.Goals as goal

pub returns-in-Kern : goal.returns-in-Kern
returns-in-Kern c =
    let f = word_items c.args.fonts.now c.args.font c.args.hyphen in
    let fits : FitsSigned w32 c.in-Kern.size = search rules in
    IfOk-equal c.append_item.result _ _ _ c.append_item.ensures
    (ap (λ (size : ℤ). c.args.list.now ++ f (Kern size)) (to_z-of_z fits)
    ∙ one-item f c.args.list.now (Kern c.in-Kern.size)
    ∙ ap (λ (met : Met). c.args.list.now ++ flat_map f (kern_in met)) (sym c.in-Kern.is))
