use Rattle.std.proofs.Common.{◌++◌, sym, ap, ◌∙◌}
use Rattle.std.specs.List.{flat_map}
use Rattle.tx_ligkern.specs.Pairs.{is_ligature, kern_in, met_of}
use Rattle.tx_word.specs.Composed.{left_items}
use Rattle.tx_word.specs.Words.{word_items}
use Rattle.tx_word.proofs.Fronts.{two-parts}
use Rattle.tx_word.proofs.word.append_pair.Goals as goal

pub returns : goal.returns
returns c =
    let f = word_items c.args.fonts.now c.args.font c.args.hyphen in
    let met = met_of c.args.named.now.font c.args.left c.args.right in (
      ap is_ligature (sym c.pair_meets-met.ensures) ∙ sym c.if-is_ligature.ensures,
      two-parts f c.args.list.now c.append_left.new.list c.append_kern.new.list (left_items c.args.left) (kern_in met) c.in_ok-append_left.ensures
          (c.in_ok-append_kern.ensures ∙ ap (λ m. c.append_left.new.list ++ flat_map f (kern_in m)) c.pair_meets-met.ensures),
    )
