use Rattle.std.proofs.Common.{List, ◌<◌, length, sym, subst}
use Rattle.tx_linebreak.specs.declared.params.LineShape.{LineShape}
use Rattle.tx_par.proofs.Ends.{pieces-enough}
use Rattle.tx_par.proofs.set.set.Goals as goal

pub add_lines-requires : goal.add_lines-requires
add_lines-requires c = record {
  seen = pieces-enough c.as_slice.result.now c.args.items.now c.args.pieces.now c.as_slice-2.result.now c.as_slice.ensures c.as_slice-2.ensures c.requires.seen;
  shaped = subst (λ (shapes : List LineShape). 0 < length shapes) (sym c.as_slice-3.ensures) c.requires.shaped;
  rule = c.requires.rule;
}
