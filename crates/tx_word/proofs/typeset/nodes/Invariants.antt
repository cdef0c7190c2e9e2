use Rattle.std.proofs.Common.{take}
use Rattle.std.specs.List.{All}
use Rattle.tx_word.specs.Lists.{AreMade, HasGlue}
use Rattle.tx_word.proofs.typeset.nodes.Given as goal

abbrev pub invariant-loop-piece : goal.invariant-loop-piece
invariant-loop-piece l = record {
  made : AreMade l.fonts l.params (take l.piece-index l.pieces) l.list;
  fits : All (HasGlue l.fonts l.params) (take l.piece-index l.pieces);
}
