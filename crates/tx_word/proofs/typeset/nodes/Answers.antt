use Rattle.std.proofs.Common.{List, [], sym, subst, arith}
use Rattle.std.proofs.lemmas.List.{take_all}
use Rattle.tx_node.specs.Items.{Item}
use Rattle.tx_word.specs.declared.piece.Piece.{Piece}
use Rattle.tx_word.specs.Lists.{AreMade, Nothing}
use Rattle.tx_word.proofs.Made.{made-on, made-once, fits-on}
use Rattle.tx_word.proofs.typeset.nodes.Goals as goal

pub loop-piece-preserved : goal.loop-piece-preserved
loop-piece-preserved c = record {
  made = made-on c.args.fonts.now c.args.params.now c.args.pieces.now c.loop-piece.piece-index c.piece-item.result c.loop-piece-test.true c.piece-item.is c.loop-piece.invariant.made c.in_ok-append_piece.ensures.made;
  fits = fits-on c.args.fonts.now c.args.params.now c.args.pieces.now c.loop-piece.piece-index c.piece-item.result c.loop-piece-test.true c.piece-item.is c.loop-piece.invariant.fits c.in_ok-append_piece.ensures.fits;
}

pub loop-piece-init : goal.loop-piece-init
loop-piece-init c = record {
  made = subst (λ (list : List Item). AreMade c.args.fonts.now c.args.params.now [] list) (sym c.new-list.ensures) Nothing;
  fits = λ k d within. absurd (omega (arith, within));
}

pub returns-clause-only : goal.returns-clause-only
returns-clause-only c =
    made-once c.args.fonts.now c.args.params.now c.args.pieces.now c.loop-piece.list
    (subst (λ (ps : List Piece). AreMade c.args.fonts.now c.args.params.now ps c.loop-piece.list) (take_all c.loop-piece.piece-index c.args.pieces.now c.loop-piece-test.false) c.loop-piece.invariant.made)
