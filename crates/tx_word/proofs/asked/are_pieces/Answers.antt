use Rattle.std.proofs.Common.{◌≡◌, ◌∙◌, false, true, refl, rules, sym, subst}
use Rattle.std.specs.List.{All}
use Rattle.std.proofs.lemmas.Bool.{false≢true, true≢false}
use Rattle.std.proofs.lemmas.List.{take_all}
use Rattle.std.proofs.lemmas.List.Elements.{All-get_or, All-more}
use Rattle.tx_word.specs.Lists.{IsPiece}
use Rattle.tx_word.proofs.asked.are_pieces.Goals as goal

pub returns-then-not-is_piece : goal.returns-then-not-is_piece
returns-then-not-is_piece c =
    let fails : c.is_piece.result ≡ false = search rules in (
      λ is. absurd (false≢true is),
      λ all. absurd (true≢false (sym (c.is_piece.ensures.1 (subst (IsPiece c.args.fonts.now) (sym c.piece-item.is) (All-get_or (IsPiece c.args.fonts.now) c.args.pieces.now c.loop-piece.piece-index _ c.loop-piece-test.true all))) ∙ fails)),
    )

pub loop-piece-preserved : goal.loop-piece-preserved
loop-piece-preserved c =
    let holds : c.is_piece.result ≡ true = search rules in
    All-more (IsPiece c.args.fonts.now) c.args.pieces.now c.loop-piece.piece-index c.piece-item.result c.loop-piece-test.true c.loop-piece.invariant (subst (IsPiece c.args.fonts.now) c.piece-item.is (c.is_piece.ensures.0 holds))

pub returns : goal.returns
returns c =
    let all : All (IsPiece c.args.fonts.now) c.args.pieces.now =
    subst (All (IsPiece c.args.fonts.now)) (take_all c.loop-piece.piece-index c.args.pieces.now c.loop-piece-test.false) c.loop-piece.invariant in
    (λ is. all, λ every. refl)
