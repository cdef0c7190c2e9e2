use Rattle.std.proofs.Common.{◌≡◌, ℕ, true, false, refl, sym, ap, ◌∙◌, arith}
use Rattle.tx_tfm.specs.declared.file.Tfm.{Tfm}
use Rattle.tx_tfm.specs.Rules.{is_piece, pair_ends, all_pairs_end_after}
use Rattle.tx_tfm.specs.Table.{piece_of}
use Rattle.tx_tfm.proofs.Every.{every-all, every-fails}
use Rattle.tx_tfm.proofs.Pairs.{all_pairs_end_after-without}
use Rattle.tx_tfm.proofs.file.Tfm.all_pairs_end_after.Goals as goal

-- of a piece that isn't there nothing is asked
absent : (t : Tfm) (j : ℕ) → is_piece t (piece_of j) ≡ false → all_pairs_end_after t j ≡ true
unfolding all_pairs_end_after pair_ends
absent t j none = every-all 257 (pair_ends t j) (λ k less. rw (pair_ends, none) refl)

pub returns-then-meets_none : goal.returns-then-meets_none
returns-then-meets_none c =
    sym (all_pairs_end_after-without c.args.self.now c.args.left (c.if-meets_none.ensures refl c.args.self.now c.requires.table))

pub returns-then-not-is_piece : goal.returns-then-not-is_piece
returns-then-not-is_piece c =
    sym (absent c.args.self.now c.args.left (ap (is_piece c.args.self.now) (sym c.piece.ensures) ∙ sym c.if-not-is_piece.ensures))

pub returns-then-not-ends : goal.returns-then-not-ends
unfolding all_pairs_end_after
returns-then-not-ends c = sym (every-fails (257) c.loop-k.k _ (omega arith) (sym c.in_ok-ends.ensures ∙ c.if-not-ends.true))
