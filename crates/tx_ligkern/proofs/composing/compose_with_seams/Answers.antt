use Rattle.std.proofs.lemmas.List.Elements.{All-weaker}
use Rattle.tx_ligkern.specs.Composed.{composed}
use Rattle.tx_ligkern.specs.Pieces.{word_of}
use Rattle.tx_ligkern.specs.Seams.{IsCut, IsSeam}
use Rattle.tx_ligkern.proofs.Once.{once}
use Rattle.tx_ligkern.proofs.Seaming.{cut-is_seam}
use Rattle.tx_ligkern.proofs.Within.{composed-is}
use Rattle.tx_ligkern.proofs.composing.compose_with_seams.Goals as goal

pub returns-clause-value : goal.returns-clause-value
returns-clause-value c =
    once c.args.font.now (word_of c.args.chars.now c.args.left c.args.right) c.in_ok-made.made.items c.in_ok-made.ensures.becomes (composed c.args.font.now c.args.chars.now c.args.left c.args.right)
    (composed-is c.args.font.now c.args.chars.now c.args.left c.args.right c.is_sound.ensures c.requires)

pub returns-clause-seams : goal.returns-clause-seams
returns-clause-seams c =
    All-weaker (IsCut c.args.font.now c.args.left (word_of c.args.chars.now c.args.left c.args.right)) (IsSeam c.args.font.now c.args.chars.now c.args.left c.args.right)
    (λ seam is. cut-is_seam c.args.font.now c.args.chars.now c.args.left c.args.right c.is_sound.ensures c.requires seam is) c.in_ok-made.made.seams c.in_ok-made.ensures.seams
