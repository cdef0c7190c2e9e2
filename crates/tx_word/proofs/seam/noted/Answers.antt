use Rattle.std.proofs.lemmas.List.Elements.{Contains-get_or}
use Rattle.tx_word.proofs.seam.noted.Goals as goal

pub returns-then-is_at : goal.returns-then-is_at
returns-then-is_at c = (Contains-get_or c.args.seams.now c.loop-seam.seam-index _ c.loop-seam-test.true, c.is_at.ensures.0 c.if-is_at.true)
