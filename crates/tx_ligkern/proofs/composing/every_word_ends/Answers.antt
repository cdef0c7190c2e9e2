use Rattle.tx_ligkern.proofs.Steps.{words_end}
use Rattle.tx_ligkern.proofs.composing.every_word_ends.Goals as goal

pub returns : goal.returns
returns c = words_end c.args.font.now c.is_sound.ensures
