use Rattle.tx_word.proofs.Spaced.{none-between}
use Rattle.tx_word.proofs.space.space_between.Goals as goal

pub returns-in-Err : goal.returns-in-Err
returns-in-Err c = none-between c.args.fonts.now c.args.params.now c.args.font c.args.factor c.from.result c.is_glue.ensures c.is_glue-2.ensures c.requires.most c.from.ensures c.in-Err.ensures.overflow.1
