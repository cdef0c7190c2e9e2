use Rattle.std.proofs.Common.{sym, arith}
use Rattle.std.proofs.lemmas.List.{take_all}
use Rattle.tx_num.proofs.decimal.counted.Goals as goal

pub returns-else-digits-gt-COUNTED_DIGITS-clause-value : goal.returns-else-digits-gt-COUNTED_DIGITS-clause-value
returns-else-digits-gt-COUNTED_DIGITS-clause-value c = sym (take_all 17 c.args.digits.now (omega arith))
