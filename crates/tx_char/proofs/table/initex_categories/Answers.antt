use Rattle.std.proofs.Common.{rules, arith, refl}
use Rattle.tx_char.specs.Category.{initial_category, numbers_below}
use Rattle.tx_char.proofs.Tables.{take-more-written, all_written}
use Rattle.tx_char.proofs.table.initex_categories.Goals as goal

pub loop-code-init : goal.loop-code-init
unfolding numbers_below
loop-code-init c = (refl, refl)

pub loop-code-preserved : goal.loop-code-preserved
loop-code-preserved c = (search rules, take-more-written initial_category _ _ _ c.category_in_initex.ensures (omega (arith, c.loop-code.invariant.0)) c.loop-code.invariant.1)

pub returns : goal.returns
returns c = all_written _ _ c.loop-code.invariant.0 c.loop-code-test.false c.loop-code.auto.code-end c.loop-code.invariant.1
