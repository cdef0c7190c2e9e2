use Rattle.tx_state.specs.declared.state.State.{State}
use Rattle.tx_lettering.proofs.Accenting.{below-fails, below-fits}
use Rattle.tx_lettering.proofs.accents.set_below.Goals as goal

pub returns-then-fits : goal.returns-then-fits
returns-then-fits c =
    let new : State = record c.args.s.now { said = c.put_below.new.said; words = c.put_below.new.words; scan = c.put_below.new.scan; lists = c.put_below.new.lists } in
    below-fits c.args.s.now new c.args.code c.in_ok-fits.fits c.current_font-font.result c.current_font-font.ensures c.if-fits.true (c.in_ok-fits.ensures c.args.s.now c.requires)

pub returns-else-fits : goal.returns-else-fits
returns-else-fits c =
    let mid : State = record c.args.s.now { said = c.put_below.new.said; words = c.put_below.new.words; scan = c.put_below.new.scan; lists = c.put_below.new.lists } in
    below-fails c.args.s.now mid c.fail.new.s c.args.code c.in_ok-fits.fits c.current_font-font.result c.fail.result c.current_font-font.ensures c.if-fits.false (c.in_ok-fits.ensures c.args.s.now c.requires) c.fail.ensures
