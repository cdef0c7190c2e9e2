use Rattle.std.proofs.Common.{refl, arith, sym, ◌∙◌}
use Rattle.tx_quiesce.proofs.Fitting.{never-fit, fit-on, fit-stops, fit-all}
use Rattle.tx_quiesce.proofs.meeting.opens_fit.Goals as goal

pub returns-then-old-new : goal.returns-then-old-new
returns-then-old-new c = never-fit c.args.changes.now c.args.old.now c.args.new.now c.if-old-new.true

pub loop-at-init : goal.loop-at-init
loop-at-init c = refl

pub returns-then-not-file_fits : goal.returns-then-not-file_fits
returns-then-not-file_fits c = fit-stops c.args.changes.now c.loop-at.at c.args.old.now c.args.new.now c.if-old-new.false c.loop-at.invariant c.loop-at-test.true c.index-old-at.is c.index-new-at.is ((sym c.if-not-file_fits.true) ∙ c.file_fits.ensures)

pub loop-at-preserved : goal.loop-at-preserved
loop-at-preserved c = fit-on c.args.changes.now c.loop-at.at c.args.old.now c.args.new.now c.if-old-new.false c.loop-at.invariant c.loop-at-test.true c.index-old-at.is c.index-new-at.is ((sym c.if-not-file_fits.false) ∙ c.file_fits.ensures)

pub returns : goal.returns
returns c = fit-all c.args.changes.now c.loop-at.at c.args.old.now c.args.new.now c.if-old-new.false c.loop-at.invariant (omega (arith, c.loop-at-test.false))
