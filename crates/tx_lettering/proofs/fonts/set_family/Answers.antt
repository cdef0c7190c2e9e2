use Rattle.tx_lettering.proofs.Loads.{sets-family}
use Rattle.tx_lettering.proofs.fonts.set_family.Goals as goal

pub returns : goal.returns
returns c =
    sets-family c.args.s.now c.carry_out_assignment.new.s c.args.size c.args.family c.number_of-number.result c.args.font c.in_family.result c.prefixes-global.result c.carry_out_assignment.result
    (c.number_of-number.ensures c.args.s.now) c.in_family.ensures c.prefixes-global.ensures c.carry_out_assignment.ensures
