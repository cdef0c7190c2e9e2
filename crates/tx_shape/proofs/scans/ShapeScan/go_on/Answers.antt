use Rattle.std.proofs.Common.{rules}
use Rattle.tx_shape.proofs.Amounts.{fed-before, fewer-before, fewer-more, fewer-need, given-before}
use Rattle.tx_shape.proofs.scans.ShapeScan.go_on.Goals as goal

pub returns-in-Done-clause-fed : goal.returns-in-Done-clause-fed
returns-in-Done-clause-fed c =
    λ reading behind count k. fed-before c.args.self.now.amount c.end_before.new.self reading behind count c.in-Done.field-1 c.args.token.now c.in-Done.next c.end_before.result (search rules) (rw c.in-Done.is at k) c.end_before.ensures.reads

pub returns-in-Done-clause-given : goal.returns-in-Done-clause-given
returns-in-Done-clause-given c =
    λ reading count h k. given-before c.args.self.now.amount c.end_before.new.self reading count c.in-Done.field-1 c.args.token.now c.in-Done.next c.end_before.result (search rules) h (rw c.in-Done.is at k) c.end_before.ensures.reads

pub returns-in-Done-clause-fewer : goal.returns-in-Done-clause-fewer
returns-in-Done-clause-fewer c =
    λ old k. fewer-before c.end_before.new.self c.in-Done.next c.in-Done.field-1 old c.end_before.result (search rules) (rw c.in-Done.is at k) c.end_before.ensures.fewer

pub returns-in-More-clause-fewer : goal.returns-in-More-clause-fewer
returns-in-More-clause-fewer c =
    λ old k. fewer-more c.args.self.now old c.in-More.want c.requires (rw c.in-More.is at k)

pub returns-in-Need-clause-fewer : goal.returns-in-Need-clause-fewer
returns-in-Need-clause-fewer c =
    λ old k. fewer-need c.args.self.now old c.in-Need.kind c.requires (rw c.in-Need.is at k)

pub returns-in-Done-clause-needs : goal.returns-in-Done-clause-needs
returns-in-Done-clause-needs c =
    λ old k. c.end_before.ensures.needs old

pub returns-in-Done-clause-waits : goal.returns-in-Done-clause-waits
returns-in-Done-clause-waits c =
    λ k. c.end_before.ensures.waits
