use Rattle.std.proofs.Common.{◌≤◌, ap, subst, ◌∙◌}
use Rattle.tx_machine.specs.Steps.{raised}
use Rattle.tx_session.specs.Held.{Held, held_of}
use Rattle.tx_session.proofs.Showing.{fresh-turns}
use Rattle.tx_session.proofs.live.Live.open.Goals as goal

pub returns-in_err-made-clause-most : goal.returns-in_err-made-clause-most
returns-in_err-made-clause-most g c =
    let held : Held = held_of c.args.files c.args.main c.args.date c.args.limits in
    subst (λ turns. c.make_anew.new.steps ≤ raised c.args.steps.now turns) (fresh-turns g.M.Machine.formatter held) c.make_anew.ensures.bound

pub returns-clause-counted : goal.returns-clause-counted
returns-clause-counted g c =
    let held : Held = held_of c.args.files c.args.main c.args.date c.args.limits in
    c.in_ok-made.ensures.counted ∙ ap (raised c.args.steps.now) (fresh-turns g.M.Machine.formatter held)

pub returns-clause-most : goal.returns-clause-most
returns-clause-most g c =
    let held : Held = held_of c.args.files c.args.main c.args.date c.args.limits in
    subst (λ turns. c.make_anew.new.steps ≤ raised c.args.steps.now turns) (fresh-turns g.M.Machine.formatter held) c.make_anew.ensures.bound
