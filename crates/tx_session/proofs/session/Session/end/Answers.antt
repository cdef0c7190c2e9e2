use Rattle.std.proofs.Common.{ap, ◌∙◌}
use Rattle.tx_session.specs.Held.{Held, fresh}
use Rattle.tx_session.proofs.Showing.{shown-end}
use Rattle.tx_session.proofs.session.Session.end.Goals as goal

pub returns : goal.returns
returns g c = shown-end c.self.invariant ∙ ap (λ (held : Held). (fresh g.M.Machine.formatter held).ran.end) c.self.view_is
