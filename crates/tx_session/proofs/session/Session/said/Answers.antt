use Rattle.std.proofs.Common.{ap, ◌∙◌}
use Rattle.tx_session.specs.Held.{Held, fresh, transcript}
use Rattle.tx_session.proofs.Showing.{shown-said}
use Rattle.tx_session.proofs.session.Session.said.Goals as goal

pub returns : goal.returns
returns g c = c.as_slice.ensures ∙ shown-said c.self.invariant ∙ ap (λ (held : Held). transcript (fresh g.M.Machine.formatter held).ran) c.self.view_is
