use Rattle.std.proofs.Common.{ap, ◌∙◌, length}
use Rattle.tx_session.specs.Held.{Held, fresh}
use Rattle.tx_session.proofs.Showing.{shown-pages}
use Rattle.tx_session.proofs.session.Session.pages.Goals as goal

pub returns : goal.returns
returns g c = ap length c.as_slice.ensures.value ∙ ap length (shown-pages c.self.invariant) ∙ ap (λ (held : Held). length (fresh g.M.Machine.formatter held).ran.pages) c.self.view_is
