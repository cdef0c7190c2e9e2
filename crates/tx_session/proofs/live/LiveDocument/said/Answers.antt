use Rattle.std.proofs.Common.{ap, ◌∙◌}
use Rattle.tx_session.specs.Held.{Held, fresh, transcript}
use Rattle.tx_session.proofs.Living.{alone, held-is, cut-said-is}
use Rattle.tx_session.proofs.Showing.{shown-said}
use Rattle.tx_session.proofs.live.LiveDocument.said.Goals as goal

pub returns-in-None : goal.returns-in-None
returns-in-None g c = c.as_slice.ensures ∙ shown-said (alone c.self.invariant c.in-None.is) ∙ ap (λ (held : Held). transcript (fresh g.M.Machine.formatter held).ran) (held-is c.self.invariant c.self.view_is)

pub returns-in-Some : goal.returns-in-Some
returns-in-Some g c = c.as_slice-in-Some.ensures ∙ cut-said-is (c.self.invariant.kept c.in-Some.earlier c.in-Some.is) ∙ ap (λ (held : Held). transcript (fresh g.M.Machine.formatter held).ran) (held-is c.self.invariant c.self.view_is)
