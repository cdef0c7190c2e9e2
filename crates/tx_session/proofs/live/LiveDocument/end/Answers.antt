use Rattle.std.proofs.Common.{ap, ◌∙◌}
use Rattle.tx_session.specs.Held.{Held, fresh}
use Rattle.tx_session.proofs.Living.{alone, held-is, cut-end-is}
use Rattle.tx_session.proofs.Showing.{shown-end}
use Rattle.tx_session.proofs.live.LiveDocument.end.Goals as goal

pub returns-in-None : goal.returns-in-None
returns-in-None g c = shown-end (alone c.self.invariant c.in-None.is) ∙ ap (λ (held : Held). (fresh g.M.Machine.formatter held).ran.end) (held-is c.self.invariant c.self.view_is)

pub returns-in-Some : goal.returns-in-Some
returns-in-Some g c = cut-end-is (c.self.invariant.kept c.in-Some.earlier c.in-Some.is) ∙ ap (λ (held : Held). (fresh g.M.Machine.formatter held).ran.end) (held-is c.self.invariant c.self.view_is)
