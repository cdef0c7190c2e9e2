use Rattle.std.proofs.Common.{◌++◌, take, sym, ap, ◌∙◌}
use Rattle.tx_session.specs.Held.{Held, fresh}
use Rattle.tx_session.proofs.Living.{alone, held-is, cut-pages-are}
use Rattle.tx_session.proofs.Showing.{shown-pages}
use Rattle.tx_session.proofs.live.Live.shown.Goals as goal

pub returns-in-None : goal.returns-in-None
returns-in-None g c =
    sym c.split_at.ensures.by_index.0 ∙ c.as_slice-pages.ensures.value ∙ shown-pages (alone c.self.invariant c.in-None.is)
    ∙ ap (λ (held : Held). (fresh g.M.Machine.formatter held).ran.pages) (held-is c.self.invariant c.self.view_is)

pub returns-in-Some : goal.returns-in-Some
returns-in-Some g c =
    (λ i. take c.in-Some.earlier.cut.kept (c.as_slice-pages.ensures.value i) ++ c.as_slice.ensures.value i)
    ∙ cut-pages-are (c.self.invariant.kept c.in-Some.earlier c.in-Some.is)
    ∙ ap (λ (held : Held). (fresh g.M.Machine.formatter held).ran.pages) (held-is c.self.invariant c.self.view_is)
