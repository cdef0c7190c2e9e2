use Rattle.std.proofs.Common.{◌++◌, take, ap, ◌∙◌}
use Rattle.tx_checkpoint.specs.Locate.{located, located_in}
use Rattle.tx_checkpoint.proofs.Locating.{located-rows}
use Rattle.tx_session.specs.Held.{Held, rows_of}
use Rattle.tx_session.proofs.Living.{alone, held-is, cut-located}
use Rattle.tx_session.proofs.live.LiveDocument.locate.Goals as goal

pub returns-in-None : goal.returns-in-None
returns-in-None g c =
    c.locate.ensures ∙ located-rows g.M.Machine.meaning c.args.name.now c.args.place (alone c.self.invariant c.in-None.is).rows
    ∙ ap (λ (held : Held). located (rows_of g.M.Machine.formatter held) c.args.name.now c.args.place) (held-is c.self.invariant c.self.view_is)

pub returns-in-Some : goal.returns-in-Some
returns-in-Some g c =
    c.locate_between.ensures
    ∙ (λ i. located_in (take c.in-Some.earlier.cut.kept (c.as_slice.ensures.value i) ++ c.as_slice-in-Some.ensures.value i) c.in-Some.earlier.cut.last c.args.name.now c.args.place)
    ∙ cut-located (c.self.invariant.kept c.in-Some.earlier c.in-Some.is) c.args.name.now c.args.place
    ∙ ap (λ (held : Held). located (rows_of g.M.Machine.formatter held) c.args.name.now c.args.place) (held-is c.self.invariant c.self.view_is)
