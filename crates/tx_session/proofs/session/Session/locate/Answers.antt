use Rattle.std.proofs.Common.{sym, ap, ◌∙◌, subst}
use Rattle.tx_checkpoint.specs.declared.located.Located.{Located}
use Rattle.tx_checkpoint.specs.Locate.{located}
use Rattle.tx_checkpoint.proofs.Locating.{located-rows}
use Rattle.tx_session.specs.Held.{Held, rows_of}
use Rattle.tx_session.specs.Locating.{AllLeaveBy}
use Rattle.tx_session.proofs.Locating.{all-leave-by}
use Rattle.tx_session.proofs.session.Session.locate.Goals as goal

pub returns-clause-located : goal.returns-clause-located
returns-clause-located g c =
    c.locate.ensures ∙ located-rows g.M.Machine.meaning c.args.name.now c.args.place c.self.invariant.rows
    ∙ ap (λ (held : Held). located (rows_of g.M.Machine.formatter held) c.args.name.now c.args.place) c.self.view_is

pub returns-clause-leaves : goal.returns-clause-leaves
returns-clause-leaves g c =
    let is = c.locate.ensures ∙ located-rows g.M.Machine.meaning c.args.name.now c.args.place c.self.invariant.rows
    ∙ ap (λ (held : Held). located (rows_of g.M.Machine.formatter held) c.args.name.now c.args.place) c.self.view_is in
    subst (λ (at : Located). AllLeaveBy g.M.Machine.formatter c.args.self.now c.args.name.now c.args.place at) (sym is)
    (all-leave-by g.M.Machine.formatter c.args.self.now c.args.name.now c.args.place)
