use Rattle.std.proofs.Common.{◌∙◌, ap, sym, subst}
use Rattle.tx_linebreak.specs.Shared.{IsMade, IsShared, chains_in, with_link}
use Rattle.tx_linebreak.proofs.Links.{chains_in-push, shared-push}
use Rattle.tx_linebreak.proofs.chains.Chains.push.Goals as goal

pub invariant_of-self-2 : goal.invariant_of-self-2
invariant_of-self-2 c =
    subst IsShared (sym c.in_ok-push.ensures.items)
    (shared-push c.self.inside.links.items c.args.link c.self.invariant (subst (λ chains. IsMade chains c.args.link) (sym c.self.view_is) c.requires))

pub returns-clause-ok : goal.returns-clause-ok
returns-clause-ok c =
    ap chains_in c.in_ok-push.ensures.items ∙ chains_in-push c.self.inside.links.items c.args.link
    ∙ ap (λ chains. with_link chains c.args.link) c.self.view_is
