use Rattle.std.proofs.Common.{◌∙◌, ap, sym, subst}
use Rattle.tx_linebreak.specs.Shared.{IsShared, chains_in}
use Rattle.tx_linebreak.proofs.Links.{chains_in-none, shared-none}
use Rattle.tx_linebreak.proofs.chains.Chains.new.Goals as goal

pub invariant_of-result : goal.invariant_of-result
invariant_of-result c = subst IsShared (sym c.new.ensures.items) shared-none

pub returns : goal.returns
returns c = ap chains_in c.new.ensures.items ∙ chains_in-none
