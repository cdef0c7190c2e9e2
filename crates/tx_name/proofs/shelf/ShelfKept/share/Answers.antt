use Rattle.std.proofs.Common.{sym, ap, subst, ◌∙◌}
use Rattle.tx_name.specs.Buckets.{IsPlaced, bucket_of, together}
use Rattle.tx_name.proofs.Held.{held-clones}
use Rattle.tx_name.proofs.shelf.ShelfKept.share.Goals as goal

pub invariant_of-result : goal.invariant_of-result
invariant_of-result g c = subst (IsPlaced bucket_of) (sym (held-clones _ _ c.in_ok-clone.ensures.cases.0)) c.self.invariant

pub returns : goal.returns
returns g c = ap together (held-clones _ _ c.in_ok-clone.ensures.cases.0) ∙ c.self.view_is
