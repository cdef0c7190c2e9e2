use Rattle.std.proofs.Common.{sym, ap, ◌∙◌}
use Rattle.tx_name.specs.Buckets.{held, together}
use Rattle.tx_name.proofs.Together.{same-together}
use Rattle.tx_name.proofs.shelf.ShelfKept.same.Goals as goal

pub returns : goal.returns
returns g c =
    let one = ap held c.as_slice.ensures.value in
    let other = ap held c.as_slice-2.ensures.value in (
      λ true. sym c.self.view_is ∙ ap together (sym one ∙ c.same_parts.ensures.0 true ∙ other) ∙ c.other.view_is,
      λ same. c.same_parts.ensures.1 (one
          ∙ same-together (held c.self.inside.buckets.items) (held c.other.inside.buckets.items) c.self.invariant c.other.invariant (c.self.view_is ∙ same ∙ sym c.other.view_is)
          ∙ sym other),
    )
