use Rattle.std.proofs.Common.{sym, ap, ◌∙◌}
use Rattle.tx_name.specs.Buckets.{held, together}
use Rattle.tx_name.proofs.Together.{same-together}
use Rattle.tx_name.proofs.name_map.NameMap.same.Goals as goal

pub returns : goal.returns
returns g c =
    let one = ap held (c.as_slice.ensures.value ∙ ap (λ v. v.items) c.deref.ensures) in
    let other = ap held (c.as_slice-2.ensures.value ∙ ap (λ v. v.items) c.deref-2.ensures) in (
      λ true. sym c.self.view_is ∙ ap together (sym one ∙ c.same_parts.ensures.0 true ∙ other) ∙ c.other.view_is,
      λ same. c.same_parts.ensures.1 (one
          ∙ same-together (held c.self.inside.shelves.value.items) (held c.other.inside.shelves.value.items) c.self.invariant c.other.invariant (c.self.view_is ∙ same ∙ sym c.other.view_is)
          ∙ sym other),
    )
