use Rattle.std.proofs.Common.{sym, ap, ◌∙◌}
use Rattle.tx_name.specs.Buckets.{map_of}
use Rattle.tx_name.proofs.Places.{same-map_of}
use Rattle.tx_name.proofs.bucket.BucketKept.same.Goals as goal

pub returns : goal.returns
returns g c = (
  λ true. sym c.self.view_is ∙ ap map_of (sym c.as_slice.ensures.value ∙ c.same_entries.ensures.0 true ∙ c.as_slice-2.ensures.value) ∙ c.other.view_is,
  λ same. c.same_entries.ensures.1 (c.as_slice.ensures.value
      ∙ same-map_of c.self.inside.entries.items c.other.inside.entries.items c.self.invariant c.other.invariant (c.self.view_is ∙ same ∙ sym c.other.view_is)
      ∙ sym c.as_slice-2.ensures.value),
)
