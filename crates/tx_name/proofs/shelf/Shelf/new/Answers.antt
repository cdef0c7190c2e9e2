use Rattle.std.proofs.Common.{refl, ◌∙◌}
use Rattle.tx_name.specs.Buckets.{bucket_of}
use Rattle.tx_name.proofs.Held.{empty-held}
use Rattle.tx_name.proofs.shelf.Shelf.new.Goals as goal

pub invariant_of-result : goal.invariant_of-result
invariant_of-result g c = (empty-held c.in_ok-bucket.bucket (c.in_ok-bucket.ensures.ok ∙ c.new.ensures) c.in_ok-vec.field-0 c.in_ok-vec.ensures.items c.in_ok-vec.ensures.len c.in_ok-vec.field-0 refl).0

pub returns : goal.returns
returns g c = (empty-held {part_of = bucket_of} c.in_ok-bucket.bucket (c.in_ok-bucket.ensures.ok ∙ c.new.ensures) c.in_ok-vec.field-0 c.in_ok-vec.ensures.items c.in_ok-vec.ensures.len c.in_ok-vec.field-0 refl).1
