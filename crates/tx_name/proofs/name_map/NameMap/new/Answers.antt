use Rattle.std.proofs.Common.{◌∙◌}
use Rattle.tx_name.specs.Buckets.{shelf_of}
use Rattle.tx_name.proofs.Held.{empty-held}
use Rattle.tx_name.proofs.name_map.NameMap.new.Goals as goal

pub invariant_of-result : goal.invariant_of-result
invariant_of-result g c = (empty-held c.in_ok-shelf.shelf (c.in_ok-shelf.ensures.ok ∙ c.in_ok-new.ensures) c.in_ok-vec.field-0 c.in_ok-vec.ensures.items c.in_ok-vec.ensures.len c.in_ok-new-2.field-0.value c.in_ok-new-2.ensures.ok).0

pub returns : goal.returns
returns g c = (empty-held {part_of = shelf_of} c.in_ok-shelf.shelf (c.in_ok-shelf.ensures.ok ∙ c.in_ok-new.ensures) c.in_ok-vec.field-0 c.in_ok-vec.ensures.items c.in_ok-vec.ensures.len c.in_ok-new-2.field-0.value c.in_ok-new-2.ensures.ok).1
