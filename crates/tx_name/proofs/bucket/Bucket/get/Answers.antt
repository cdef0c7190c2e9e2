use Rattle.std.proofs.Common.{sym, ap, ◌∙◌}
use Rattle.std.specs.FinMap.{get}
use Rattle.std.specs.FinMap.Entries.{find}
use Rattle.tx_name.proofs.Places.{by_bytes, get-map_of}
use Rattle.tx_name.proofs.bucket.Bucket.get.Goals as goal

pub returns : goal.returns
returns g c = c.value_of.ensures
    ∙ ap (find by_bytes c.args.name.now) c.as_slice.ensures.value
    ∙ sym (get-map_of c.self.inside.entries.items c.self.invariant c.args.name.now)
    ∙ ap (λ m. get m c.args.name.now) c.self.view_is
