use Rattle.std.proofs.Common.{sym, ap, ◌∙◌}
use Rattle.std.specs.Option.{option_map}
use Rattle.std.specs.FinMap.{get}
use Rattle.std.specs.FinMap.Entries.{find}
use Rattle.tx_name.proofs.Places.{by_bytes, get-map_of}
use Rattle.tx_name.proofs.bucket.Bucket.find.Goals as goal

pub returns : goal.returns
returns g c = c.name_of.ensures
    ∙ ap (option_map (λ value. c.args.letters.now)) (ap (find by_bytes c.args.letters.now) c.as_slice.ensures.value
    ∙ sym (get-map_of c.self.inside.entries.items c.self.invariant c.args.letters.now)
    ∙ ap (λ m. get m c.args.letters.now) c.self.view_is)
