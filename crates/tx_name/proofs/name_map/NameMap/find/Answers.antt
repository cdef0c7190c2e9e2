use Rattle.std.proofs.Common.{ℕ, ◌/◌, ◌%◌, sym, ap, ◌∙◌}
use Rattle.std.specs.Option.{option_map}
use Rattle.std.specs.FinMap.{get}
use Rattle.tx_name.specs.Buckets.{part_at, held}
use Rattle.tx_name.proofs.Together.{get-together}
use Rattle.tx_name.proofs.Held.{part-read}
use Rattle.tx_name.proofs.name_map.NameMap.find.Goals as goal

pub returns : goal.returns
returns g c = c.find.ensures
    ∙ ap (option_map (λ value. c.args.letters.now)) (ap (λ m. get m c.args.letters.now) (c.deref-2.ensures
    ∙ part-read c.self.inside.shelves.value c.self.invariant c.deref.result.now c.deref.ensures _ _ c.spot_of-spot.ensures.shelf_within c.index.ensures
    ∙ ap (part_at (held c.self.inside.shelves.value.items)) (c.spot_of-spot.ensures.shelf ∙ ap (λ (n : ℕ). (n / 32) % 32) c.mixed.ensures))
    ∙ sym (get-together (held c.self.inside.shelves.value.items) c.self.invariant c.args.letters.now)
    ∙ ap (λ m. get m c.args.letters.now) c.self.view_is)
