use Rattle.std.proofs.Common.{refl, sym, ap, ◌∙◌}
use Rattle.std.specs.Option.{option_map}
use Rattle.std.specs.FinMap.{get}
use Rattle.tx_name.specs.Buckets.{part_at, held}
use Rattle.tx_name.proofs.Together.{get-together}
use Rattle.tx_name.proofs.Held.{part-read}
use Rattle.tx_name.proofs.shelf.Shelf.find.Goals as goal

pub returns : goal.returns
returns g c = c.find.ensures
    ∙ ap (option_map (λ value. c.args.letters.now)) (ap (λ m. get m c.args.letters.now) (c.deref.ensures
    ∙ part-read c.self.inside.buckets c.self.invariant c.self.inside.buckets refl _ _ c.requires.within c.index.ensures
    ∙ ap (part_at (held c.self.inside.buckets.items)) c.requires.own)
    ∙ sym (get-together (held c.self.inside.buckets.items) c.self.invariant c.args.letters.now)
    ∙ ap (λ m. get m c.args.letters.now) c.self.view_is)
