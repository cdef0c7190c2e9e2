use Rattle.std.proofs.Common.{ℕ, ◌/◌, ◌%◌, rules, ap, ◌∙◌}
use Rattle.std.specs.FinMap.{insert}
use Rattle.tx_name.proofs.Held.{still-placed, inserted, unchanged}
use Rattle.tx_name.proofs.name_map.NameMap.insert.Goals as goal

pub invariant_of-self : goal.invariant_of-self
invariant_of-self g c = still-placed _ _ _ _ c.in_err-own.was c.make_mut.follows.holds-at-none c.self.invariant

pub invariant_of-self-in_err-insert_in : goal.invariant_of-self-in_err-insert_in
invariant_of-self-in_err-insert_in g c = (unchanged c.self.inside.shelves.value c.self.invariant c.in_ok-own.own.now c.in_ok-own.ensures.value c.spot_of-spot.result.shelf c.spot_of-spot.ensures.shelf_within c.index_mut.result.now c.index_mut.ensures.value c.insert_in.new.shelf _ (c.make_mut.follows.holds _ (search rules)) c.in_err-insert_in.ensures.err).0

pub invariant_of-self-2 : goal.invariant_of-self-2
invariant_of-self-2 g c = (inserted c.self.inside.shelves.value c.self.invariant c.in_ok-own.own.now c.in_ok-own.ensures.value c.spot_of-spot.result.shelf c.spot_of-spot.ensures.shelf_within c.index_mut.result.now c.index_mut.ensures.value c.insert_in.new.shelf _ (c.make_mut.follows.holds _ (search rules)) c.args.name (c.spot_of-spot.ensures.shelf ∙ ap (λ (n : ℕ). (n / 32) % 32) c.number.ensures) c.args.value c.in_ok-insert_in.ensures.ok).0

pub returns : goal.returns
returns g c = (inserted c.self.inside.shelves.value c.self.invariant c.in_ok-own.own.now c.in_ok-own.ensures.value c.spot_of-spot.result.shelf c.spot_of-spot.ensures.shelf_within c.index_mut.result.now c.index_mut.ensures.value c.insert_in.new.shelf _ (c.make_mut.follows.holds _ (search rules)) c.args.name (c.spot_of-spot.ensures.shelf ∙ ap (λ (n : ℕ). (n / 32) % 32) c.number.ensures) c.args.value c.in_ok-insert_in.ensures.ok).1 ∙ ap (λ m. insert m c.args.name c.args.value) c.self.view_is
