use Rattle.std.proofs.Common.{ℕ, ◌/◌, ◌%◌, rules, sym, ap, ◌∙◌}
use Rattle.std.specs.Option.{option_copied}
use Rattle.std.specs.FinMap.{remove}
use Rattle.tx_char.specs.Letters.{mixed}
use Rattle.tx_name.proofs.Held.{still-placed, removed, unchanged}
use Rattle.tx_name.proofs.Places.{remove-absent}
use Rattle.tx_name.proofs.name_map.NameMap.remove.Goals as goal

-- a name without value is not looked for again
pub returns-in_default : goal.returns-in_default
returns-in_default g c = sym (remove-absent c.args.self.now c.args.name.now (sym c.get.ensures ∙ ap option_copied c.in_default.is))

-- its bucket is that of the same bytes
pub remove_in-requires-clause-own : goal.remove_in-requires-clause-own
remove_in-requires-clause-own g c = c.spot_of-spot.ensures.bucket ∙ ap (λ (n : ℕ). n % 32) (c.number.ensures ∙ ap (λ bytes. mixed 0 bytes) (sym c.as_slice-name.ensures))

pub invariant_of-self : goal.invariant_of-self
invariant_of-self g c = still-placed _ _ _ _ c.in_err-own.was c.make_mut.follows.holds-at-none c.self.invariant

pub invariant_of-self-in_err-remove_in : goal.invariant_of-self-in_err-remove_in
invariant_of-self-in_err-remove_in g c = (unchanged c.self.inside.shelves.value c.self.invariant c.in_ok-own.own.now c.in_ok-own.ensures.value c.spot_of-spot.result.shelf c.spot_of-spot.ensures.shelf_within c.index_mut.result.now c.index_mut.ensures.value c.remove_in.new.shelf _ (c.make_mut.follows.holds _ (search rules)) c.in_err-remove_in.ensures.err).0

pub invariant_of-self-2 : goal.invariant_of-self-2
invariant_of-self-2 g c = (removed c.self.inside.shelves.value c.self.invariant c.in_ok-own.own.now c.in_ok-own.ensures.value c.spot_of-spot.result.shelf c.spot_of-spot.ensures.shelf_within c.index_mut.result.now c.index_mut.ensures.value c.remove_in.new.shelf _ (c.make_mut.follows.holds _ (search rules)) c.args.name.now (c.spot_of-spot.ensures.shelf ∙ ap (λ (n : ℕ). (n / 32) % 32) c.number.ensures) (c.in_ok-remove_in.ensures.ok ∙ ap (remove c.index_mut.result.now.value) c.as_slice-name.ensures)).0

pub returns : goal.returns
returns g c = (removed c.self.inside.shelves.value c.self.invariant c.in_ok-own.own.now c.in_ok-own.ensures.value c.spot_of-spot.result.shelf c.spot_of-spot.ensures.shelf_within c.index_mut.result.now c.index_mut.ensures.value c.remove_in.new.shelf _ (c.make_mut.follows.holds _ (search rules)) c.args.name.now (c.spot_of-spot.ensures.shelf ∙ ap (λ (n : ℕ). (n / 32) % 32) c.number.ensures) (c.in_ok-remove_in.ensures.ok ∙ ap (remove c.index_mut.result.now.value) c.as_slice-name.ensures)).1 ∙ ap (λ m. remove m c.args.name.now) c.self.view_is
