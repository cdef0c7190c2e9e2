use Rattle.std.proofs.Common.{◌≡◌, ◌<◌, ◌-◌, length, arith}
use Rattle.tx_tfm.specs.Fonts.{with_identifier}
use Rattle.tx_tfm.proofs.Numbered.{changed_there, first_kept, one_kept}
use Rattle.tx_tfm.proofs.fonts.Fonts.set_identifier.Goals as goal

pub invariant_of-self : goal.invariant_of-self
invariant_of-self c = first_kept c.self.inside.null c.self.inside.loaded.items c.self.invariant c.set_identifier.new.self c.set_identifier.ensures.named

pub invariant_of-self-then-at-len : goal.invariant_of-self-then-at-len
invariant_of-self-then-at-len c =
    let within : c.from-at.result - 1 < length c.self.inside.loaded.items = omega (arith, c.if-at-len.true, c.len.ensures, c.self.inside.loaded.ok.0) in
    one_kept c.self.inside.null c.self.inside.loaded.items c.self.invariant (c.from-at.result - 1) c.index_mut.result.now c.set_identifier-then-at-len.new.self within c.index_mut.ensures.value c.set_identifier-then-at-len.ensures.named

pub returns-then-at-len : goal.returns-then-at-len
returns-then-at-len c =
    let within : c.from-at.result - 1 < length c.self.inside.loaded.items = omega (arith, c.if-at-len.true, c.len.ensures, c.self.inside.loaded.ok.0) in
    let at_is : c.from-at.result - 1 ≡ c.args.number - 1 = omega (arith, c.from-at.ensures) in
    changed_there (with_identifier c.args.identifier) c.self.inside.null c.self.inside.loaded.items c.args.self.now c.args.number (c.from-at.result - 1) c.index_mut.result.now c.set_identifier-then-at-len.new.self
    c.self.view_is (omega (arith, c.if-number-eq0.false)) at_is within c.index_mut.ensures.value c.set_identifier-then-at-len.ensures.value
