use Rattle.std.proofs.Common.{◌≡◌, ◌<◌, ◌-◌, ℤ, length, ap, ◌∙◌, arith, rules, w32, FitsSigned, to_z-of_z}
use Rattle.tx_tfm.specs.Fonts.{with_integer}
use Rattle.tx_tfm.proofs.Numbered.{changed_there, first_kept, one_kept}
use Rattle.tx_tfm.proofs.fonts.Fonts.set_integer.Goals as goal

pub invariant_of-self : goal.invariant_of-self
invariant_of-self c = first_kept c.self.inside.null c.self.inside.loaded.items c.self.invariant c.set_integer.new.self c.set_integer.ensures.named

pub invariant_of-self-then-at-len : goal.invariant_of-self-then-at-len
invariant_of-self-then-at-len c =
    let within : c.from-at.result - 1 < length c.self.inside.loaded.items = omega (arith, c.if-at-len.true, c.len.ensures, c.self.inside.loaded.ok.0) in
    one_kept c.self.inside.null c.self.inside.loaded.items c.self.invariant (c.from-at.result - 1) c.index_mut.result.now c.set_integer-then-at-len.new.self within c.index_mut.ensures.value c.set_integer-then-at-len.ensures.named

pub returns-then-at-len : goal.returns-then-at-len
returns-then-at-len c =
    let within : c.from-at.result - 1 < length c.self.inside.loaded.items = omega (arith, c.if-at-len.true, c.len.ensures, c.self.inside.loaded.ok.0) in
    let at_is : c.from-at.result - 1 ≡ c.args.number - 1 = omega (arith, c.from-at.ensures) in
    let fits : FitsSigned w32 c.args.value = search rules in
    let value_is = ap (λ (v : ℤ). with_integer c.args.kind v c.index_mut.result.now) (to_z-of_z fits) in
    changed_there (with_integer c.args.kind c.args.value) c.self.inside.null c.self.inside.loaded.items c.args.self.now c.args.number (c.from-at.result - 1) c.index_mut.result.now c.set_integer-then-at-len.new.self
    c.self.view_is (omega (arith, c.if-number-eq0.false)) at_is within c.index_mut.ensures.value (c.set_integer-then-at-len.ensures.value ∙ value_is)
