use Rattle.std.proofs.Common.{◌≡◌, ◌<◌, ◌-◌, ℤ, length, ap, ◌∙◌, arith, rules, w32, FitsSigned, to_z-of_z}
use Rattle.tx_tfm.specs.Fonts.{with_parameter}
use Rattle.tx_tfm.proofs.Numbered.{changed_there, on_ok, one_kept, one_named}
use Rattle.tx_tfm.proofs.fonts.Fonts.set_parameter.Goals as goal

pub invariant_of-self-then-at-len : goal.invariant_of-self-then-at-len
invariant_of-self-then-at-len c =
    let within : c.from-at.result - 1 < length c.self.inside.loaded.items = omega (arith, c.if-at-len.true, c.len.ensures, c.self.inside.loaded.ok.0) in
    one_kept c.self.inside.null c.self.inside.loaded.items c.self.invariant (c.from-at.result - 1) c.index_mut.result.now c.set_parameter-then-at-len.new.self within c.index_mut.ensures.value c.set_parameter-then-at-len.ensures.named

pub returns-then-at-len-clause-value : goal.returns-then-at-len-clause-value
returns-then-at-len-clause-value c =
    let within : c.from-at.result - 1 < length c.self.inside.loaded.items = omega (arith, c.if-at-len.true, c.len.ensures, c.self.inside.loaded.ok.0) in
    let at_is : c.from-at.result - 1 ≡ c.args.number - 1 = omega (arith, c.from-at.ensures) in
    let fits : FitsSigned w32 c.args.value = search rules in
    let value_is = ap (λ (v : ℤ). with_parameter c.args.n v c.index_mut.result.now) (to_z-of_z fits) in
    on_ok c.set_parameter-then-at-len.result
    (λ other_is.
    changed_there (with_parameter c.args.n c.args.value) c.self.inside.null c.self.inside.loaded.items c.args.self.now c.args.number (c.from-at.result - 1) c.index_mut.result.now c.set_parameter-then-at-len.new.self
    c.self.view_is (omega (arith, c.if-number-eq0.false)) at_is within c.index_mut.ensures.value (other_is ∙ value_is)) c.set_parameter-then-at-len.ensures.value

pub returns-then-at-len-clause-files : goal.returns-then-at-len-clause-files
returns-then-at-len-clause-files c =
    let within : c.from-at.result - 1 < length c.self.inside.loaded.items = omega (arith, c.if-at-len.true, c.len.ensures, c.self.inside.loaded.ok.0) in
    one_named c.self.inside.null c.self.inside.loaded.items c.args.self.now (c.from-at.result - 1) c.index_mut.result.now c.set_parameter-then-at-len.new.self c.self.view_is within c.index_mut.ensures.value c.set_parameter-then-at-len.ensures.named
