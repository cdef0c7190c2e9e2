use Rattle.std.proofs.Common.{arith, sym, ◌∙◌, ◌<◌}
use Rattle.tx_macro.proofs.Same.{never}
use Rattle.tx_macro.proofs.Tables.{agreed-one, agreed-none, agreed-border, border-smaller}
use Rattle.tx_macro.proofs.borders.agreed.Goals as goal

pub loop-before-smaller : goal.loop-before-smaller
loop-before-smaller c =
    let some : 0 < c.loop-before.agreed = omega arith in
    border-smaller c.args.delimiter.now c.args.borders.now c.args.before c.loop-before.agreed c.requires.table c.loop-before.invariant.fewer some

pub loop-before-preserved : goal.loop-before-preserved
loop-before-preserved c =
    let some : 0 < c.loop-before.agreed = omega arith in
    record {
      fewer = omega (arith, border-smaller c.args.delimiter.now c.args.borders.now c.args.before c.loop-before.agreed c.requires.table c.loop-before.invariant.fewer some);
      same = agreed-border c.args.delimiter.now c.args.borders.now c.args.before c.loop-before.agreed c.index-delimiter-agreed.result c.args.token.now c.requires.table c.loop-before.invariant.fewer some (omega arith) c.index-delimiter-agreed.is (λ e. never c.loop-before-test.true (c.same.ensures.1 e))
          ∙ c.loop-before.invariant.same;
    }

pub returns : goal.returns
returns c =
    sym (agreed-one c.args.delimiter.now c.loop-before.agreed c.index-delimiter-agreed.result c.args.token.now (omega arith) c.index-delimiter-agreed.is (c.same.ensures.0 c.loop-before-test.false))
    ∙ c.loop-before.invariant.same

pub returns-then-agreed-eq0 : goal.returns-then-agreed-eq0
returns-then-agreed-eq0 c =
    sym (agreed-none c.args.delimiter.now c.loop-before.agreed c.index-delimiter-agreed.result c.args.token.now c.if-agreed-eq0.true (omega arith) c.index-delimiter-agreed.is (λ e. never c.loop-before-test.true (c.same.ensures.1 e)))
    ∙ c.loop-before.invariant.same
