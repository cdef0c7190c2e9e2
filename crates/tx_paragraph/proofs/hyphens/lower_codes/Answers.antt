use Rattle.std.proofs.Common.{ℕ, length, ap, arith, length-append}
use Rattle.tx_paragraph.specs.Hyphens.{lower_code}
use Rattle.tx_paragraph.proofs.Filled.{one-number-more}
use Rattle.tx_paragraph.proofs.hyphens.lower_codes.Goals as goal

pub loop-code-preserved : goal.loop-code-preserved
loop-code-preserved c =
    let pushed = c.in_ok-push.ensures.ok in
    let more = one-number-more (lower_code c.args.table.now.table) c.loop-code.code in
    record {
      value = cc (pushed, more, c.loop-code.invariant.value, c.lower_code.ensures);
      count = omega (arith, ap length pushed, length-append {A = ℕ}, c.loop-code.invariant.count);
    }
