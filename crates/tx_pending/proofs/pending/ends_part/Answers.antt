use Rattle.std.proofs.Common.{◌≡◌, ◌≢◌, ◌+◌, ◌-◌, arith, false-eqb, length, sym, ◌∙◌}
use Rattle.tx_pending.proofs.StackSteps.{entry-top}
use Rattle.tx_pending.proofs.pending.ends_part.Goals as goal

pub returns : goal.returns
returns c =
    let some : length c.args.stack.now ≢ 0 = false-eqb (length c.args.stack.now) 0 (sym (sym c.is_empty.ensures ∙ c.if-is_empty.false)) in
    let long : length c.args.stack.now ≡ length c.args.stack.now - 1 + 1 = omega arith in
    entry-top c.args.stack.now (length c.args.stack.now - 1) c.index-stack-stack.result c.begins_entry.result long c.index-stack-stack.is c.requires c.begins_entry.ensures
