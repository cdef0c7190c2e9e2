use Rattle.std.proofs.Common.{sym, ◌∙◌}
use Rattle.tx_parts.proofs.Keeping.{one-kept}
use Rattle.tx_parts.proofs.kept_tokens.release_kept.Goals as goal

pub loop-token-preserved : goal.loop-token-preserved
loop-token-preserved c =
    let one = one-kept c.args.groups c.loop-token.after_groups c.pop.new.self c.pop.result c.in-Some.token c.loop-token.input c.give_back.new.self
    (sym c.in_ok-token.ensures ∙ c.in-Some.is) c.pop.ensures c.in_ok-give_back.ensures.ok in
    record { left = one.0 ∙ c.loop-token.invariant.left; input = one.1 ∙ c.loop-token.invariant.input }
