use Rattle.std.proofs.Common.{rules}
use Rattle.tx_expand.specs.Expanding.{world_of}
use Rattle.tx_expand.proofs.Turning.{held-turned, part-turned, token-turned}
use Rattle.tx_expand.specs.Values.{lent}
use Rattle.tx_expand.proofs.state.Expander.turn.Goals as goal

pub returns-in_ok-meaning-in-Token : goal.returns-in_ok-meaning-in-Token
returns-in_ok-meaning-in-Token c =
    rw (token-turned (world_of (lent c.args.known.now) c.args.mode) c.args.wanted c.args.self.now c.args.input.now c.next_known.new.self c.categories.result.now c.in_ok-token.field-0 c.in-Token.token c.in_ok-meaning-in-Token.meaning (search rules) c.categories.ensures c.in_ok-token.ensures.next c.in_ok-token.ensures.left c.in-Token.is c.in_ok-meaning-in-Token.ensures)
    c.met.ensures

pub returns-in_ok-meaning-in-Held : goal.returns-in_ok-meaning-in-Held
returns-in_ok-meaning-in-Held c =
    rw (held-turned (world_of (lent c.args.known.now) c.args.mode) c.args.wanted c.args.self.now c.args.input.now c.next_known.new.self c.categories.result.now c.in_ok-token.field-0 c.in-Held.token c.in_ok-meaning-in-Held.meaning c.held-seen.result (search rules) c.categories.ensures c.in_ok-token.ensures.next c.in_ok-token.ensures.left c.in-Held.is c.in_ok-meaning-in-Held.ensures c.held-seen.ensures)
    c.met-in-Held.ensures

pub returns-in-PartEnd : goal.returns-in-PartEnd
returns-in-PartEnd c =
    rw (part-turned (world_of (lent c.args.known.now) c.args.mode) c.args.wanted c.args.self.now c.args.input.now c.next_known.new.self c.categories.result.now c.in_ok-token.field-0 c.in-PartEnd.part (search rules) c.categories.ensures c.in_ok-token.ensures.next c.in_ok-token.ensures.left c.in-PartEnd.is)
    (c.part_ends.ensures c.args.mode)
