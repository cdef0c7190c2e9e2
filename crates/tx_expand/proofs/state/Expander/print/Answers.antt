use Rattle.std.proofs.Common.{◌≡◌}
use Rattle.tx_convert.specs.Texts.{as_tokens}
use Rattle.tx_expand.specs.Expanding.{world_of}
use Rattle.tx_expand.specs.Turns.{text_of}
use Rattle.tx_expand.specs.Values.{lent}
use Rattle.tx_expand.proofs.state.Expander.print.Goals as goal

pub returns : goal.returns
returns c = λ any.
    let printed : c.push_printed.new.tokens ≡ as_tokens (text_of (world_of (lent c.args.known.now) any) c.args.what c.args.token.now) =
    rw c.new-tokens.ensures at (c.in_ok-push_printed.ensures any) in
    rw (← printed) c.replace.ensures
