use Rattle.std.proofs.Common.{arith}
use Rattle.tx_macro.proofs.Same.{not-par}
use Rattle.tx_macro.proofs.tokens.is_paragraph.Goals as goal

pub returns-in_default : goal.returns-in_default
returns-in_default c = not-par c.args.token.now c.in-Name.name c.as_slice.result.now c.in-Name.is c.as_slice.ensures (λ e. omega (arith, e, c.in_default.len_below))

pub returns-in_default-5 : goal.returns-in_default-5
returns-in_default-5 c = not-par c.args.token.now c.in-Name.name c.as_slice.result.now c.in-Name.is c.as_slice.ensures (λ e. omega (arith, e, c.in_default.len_at_least))
