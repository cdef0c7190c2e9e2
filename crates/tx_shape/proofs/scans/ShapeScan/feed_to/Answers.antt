use Rattle.std.proofs.Common.{rules}
use Rattle.tx_shape.proofs.Splitting.{to-letter, to-space}
use Rattle.tx_shape.proofs.scans.ShapeScan.feed_to.Goals as goal

pub returns-then-is_key : goal.returns-then-is_key
returns-then-is_key c =
    rw c.on.ensures.answer (to-letter c.args.register c.args.context c.args.token.now c.on.new.self (search rules) (search rules) (search rules))

pub returns-then-is_space : goal.returns-then-is_space
returns-then-is_space c =
    rw c.on-then-is_space.ensures.answer (to-space c.args.register c.args.context c.args.token.now c.on-then-is_space.new.self (search rules) (search rules) (search rules))
