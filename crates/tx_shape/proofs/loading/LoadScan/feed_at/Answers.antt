use Rattle.std.proofs.Common.{rules}
use Rattle.tx_shape.proofs.LoadSteps.{letter-there, letter-undefined, other-there, space-on}
use Rattle.tx_shape.proofs.loading.LoadScan.feed_at.Goals as goal

pub returns-then-is_undefined : goal.returns-then-is_undefined
returns-then-is_undefined c =
    letter-undefined c.args.self.now.place c.args.self.now.name c.args.token.now _ (search rules) (search rules)

pub returns-then-is_key : goal.returns-then-is_key
returns-then-is_key c =
    rw c.on.ensures.answer (letter-there c.args.self.now c.on.new.self c.args.token.now (search rules) (search rules) (search rules))

pub returns : goal.returns
returns c =
    other-there c.args.self.now.place c.args.self.now.name c.args.token.now c.feed_other.new.self c.feed_other.result (search rules) (search rules) c.feed_other.ensures

pub returns-then-is_space : goal.returns-then-is_space
returns-then-is_space c =
    rw c.on-then-is_space.ensures.answer (space-on c.args.self.now c.on-then-is_space.new.self c.args.token.now (search rules) (search rules) (search rules))
