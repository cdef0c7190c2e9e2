use Rattle.std.proofs.Common.{rules}
use Rattle.tx_shape.proofs.Steps.{to-not, to-word}
use Rattle.tx_shape.proofs.scans.ShapeScan.feed_goal.Goals as goal

pub returns-then-is_key : goal.returns-then-is_key
returns-then-is_key c =
    to-word c.args.opening c.args.token.now c.begins_to.result c.begin_word.new.self c.begin_word.result (search rules) c.begins_to.ensures.word c.begins_to.ensures.lost c.begin_word.ensures

pub returns : goal.returns
returns c =
    to-not c.args.opening c.args.token.now c.feed_spread.new.self c.feed_spread.result (search rules) (search rules) c.feed_spread.ensures
