use Rattle.std.proofs.Common.{rules}
use Rattle.tx_shape.proofs.Steps.{spread-not, spread-word}
use Rattle.tx_shape.proofs.scans.ShapeScan.feed_spread.Goals as goal

pub returns-then-is_key : goal.returns-then-is_key
returns-then-is_key c =
    spread-word c.args.opening c.args.token.now c.begins_spread.result c.begin_word.new.self c.begin_word.result (search rules) c.begins_spread.ensures.word c.begins_spread.ensures.lost c.begin_word.ensures

pub returns : goal.returns
returns c =
    spread-not c.args.opening c.args.token.now c.feed_brace.new.self c.feed_brace.result (search rules) (search rules) c.feed_brace.ensures
