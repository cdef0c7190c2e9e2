use Rattle.std.proofs.Common.{rules}
use Rattle.tx_shape.proofs.Steps.{word-longer, word-undefined}
use Rattle.tx_shape.proofs.scans.ShapeScan.feed_word.Goals as goal

pub returns-then-is_undefined-clause-reads : goal.returns-then-is_undefined-clause-reads
returns-then-is_undefined-clause-reads c =
    λ behind h. word-undefined c.args.opening c.args.letters c.args.token.now c.args.self.now behind (search rules)

pub returns-in-Some-clause-reads : goal.returns-in-Some-clause-reads
returns-in-Some-clause-reads c =
    λ behind h. rw c.on.ensures.answer (word-longer c.args.opening c.args.letters c.in-Some.letters c.args.token.now c.on.new.self behind (search rules) (search rules) (search rules) (search rules) (search rules) h)
