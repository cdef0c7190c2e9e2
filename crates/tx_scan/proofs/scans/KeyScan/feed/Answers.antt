use Rattle.tx_scan.specs.Keywords.{keyword, rest, held}
use Rattle.tx_scan.proofs.Answering.{fed-answers}
use Rattle.tx_scan.proofs.scans.KeyScan.feed.Goals as goal

pub returns-clause-answer : goal.returns-clause-answer
returns-clause-answer c = λ taken h.
    fed-answers (rest c.args.word.now) held (keyword c.args.word.now) c.args.self.now c.behind.new.self taken c.args.token.now c.behind.result h c.behind.ensures.part
