use Rattle.std.proofs.Common.{arith}
use Rattle.std.proofs.lemmas.Int.{ints}
use Rattle.tx_linebreak.proofs.Levels.{beats-more}
use Rattle.tx_linebreak.proofs.offers.wins.Goals as goal

pub returns-then-other-link : goal.returns-then-other-link
returns-then-other-link c = beats-more _ _ c.args.link.total c.args.other.now.total c.requires.link.total_is c.requires.other.total_is (omega (arith, ints))
