use Rattle.tx_hyphen.proofs.Along.{raised-here}
use Rattle.tx_hyphen.proofs.lexicon.Lexicon.raise_here.Goals as goal

pub returns : goal.returns
returns c =
    raised-here c.self.inside.trie c.self.inside.spellings.items c.as_slice.result.now c.args.self.now c.args.levels.now
    c.raise_along.new.levels c.args.text.now c.self.invariant c.as_slice.ensures.value c.self.view_is c.raise_along.ensures
