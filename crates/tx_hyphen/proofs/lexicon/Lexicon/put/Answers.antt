use Rattle.tx_hyphen.proofs.Index.{indexed-replaced}
use Rattle.tx_hyphen.proofs.lexicon.Lexicon.put.Goals as goal

pub invariant_of-self : goal.invariant_of-self
invariant_of-self c =
    indexed-replaced c.self.inside.trie c.self.inside.spellings.items c.args.self.now c.args.spelling c.as_slice.result.now
    c.in-Some.place c.self.invariant c.self.view_is c.as_slice.ensures c.in-Some.ensures.place
