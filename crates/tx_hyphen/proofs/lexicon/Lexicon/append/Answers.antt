use Rattle.std.proofs.Common.{[], ◌∷◌, ◌++◌, ◌∙◌, ap}
use Rattle.tx_hyphen.proofs.Index.{indexed-appended}
use Rattle.tx_hyphen.proofs.lexicon.Lexicon.append.Goals as goal

pub invariant_of-self-2 : goal.invariant_of-self-2
invariant_of-self-2 c =
    indexed-appended c.self.inside.trie c.keep.new.self c.self.inside.spellings.items c.args.self.now c.push.new.self.items
    c.args.spelling c.as_slice.result.now c.len-place.result c.self.invariant c.self.view_is c.requires c.as_slice.ensures
    (c.len-place.ensures ∙ c.reserve.ensures.len ∙ c.self.inside.spellings.ok.0) c.in_ok-keep.ensures.here
    c.in_ok-keep.ensures.others
    (c.in_ok-push.ensures.items ∙ ap (λ xs. xs ++ c.args.spelling ∷ []) c.reserve.ensures.items)
