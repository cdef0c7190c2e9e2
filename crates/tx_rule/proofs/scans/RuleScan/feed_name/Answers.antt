use Rattle.std.proofs.Common.{◌++◌, ◌∷◌, ◌+◌, [], refl}
use Rattle.tx_seen.specs.declared.item.Item.TheVariants.{Took}
use Rattle.tx_scan.specs.Keywords.{rest as key_rest}
use Rattle.tx_rule.specs.Rules.{letters_of}
use Rattle.tx_rule.proofs.scans.RuleScan.feed_name.Goals as goal

pub returns-clause-fed : goal.returns-clause-fed
returns-clause-fed c = λ behind h.
    c.named.ensures.fed c.feed-fed.new.self (c.args.scan.read + 1) (λ more. key_rest (letters_of c.args.side) c.args.scan behind (Took c.args.token.now) more) (behind ++ Took c.args.token.now ∷ []) refl
    (rw c.name_of.ensures at (c.feed-fed.ensures.part behind h)) (rw c.name_of.ensures at c.feed-fed.ensures.reading c.requires)

pub returns-clause-on : goal.returns-clause-on
returns-clause-on c = c.named.ensures.on c.feed-fed.new.self refl (rw c.name_of.ensures at c.feed-fed.ensures.reading c.requires)

pub returns-clause-fewer : goal.returns-clause-fewer
returns-clause-fewer c = c.named.ensures.fewer c.feed-fed.new.self refl (rw c.name_of.ensures at c.feed-fed.ensures.reading c.requires)
