use Rattle.tx_scan.proofs.FontSteps.{value-done, value-more, value-wrong}
use Rattle.tx_scan.proofs.scans.QuantityScan.feed_font.Goals as goal

pub returns-in-More-clause-fed : goal.returns-in-More-clause-fed
returns-in-More-clause-fed c =
    value-more c.args.self.now c.args.sought c.args.token.now c.feed.new.self c.in-More.want c.requires (rw c.in-More.is at c.feed.ensures.fed)

pub returns-in-Done-clause-fed : goal.returns-in-Done-clause-fed
returns-in-Done-clause-fed c =
    rw c.to_value.ensures.answer
    (value-done c.args.self.now c.to_value.new.self c.args.sought c.args.token.now c.feed.new.self c.in-Done.font c.in-Done.field-1
    c.requires (rw c.in-Done.is at c.feed.ensures.fed) c.to_value.ensures.scan)

pub returns-in-Wrong-clause-fed : goal.returns-in-Wrong-clause-fed
returns-in-Wrong-clause-fed c =
    value-wrong c.args.self.now c.args.self.now c.args.sought c.args.token.now c.feed.new.self c.in-Wrong.error c.requires (rw c.in-Wrong.is at c.feed.ensures.fed)
