use Rattle.tx_parts.proofs.Texting.{absorbed-answered, definition-answered, list-answered}
use Rattle.tx_parts.proofs.parts.OpenText.feed.Goals as goal

pub returns-in-Definition : goal.returns-in-Definition
returns-in-Definition c =
    definition-answered c.args.self.now c.args.seen c.in-Definition.field-0 c.in-Definition.field-1 c.in-Definition.scan c.feed.new.self c.feed.result c.in-Definition.is c.feed.ensures

pub returns-in-Absorbed : goal.returns-in-Absorbed
returns-in-Absorbed c =
    absorbed-answered c.args.self.now c.args.seen c.in-Absorbed.field-0 c.in-Absorbed.scan c.feed-in-Absorbed.new.self c.feed-in-Absorbed.result c.in-Absorbed.is c.feed-in-Absorbed.ensures

pub returns-in-List : goal.returns-in-List
returns-in-List c =
    list-answered c.args.self.now c.args.seen c.in-List.field-0 c.in-List.scan c.feed-in-List.new.self c.feed-in-List.result c.in-List.is c.feed-in-List.ensures
