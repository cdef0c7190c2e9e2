use Rattle.tx_parts.proofs.Ordinary.{absorbed-joined, definition-joined, list-joined}
use Rattle.tx_parts.proofs.parts.OpenText.join.Goals as goal

pub returns-in-Definition : goal.returns-in-Definition
returns-in-Definition c =
    definition-joined c.args.self.now c.args.token c.in-Definition.field-0 c.in-Definition.field-1 c.in-Definition.scan c.join.new.self c.join.result c.in-Definition.is c.join.ensures

pub returns-in-Absorbed : goal.returns-in-Absorbed
returns-in-Absorbed c =
    absorbed-joined c.args.self.now c.args.token c.in-Absorbed.field-0 c.in-Absorbed.scan c.join-in-Absorbed.new.self c.join-in-Absorbed.result c.in-Absorbed.is c.join-in-Absorbed.ensures

pub returns-in-List : goal.returns-in-List
returns-in-List c =
    list-joined c.args.self.now c.args.token c.in-List.field-0 c.in-List.scan c.join-in-List.new.self c.join-in-List.result c.in-List.is c.join-in-List.ensures
