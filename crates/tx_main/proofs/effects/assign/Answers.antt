use Rattle.std.proofs.Common.{sym, ◌∙◌}
use Rattle.tx_main.proofs.Assigns.{assigns, lists}
use Rattle.tx_main.proofs.effects.assign.Goals as goal

pub returns-then-is_text : goal.returns-then-is_text
returns-then-is_text c =
    lists c.args.s.now c.begin_list.new.s c.args.assignment c.begin_list.result (sym c.is_preamble.ensures ∙ c.if-is_preamble.false) (sym c.is_text.ensures ∙ c.if-is_text.true) c.begin_list.ensures

pub returns-else-is_text : goal.returns-else-is_text
returns-else-is_text c =
    assigns c.args.s.now c.carry_out_assignment.new.s c.args.assignment c.prefixes-global.result c.carry_out_assignment.result (sym c.is_preamble.ensures ∙ c.if-is_preamble.false) (sym c.is_text.ensures ∙ c.if-is_text.false) c.prefixes-global.ensures c.carry_out_assignment.ensures
