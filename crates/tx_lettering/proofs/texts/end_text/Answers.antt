use Rattle.std.proofs.Common.{refl, ap, Some, ◌∙◌}
use Rattle.tx_state.specs.declared.state.State.{State}
use Rattle.tx_lettering.specs.Texts.{macro_of}
use Rattle.tx_lettering.proofs.Defining.{defines, ends-definition, ends-list}
use Rattle.tx_lettering.proofs.texts.end_text.Goals as goal

pub returns-in_ok-assignment-in-Some-Definition : goal.returns-in_ok-assignment-in-Some-Definition
returns-in_ok-assignment-in-Some-Definition c =
    let mid : State = record c.args.s.now { text = c.replace.new.dest } in
    ends-definition c.args.s.now c.carry_out_assignment.new.s c.in-Some-Definition.defined c.in-Some-Definition.kind c.in-Some-Definition.scan c.replace.result c.replace.new.dest c.carry_out_assignment.result c.replace.ensures.value (c.in-Some-Definition.is ∙ ap Some c.in-Some-Definition.field-0-is) c.replace.ensures.after
    (defines mid c.carry_out_assignment.new.s c.in-Some-Definition.defined c.in-Some-Definition.kind c.in-Some-Definition.scan c.prefixes-prefixes.result (macro_of c.prefixes-prefixes.result c.in-Some-Definition.scan) c.defines_globally.result c.carry_out_assignment.result
    c.prefixes-prefixes.ensures refl c.defines_globally.ensures (rw c.in_ok-assignment-in-Some-Definition.ensures at c.carry_out_assignment.ensures))

pub returns-in_ok-assignment-in-Some-List : goal.returns-in_ok-assignment-in-Some-List
returns-in_ok-assignment-in-Some-List c =
    ends-list c.args.s.now c.carry_out_assignment-in-Some-List.new.s c.in-Some-List.place c.in-Some-List.scan c.in_ok-assignment-in-Some-List.assignment c.prefixes-global.result c.replace.result c.replace.new.dest c.carry_out_assignment-in-Some-List.result c.replace.ensures.value (c.in-Some-List.is ∙ ap Some c.in-Some-List.field-0-is) c.replace.ensures.after
    (rw c.into_tokens.ensures at c.in_ok-assignment-in-Some-List.ensures) c.prefixes-global.ensures c.carry_out_assignment-in-Some-List.ensures
