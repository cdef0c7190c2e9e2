use Rattle.std.proofs.Common.{sym, ◌∙◌}
use Rattle.tx_state.specs.declared.state.State.{State}
use Rattle.tx_lettering.proofs.Accenting.{over-missing, over-there, with_parts}
use Rattle.tx_lettering.proofs.accents.put_by.Goals as goal

pub returns-then-has : goal.returns-then-has
returns-then-has c s running =
    let before : State = record s { said = c.args.said.now; words = c.args.words.now; scan = c.args.scan.now; lists = c.args.lists.now } in
    over-there before (with_parts before c.put_over.new.words c.put_over.new.scan c.put_over.new.lists) c.args.accent.now c.args.font c.args.code c.put_over.result (sym c.has.ensures ∙ c.if-has.true)
    (c.put_over.ensures before running)

pub returns : goal.returns
returns c s running =
    let before : State = record s { said = c.args.said.now; words = c.args.words.now; scan = c.args.scan.now; lists = c.args.lists.now } in
    over-missing before c.tell_alone.new.words c.tell_alone.new.scan c.tell_alone.new.lists c.args.accent.now c.args.font c.args.code c.tell_alone.new.said running (sym c.has.ensures ∙ c.if-has.false)
    c.in_ok-tell_alone.ensures.said c.in_ok-tell_alone.ensures.words c.in_ok-tell_alone.ensures.scan c.in_ok-tell_alone.ensures.lists
