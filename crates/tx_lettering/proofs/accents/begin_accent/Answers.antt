use Rattle.std.proofs.Common.{sym, ◌∙◌}
use Rattle.tx_state.specs.declared.state.State.{State}
use Rattle.tx_lettering.proofs.Accenting.{begins, lacks}
use Rattle.tx_lettering.proofs.accents.begin_accent.Goals as goal

pub returns-then-has : goal.returns-then-has
returns-then-has c s running =
    let before : State = record s { said = c.args.said.now; table = c.args.table.now; words = c.args.words.now; scan = c.args.scan.now } in
    begins before c.set_accent.new.words c.set_accent.new.scan c.accent_in-accent.result c.current_font-font.result c.args.code running
    c.current_font-font.ensures (sym c.has.ensures ∙ c.if-has.true) c.accent_in-accent.ensures c.set_accent.ensures.words c.set_accent.ensures.scan

pub returns : goal.returns
returns c s running =
    let before : State = record s { said = c.args.said.now; table = c.args.table.now; words = c.args.words.now; scan = c.args.scan.now } in
    lacks before c.current_font-font.result c.args.code c.tell.new.said running c.current_font-font.ensures (sym c.has.ensures ∙ c.if-has.false) c.in_ok-tell.ensures
