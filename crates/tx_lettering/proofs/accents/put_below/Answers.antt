use Rattle.tx_state.specs.declared.state.State.{State}
use Rattle.tx_lettering.proofs.Accenting.{below-none, below-some}
use Rattle.tx_lettering.proofs.accents.put_below.Goals as goal

pub returns-in-Some : goal.returns-in-Some
returns-in-Some c s running =
    let before : State = record s { said = c.args.said.now; words = c.args.words.now; scan = c.args.scan.now; lists = c.args.lists.now } in
    let new : State = record s { said = c.put_by.new.said; words = c.put_by.new.words; scan = c.put_by.new.scan; lists = c.put_by.new.lists } in
    below-some before new c.in-Some.accent c.args.font c.args.code c.put_by.result c.in-Some.ensures (c.put_by.ensures s running)

pub returns-in-None : goal.returns-in-None
returns-in-None c s running =
    let before : State = record s { said = c.args.said.now; words = c.args.words.now; scan = c.args.scan.now; lists = c.args.lists.now } in
    below-none before c.set_accent.new.words c.set_accent.new.scan c.args.font c.args.code c.in-None.ensures running c.set_accent.ensures.words c.set_accent.ensures.scan
