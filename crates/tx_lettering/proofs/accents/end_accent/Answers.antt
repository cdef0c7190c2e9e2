use Rattle.tx_state.specs.declared.state.State.{State}
use Rattle.tx_lettering.proofs.Accenting.{ends-alone, ends-none}
use Rattle.tx_lettering.proofs.accents.end_accent.Goals as goal

pub returns-in_ok-put_alone-in-Some : goal.returns-in_ok-put_alone-in-Some
returns-in_ok-put_alone-in-Some c s running =
    let before : State = record s { words = c.args.words.now; scan = c.args.scan.now; lists = c.args.lists.now } in
    ends-alone before c.put_alone.new.words c.put_alone.new.scan c.put_alone.new.lists c.in-Some.accent c.in-Some.ensures running
    c.in_ok-put_alone-in-Some.ensures.words c.in_ok-put_alone-in-Some.ensures.scan c.in_ok-put_alone-in-Some.ensures.lists

pub returns-in-None : goal.returns-in-None
returns-in-None c s running =
    let before : State = record s { words = c.args.words.now; scan = c.args.scan.now; lists = c.args.lists.now } in
    ends-none before c.set_accent.new.words c.set_accent.new.scan c.in-None.ensures running c.set_accent.ensures.words c.set_accent.ensures.scan
