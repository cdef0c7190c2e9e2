use Rattle.std.proofs.Common.{refl, sym, ◌∙◌}
use Rattle.tx_state.specs.declared.state.State.{State}
use Rattle.tx_word.specs.Accents.{accented_at, is_boxed_at}
use Rattle.tx_lettering.proofs.Accenting.{exceeds, stands}
use Rattle.tx_lettering.proofs.accents.put_over.Goals as goal

pub returns-in_ok-put_packed-in-Some : goal.returns-in_ok-put_packed-in-Some
returns-in_ok-put_packed-in-Some c s running =
    let before : State = record s { words = c.args.words.now; scan = c.args.scan.now; lists = c.args.lists.now } in
    stands before c.put_packed.new.words c.put_packed.new.scan c.put_packed.new.lists c.boxes-boxed.result (is_boxed_at c.args.words.now.fonts c.args.accent.now c.args.font c.args.code)
    c.in-Some.items (accented_at c.args.words.now.fonts c.args.accent.now c.args.font c.args.code) running c.boxes-boxed.ensures (sym c.in_ok-made.ensures ∙ c.in-Some.is)
    c.put_packed.ensures.words c.put_packed.ensures.scan c.in_ok-put_packed-in-Some.ensures.lists

pub returns-in-None : goal.returns-in-None
returns-in-None c s running =
    let before : State = record s { words = c.args.words.now; scan = c.args.scan.now; lists = c.args.lists.now } in
    exceeds before before (is_boxed_at c.args.words.now.fonts c.args.accent.now c.args.font c.args.code) (accented_at c.args.words.now.fonts c.args.accent.now c.args.font c.args.code) (sym c.in_ok-made.ensures ∙ c.in-None.is) refl
