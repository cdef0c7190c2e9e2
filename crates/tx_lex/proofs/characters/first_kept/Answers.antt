use Rattle.std.proofs.Common.{ap, sym, ◌∙◌}
use Rattle.tx_lex.specs.Reading.{is_dropped}
use Rattle.tx_lex.proofs.Loops.{kept-nothing, skipping-nothing}
use Rattle.tx_lex.proofs.characters.first_kept.Goals as goal

pub returns-in_err-character : goal.returns-in_err-character
returns-in_err-character c = rw c.from_residual.ensures (kept-nothing _ _ c.in_err-character.ensures)

pub returns-in_err-character-2 : goal.returns-in_err-character-2
returns-in_err-character-2 c =
    rw c.from_residual-in_err-character-2.ensures
    (skipping-nothing c.loop-state.invariant (ap (is_dropped c.args.state) (sym c.get.ensures.value) ∙ sym c.loop-state-test.ensures) c.in_err-character-2.ensures.read)
