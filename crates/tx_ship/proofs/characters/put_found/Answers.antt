use Rattle.std.proofs.Common.{Option, sym, subst}
use Rattle.std.specs.Prelude.{OnOk}
use Rattle.tx_tfm.specs.declared.named.NamedFont.{NamedFont}
use Rattle.tx_ship.specs.Commands.{pen_at, character_item}
use Rattle.tx_ship.specs.Written.{IsWritten}
use Rattle.tx_ship.proofs.Steps.{none-written, none-moved}
use Rattle.tx_ship.proofs.characters.put_found.Goals as goal

pub returns-in-Some-clause-written : goal.returns-in-Some-clause-written
returns-in-Some-clause-written c =
    subst (λ (o : Option NamedFont). OnOk c.put_at.result (IsWritten c.args.output.now c.put_at.new.output (character_item o (pen_at c.args.output.now.fonts c.args.cursor) c.args.at c.args.character)))
    c.in-Some.ensures.found c.put_at.ensures.written

pub returns-in-None-clause-written : goal.returns-in-None-clause-written
returns-in-None-clause-written c = none-written c.args.fonts.now c.args.character.font c.args.character c.args.output.now c.args.cursor c.args.at (sym c.in-None.ensures.found)

pub returns-in-None-clause-next : goal.returns-in-None-clause-next
returns-in-None-clause-next c = none-moved c.args.fonts.now c.args.character.font c.args.character (pen_at c.args.output.now.fonts c.args.cursor) c.args.at (sym c.in-None.ensures.found)
