use Rattle.std.proofs.Common.{sym, ◌∙◌}
use Rattle.tx_lettering.proofs.Loads.{no-font, no-room, one-more}
use Rattle.tx_lettering.proofs.fonts.read_font.Goals as goal

pub returns-then-not-can_load : goal.returns-then-not-can_load
returns-then-not-can_load c = λ s request words table name size.
    no-room s request c.args.words.now c.args.table.now c.args.name c.args.size c.args.bytes.now (record { words_are = words; table_is = table; name_is = name; size_is = size }) (sym c.can_load.ensures ∙ c.if-not-can_load.true)

pub returns-in-Err-BadFont : goal.returns-in-Err-BadFont
returns-in-Err-BadFont c = λ s request words table name size.
    no-font s request c.args.words.now c.args.table.now c.args.name c.args.size c.args.bytes.now (record { words_are = words; table_is = table; name_is = name; size_is = size }) (sym c.can_load.ensures ∙ c.if-not-can_load.false)
    (rw (c.in-Err-BadFont.field-0-is, c.as_slice.ensures) at c.in-Err-BadFont.ensures.broken)

pub returns-in-Ok : goal.returns-in-Ok
returns-in-Ok c = λ s request words table name size.
    one-more s request c.args.words.now c.add_font.new.words c.args.table.now c.args.name c.args.size c.args.bytes.now c.in-Ok.font c.in_ok-number-in-Ok.number (record { words_are = words; table_is = table; name_is = name; size_is = size }) (sym c.can_load.ensures ∙ c.if-not-can_load.false)
    (rw c.as_slice.ensures at c.in-Ok.ensures.broken) (rw c.as_slice.ensures at c.in-Ok.ensures.font) c.in_ok-number-in-Ok.ensures.number c.in_ok-number-in-Ok.ensures.words
