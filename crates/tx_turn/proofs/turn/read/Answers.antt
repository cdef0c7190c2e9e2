use Rattle.std.proofs.Common.{◌≡◌, rules, to_z, of_z, w64}
use Rattle.tx_expand.specs.Expanding.{reader_of}
use Rattle.tx_expand.specs.Values.{lent}
use Rattle.tx_turn.proofs.Turning.{notes, reads-by, turned-known}
use Rattle.tx_turn.proofs.turn.read.Goals as goal

pub returns : goal.returns
returns g c =
    let same : to_z w64 (of_z w64 c.args.s.now.lists.badness) ≡ c.args.s.now.lists.badness = search rules in
    reads-by g.T.Stomach.effects c.args.s.now c.heed.new.s c.turn.new.self c.turn.new.input c.note.new.used c.mode-mode.result c.wanted-wanted.result c.in_ok-answer.answer c.heed.result
    c.mode-mode.ensures (c.wanted-wanted.ensures c.args.s.now)
    (notes c.args.s.now c.turn.new.self c.turn.new.input c.magnification.result c.note.new.used c.magnification.ensures c.note.ensures)
    (turned-known c.args.s.now (lent c.new-known.result) c.mode-mode.result c.wanted-wanted.result (reader_of c.turn.new.self c.turn.new.input) c.in_ok-answer.answer (rw (same, c.fonts.ensures, c.is_open.ensures) at c.new-known.ensures) c.in_ok-answer.ensures)
    c.heed.ensures
