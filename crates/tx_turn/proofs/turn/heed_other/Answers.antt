use Rattle.tx_turn.proofs.turn.heed_other.Goals as goal

pub returns-in-Text : goal.returns-in-Text
returns-in-Text g c = rw c.in-Text.is (c.put_text.ensures c.args.s.now c.requires.running)
