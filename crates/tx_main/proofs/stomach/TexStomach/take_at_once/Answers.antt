use Rattle.tx_main.proofs.stomach.TexStomach.take_at_once.Goals as goal

pub returns-in-Prefix : goal.returns-in-Prefix
returns-in-Prefix c = rw c.in-Prefix.is (c.prefix.ensures c.args.s.now c.requires.running)
