use Rattle.std.proofs.Common.{rules}
use Rattle.tx_main.proofs.MainLoop.{space-gone}
use Rattle.tx_main.proofs.letters.set_space.Goals as goal

pub returns : goal.returns
returns c =
    space-gone c.args.s.now c.put_space.new.s c.args.font c.args.factor c.in-Some.glue c.requires.looping c.requires.factor
    (record { comes = c.requires.comes; glue_is = search rules })
    c.in_ok-put_space.ensures.state c.in_ok-put_space.ensures.phase c.in_ok-put_space.ensures.said
