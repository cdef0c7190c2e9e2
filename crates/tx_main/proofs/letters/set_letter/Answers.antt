use Rattle.std.proofs.Common.{◌≡◌, sym, rules, ◌∙◌}
use Rattle.tx_state.specs.Meanings.{state_of}
use Rattle.tx_main.specs.MainLoop.{lettered}
use Rattle.tx_main.proofs.MainLoop.{letter-gone}
use Rattle.tx_main.proofs.letters.set_letter.Goals as goal

pub returns : goal.returns
returns c =
    let state : state_of c.pass_factor.new.s ≡ lettered (state_of c.args.s.now) c.args.font c.args.factor c.args.code = search rules in
    letter-gone c.args.s.now c.pass_factor.new.s c.args.font c.args.factor c.args.code c.requires.looping c.requires.factor
    (record { comes = c.requires.comes; has = sym c.has_next.ensures ∙ c.if-not-has_next.false })
    state c.pass_factor.ensures.phase c.pass_factor.ensures.said
