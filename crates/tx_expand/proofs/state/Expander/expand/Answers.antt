use Rattle.tx_expand.specs.Expanding.{reader_of, world_of}
use Rattle.tx_expand.proofs.Turning.{taken-otherwise}
use Rattle.tx_expand.specs.Values.{lent}
use Rattle.tx_expand.proofs.state.Expander.expand.Goals as goal

pub returns-in_default : goal.returns-in_default
returns-in_default c =
    rw (taken-otherwise (world_of (lent c.args.known.now) c.args.mode) c.args.wanted c.args.token (reader_of c.args.self.now c.args.input.now) c.args.token.meaning c.in_default.not-Undefined c.in_default.not-Expandable c.in_default.not-Macro)
    (c.take.ensures c.args.mode)
