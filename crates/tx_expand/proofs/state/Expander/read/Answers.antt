use Rattle.std.proofs.Common.{◌∙◌, sym}
use Rattle.tx_expand.specs.Expanding.{reader_of, world_of}
use Rattle.tx_expand.proofs.Turning.{taken-raw}
use Rattle.tx_expand.specs.Values.{lent}
use Rattle.tx_expand.proofs.state.Expander.read.Goals as goal

pub returns-in-Raw : goal.returns-in-Raw
returns-in-Raw c =
    rw (taken-raw (world_of (lent c.args.known.now) c.args.mode) c.args.wanted c.args.token (reader_of c.args.self.now c.args.input.now) (sym c.refused.ensures ∙ c.in_default.is) (sym c.want.ensures ∙ c.in-Raw.is))
    (c.take.ensures c.args.mode)
