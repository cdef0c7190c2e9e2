use Rattle.std.proofs.Common.{◌∙◌, sym}
use Rattle.tx_expand.specs.Expanding.{reader_of, world_of}
use Rattle.tx_expand.proofs.Turning.{raw-within, taken-raw}
use Rattle.tx_expand.specs.Values.{lent}
use Rattle.tx_expand.proofs.state.Expander.read_within.Goals as goal

pub returns-then-is_skipping : goal.returns-then-is_skipping
returns-then-is_skipping c = λ any.
    rw (taken-raw (world_of (lent c.args.known.now) any) c.args.wanted c.args.token (reader_of c.args.self.now c.args.input.now) (sym c.refused.ensures ∙ c.in_default.is) (raw-within c.args.wanted c.args.self.now.begun c.requires))
    (c.skip_on.ensures (world_of (lent c.args.known.now) any))

pub returns : goal.returns
returns c = λ any.
    rw (taken-raw (world_of (lent c.args.known.now) any) c.args.wanted c.args.token (reader_of c.args.self.now c.args.input.now) (sym c.refused.ensures ∙ c.in_default.is) (raw-within c.args.wanted c.args.self.now.begun c.requires))
    (c.take_within.ensures any)
