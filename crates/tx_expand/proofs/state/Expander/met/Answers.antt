use Rattle.std.proofs.Common.{sym, ◌∙◌}
use Rattle.tx_expand.specs.Expanding.{reader_of, world_of}
use Rattle.tx_expand.specs.Values.{lent}
use Rattle.tx_expand.proofs.Turning.{none-ended}
use Rattle.tx_expand.proofs.state.Expander.met.Goals as goal

pub returns : goal.returns
returns c =
    rw (none-ended (world_of (lent c.args.known.now) c.args.mode) c.args.wanted c.args.token (reader_of c.args.self.now c.args.input.now) (sym c.entry_end_in.ensures ∙ c.in_default.is))
    c.read_other.ensures

pub returns-then-takes_characters : goal.returns-then-takes_characters
returns-then-takes_characters c =
    rw (none-ended (world_of (lent c.args.known.now) c.args.mode) c.args.wanted c.args.token (reader_of c.args.self.now c.args.input.now) (sym c.entry_end_in.ensures ∙ c.in_default.is))
    (c.read_within.ensures c.args.mode)
