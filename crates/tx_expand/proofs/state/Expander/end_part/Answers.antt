use Rattle.std.proofs.Common.{refl, sym, ◌∙◌}
use Rattle.tx_expand.specs.Expanding.{reader_of, world_of}
use Rattle.tx_expand.specs.Values.{lent}
use Rattle.tx_expand.proofs.Turning.{part-misplaced, part-peeked, part-read}
use Rattle.tx_expand.proofs.state.Expander.end_part.Goals as goal

pub returns-else-peeks : goal.returns-else-peeks
returns-else-peeks c = λ any.
    rw (part-misplaced (world_of (lent c.args.known.now) any) c.args.wanted (reader_of c.args.self.now c.args.input.now) (sym c.ended.ensures ∙ c.in_default.is) (sym c.want.ensures ∙ c.in-Raw.is) (sym c.peeks.ensures ∙ c.if-peeks.false)) refl

pub returns-in-Expanded : goal.returns-in-Expanded
returns-in-Expanded c = λ any.
    rw (part-read (world_of (lent c.args.known.now) any) c.args.wanted (reader_of c.args.self.now c.args.input.now) (sym c.ended.ensures ∙ c.in_default.is) (sym c.want.ensures ∙ c.in-Expanded.is))
    (c.end_open.ensures any)

pub returns-then-peeks : goal.returns-then-peeks
returns-then-peeks c = λ any.
    rw (part-peeked (world_of (lent c.args.known.now) any) c.args.wanted (reader_of c.args.self.now c.args.input.now) (sym c.ended.ensures ∙ c.in_default.is) (sym c.want.ensures ∙ c.in-Raw.is) (sym c.peeks.ensures ∙ c.if-peeks.true))
    (c.end_open-then-peeks.ensures any)
