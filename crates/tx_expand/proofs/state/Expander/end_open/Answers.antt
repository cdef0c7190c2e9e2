use Rattle.std.proofs.Common.{sym, ◌∙◌}
use Rattle.tx_expand.specs.Expanding.{reader_of, world_of}
use Rattle.tx_expand.specs.Values.{lent}
use Rattle.tx_expand.proofs.Turning.{part-over, part-scanned, some-begun}
use Rattle.tx_expand.proofs.state.Expander.end_open.Goals as goal

pub returns-then-is_scanning : goal.returns-then-is_scanning
returns-then-is_scanning c = λ any.
    rw (part-scanned (world_of (lent c.args.known.now) any) (reader_of c.args.self.now c.args.input.now) c.args.self.now.begun (sym c.is_scanning.ensures ∙ c.if-is_scanning.true))
    (rw (c.in_ok-push_part_end.ensures.ok, c.part_end.ensures) at (c.scan_on.ensures any))

pub returns : goal.returns
returns c = λ any.
    rw (part-over (world_of (lent c.args.known.now) any) (reader_of c.args.self.now c.args.input.now) c.args.self.now.begun (some-begun c.is_empty.result c.args.self.now.begun c.is_empty.ensures c.if-is_empty.false) (sym c.is_scanning.ensures ∙ c.if-is_scanning.false))
    (rw c.in_ok-push_part_end.ensures.ok at c.went.ensures)
