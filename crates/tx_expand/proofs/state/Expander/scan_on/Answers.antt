use Rattle.tx_expand.specs.Expanding.{reader_of, world_of}
use Rattle.tx_expand.proofs.Turning.{scanned-made, scanned-more, scanned-wrong}
use Rattle.tx_expand.specs.Values.{lent}
use Rattle.tx_expand.proofs.state.Expander.scan_on.Goals as goal

pub returns-in-More : goal.returns-in-More
returns-in-More c = λ any.
    scanned-more (world_of (lent c.args.known.now) any) c.args.token (reader_of c.args.self.now c.args.input.now) c.wants_constant.result c.feed_scan.new.begun c.feed_scan.new.input c.requires c.wants_constant.ensures (rw (c.in-More.is, c.in_ok-count.ensures) at c.in_ok-feed_scan.ensures)

pub returns-in-Made : goal.returns-in-Made
returns-in-Made c = λ any.
    rw (scanned-made (world_of (lent c.args.known.now) any) c.args.token (reader_of c.args.self.now c.args.input.now) c.wants_constant.result c.feed_scan.new.begun c.drop_first.new.self c.feed_scan.new.input c.in-Made.made c.requires c.wants_constant.ensures (rw (c.in-Made.is, c.in_ok-count.ensures) at c.in_ok-feed_scan.ensures) c.drop_first.ensures)
    (c.come.ensures any)

pub returns-in-Wrong : goal.returns-in-Wrong
returns-in-Wrong c = λ any.
    scanned-wrong (world_of (lent c.args.known.now) any) c.args.token (reader_of c.args.self.now c.args.input.now) _ c.wants_constant.result c.feed_scan.new.begun c.feed_scan.new.input c.in-Wrong.error c.requires c.wants_constant.ensures (rw c.in-Wrong.is at c.in_ok-feed_scan.ensures)
