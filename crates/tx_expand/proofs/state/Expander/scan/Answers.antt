use Rattle.std.proofs.Common.{◌≡◌, []}
use Rattle.tx_seen.specs.Readings.{Done}
use Rattle.tx_expand.specs.Expanding.{reader_of, world_of}
use Rattle.tx_expand.specs.Scans.{reading}
use Rattle.tx_expand.proofs.Turning.{reads-done, whole-at-once}
use Rattle.tx_expand.specs.Values.{lent}
use Rattle.tx_expand.proofs.state.Expander.scan.Goals as goal

pub returns-in-Done : goal.returns-in-Done
returns-in-Done c = λ any.
    let whole : reading c.args.what [] ≡ Done c.in-Done.made [] = whole-at-once c.args.what c.in-Done.made c.in-Done.field-1 (rw c.in-Done.is at c.begin-part.ensures.answer) in
    rw (reads-done (world_of (lent c.args.known.now) any) c.args.what [] (reader_of c.args.self.now c.args.input.now) c.in-Done.made [] whole) (c.come.ensures any)
