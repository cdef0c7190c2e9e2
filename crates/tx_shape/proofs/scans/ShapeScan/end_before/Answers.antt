use Rattle.tx_scan.proofs.Behind.{none-fewer, none-needs}
use Rattle.tx_shape.specs.Rests.{needed}
use Rattle.tx_shape.proofs.Amounts.{none-waits, set-fewer, set-needs}
use Rattle.tx_shape.proofs.scans.ShapeScan.end_before.Goals as goal

pub returns-in-Part-clause-needs : goal.returns-in-Part-clause-needs
returns-in-Part-clause-needs c =
    λ old. none-needs old (needed c.feed_plain.new.self) c.feed_plain.result c.feed_plain.ensures.fewer

pub returns-in-Part-clause-fewer : goal.returns-in-Part-clause-fewer
returns-in-Part-clause-fewer c =
    λ old h. none-fewer old (needed c.feed_plain.new.self) c.feed_plain.result c.feed_plain.ensures.fewer

pub returns-in-Part-clause-waits : goal.returns-in-Part-clause-waits
returns-in-Part-clause-waits c =
    none-waits c.feed_plain.new.self (needed c.feed_plain.new.self) c.feed_plain.result c.feed_plain.ensures.fewer

pub returns-in-Font-clause-needs : goal.returns-in-Font-clause-needs
returns-in-Font-clause-needs c =
    λ old. set-needs (needed c.feed_font.new.self) old c.feed_font.result c.feed_font.ensures.needs

pub returns-in-Font-clause-fewer : goal.returns-in-Font-clause-fewer
returns-in-Font-clause-fewer c =
    λ old h. set-fewer (needed c.feed_font.new.self) old c.feed_font.result (rw c.in-Font.is at h) c.feed_font.ensures.needs
