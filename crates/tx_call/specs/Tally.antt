-- Where a replay stands, in code.
use Rattle.tx_session.specs.Held.{Held}
use Rattle.tx_call.specs.declared.tally.Tally.{Tally}
use Rattle.tx_call.specs.Replay.{Moment}
use Rattle.tx_session.specs.Standing.{Standing}
use Rattle.tx_call.specs.Sitting.{Sitting}

-- a document, and the counts of its edits and of the places that were asked for
abbrev pub moment : Held → Tally → Moment
moment held tally = record { held = held; edits = tally.edits; places = tally.places; outside = tally.outside }

-- the same of a document that stands somewhere
abbrev pub sitting : Standing → Tally → Sitting
sitting standing tally = record { standing = standing; edits = tally.edits; places = tally.places; outside = tally.outside }
