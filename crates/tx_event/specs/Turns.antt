-- What a state is ready for, and what one turn gives.
use Rattle.std.specs.Prelude.{ℕ, Bool, true, false, List}
use Rattle.tx_event.specs.declared.types.Ask.{Ask}
use Rattle.tx_event.specs.declared.types.Ask.TheVariants.{Open, Line as AskLine, Close, Whole as AskWhole}
use Rattle.tx_event.specs.declared.types.AskKind.{AskKind}
use Rattle.tx_event.specs.declared.types.AskKind.TheVariants.{Open as ToOpen, Line as ForLine, Close as ToClose, Whole as ForWhole}
use Rattle.tx_event.specs.declared.types.Reply.{Reply}
use Rattle.tx_event.specs.declared.types.Reply.TheVariants.{Found, Absent, Line, Ended, Whole, Closed}
use Rattle.tx_event.specs.declared.types.Event.{Event}
use Rattle.tx_event.specs.declared.types.Event.TheVariants.{Went, Asks, Shipped, Stopped}

-- what a state is ready for: a turn, the reply to an ask of some kind, or nothing any more
pub data Mode : Type 0 where
  Ready : Mode
  Awaits : AskKind → Mode
  Halted : Mode

abbrev pub kind_of : Ask → AskKind
kind_of (Open name) = ToOpen
kind_of AskLine = ForLine
kind_of Close = ToClose
kind_of (AskWhole name) = ForWhole

-- what one turn gives: the event, the next state, and the bytes that the transcript gains
pub record Stepped (S : Type 0) : Type 0 where
  pub event : Event
  pub next : S
  pub said : List ℕ

-- what a state is ready for after an event
abbrev pub mode_after : Event → Mode
mode_after Went = Ready
mode_after (Asks ask) = Awaits (kind_of ask)
mode_after (Shipped body) = Ready
mode_after (Stopped stop) = Halted

-- whether a reply answers an ask of this kind
abbrev pub fits : AskKind → Reply → Bool
fits ToOpen Found = true
fits ToOpen Absent = true
fits ForLine (Line bytes) = true
fits ForLine Ended = true
fits ToClose Closed = true
fits ForWhole (Whole bytes) = true
fits ForWhole Absent = true
fits _ _ = false
