-- The machine of which each line is a page, but for those that lead to other files and back.
use Rattle.std.specs.Prelude.{◌≡◌, ℕ, zero, suc, ◌-◌, ◌==◌, Bool, false, pos, List, [], ◌∷◌, ◌++◌, length, take, drop, slice_get, replicate, nat_le, Option, Some, None, if◌then◌else◌}
use Rattle.tx_dvi.specs.declared.page.DateParameters.{DateParameters}
use Rattle.tx_dvi.specs.Page.{Page}
use Rattle.tx_files.specs.Lines.{is_line_feed}
use Rattle.tx_machine.specs.declared.types.Date.{Date}
use Rattle.tx_event.specs.declared.types.Ask.{Ask}
use Rattle.tx_event.specs.declared.types.Ask.TheVariants.{Open, Line as AskLine, Close}
use Rattle.tx_event.specs.declared.types.Reply.{Reply}
use Rattle.tx_event.specs.declared.types.Reply.TheVariants.{Found, Absent, Line, Ended, Whole, Closed}
use Rattle.tx_event.specs.declared.types.Event.{Event}
use Rattle.tx_event.specs.declared.types.Event.TheVariants.{Went, Asks, Shipped, Stopped}
use Rattle.tx_event.specs.declared.types.Stop.{Stop}
use Rattle.tx_event.specs.declared.types.Stop.TheVariants.{End, Error}
use Rattle.tx_event.specs.Turns.{Stepped, kind_of}
use Rattle.tx_machine.specs.Machine.{Formatter}
use Rattle.line_machine.specs.declared.error.LineError.{LineError}
use Rattle.line_machine.specs.declared.error.LineError.TheVariants.{TooLong, FileAbsent, NoEnd}
use Rattle.line_machine.specs.declared.state.Phase.{Phase}
use Rattle.line_machine.specs.declared.state.Phase.TheVariants.{Begins, Reads, Fails, Waits, Halted}
use Rattle.line_machine.specs.Errors.{number_of}
use Rattle.tx_machine.specs.Same.{same_by}
use Rattle.line_machine.specs.Codes.{meaning_code}
use Rattle.line_machine.specs.State.{Meaning, mode_of}

-- a line but for its LF
abbrev pub text_by : List ℕ → Option ℕ → List ℕ
text_by line None = line
text_by line (Some last) = if is_line_feed last then take (length line - 1) line else line

abbrev pub text_of : List ℕ → List ℕ
text_of line = text_by line (slice_get line (length line - 1))

-- the date of a run as the parameters of its pages
abbrev pub date_parameters : Date → DateParameters
date_parameters date = record { year = pos date.year; month = pos date.month; day = pos date.day; time = pos date.minutes }

-- a page with this body and no size
abbrev pub page_of : DateParameters → List ℕ → Page
page_of date body = record {
  body = body;
  fonts = [];
  counts = replicate 10 (pos 0);
  height = pos 0;
  width = pos 0;
  nesting = 0;
  mag = 1000;
  date = date;
}

-- the turn ends with an ask
abbrev pub asks : Meaning → Ask → Stepped Meaning
asks s ask = record { event = Asks ask; next = record s { phase = Waits (kind_of ask) }; said = [] }

-- the turn ends the run
abbrev pub stops : Meaning → Stop → Stepped Meaning
stops s stop = record { event = Stopped stop; next = record s { phase = Halted }; said = [] }

abbrev pub fails : Meaning → LineError → Stepped Meaning
fails s error = stops s (Error (number_of error))

-- a space at the beginning of what is left of a line is passed over
abbrev pub passes : Meaning → List ℕ → Stepped Meaning
passes s rest = record { event = Went; next = record s { phase = Reads rest }; said = [] }

-- a line that has bytes is a page, and its first byte is said
abbrev pub ships : Meaning → List ℕ → ℕ → Stepped Meaning
ships s text first =
    if nat_le (length text) 200000
    then record { event = Shipped (page_of s.date text); next = record s { phase = Reads [] }; said = first ∷ [] }
    else fails s TooLong

-- a lone character: a full stop, or `)`
abbrev pub is_lone : ℕ → ℕ → List ℕ → Bool
is_lone character first [] = first == character
is_lone character first (second ∷ rest) = false

-- what comes of a line: nothing; by a space what is behind it; the end; by `)` the file around this one is read on; by `(` and a
-- name that file is read; or a page
abbrev pub reads : Meaning → List ℕ → Stepped Meaning
reads s [] = asks s AskLine
reads s (first ∷ rest) =
    if first == 32 then passes s rest
    else if is_lone 46 first rest then stops s End
    else if is_lone 41 first rest then asks s Close
    else if first == 40 then asks s (Open rest)
    else ships s (first ∷ rest) first

abbrev pub steps : Meaning → Phase → Stepped Meaning
steps s (Begins name) = asks s (Open name)
steps s (Reads text) = reads s text
steps s (Fails error) = fails s error
steps s (Waits kind) = fails s NoEnd
steps s Halted = fails s NoEnd

-- one turn
abbrev pub step : Meaning → Stepped Meaning
step s = steps s s.phase

-- what a reply brings; no file is asked for as a whole
abbrev pub heard : Reply → Phase
heard Found = Reads []
heard Absent = Fails FileAbsent
heard (Line bytes) = Reads (text_of bytes)
heard Ended = Fails NoEnd
heard (Whole bytes) = Fails NoEnd
heard Closed = Reads []

-- the machine; each turn costs 1
unfoldable pub line_machine : Formatter Meaning
line_machine = record {
  start = λ date main. record { date = date_parameters date; phase = Begins main };
  cost = λ s. 1;
  step = step;
  take = λ s reply. record s { phase = heard reply };
  mode = λ s. mode_of s.phase;
  same = same_by meaning_code;
}

-- a text begins with so many spaces
abbrev pub HasSpaces : List ℕ → ℕ → Type 0
HasSpaces text zero = Unit {0}
HasSpaces text (suc more) = HasSpaces text more × (drop more text ≡ 32 ∷ drop (suc more) text)

-- an event, the state after it and the transcript that waits are those of this turn
pub record IsStepped (t : Stepped Meaning) (event : Event) (state : Meaning) (before after : List ℕ) : Type 0 where
  pub event_is : event ≡ t.event
  pub state_is : state ≡ t.next
  pub said_is : after ≡ before ++ t.said
