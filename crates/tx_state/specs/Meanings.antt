-- What the code's state means.
use Rattle.std.specs.Prelude.{◌≡◌, ◌++◌}
use Rattle.tx_event.specs.declared.types.Event.{Event}
use Rattle.tx_expand.specs.Expanding.{reader_of}
use Rattle.tx_state.specs.declared.state.State.{State}
use Rattle.tx_state.specs.Outcomes.{Outcome, stepped}
use Rattle.tx_state.specs.State.{TexState, Meaning, meaning_in}

-- the parts of the state as they stand in the code
abbrev pub state_of : State → TexState
state_of s = record {
  due = s.due;
  files = s.files;
  reader = reader_of s.expander s.input;
  text = s.text;
  mode = s.scan.mode;
  head = s.scan.head;
  taken = s.scan.taken;
  lists = s.lists;
  alignments = s.alignments;
  words = s.words;
  hyphenation = s.hyphenation;
  table = s.table;
  after_groups = s.after_groups;
  after_assignment = s.after_assignment;
  magnification = s.magnification;
  defined = s.defined;
}

abbrev pub meaning_of : State → Meaning
meaning_of s = meaning_in s.phase (state_of s)

-- an event and the state after it are what comes of a turn, and so is what the transcript that waits has got
pub record IsStepped (outcome : Outcome) (before : State) (event : Event) (after : State) : Type 0 where
  pub event_is : event ≡ (stepped outcome).event
  pub state_is : meaning_of after ≡ (stepped outcome).next
  pub said_is : after.said ≡ before.said ++ (stepped outcome).said
