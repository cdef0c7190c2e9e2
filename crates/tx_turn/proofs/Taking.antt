-- What comes of a token by what the open command answers.
use Rattle.std.proofs.Common.{◌≡◌, ℕ, ℤ, List, [], Option, Result, Ok, Err, IfOk, refl, ap, subst}
use Rattle.tx_event.specs.declared.types.Event.{Event}
use Rattle.tx_pending.specs.Elements.{Input, given_back}
use Rattle.tx_expand.specs.Values.{Lent, value_now}
use Rattle.tx_expand.specs.Turns.{put_back}
use Rattle.tx_seen.specs.declared.error.TexError.{TexError}
use Rattle.tx_seen.specs.declared.fed.Want.{Want}
use Rattle.tx_seen.specs.declared.item.Item.{Item}
use Rattle.tx_seen.specs.declared.seen.Seen.{Seen}
use Rattle.tx_seen.specs.Magnified.{magnification_in, noted}
use Rattle.tx_seen.specs.Readings.{More, Done, Wrong}
use Rattle.tx_command.specs.declared.scans.Taken.{Taken}
use Rattle.tx_command.specs.declared.scans.Taken.TheVariants as taken
use Rattle.tx_state.specs.declared.state.State.{State}
use Rattle.tx_command.specs.declared.types.Command.{Command}
use Rattle.tx_command.specs.Begun.{Begun}
use Rattle.tx_command.specs.Commands.{command}
use Rattle.tx_turn.specs.Effects.{Effects}
use Rattle.tx_turn.specs.Going.{HasJoined}
use Rattle.tx_state.specs.Outcomes.{fails, leaves}
use Rattle.tx_state.specs.State.{TexState}
use Rattle.tx_state.specs.Meanings.{IsStepped, state_of}
use Rattle.tx_command.specs.Taken.{joined, IsTaken}
use Rattle.tx_scan.specs.Settled.{tokens_of}
use Rattle.tx_turn.specs.Turns.{joining, known_of, scanned, taking}

-- the items of the open command with one more token
abbrev pub items_with : TexState → Seen → List Item
items_with s t = joined (value_now (known_of s)) s.mode s.head s.taken t

pub joins-more : (effects : Effects) (s : TexState) (t : Seen) (want : Want) → command s.mode s.head (items_with s t) ≡ More want → joining effects s (items_with s t) ≡ leaves (record s { taken = items_with s t; magnification = noted s.magnification (magnification_in (items_with s t)) })
joins-more effects s t want is = ap (scanned effects s (items_with s t)) is

pub joins-wrong : (effects : Effects) (s : TexState) (t : Seen) (e : TexError) → command s.mode s.head (items_with s t) ≡ Wrong e → joining effects s (items_with s t) ≡ fails e
joins-wrong effects s t e is = ap (scanned effects s (items_with s t)) is

pub joins-whole : (effects : Effects) (s : TexState) (t : Seen) (c : Command) (behind : List Item) → command s.mode s.head (items_with s t) ≡ Done c behind → joining effects s (items_with s t) ≡ effects.effect (record s { taken = []; reader = put_back (tokens_of behind) s.reader }) c
joins-whole effects s t c behind is = ap (scanned effects s (items_with s t)) is

-- the state once a token is taken
abbrev pub fed_state : State → Begun → Input → Command → State
fed_state s scan input made = record s { input = input; scan = scan; made = made }

-- what was lent is what the state knows
pub taken-by : (s : State) (known : Lent) (scan : Begun) (input : Input) (made : Command) (t : Seen) (found : Taken) → known ≡ known_of (state_of s) → IsTaken (value_now known) s.scan t s.input scan input made found → IsTaken (value_now (known_of (state_of s))) s.scan t s.input scan input made found
taken-by s known scan input made t found same k =
    let Holds : Lent → Type 0 = λ l. IsTaken (value_now l) s.scan t s.input scan input made found in
    subst Holds same k

-- the same, and the magnification that was taken is used
abbrev pub noted_state : State → Begun → Input → Command → Option ℤ → State
noted_state s scan input made used = record s { input = input; scan = scan; made = made; magnification = used }

pub joins-on : (effects : Effects) (s : State) (scan : Begun) (input : Input) (made : Command) (t : Seen) (found : Option ℕ) (used : Option ℤ) → found ≡ magnification_in scan.taken → used ≡ noted s.magnification found → IsTaken (value_now (known_of (state_of s))) s.scan t s.input scan input made taken.More → HasJoined effects t s (noted_state s scan input made used)
joins-on effects s scan input made t found used is_found is_used k =
    let items : List Item = items_with (state_of s) t in
    record {
      next = record (state_of s) { taken = items; magnification = noted s.magnification (magnification_in items) };
      goes = joins-more effects (state_of s) t k.0.0 k.0.1;
      state = rw (is_used, is_found, k.1.0, k.1.1) refl;
      phase = refl;
      said = refl;
      due = refl;
      text = refl;
      begun = refl;
    }

pub takes-wrong : (effects : Effects) (s new : State) (scan : Begun) (input : Input) (made : Command) (t : Seen) (e : TexError) (event : Event) → IsTaken (value_now (known_of (state_of s))) s.scan t s.input scan input made (taken.Wrong e) → IsStepped (fails e) (fed_state s scan input made) event new → IsStepped (taking effects (state_of s) t) s event new
takes-wrong effects s new scan input made t e event k did =
    rw (joins-wrong effects (state_of s) t e k) (record { event_is = did.event_is; state_is = did.state_is; said_is = did.said_is })

whole-by : (effects : Effects) (s new : State) (t : Seen) (made : Command) (behind : List Item) (event : Event) → command s.scan.mode s.scan.head (items_with (state_of s) t) ≡ Done made behind → IsStepped (effects.effect (record (state_of s) { taken = []; reader = put_back (tokens_of behind) (state_of s).reader }) made) (fed_state s (record s.scan { taken = [] }) (given_back s.input (tokens_of behind)) made) event new → IsStepped (taking effects (state_of s) t) s event new
whole-by effects s new t made behind event is did =
    rw (joins-whole effects (state_of s) t made behind is) (record { event_is = did.event_is; state_is = did.state_is; said_is = did.said_is })

pub takes-whole : {E : Type 0} (effects : Effects) (s new : State) (scan : Begun) (input : Input) (made : Command) (t : Seen) (answer : Result Event E) → IsTaken (value_now (known_of (state_of s))) s.scan t s.input scan input made taken.Whole → IfOk answer (λ event. IsStepped (effects.effect (state_of (fed_state s scan input made)) made) (fed_state s scan input made) event new) → IfOk answer (λ event. IsStepped (taking effects (state_of s) t) s event new)
takes-whole effects s new scan input made t (Ok event) k did = whole-by effects s new t made k.0 event k.1.0 (rw (k.1.1.0, k.1.1.1) at did)
takes-whole effects s new scan input made t (Err e) k did = tt
