-- What comes of a turn of the expander by what it answers.
use Rattle.std.proofs.Common.{◌≡◌, ℕ, ℤ, Option, Result, Ok, Err, IfOk, refl, ap, sym, subst, ◌∙◌}
use Rattle.tx_expand.specs.declared.state.Expander.{Expander}
use Rattle.tx_expand.specs.declared.types.Expanded.{Expanded as Answer}
use Rattle.tx_expand.specs.declared.types.Wanted.{Wanted}
use Rattle.tx_expand.specs.Expanding.{reader_of, world_of}
use Rattle.tx_expand.specs.Reader.{Reader, Turn, Goes, Fails}
use Rattle.tx_expand.specs.Turns.{magnification_taken, turn, IsTurned}
use Rattle.tx_expand.specs.Values.{Lent}
use Rattle.tx_event.specs.declared.types.Event.{Event}
use Rattle.tx_pending.specs.Elements.{Input}
use Rattle.tx_prim.specs.declared.modes.Mode.{Mode}
use Rattle.tx_seen.specs.Magnified.{noted}
use Rattle.tx_state.specs.declared.state.State.{State}
use Rattle.tx_state.specs.Meanings.{IsStepped, state_of}
use Rattle.tx_state.specs.State.{TexState}
use Rattle.tx_turn.specs.Effects.{Effects}
use Rattle.tx_turn.specs.Turns.{answered, known_of, reads, turned, wanted_by}

pub turned-by : (effects : Effects) (s : TexState) (t : Turn) (left : Reader) (given : Answer) → IsTurned t left given → turned effects s t ≡ answered effects (record s { reader = left; magnification = noted s.magnification (magnification_taken left.begun) }) given
turned-by effects s (Goes answer behind) left given k = rw (k.0, k.1) refl
turned-by effects s (Fails error) left given k = rw k refl

-- what was lent is what the state knows
pub turned-known : (s : State) (known : Lent) (mode : Mode) (wanted : Wanted) (left : Reader) (given : Answer) → known ≡ known_of (state_of s) → IsTurned (turn (world_of known mode) wanted (reader_of s.expander s.input)) left given → IsTurned (turn (world_of (known_of (state_of s)) mode) wanted (reader_of s.expander s.input)) left given
turned-known s known mode wanted left given same k =
    let Holds : Lent → Type 0 = λ l. IsTurned (turn (world_of l mode) wanted (reader_of s.expander s.input)) left given in
    subst Holds same k

-- the state once the expander has answered, and the magnification that it took is used
abbrev pub turned_state : State → Expander → Input → Option ℤ → State
turned_state s expander input used = record s { expander = expander; input = input; magnification = used }

-- the magnification that the innermost expansion took is used
abbrev pub IsNoted : State → Expander → Input → Option ℤ → Type 0
IsNoted s expander input used = used ≡ noted s.magnification (magnification_taken (reader_of expander input).begun)

pub reads-on : (effects : Effects) (s new : State) (expander : Expander) (input : Input) (used : Option ℤ) (wanted : Wanted) (given : Answer) (event : Event) → wanted ≡ wanted_by (state_of s) s.text → IsNoted s expander input used → IsTurned (turn (world_of (known_of (state_of s)) s.scan.mode) wanted (reader_of s.expander s.input)) (reader_of expander input) given → IsStepped (answered effects (state_of (turned_state s expander input used)) given) (turned_state s expander input used) event new → IsStepped (reads effects (state_of s)) s event new
reads-on effects s new expander input used wanted given event wants notes k did =
    rw (turned-by effects (state_of s) (turn (world_of (known_of (state_of s)) s.scan.mode) (wanted_by (state_of s) s.text) (reader_of s.expander s.input)) (reader_of expander input) given (rw wants at k), sym notes)
    (record { event_is = did.event_is; state_is = did.state_is; said_is = did.said_is })

-- what was found is what the innermost expansion took
pub notes : (s : State) (expander : Expander) (input : Input) (found : Option ℕ) (used : Option ℤ) → found ≡ magnification_taken expander.begun → used ≡ noted s.magnification found → IsNoted s expander input used
notes s expander input found used is_found is_used = is_used ∙ ap (λ (m : Option ℕ). noted s.magnification m) is_found

pub reads-by : {E : Type 0} (effects : Effects) (s new : State) (expander : Expander) (input : Input) (used : Option ℤ) (mode : Mode) (wanted : Wanted) (given : Answer) (answer : Result Event E) → mode ≡ s.scan.mode → wanted ≡ wanted_by (state_of s) s.text → IsNoted s expander input used → IsTurned (turn (world_of (known_of (state_of s)) mode) wanted (reader_of s.expander s.input)) (reader_of expander input) given → IfOk answer (λ event. IsStepped (answered effects (state_of (turned_state s expander input used)) given) (turned_state s expander input used) event new) → IfOk answer (λ event. IsStepped (reads effects (state_of s)) s event new)
reads-by effects s new expander input used mode wanted given (Ok event) in_mode wants is_noted k did = reads-on effects s new expander input used wanted given event wants is_noted (rw in_mode at k) did
reads-by effects s new expander input used mode wanted given (Err e) in_mode wants is_noted k did = tt
