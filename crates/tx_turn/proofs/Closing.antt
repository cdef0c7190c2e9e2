-- What comes of the end of the innermost file.
use Rattle.std.proofs.Common.{◌≡◌, Bool, Option, None, Some, ap, sym, ◌∙◌}
use Rattle.tx_expand.specs.Turns.{file_ended}
use Rattle.tx_event.specs.declared.types.Ask.TheVariants.{Close}
use Rattle.tx_event.specs.declared.types.Event.{Event}
use Rattle.tx_seen.specs.declared.error.TexError.{TexError}
use Rattle.tx_state.specs.declared.state.State.{State}
use Rattle.tx_state.specs.Meanings.{IsStepped}
use Rattle.tx_state.specs.Outcomes.{Outcome, Asks, fails}
use Rattle.tx_state.specs.State.{TexState}
use Rattle.tx_turn.specs.Turns.{closed_unless, closes, takes_text}

-- one outcome is another
pub stepped-as : (one other : Outcome) (before : State) (event : Event) (after : State) → one ≡ other → IsStepped other before event after → IsStepped one before event after
stepped-as one other before event after same did = rw same did

closes-by : (s : TexState) (text : Bool) (error : Option TexError) → text ≡ takes_text s → error ≡ file_ended text s.reader → closes s ≡ closed_unless s error
closes-by s text error open_text is =
    ap (λ (e : Option TexError). closed_unless s e) (ap (λ (b : Bool). file_ended b s.reader) (sym open_text) ∙ sym is)

pub closes-refused : (s : TexState) (text : Bool) (found : Option TexError) (error : TexError) → text ≡ takes_text s → found ≡ file_ended text s.reader → found ≡ Some error → closes s ≡ fails error
closes-refused s text found error open_text is refused = closes-by s text found open_text is ∙ ap (λ (e : Option TexError). closed_unless s e) refused

pub closes-asked : (s : TexState) (text : Bool) (found : Option TexError) → text ≡ takes_text s → found ≡ file_ended text s.reader → found ≡ None → closes s ≡ Asks Close s
closes-asked s text found open_text is none = closes-by s text found open_text is ∙ ap (λ (e : Option TexError). closed_unless s e) none
