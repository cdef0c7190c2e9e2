-- What comes of a token that joins the open text, by what that answers.
use Rattle.std.proofs.Common.{◌≡◌, ℕ, Bool, true, false, Option, None, Some, is_some, Result, Ok, Err, IfOk, cond, refl, ap, sym, ◌∙◌, append-nil, arith}
use Rattle.tx_event.specs.declared.types.Event.{Event}
use Rattle.tx_event.specs.declared.types.Event.TheVariants.{Went}
use Rattle.tx_seen.specs.declared.error.TexError.{TexError}
use Rattle.tx_seen.specs.declared.fed.Fed.{Fed}
use Rattle.tx_seen.specs.declared.fed.Fed.TheVariants as fed
use Rattle.tx_seen.specs.declared.fed.Kind.{Kind}
use Rattle.tx_seen.specs.declared.fed.Want.{Want}
use Rattle.tx_seen.specs.declared.seen.Seen.{Seen}
use Rattle.tx_parts.specs.declared.parts.OpenText.{OpenText}
use Rattle.tx_state.specs.declared.parts.Phase.TheVariants.{Running}
use Rattle.tx_state.specs.declared.state.State.{State}
use Rattle.tx_state.specs.Meanings.{IsStepped, state_of}
use Rattle.tx_state.specs.Outcomes.{fails, leaves}
use Rattle.tx_state.specs.State.{TexState}
use Rattle.tx_state.specs.Texts.{IsFedSome, IsTextAnswered, IsTextFed, is_whole, text_answer, text_wanted, with_token}
use Rattle.tx_turn.specs.Effects.{Effects}
use Rattle.tx_turn.specs.Turns.{taken_by, texting}

-- a text that is open has answered
pub fed-some : {E : Type 0} (r : Result OpenText TexError) (answer : Result (Fed (Unit {0})) E) (new : OpenText) → IfOk answer (λ fed. IsTextFed r fed new) → IfOk answer (λ fed. IsFedSome r fed (Some new))
fed-some (Ok text) (Ok fed) new k = (k.0, ap Some k.1)
fed-some (Err error) (Ok fed) new k = k
fed-some r (Err e) new k = tt

-- the state once the text has answered
abbrev pub text_state : State → Option OpenText → State
text_state s text = record s { text = text }

-- which answer it is
abbrev number : Fed (Unit {0}) → ℕ
number (fed.More want) = 0
number (fed.Need kind) = 1
number (fed.Done u back) = 2
number (fed.Wrong error) = 3

answer-by : (text : OpenText) (whole : Bool) (answer : Fed (Unit {0})) → is_whole text ≡ whole → answer ≡ text_answer text → number answer ≡ cond whole 2 0
answer-by text true answer is k = ap number (k ∙ ap (λ (w : Bool). cond w (fed.Done tt 0) (fed.More (text_wanted text).want)) is)
answer-by text false answer is k = ap number (k ∙ ap (λ (w : Bool). cond w (fed.Done tt 0) (fed.More (text_wanted text).want)) is)

-- a text that wants more isn't whole
wants-more : (text : OpenText) (whole : Bool) (want : Want) → is_whole text ≡ whole → fed.More want ≡ text_answer text → is_whole text ≡ false
wants-more text false want is k = is
wants-more text true want is k = absurd (omega (arith, answer-by text true (fed.More want) is k))

is-done : (text : OpenText) (whole : Bool) (u : Unit {0}) (back : ℕ) → is_whole text ≡ whole → fed.Done u back ≡ text_answer text → is_whole text ≡ true
is-done text true u back is k = is
is-done text false u back is k = absurd (omega (arith, answer-by text false (fed.Done u back) is k))

no-wrong : (text : OpenText) (whole : Bool) (error : TexError) → is_whole text ≡ whole → fed.Wrong error ≡ text_answer text → ⊥
no-wrong text true error is k = omega (arith, answer-by text true (fed.Wrong error) is k)
no-wrong text false error is k = omega (arith, answer-by text false (fed.Wrong error) is k)

no-need : (text : OpenText) (whole : Bool) (kind : Kind) → is_whole text ≡ whole → fed.Need kind ≡ text_answer text → ⊥
no-need text true kind is k = omega (arith, answer-by text true (fed.Need kind) is k)
no-need text false kind is k = omega (arith, answer-by text false (fed.Need kind) is k)

pub goes-on : (effects : Effects) (s : TexState) (text : OpenText) → is_whole text ≡ false → texting effects s (Ok text) ≡ leaves (record s { text = Some text })
goes-on effects s text is = ap (λ (w : Bool). cond w (effects.ending_text (record s { text = Some text })) (leaves (record s { text = Some text }))) is

takes-effect : (effects : Effects) (s : TexState) (text : OpenText) → is_whole text ≡ true → texting effects s (Ok text) ≡ effects.ending_text (record s { text = Some text })
takes-effect effects s text is = ap (λ (w : Bool). cond w (effects.ending_text (record s { text = Some text })) (leaves (record s { text = Some text }))) is

texts-more : (effects : Effects) (s : State) (r : Result OpenText TexError) (want : Want) (new : Option OpenText) → s.phase ≡ Running → IsFedSome r (fed.More want) new → IsStepped (texting effects (state_of s) r) s Went (text_state s new)
texts-more effects s (Ok text) want new running k =
    rw k.1 (rw (goes-on effects (state_of s) text (wants-more text (is_whole text) want refl k.0)) (record { event_is = refl; state_is = rw running refl; said_is = sym (append-nil s.said) }))
texts-more effects s (Err error) want new running k = absurd cc

pub takes-text-more : (effects : Effects) (s : State) (open_text : Option OpenText) (t : Seen) (want : Want) (new : Option OpenText) → s.phase ≡ Running → is_some open_text ≡ true → IsTextAnswered open_text t (fed.More want) new → IsStepped (taken_by effects (state_of s) t open_text) s Went (text_state s new)
takes-text-more effects s None t want new running is k = absurd cc
takes-text-more effects s (Some text) t want new running is k = texts-more effects s (with_token text t) want new running k

-- what comes of it once it is whole
stepped-alike : {E : Type 0} (effects : Effects) (s new : State) (text : OpenText) (answer : Result Event E) → is_whole text ≡ true → IfOk answer (λ event. IsStepped (effects.ending_text (state_of (text_state s (Some text)))) (text_state s (Some text)) event new) → IfOk answer (λ event. IsStepped (texting effects (state_of s) (Ok text)) s event new)
stepped-alike effects s new text (Ok event) is did =
    rw (takes-effect effects (state_of s) text is) (record { event_is = did.event_is; state_is = did.state_is; said_is = did.said_is })
stepped-alike effects s new text (Err e) is did = tt

texts-done : {E : Type 0} (effects : Effects) (s new : State) (r : Result OpenText TexError) (u : Unit {0}) (back : ℕ) (text : Option OpenText) (answer : Result Event E) → IsFedSome r (fed.Done u back) text → IfOk answer (λ event. IsStepped (effects.ending_text (state_of (text_state s text))) (text_state s text) event new) → IfOk answer (λ event. IsStepped (texting effects (state_of s) r) s event new)
texts-done effects s new (Ok whole) u back text answer k did = stepped-alike effects s new whole answer (is-done whole (is_whole whole) u back refl k.0) (rw k.1 at did)
texts-done effects s new (Err error) u back text answer k did = absurd cc

pub takes-text-done : {E : Type 0} (effects : Effects) (s new : State) (open_text : Option OpenText) (t : Seen) (u : Unit {0}) (back : ℕ) (text : Option OpenText) (answer : Result Event E) → is_some open_text ≡ true → IsTextAnswered open_text t (fed.Done u back) text → IfOk answer (λ event. IsStepped (effects.ending_text (state_of (text_state s text))) (text_state s text) event new) → IfOk answer (λ event. IsStepped (taken_by effects (state_of s) t open_text) s event new)
takes-text-done effects s new None t u back text answer is k did = absurd cc
takes-text-done effects s new (Some whole) t u back text answer is k did = texts-done effects s new (with_token whole t) u back text answer k did

texts-wrong : (effects : Effects) (s new : State) (r : Result OpenText TexError) (error : TexError) (text : Option OpenText) (event : Event) → IsFedSome r (fed.Wrong error) text → IsStepped (fails error) (text_state s text) event new → IsStepped (texting effects (state_of s) r) s event new
texts-wrong effects s new (Ok whole) error text event k did = absurd (no-wrong whole (is_whole whole) error refl k.0)
texts-wrong effects s new (Err found) error text event k did =
    let same : error ≡ found = cc in
    rw (← same) (record { event_is = did.event_is; state_is = did.state_is; said_is = did.said_is })

pub takes-text-wrong : (effects : Effects) (s new : State) (open_text : Option OpenText) (t : Seen) (error : TexError) (text : Option OpenText) (event : Event) → is_some open_text ≡ true → IsTextAnswered open_text t (fed.Wrong error) text → IsStepped (fails error) (text_state s text) event new → IsStepped (taken_by effects (state_of s) t open_text) s event new
takes-text-wrong effects s new None t error text event is k did = absurd cc
takes-text-wrong effects s new (Some open_text) t error text event is k did = texts-wrong effects s new (with_token open_text t) error text event k did

-- a text needs no value
needs-by : (r : Result OpenText TexError) (kind : Kind) (text : Option OpenText) → IsFedSome r (fed.Need kind) text → ⊥
needs-by (Ok whole) kind text k = no-need whole (is_whole whole) kind refl k.0
needs-by (Err error) kind text k = cc

pub needs-none : (open_text : Option OpenText) (t : Seen) (kind : Kind) (text : Option OpenText) → IsTextAnswered open_text t (fed.Need kind) text → ⊥
needs-none None t kind text k = cc (k.0)
needs-none (Some open_text) t kind text k = needs-by (with_token open_text t) kind text k
