-- What an open text answers, by what its scan answers.
use Rattle.std.proofs.Common.{◌≡◌, ◌∙◌, cond, refl, ap, Result, Ok, Err, IfOk}
use Rattle.std.specs.declared.alloc.AllocError.{AllocError}
use Rattle.tx_prim.specs.declared.family.DefinitionKind.{DefinitionKind}
use Rattle.tx_prim.specs.declared.family.TextUse.{TextUse}
use Rattle.tx_seen.specs.declared.error.TexError.{TexError}
use Rattle.tx_seen.specs.declared.fed.Fed.{Fed}
use Rattle.tx_seen.specs.declared.fed.Fed.TheVariants.{More, Done}
use Rattle.tx_seen.specs.declared.place.Place.{Place}
use Rattle.tx_seen.specs.declared.seen.Seen.{Seen}
use Rattle.tx_text.specs.declared.stages.Stage.{Stage}
use Rattle.tx_text.specs.declared.stages.Stage.TheVariants as stage
use Rattle.tx_text.specs.declared.stages.TextStage.{TextStage}
use Rattle.tx_text.specs.declared.stages.TextStage.TheVariants as text_stage
use Rattle.tx_text.specs.Absorbed as absorbed
use Rattle.tx_text.specs.Absorbed.{Absorbing, IsAbsorbed}
use Rattle.tx_text.specs.Definitions as definition
use Rattle.tx_text.specs.Definitions.{Defining, IsTaken}
use Rattle.tx_parts.specs.declared.parts.OpenText.{OpenText}
use Rattle.tx_parts.specs.declared.parts.OpenText.TheVariants as texts
use Rattle.tx_parts.specs.Texts.{IsTextFed, absorbing_on, defining_on, has_ended_at, is_whole_at, listing_on, with_token}

definition-answers : (d : Defining) (s : Stage) → definition.answer d s ≡ cond (is_whole_at s) (Done tt 0) (More (definition.wanted d s))
definition-answers d stage.Heading = refl
definition-answers d (stage.Numbering code) = refl
definition-answers d (stage.Body groups) = refl
definition-answers d (stage.Naming groups) = refl
definition-answers d stage.Whole = refl

text-answers : (a : Absorbing) (s : TextStage) → absorbed.text_answer a s ≡ cond (has_ended_at s) (Done tt 0) (More (absorbed.text_wanted a s))
text-answers a text_stage.Filler = refl
text-answers a (text_stage.Inside groups) = refl
text-answers a text_stage.Ended = refl

definition-fed : (defined : Place) (kind : DefinitionKind) (r : Result Defining TexError) (fed : Fed (Unit {0})) (new : Defining) → IsTaken r fed new → IsTextFed (defining_on defined kind r) fed (texts.Definition defined kind new)
definition-fed defined kind (Err error) fed new k = k
definition-fed defined kind (Ok d) fed new k = (k.0 ∙ definition-answers d d.stage, ap (λ (d : Defining). texts.Definition defined kind d) k.1)

absorbed-fed : (purpose : TextUse) (r : Result Absorbing TexError) (fed : Fed (Unit {0})) (new : Absorbing) → IsAbsorbed r fed new → IsTextFed (absorbing_on purpose r) fed (texts.Absorbed purpose new)
absorbed-fed purpose (Err error) fed new k = k
absorbed-fed purpose (Ok a) fed new k = (k.0 ∙ text-answers a a.stage, ap (λ (a : Absorbing). texts.Absorbed purpose a) k.1)

list-fed : (place : Place) (r : Result Absorbing TexError) (fed : Fed (Unit {0})) (new : Absorbing) → IsAbsorbed r fed new → IsTextFed (listing_on place r) fed (texts.List place new)
list-fed place (Err error) fed new k = k
list-fed place (Ok a) fed new k = (k.0 ∙ text-answers a a.stage, ap (λ (a : Absorbing). texts.List place a) k.1)

-- the same of a text that this is, where memory may be wanting
if-definition-fed : (defined : Place) (kind : DefinitionKind) (r : Result Defining TexError) (got : Result (Fed (Unit {0})) AllocError) (new : Defining) → IfOk got (λ fed. IsTaken r fed new) → IfOk got (λ fed. IsTextFed (defining_on defined kind r) fed (texts.Definition defined kind new))
if-definition-fed defined kind r (Err error) new k = tt
if-definition-fed defined kind r (Ok fed) new k = definition-fed defined kind r fed new k

if-absorbed-fed : (purpose : TextUse) (r : Result Absorbing TexError) (got : Result (Fed (Unit {0})) AllocError) (new : Absorbing) → IfOk got (λ fed. IsAbsorbed r fed new) → IfOk got (λ fed. IsTextFed (absorbing_on purpose r) fed (texts.Absorbed purpose new))
if-absorbed-fed purpose r (Err error) new k = tt
if-absorbed-fed purpose r (Ok fed) new k = absorbed-fed purpose r fed new k

if-list-fed : (place : Place) (r : Result Absorbing TexError) (got : Result (Fed (Unit {0})) AllocError) (new : Absorbing) → IfOk got (λ fed. IsAbsorbed r fed new) → IfOk got (λ fed. IsTextFed (listing_on place r) fed (texts.List place new))
if-list-fed place r (Err error) new k = tt
if-list-fed place r (Ok fed) new k = list-fed place r fed new k

pub definition-answered : (text : OpenText) (t : Seen) (defined : Place) (kind : DefinitionKind) (d new : Defining) (got : Result (Fed (Unit {0})) AllocError) → text ≡ texts.Definition defined kind d → IfOk got (λ fed. IsTaken (definition.takes d t d.stage) fed new) → IfOk got (λ fed. IsTextFed (with_token text t) fed (texts.Definition defined kind new))
definition-answered text t defined kind d new got is k = rw is (if-definition-fed defined kind (definition.takes d t d.stage) got new k)

pub absorbed-answered : (text : OpenText) (t : Seen) (purpose : TextUse) (a new : Absorbing) (got : Result (Fed (Unit {0})) AllocError) → text ≡ texts.Absorbed purpose a → IfOk got (λ fed. IsAbsorbed (absorbed.absorbs a t a.stage) fed new) → IfOk got (λ fed. IsTextFed (with_token text t) fed (texts.Absorbed purpose new))
absorbed-answered text t purpose a new got is k = rw is (if-absorbed-fed purpose (absorbed.absorbs a t a.stage) got new k)

pub list-answered : (text : OpenText) (t : Seen) (place : Place) (a new : Absorbing) (got : Result (Fed (Unit {0})) AllocError) → text ≡ texts.List place a → IfOk got (λ fed. IsAbsorbed (absorbed.absorbs a t a.stage) fed new) → IfOk got (λ fed. IsTextFed (with_token text t) fed (texts.List place new))
list-answered text t place a new got is k = rw is (if-list-fed place (absorbed.absorbs a t a.stage) got new k)
