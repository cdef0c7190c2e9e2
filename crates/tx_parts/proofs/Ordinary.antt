-- Characters that join an open text as they stand.
use Rattle.std.proofs.Common.{◌≡◌, ℕ, Bool, true, false, Option, Some, Result, Ok, Err, IfOk, refl, ap, sym, ◌∙◌}
use Rattle.tx_char.specs.declared.category.Cat.{Cat}
use Rattle.tx_char.specs.declared.category.Cat.TheVariants.{Letter, Other, Space}
use Rattle.tx_char.specs.declared.tokens.Token.{Token}
use Rattle.tx_char.specs.declared.tokens.Token.TheVariants.{Character}
use Rattle.tx_prim.specs.declared.family.DefinitionKind.{DefinitionKind}
use Rattle.tx_prim.specs.declared.family.TextUse.{TextUse}
use Rattle.tx_seen.specs.declared.meaning.Meaning.TheVariants as meaning
use Rattle.tx_seen.specs.declared.place.Place.{Place}
use Rattle.tx_seen.specs.declared.seen.Seen.{Seen}
use Rattle.tx_text.specs.declared.stages.Stage.{Stage}
use Rattle.tx_text.specs.declared.stages.Stage.TheVariants as stage
use Rattle.tx_text.specs.declared.stages.TextStage.{TextStage}
use Rattle.tx_text.specs.declared.stages.TextStage.TheVariants as text_stage
use Rattle.tx_text.specs.Absorbed as absorbed
use Rattle.tx_text.specs.Absorbed.{Absorbing}
use Rattle.tx_text.specs.Definitions as definition
use Rattle.tx_text.specs.Definitions.{Defining}
use Rattle.tx_parts.specs.declared.parts.OpenText.{OpenText}
use Rattle.tx_parts.specs.declared.parts.OpenText.TheVariants as texts
use Rattle.tx_parts.specs.Texts.{HasJoined, HasJoinedSome, absorbing_on, defining_on, has_ended_at, is_whole, is_whole_at, is_within, listing_on, with_ordinary, with_token}

-- what a text answers, by what its scan does
pub definition-joined : {E : Type 0} (text : OpenText) (t : Token) (defined : Place) (kind : DefinitionKind) (d new : Defining) (got : Result Bool E) → text ≡ texts.Definition defined kind d → IfOk got (λ joined. definition.HasJoined d t joined new) → IfOk got (λ joined. HasJoined text t joined (texts.Definition defined kind new))
definition-joined text t defined kind d new (Ok true) is k = rw is (k.0, ap (λ (x : Defining). texts.Definition defined kind x) k.1)
definition-joined text t defined kind d new (Ok false) is k = rw is (ap (λ (x : Defining). texts.Definition defined kind x) k)
definition-joined text t defined kind d new (Err e) is k = tt

pub absorbed-joined : {E : Type 0} (text : OpenText) (t : Token) (purpose : TextUse) (a new : Absorbing) (got : Result Bool E) → text ≡ texts.Absorbed purpose a → IfOk got (λ joined. absorbed.HasJoined a t joined new) → IfOk got (λ joined. HasJoined text t joined (texts.Absorbed purpose new))
absorbed-joined text t purpose a new (Ok true) is k = rw is (k.0, ap (λ (x : Absorbing). texts.Absorbed purpose x) k.1)
absorbed-joined text t purpose a new (Ok false) is k = rw is (ap (λ (x : Absorbing). texts.Absorbed purpose x) k)
absorbed-joined text t purpose a new (Err e) is k = tt

pub list-joined : {E : Type 0} (text : OpenText) (t : Token) (place : Place) (a new : Absorbing) (got : Result Bool E) → text ≡ texts.List place a → IfOk got (λ joined. absorbed.HasJoined a t joined new) → IfOk got (λ joined. HasJoined text t joined (texts.List place new))
list-joined text t place a new (Ok true) is k = rw is (k.0, ap (λ (x : Absorbing). texts.List place x) k.1)
list-joined text t place a new (Ok false) is k = rw is (ap (λ (x : Absorbing). texts.List place x) k)
list-joined text t place a new (Err e) is k = tt

pub some-joined : {E : Type 0} (old : Option OpenText) (text new : OpenText) (t : Token) (got : Result Bool E) → old ≡ Some text → IfOk got (λ joined. HasJoined text t joined new) → IfOk got (λ joined. HasJoinedSome old t joined (Some new))
some-joined old text new t (Ok true) is k = (text, (is, (k.0, ap (λ (x : OpenText). Some x) k.1)))
some-joined old text new t (Ok false) is k = ap (λ (x : OpenText). Some x) k ∙ sym is
some-joined old text new t (Err e) is k = tt

-- categories of characters that are neither braces nor stand for #
abbrev pub is_ordinary : Cat → Bool
is_ordinary Letter = true
is_ordinary Other = true
is_ordinary Space = true
is_ordinary kind = false

-- a character that means itself
abbrev pub seen : ℕ → Cat → Seen
seen code kind = record { token = Character code kind; meaning = meaning.Character code kind }

-- one of such a category joins a body, and a text that isn't expanded, as it stands
body-takes : (d : Defining) (code : ℕ) (kind : Cat) (s : Stage) → is_ordinary kind ≡ true → definition.is_within s ≡ true → definition.takes d (seen code kind) s ≡ Ok (definition.in_body d (Character code kind) s)
body-takes d code Letter (stage.Body groups) ordinary within = refl
body-takes d code Other (stage.Body groups) ordinary within = refl
body-takes d code Space (stage.Body groups) ordinary within = refl
body-takes d code _ (stage.Body groups) ordinary within = absurd (cc ordinary)
body-takes d code kind stage.Heading ordinary within = absurd (cc within)
body-takes d code kind (stage.Numbering other) ordinary within = absurd (cc within)
body-takes d code kind (stage.Naming groups) ordinary within = absurd (cc within)
body-takes d code kind stage.Whole ordinary within = absurd (cc within)

text-takes : (a : Absorbing) (code : ℕ) (kind : Cat) (s : TextStage) → is_ordinary kind ≡ true → absorbed.is_within s ≡ true → absorbed.absorbs a (seen code kind) s ≡ Ok (absorbed.with_one a (Character code kind) s)
text-takes a code Letter (text_stage.Inside groups) ordinary within = refl
text-takes a code Other (text_stage.Inside groups) ordinary within = refl
text-takes a code Space (text_stage.Inside groups) ordinary within = refl
text-takes a code _ (text_stage.Inside groups) ordinary within = absurd (cc ordinary)
text-takes a code kind text_stage.Filler ordinary within = absurd (cc within)
text-takes a code kind text_stage.Ended ordinary within = absurd (cc within)

pub ordinary-joins : (text : OpenText) (code : ℕ) (kind : Cat) → is_ordinary kind ≡ true → is_within text ≡ true → with_token text (seen code kind) ≡ Ok (with_ordinary text (Character code kind))
ordinary-joins (texts.Definition defined sort d) code kind ordinary within = ap (defining_on defined sort) (body-takes d code kind d.stage ordinary within)
ordinary-joins (texts.Absorbed purpose a) code kind ordinary within = ap (absorbing_on purpose) (text-takes a code kind a.stage ordinary within)
ordinary-joins (texts.List place a) code kind ordinary within = ap (listing_on place) (text-takes a code kind a.stage ordinary within)

-- the text is not whole then
body-open : (s : Stage) → definition.is_within s ≡ true → is_whole_at s ≡ false
body-open (stage.Body groups) within = refl
body-open stage.Heading within = refl
body-open (stage.Numbering code) within = refl
body-open (stage.Naming groups) within = refl
body-open stage.Whole within = absurd (cc within)

text-open : (s : TextStage) → absorbed.is_within s ≡ true → has_ended_at s ≡ false
text-open (text_stage.Inside groups) within = refl
text-open text_stage.Filler within = refl
text-open text_stage.Ended within = absurd (cc within)

pub ordinary-open : (text : OpenText) (t : Token) → is_within text ≡ true → is_whole (with_ordinary text t) ≡ false
ordinary-open (texts.Definition defined sort d) t within = body-open d.stage within
ordinary-open (texts.Absorbed purpose a) t within = text-open a.stage within
ordinary-open (texts.List place a) t within = text-open a.stage within
