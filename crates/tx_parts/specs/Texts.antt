-- Texts that are being taken, each with what it is for (TeX: The Program, sections 473 to 482).
use Rattle.std.specs.Prelude.{◌≡◌, ◌&&◌, Bool, true, false, List, Option, None, Some, Result, Ok, Err, if◌then◌else◌}
use Rattle.tx_char.specs.declared.tokens.Token.{Token}
use Rattle.tx_prim.specs.declared.family.DefinitionKind.{DefinitionKind}
use Rattle.tx_prim.specs.declared.family.DefinitionKind.TheVariants as kinds
use Rattle.tx_prim.specs.declared.family.TextUse.{TextUse}
use Rattle.tx_prim.specs.declared.family.TextUse.TheVariants as purposes
use Rattle.tx_seen.specs.declared.error.TexError.{TexError}
use Rattle.tx_seen.specs.declared.fed.Fed.{Fed}
use Rattle.tx_seen.specs.declared.fed.Fed.TheVariants.{More, Done, Wrong}
use Rattle.tx_seen.specs.declared.fed.Want.{Want}
use Rattle.tx_seen.specs.declared.fed.Want.TheVariants.{Raw}
use Rattle.tx_seen.specs.declared.place.Place.{Place}
use Rattle.tx_seen.specs.declared.seen.Seen.{Seen}
use Rattle.tx_text.specs.declared.stages.Stage.{Stage}
use Rattle.tx_text.specs.declared.stages.Stage.TheVariants.{Whole}
use Rattle.tx_text.specs.declared.stages.TextStage.{TextStage}
use Rattle.tx_text.specs.declared.stages.TextStage.TheVariants.{Ended}
use Rattle.tx_text.specs.Absorbed as absorbed
use Rattle.tx_text.specs.Absorbed.{Absorbing}
use Rattle.tx_text.specs.Definitions as definition
use Rattle.tx_text.specs.Definitions.{Defining}
use Rattle.tx_parts.specs.declared.parts.OpenText.{OpenText}
use Rattle.tx_parts.specs.declared.parts.OpenText.TheVariants as texts

-- \edef and \xdef expand the body, \gdef and \xdef are global (The TeXbook, chapter 20)
abbrev pub expands_body : DefinitionKind → Bool
expands_body kinds.Plain = false
expands_body kinds.Expanded = true
expands_body kinds.Global = false
expands_body kinds.GlobalExpanded = true

abbrev pub is_global : DefinitionKind → Bool
is_global kinds.Plain = false
is_global kinds.Expanded = false
is_global kinds.Global = true
is_global kinds.GlobalExpanded = true

-- the text of \uppercase and \lowercase isn't expanded, all others are
abbrev pub expands_text : TextUse → Bool
expands_text purposes.Message = true
expands_text purposes.ErrorMessage = true
expands_text purposes.UpperCase = false
expands_text purposes.LowerCase = false
expands_text purposes.Special = true
expands_text purposes.Patterns = true
expands_text purposes.Hyphenation = true
expands_text purposes.Mark = true

-- what \the gives in a text that is expanded is put in as it stands, but in \patterns and \hyphenation it is expanded as all else is
-- (sections 935 and 961)
abbrev pub keeps_the : TextUse → Bool
keeps_the purposes.Message = true
keeps_the purposes.ErrorMessage = true
keeps_the purposes.UpperCase = true
keeps_the purposes.LowerCase = true
keeps_the purposes.Special = true
keeps_the purposes.Patterns = false
keeps_the purposes.Hyphenation = false
keeps_the purposes.Mark = true

-- texts of which nothing is taken
abbrev pub definition_text : Place → DefinitionKind → OpenText
definition_text defined kind = texts.Definition defined kind (definition.no_definition (expands_body kind))

abbrev pub absorbed_text : TextUse → OpenText
absorbed_text purpose = texts.Absorbed purpose (absorbed.no_text (expands_text purpose))

abbrev pub list_text : Place → OpenText
list_text place = texts.List place absorbed.begun_text

-- how the next token is wanted, and whether what \the gives is put in as it stands
abbrev pub text_want : OpenText → Want
text_want (texts.Definition defined kind d) = definition.wanted d d.stage
text_want (texts.Absorbed purpose a) = absorbed.text_wanted a a.stage
text_want (texts.List place a) = absorbed.text_wanted a a.stage

abbrev pub text_takes_the : OpenText → Bool
text_takes_the (texts.Definition defined kind d) = definition.takes_the d d.stage
text_takes_the (texts.Absorbed purpose a) = keeps_the purpose && absorbed.text_takes_the a a.stage
text_takes_the (texts.List place a) = absorbed.text_takes_the a a.stage

-- with tokens that \the gives
abbrev pub with_given : OpenText → List Token → OpenText
with_given (texts.Definition defined kind d) tokens = texts.Definition defined kind (definition.puts d tokens)
with_given (texts.Absorbed purpose a) tokens = texts.Absorbed purpose (absorbed.with_given a tokens)
with_given (texts.List place a) tokens = texts.List place (absorbed.with_given a tokens)

-- with one more token
abbrev pub defining_on : Place → DefinitionKind → Result Defining TexError → Result OpenText TexError
defining_on defined kind (Err error) = Err error
defining_on defined kind (Ok d) = Ok (texts.Definition defined kind d)

abbrev pub absorbing_on : TextUse → Result Absorbing TexError → Result OpenText TexError
absorbing_on purpose (Err error) = Err error
absorbing_on purpose (Ok a) = Ok (texts.Absorbed purpose a)

abbrev pub listing_on : Place → Result Absorbing TexError → Result OpenText TexError
listing_on place (Err error) = Err error
listing_on place (Ok a) = Ok (texts.List place a)

abbrev pub with_token : OpenText → Seen → Result OpenText TexError
with_token (texts.Definition defined kind d) t = defining_on defined kind (definition.takes d t d.stage)
with_token (texts.Absorbed purpose a) t = absorbing_on purpose (absorbed.absorbs a t a.stage)
with_token (texts.List place a) t = listing_on place (absorbed.absorbs a t a.stage)

-- whether it is whole
abbrev pub is_whole_at : Stage → Bool
is_whole_at Whole = true
is_whole_at _ = false

abbrev pub has_ended_at : TextStage → Bool
has_ended_at Ended = true
has_ended_at _ = false

abbrev pub is_whole : OpenText → Bool
is_whole (texts.Definition defined kind d) = is_whole_at d.stage
is_whole (texts.Absorbed purpose a) = has_ended_at a.stage
is_whole (texts.List place a) = has_ended_at a.stage

-- what a text answers that is this now
abbrev pub text_answer : OpenText → Fed (Unit {0})
text_answer text = if is_whole text then Done tt 0 else More (text_want text)

abbrev pub IsTextFed : Result OpenText TexError → Fed (Unit {0}) → OpenText → Type 0
IsTextFed (Err error) fed new = fed ≡ Wrong error
IsTextFed (Ok text) fed new = (fed ≡ text_answer text) × (new ≡ text)

-- the same where one may be open
abbrev pub IsFedSome : Result OpenText TexError → Fed (Unit {0}) → Option OpenText → Type 0
IsFedSome (Err error) fed new = fed ≡ Wrong error
IsFedSome (Ok text) fed new = (fed ≡ text_answer text) × (new ≡ Some text)

abbrev pub IsTextAnswered : Option OpenText → Seen → Fed (Unit {0}) → Option OpenText → Type 0
IsTextAnswered None t fed new = (fed ≡ More Raw) × (new ≡ None)
IsTextAnswered (Some text) t fed new = IsFedSome (with_token text t) fed new

-- whether a text is within its braces, so that what is no brace and stands for no # joins it as it stands, and what it is then
abbrev pub is_within : OpenText → Bool
is_within (texts.Definition defined kind d) = definition.is_within d.stage
is_within (texts.Absorbed purpose a) = absorbed.is_within a.stage
is_within (texts.List place a) = absorbed.is_within a.stage

abbrev pub with_ordinary : OpenText → Token → OpenText
with_ordinary (texts.Definition defined kind d) t = texts.Definition defined kind (definition.in_body d t d.stage)
with_ordinary (texts.Absorbed purpose a) t = texts.Absorbed purpose (absorbed.with_one a t a.stage)
with_ordinary (texts.List place a) t = texts.List place (absorbed.with_one a t a.stage)

abbrev pub HasJoined : OpenText → Token → Bool → OpenText → Type 0
HasJoined text t true new = (is_within text ≡ true) × (new ≡ with_ordinary text t)
HasJoined text t false new = new ≡ text

-- the same where one may be open
abbrev pub HasJoinedSome : Option OpenText → Token → Bool → Option OpenText → Type 0
HasJoinedSome old t true new = (text : OpenText) × ((old ≡ Some text) × ((is_within text ≡ true) × (new ≡ Some (with_ordinary text t))))
HasJoinedSome old t false new = new ≡ old
