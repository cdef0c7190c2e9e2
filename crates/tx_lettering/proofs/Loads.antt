-- What comes of the file of a font.
use Rattle.std.proofs.Common.{◌≡◌, ◌&&◌, ◌++◌, ℕ, Bool, true, false, nat_le, nat_lt, length, List, [], ◌∷◌, Option, None, Some, Result, Ok, Err, IfOk, refl, ap, sym, ◌∙◌, if◌then◌else◌}
use Rattle.tx_event.specs.declared.types.Event.{Event}
use Rattle.tx_assign.specs.Changes.{carried_out}
use Rattle.tx_assign.specs.declared.types.Assignment.{Assignment}
use Rattle.tx_command.specs.Commands.{prefixes_of}
use Rattle.tx_command.specs.declared.types.Prefixes.{Prefixes}
use Rattle.tx_eqtb.specs.declared.eqtb.Eqtb.{Eqtb}
use Rattle.tx_prim.specs.declared.family.MathSize.{MathSize}
use Rattle.tx_prim.specs.declared.integer.IntegerParameter.TheVariants.{Defaulthyphenchar, Defaultskewchar}
use Rattle.tx_seen.specs.declared.place.FontName.{FontName}
use Rattle.tx_seen.specs.declared.error.TexError.TheVariants.{BadFont}
use Rattle.tx_seen.specs.declared.meaning.Meaning.TheVariants.{Font}
use Rattle.tx_seen.specs.declared.place.Place.{Place}
use Rattle.tx_tfm.specs.declared.state.FontState.{FontState}
use Rattle.tx_tfm.specs.declared.named.NamedFont.{NamedFont}
use Rattle.tx_tfm.specs.Fonts.{loaded_state, with_font_identifier}
use Rattle.tx_tfm.specs.declared.metrics.Metrics.{Metrics}
use Rattle.tx_tfm.specs.declared.rules.Size.{Size}
use Rattle.tx_tfm.specs.Metrics.{metrics_of}
use Rattle.tx_tfm.specs.Rules.{first_broken}
use Rattle.tx_word.specs.Collecting.{Collecting}
use Rattle.tx_parts.specs.declared.parts.FontRequest.{FontRequest}
use Rattle.tx_state.specs.declared.state.State.{State}
use Rattle.tx_state.specs.Meanings.{IsStepped, state_of}
use Rattle.tx_state.specs.Outcomes.{Outcome, fails, leaves}
use Rattle.tx_state.specs.State.{TexState}
use Rattle.tx_state.specs.Ended.{assigned, assigning, integer}
use Rattle.tx_lettering.specs.Fonts.{font_of_file, identifier_of, in_family, loading, loading_as, loading_from, meant, naming_font, number_of, setting_family, setting_fonts}
use Rattle.tx_state.proofs.Outcomes.{outcome-by}

-- whether one more font of a name can be loaded
abbrev pub can_hold : Collecting → List ℕ → Bool
can_hold words name = nat_lt (length words.fonts) 256 && nat_le (length name) 255

-- a state and a request that have these parts
pub record Wants (s : State) (request : FontRequest) (words : Collecting) (table : Eqtb) (name : List ℕ) (size : Size) : Type 0 where
  pub words_are : s.words ≡ words
  pub table_is : s.table ≡ table
  pub name_is : request.name ≡ name
  pub size_is : request.size ≡ size

-- what comes of its file, by whether one more font can be loaded
by-room : (s : State) (request : FontRequest) (words : Collecting) (table : Eqtb) (name : List ℕ) (size : Size) (bytes : List ℕ) (room : Bool) → Wants s request words table name size → can_hold words name ≡ room
    → loading_from (state_of s) request bytes ≡ (if room then loading_as (state_of s) request bytes (first_broken bytes request.size) else fails BadFont)
by-room s request words table name size bytes room wants is =
    ap (λ (b : Bool). if b then loading_as (state_of s) request bytes (first_broken bytes request.size) else fails BadFont)
    ((λ i. can_hold (wants.words_are i) (wants.name_is i)) ∙ is)

by-rule : (s : State) (request : FontRequest) (words : Collecting) (table : Eqtb) (name : List ℕ) (size : Size) (bytes : List ℕ) (broken : Option ℕ) → Wants s request words table name size → can_hold words name ≡ true → first_broken bytes size ≡ broken
    → loading_from (state_of s) request bytes ≡ loading_as (state_of s) request bytes broken
by-rule s request words table name size bytes broken wants room is =
    by-room s request words table name size bytes true wants room
    ∙ ap (loading_as (state_of s) request bytes) (ap (first_broken bytes) wants.size_is ∙ is)

pub no-room : (s : State) (request : FontRequest) (words : Collecting) (table : Eqtb) (name : List ℕ) (size : Size) (bytes : List ℕ) → Wants s request words table name size → can_hold words name ≡ false → loading_from (state_of s) request bytes ≡ fails BadFont
no-room s request words table name size bytes wants none = by-room s request words table name size bytes false wants none

pub no-font : (s : State) (request : FontRequest) (words : Collecting) (table : Eqtb) (name : List ℕ) (size : Size) (bytes : List ℕ) {rule : ℕ} → Wants s request words table name size → can_hold words name ≡ true → first_broken bytes size ≡ Some rule → loading_from (state_of s) request bytes ≡ fails BadFont
no-font s request words table name size bytes {rule} wants room is = by-rule s request words table name size bytes (Some rule) wants room is

-- the fonts with one more, which is this one
abbrev pub with_one_more : Collecting → Eqtb → NamedFont → Collecting
with_one_more words table f = record words { fonts = words.fonts ++ loaded_state f (integer table.table Defaulthyphenchar) (integer table.table Defaultskewchar) ∷ [] }

pub one-more : (s : State) (request : FontRequest) (words new : Collecting) (table : Eqtb) (name : List ℕ) (size : Size) (bytes : List ℕ) (font : Metrics) (n : ℕ) → Wants s request words table name size → can_hold words name ≡ true → first_broken bytes size ≡ None → font ≡ metrics_of bytes size
    → n ≡ length words.fonts → new ≡ with_one_more words table (record { name = name; font = font }) → loading_from (state_of s) request bytes ≡ naming_font (state_of (record s { words = new })) request.defined request.global n
one-more s request words new table name size bytes font n wants room none font_is n_is new_is =
    let made : metrics_of bytes request.size ≡ font = ap (metrics_of bytes) wants.size_is ∙ sym font_is in
    let more : with_one_more s.words s.table (font_of_file request bytes) ≡ new = (λ i. with_one_more (wants.words_are i) (wants.table_is i) (record { name = wants.name_is i; font = made i })) ∙ sym new_is in
    let count : length s.words.fonts ≡ n = ap (λ (w : Collecting). length w.fonts) wants.words_are ∙ sym n_is in
    by-rule s request words table name size bytes None wants room none
    ∙ (λ i. naming_font (state_of (record s { words = more i })) request.defined request.global (count i))

-- what comes of a request whose file has come
pub loads : {E : Type 0} (s new : State) (request : FontRequest) (bytes : List ℕ) (words : Collecting) (outcome : Outcome) (answer : Result Event E) → request.file ≡ Some bytes → loading_from (state_of s) request bytes ≡ outcome
    → IfOk answer (λ event. IsStepped outcome (record s { words = words }) event new) → IfOk answer (λ event. IsStepped (loading (state_of s) request request.file) s event new)
loads s new request bytes words outcome answer is loaded did =
    outcome-by outcome (loading (state_of s) request request.file) s (record s { words = words }) new answer
    (sym (ap (loading (state_of s) request) is ∙ loaded)) refl did

-- other words in a state
abbrev pub with_words : State → Collecting → State
with_words s words = record s { words = words }

pub sets-fonts : {E : Type 0} (s new : State) (words : Collecting) (fonts : List FontState) (answer : Result Event E) → words ≡ record s.words { fonts = fonts } → IfOk answer (λ event. IsStepped (leaves (assigned (state_of (with_words s words)))) (with_words s words) event new) → IfOk answer (λ event. IsStepped (setting_fonts (state_of s) fonts) s event new)
sets-fonts s new words fonts answer is did =
    outcome-by (leaves (assigned (state_of (with_words s words)))) (setting_fonts (state_of s) fonts) s (with_words s words) new answer
    (ap (λ (w : Collecting). leaves (assigned (state_of (with_words s w)))) is) refl did

-- a font's identifier is another one before the font's name gets its meaning
pub names-font : {E : Type 0} (s new : State) (words : Collecting) (defined : Place) (global : Bool) (n : ℕ) (answer : Result Event E) → words ≡ record s.words { fonts = with_font_identifier s.words.fonts n (identifier_of defined) }
    → IfOk answer (λ event. IsStepped (assigning (state_of (with_words s words)) (carried_out s.table (meant (Font n) defined) global)) (with_words s words) event new) → IfOk answer (λ event. IsStepped (naming_font (state_of s) defined global n) s event new)
names-font s new words defined global n answer is did =
    outcome-by (assigning (state_of (with_words s words)) (carried_out s.table (meant (Font n) defined) global)) (naming_font (state_of s) defined global n) s (with_words s words) new answer
    (ap (λ (w : Collecting). assigning (state_of (with_words s w)) (carried_out s.table (meant (Font n) defined) global)) is) refl did

-- the font of a family is the one of a number
pub sets-family : {E : Type 0} (s new : State) (size : MathSize) (family n : ℕ) (font : FontName) (a : Assignment) (prefixes : Prefixes) (answer : Result Event E) → n ≡ number_of (state_of s) font → a ≡ in_family size family n → prefixes ≡ prefixes_of s.scan.head
    → IfOk answer (λ event. IsStepped (assigning (state_of s) (carried_out s.table a prefixes.global)) s event new) → IfOk answer (λ event. IsStepped (setting_family (state_of s) size family font) s event new)
sets-family s new size family n font a prefixes answer is made by did =
    let own : a ≡ in_family size family (number_of (state_of s) font) = made ∙ ap (in_family size family) is in
    outcome-by (assigning (state_of s) (carried_out s.table a prefixes.global)) (setting_family (state_of s) size family font) s s new answer
    (λ i. assigning (state_of s) (carried_out s.table (own i) (by i).global)) refl did
