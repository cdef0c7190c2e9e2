-- What comes of accents.
use Rattle.std.proofs.Common.{◌≡◌, ◌++◌, ℕ, Bool, true, false, List, [], Option, Some, None, Result, Ok, IfOk, if◌then◌else◌, refl, sym, subst}
use Rattle.std.proofs.lemmas.List.{append-nil}
use Rattle.tx_box.specs.declared.parts.Lists.{Lists}
use Rattle.tx_command.specs.Begun.{Begun}
use Rattle.tx_event.specs.declared.types.Event.{Event}
use Rattle.tx_event.specs.declared.types.Event.TheVariants.{Went}
use Rattle.tx_hyphenate.specs.Lacking.{missing}
use Rattle.tx_node.specs.Items.{Item}
use Rattle.tx_seen.specs.declared.error.TexError.TheVariants.{SizeOutOfRange}
use Rattle.tx_tfm.specs.Fonts.{font_name, has_character}
use Rattle.tx_word.specs.declared.accent.Accent.{Accent}
use Rattle.tx_word.specs.Accents.{accent_of, accented_at, is_boxed_at}
use Rattle.tx_word.specs.Collecting.{Collecting}
use Rattle.tx_state.specs.declared.parts.Phase.TheVariants.{Running}
use Rattle.tx_state.specs.declared.state.State.{State}
use Rattle.tx_state.specs.Ended.{next_head}
use Rattle.tx_state.specs.Meanings.{IsStepped, state_of}
use Rattle.tx_state.specs.Outcomes.{Leaves, fails, leaves}
use Rattle.tx_state.specs.State.{Runs}
use Rattle.tx_state.proofs.Outcomes.{outcome-by}
use Rattle.tx_lettering.specs.Accents.{FitsIf, accent_alone, accent_list, accent_over, accent_put, accent_set, accenting, accenting_in, beginning_accent, beginning_accent_in, ending_accent, accent_ended, put_last, with_accent, with_badness}
use Rattle.tx_lettering.specs.Words.{current_font, report_of}

-- other parts of a state
abbrev pub with_parts : State → Collecting → Begun → Lists → State
with_parts s words scan lists = record s { words = words; scan = scan; lists = lists }

abbrev pub behind : State → Option Accent → Begun
behind s accent = record { mode = s.scan.mode; head = next_head accent; taken = [] }

-- an accent waits, or none
pub waits : (s : State) (words : Collecting) (scan : Begun) (accent : Option Accent) → s.phase ≡ Running → words ≡ record s.words { accent = accent } → scan ≡ behind s accent
    → IsStepped (leaves (with_accent (state_of s) accent)) s Went (record s { words = words; scan = scan })
waits s words scan accent running w c = record {
  event_is = refl;
  state_is = rw running (λ i. Runs (record (state_of s) { words = w i; mode = (c i).mode; head = (c i).head; taken = (c i).taken }));
  said_is = sym (append-nil s.said);
}

-- items stand in the list, and something is told
pub puts : (s : State) (own lists : Lists) (words : Collecting) (scan : Begun) (items : List Item) (said told : List ℕ) → s.phase ≡ Running → words ≡ record s.words { accent = None } → scan ≡ behind s None → lists ≡ put_last own items → said ≡ s.said ++ told
    → IsStepped (Leaves (accent_put (record (state_of s) { lists = own }) items) told) s Went (record s { words = words; scan = scan; lists = lists; said = said })
puts s own lists words scan items said told running w c l tells = record {
  event_is = refl;
  state_is = rw running (λ i. Runs (record (state_of s) { words = w i; mode = (c i).mode; head = (c i).head; taken = (c i).taken; lists = l i }));
  said_is = tells;
}

-- and nothing is told
pub puts-silent : (s : State) (own lists : Lists) (words : Collecting) (scan : Begun) (items : List Item) → s.phase ≡ Running → words ≡ record s.words { accent = None } → scan ≡ behind s None → lists ≡ put_last own items
    → IsStepped (leaves (accent_put (record (state_of s) { lists = own }) items)) s Went (with_parts s words scan lists)
puts-silent s own lists words scan items running w c l = puts s own lists words scan items s.said [] running w c l (sym (append-nil s.said))

-- \accent and a character that the current font has
begins-by : (there : Bool) (s new : State) (font code : ℕ) → has_character s.words.fonts font code ≡ there
    → IsStepped (if there then leaves (with_accent (state_of s) (Some (accent_of s.words.fonts font code))) else Leaves (state_of s) (report_of (state_of s) code (Some font))) s Went new
    → IsStepped (beginning_accent_in (state_of s) font code) s Went new
begins-by there s new font code is did =
    subst (λ (b : Bool). IsStepped (if b then leaves (with_accent (state_of s) (Some (accent_of s.words.fonts font code))) else Leaves (state_of s) (report_of (state_of s) code (Some font))) s Went new) (sym is) did

begins-in : (s new : State) (font code : ℕ) → font ≡ current_font s.table.table → IsStepped (beginning_accent_in (state_of s) font code) s Went new → IsStepped (beginning_accent (state_of s) code) s Went new
begins-in s new font code is did = subst (λ (f : ℕ). IsStepped (beginning_accent_in (state_of s) f code) s Went new) is did

pub begins : (s : State) (words : Collecting) (scan : Begun) (accent : Accent) (font code : ℕ) → s.phase ≡ Running → font ≡ current_font s.table.table → has_character s.words.fonts font code ≡ true → accent ≡ accent_of s.words.fonts font code
    → words ≡ record s.words { accent = Some accent } → scan ≡ behind s (Some accent) → IsStepped (beginning_accent (state_of s) code) s Went (record s { words = words; scan = scan })
begins s words scan accent font code running is there made w c =
    begins-in s (record s { words = words; scan = scan }) font code is
    (begins-by true s (record s { words = words; scan = scan }) font code there
    (subst (λ (a : Accent). IsStepped (leaves (with_accent (state_of s) (Some a))) s Went (record s { words = words; scan = scan })) made (waits s words scan (Some accent) running w c)))

-- and one that it lacks
pub lacks : (s : State) (font code : ℕ) (said : List ℕ) → s.phase ≡ Running → font ≡ current_font s.table.table → has_character s.words.fonts font code ≡ false → said ≡ s.said ++ missing code (font_name s.words.fonts font)
    → IsStepped (beginning_accent (state_of s) code) s Went (record s { said = said })
lacks s font code said running is there tells =
    begins-in s (record s { said = said }) font code is
    (begins-by false s (record s { said = said }) font code there
    (record { event_is = refl; state_is = rw running refl; said_is = tells }))

-- a character that the font has stands below it
pub stands : (s : State) (words : Collecting) (scan : Begun) (lists : Lists) (boxed own : Bool) (items : List Item) (found : Option (List Item)) → s.phase ≡ Running → boxed ≡ own → found ≡ Some items
    → words ≡ record s.words { accent = None } → scan ≡ behind s None → lists ≡ put_last (with_badness s.lists boxed) items
    → FitsIf true (accent_set (state_of s) own found) s (with_parts s words scan lists)
stands s words scan lists boxed own items found running same is w c l =
    rw (is, ← same) (puts-silent s (with_badness s.lists boxed) lists words scan items running w c l)

-- or a size is no dimension
pub exceeds : (s new : State) (boxed : Bool) (found : Option (List Item)) → found ≡ None → new.said ≡ s.said → FitsIf false (accent_set (state_of s) boxed found) s new
exceeds s new boxed found is same = rw is (refl, same)

-- by whether the font has the character
over-by : {E : Type 0} (there : Bool) (s new : State) (accent : Accent) (font code : ℕ) (answer : Result Bool E) → has_character s.words.fonts font code ≡ there
    → IfOk answer (λ fits. FitsIf fits (if there then accent_set (state_of s) (is_boxed_at s.words.fonts accent font code) (accented_at s.words.fonts accent font code) else Leaves (accent_alone (state_of s) accent) (report_of (state_of s) code (Some font))) s new)
    → IfOk answer (λ fits. FitsIf fits (accent_over (state_of s) accent font code) s new)
over-by there s new accent font code answer is did =
    subst (λ (b : Bool). IfOk answer (λ fits. FitsIf fits (if b then accent_set (state_of s) (is_boxed_at s.words.fonts accent font code) (accented_at s.words.fonts accent font code) else Leaves (accent_alone (state_of s) accent) (report_of (state_of s) code (Some font))) s new)) (sym is) did

pub over-there : {E : Type 0} (s new : State) (accent : Accent) (font code : ℕ) (answer : Result Bool E) → has_character s.words.fonts font code ≡ true
    → IfOk answer (λ fits. FitsIf fits (accent_set (state_of s) (is_boxed_at s.words.fonts accent font code) (accented_at s.words.fonts accent font code)) s new)
    → IfOk answer (λ fits. FitsIf fits (accent_over (state_of s) accent font code) s new)
over-there s new accent font code answer is did = over-by true s new accent font code answer is did

pub over-missing : (s : State) (words : Collecting) (scan : Begun) (lists : Lists) (accent : Accent) (font code : ℕ) (said : List ℕ) → s.phase ≡ Running → has_character s.words.fonts font code ≡ false → said ≡ s.said ++ missing code (font_name s.words.fonts font)
    → words ≡ record s.words { accent = None } → scan ≡ behind s None → lists ≡ put_last s.lists (accent_list accent)
    → FitsIf true (accent_over (state_of s) accent font code) s (record s { words = words; scan = scan; lists = lists; said = said })
over-missing s words scan lists accent font code said running is tells w c l =
    over-by {E = Unit {0}} false s (record s { words = words; scan = scan; lists = lists; said = said }) accent font code (Ok true) is
    (puts s s.lists lists words scan (accent_list accent) said (missing code (font_name s.words.fonts font)) running w c l tells)

-- by whether an accent waits
pub below-some : {E : Type 0} (s new : State) (accent : Accent) (font code : ℕ) (answer : Result Bool E) → Some accent ≡ s.words.accent
    → IfOk answer (λ fits. FitsIf fits (accent_over (state_of s) accent font code) s new)
    → IfOk answer (λ fits. FitsIf fits (accenting_in (state_of s) font code s.words.accent) s new)
below-some s new accent font code answer is did =
    subst (λ (found : Option Accent). IfOk answer (λ fits. FitsIf fits (accenting_in (state_of s) font code found) s new)) is did

pub below-none : (s : State) (words : Collecting) (scan : Begun) (font code : ℕ) → None ≡ s.words.accent → s.phase ≡ Running → words ≡ record s.words { accent = None } → scan ≡ behind s None
    → FitsIf true (accenting_in (state_of s) font code s.words.accent) s (record s { words = words; scan = scan })
below-none s words scan font code is running w c =
    subst (λ (found : Option Accent). FitsIf true (accenting_in (state_of s) font code found) s (record s { words = words; scan = scan })) is (waits s words scan None running w c)

-- where all sizes fit, and where one doesn't
fits-as : (s new : State) (code : ℕ) (fits is : Bool) (font : ℕ) → font ≡ current_font s.table.table → fits ≡ is → FitsIf fits (accenting_in (state_of s) font code s.words.accent) s new → FitsIf is (accenting (state_of s) code) s new
fits-as s new code fits is font own answers did =
    subst (λ (f : ℕ). FitsIf is (accenting_in (state_of s) f code s.words.accent) s new) own
    (subst (λ (b : Bool). FitsIf b (accenting_in (state_of s) font code s.words.accent) s new) answers did)

pub below-fits : (s new : State) (code : ℕ) (fits : Bool) (font : ℕ) → font ≡ current_font s.table.table → fits ≡ true → FitsIf fits (accenting_in (state_of s) font code s.words.accent) s new → IsStepped (accenting (state_of s) code) s Went new
below-fits s new code fits font own answers did = fits-as s new code fits true font own answers did

pub below-fails : (s mid new : State) (code : ℕ) (fits : Bool) (font : ℕ) (event : Event) → font ≡ current_font s.table.table → fits ≡ false → FitsIf fits (accenting_in (state_of s) font code s.words.accent) s mid
    → IsStepped (fails SizeOutOfRange) mid event new → IsStepped (accenting (state_of s) code) s event new
below-fails s mid new code fits font event own answers did failed =
    let wrong : (accenting (state_of s) code ≡ fails SizeOutOfRange) × (mid.said ≡ s.said) = fits-as s mid code fits false font own answers did in
    outcome-by {E = Unit {0}} (fails SizeOutOfRange) (accenting (state_of s) code) s mid new (Ok event) (sym wrong.0) wrong.1 failed

-- where no character follows
pub ends-alone : (s : State) (words : Collecting) (scan : Begun) (lists : Lists) (accent : Accent) → Some accent ≡ s.words.accent → s.phase ≡ Running → words ≡ record s.words { accent = None } → scan ≡ behind s None → lists ≡ put_last s.lists (accent_list accent)
    → IsStepped (ending_accent (state_of s)) s Went (with_parts s words scan lists)
ends-alone s words scan lists accent is running w c l =
    subst (λ (found : Option Accent). IsStepped (leaves (accent_ended (state_of s) found)) s Went (with_parts s words scan lists)) is (puts-silent s s.lists lists words scan (accent_list accent) running w c l)

pub ends-none : (s : State) (words : Collecting) (scan : Begun) → None ≡ s.words.accent → s.phase ≡ Running → words ≡ record s.words { accent = None } → scan ≡ behind s None
    → IsStepped (ending_accent (state_of s)) s Went (record s { words = words; scan = scan })
ends-none s words scan is running w c =
    subst (λ (found : Option Accent). IsStepped (leaves (accent_ended (state_of s) found)) s Went (record s { words = words; scan = scan })) is (waits s words scan None running w c)
