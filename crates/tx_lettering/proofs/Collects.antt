-- What comes of a character of a horizontal list.
use Rattle.std.proofs.Common.{◌≡◌, ◌++◌, ℕ, Bool, true, false, List, [], Option, None, Some, refl, ap, ◌∙◌, if◌then◌else◌}
use Rattle.tx_hyphenate.specs.Lacking.{missing}
use Rattle.tx_event.specs.declared.types.Event.TheVariants.{Went}
use Rattle.tx_tfm.specs.declared.state.FontState.{FontState}
use Rattle.tx_tfm.specs.Fonts.{font_name, has_character}
use Rattle.tx_word.specs.Collecting.{Collected, Collecting, collected, ended, font_of, joined, without_word}
use Rattle.tx_word.specs.Factors.{factor_behind}
use Rattle.tx_state.specs.declared.parts.Phase.TheVariants.{Running}
use Rattle.tx_state.specs.declared.state.State.{State}
use Rattle.tx_state.specs.Meanings.{IsStepped, state_of}
use Rattle.tx_state.specs.State.{TexState, Runs}
use Rattle.tx_lettering.specs.Words.{collecting, current_font, gathered, in_paragraph, report_of, space_code, with_list_factor}

-- what comes of a character, by whether the font has it
abbrev pub collected_by : Bool → Collecting → Bool → ℕ → ℕ → Collected
collected_by there words inside font code =
    if there
    then record { items = []; words = record words { word = Some (joined words.word font code) }; lacking = None }
    else record { items = ended words inside false; words = without_word words; lacking = Some (font_of words.word font) }

fonts-by : (there : Bool) (words : Collecting) (inside : Bool) (font code : ℕ) → (collected_by there words inside font code).words.fonts ≡ words.fonts
fonts-by true words inside font code = refl
fonts-by false words inside font code = refl

-- the fonts stay
fonts-stay : (words : Collecting) (inside : Bool) (font code : ℕ) → (collected words inside font code).words.fonts ≡ words.fonts
fonts-stay words inside font code = fonts-by (has_character words.fonts (font_of words.word font) code) words inside font code

-- what is reported goes by the fonts alone
reports-by : (s t : TexState) (code : ℕ) (lacking : Option ℕ) → t.words.fonts ≡ s.words.fonts → report_of t code lacking ≡ report_of s code lacking
reports-by s t code None same = refl
reports-by s t code (Some font) same = ap (λ (fonts : List FontState). missing code (font_name fonts font)) same

-- the space factor first, then the character, then the report
pub collects : (s mid done : State) (factor font code : ℕ) (inside : Bool) (lacking : Option ℕ) → s.phase ≡ Running → font ≡ current_font s.table.table → inside ≡ in_paragraph (state_of s) → state_of mid ≡ with_list_factor (state_of s) (factor_behind factor (space_code s.table.table code)) → mid.phase ≡ s.phase → mid.said ≡ s.said → lacking ≡ (collected mid.words inside font code).lacking → state_of done ≡ gathered (state_of mid) inside font code → done.phase ≡ mid.phase → done.said ≡ mid.said → IsStepped (collecting (state_of s) code factor) s Went (record done { said = done.said ++ report_of (state_of done) code lacking })
collects s mid done factor font code inside lacking running is within passed mid_phase mid_said lacks gathers done_phase done_said =
    let own : mid.words ≡ s.words = ap (λ (t : TexState). t.words) passed in
    let state : state_of done ≡ gathered (with_list_factor (state_of s) (factor_behind factor (space_code s.table.table code))) (in_paragraph (state_of s)) (current_font s.table.table) code = gathers ∙ (λ i. gathered (passed i) (within i) (is i) code) in
    let own_lacks : lacking ≡ (collected s.words (in_paragraph (state_of s)) (current_font s.table.table) code).lacking = lacks ∙ (λ i. (collected (own i) (within i) (is i) code).lacking) in
    let fonts : done.words.fonts ≡ s.words.fonts = ap (λ (t : TexState). t.words.fonts) state ∙ fonts-stay s.words (in_paragraph (state_of s)) (current_font s.table.table) code in
    let told : report_of (state_of done) code lacking ≡ report_of (state_of s) code (collected s.words (in_paragraph (state_of s)) (current_font s.table.table) code).lacking = reports-by (state_of s) (state_of done) code lacking fonts ∙ ap (report_of (state_of s) code) own_lacks in
    record {
      event_is = refl;
      state_is = rw (done_phase ∙ mid_phase ∙ running) (ap Runs state);
      said_is = λ i. (done_said ∙ mid_said) i ++ told i;
    }
