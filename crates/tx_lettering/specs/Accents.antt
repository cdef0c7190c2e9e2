-- Accents over characters of a list (TeX: The Program, sections 1122 to 1125).
use Rattle.std.specs.Prelude.{◌≡◌, ℕ, Bool, true, false, ℤ, pos, List, [], ◌∷◌, Option, Some, None, if◌then◌else◌}
use Rattle.tx_box.specs.declared.parts.Lists.{Lists}
use Rattle.tx_box.specs.Sources.{appended}
use Rattle.tx_event.specs.declared.types.Event.TheVariants.{Went}
use Rattle.tx_nest.specs.Factors.{plain_factor}
use Rattle.tx_node.specs.declared.plain.Plain.TheVariants.{Character}
use Rattle.tx_node.specs.Items.{Item, plain}
use Rattle.tx_seen.specs.declared.error.TexError.TheVariants.{SizeOutOfRange}
use Rattle.tx_tfm.specs.Fonts.{has_character}
use Rattle.tx_word.specs.declared.accent.Accent.{Accent}
use Rattle.tx_word.specs.Accents.{accent_of, accented_at, is_boxed_at}
use Rattle.tx_state.specs.declared.state.State.{State}
use Rattle.tx_state.specs.Ended.{next_head}
use Rattle.tx_state.specs.Meanings.{IsStepped}
use Rattle.tx_state.specs.Outcomes.{Outcome, Leaves, fails, leaves}
use Rattle.tx_state.specs.State.{TexState}
use Rattle.tx_lettering.specs.Words.{current_font, factored, report_of}

-- an accent waits from now on for the character below it, or none does any more; the next command stands behind it
abbrev pub with_accent : TexState → Option Accent → TexState
with_accent s accent = record s { words = record s.words { accent = accent }; head = next_head accent; taken = [] }

-- \accent and a character of the current font: it waits, unless the font lacks it, which is told of
abbrev pub beginning_accent_in : TexState → ℕ → ℕ → Outcome
beginning_accent_in s font code =
    if has_character s.words.fonts font code
    then leaves (with_accent s (Some (accent_of s.words.fonts font code)))
    else Leaves s (report_of s code (Some font))

abbrev pub beginning_accent : TexState → ℕ → Outcome
beginning_accent s code = beginning_accent_in s (current_font s.table.table) code

-- items at the end of the list that is being built, behind which the space factor is 1000
abbrev pub put_last : Lists → List Item → Lists
put_last lists items = factored (appended lists items) plain_factor

-- what comes of an accent stands there
abbrev pub accent_put : TexState → List Item → TexState
accent_put s items = record s { words = record s.words { accent = None }; head = next_head None; taken = []; lists = put_last s.lists items }

-- the accent by itself
abbrev pub accent_list : Accent → List Item
accent_list accent = plain (Character accent.character) ∷ []

abbrev pub accent_alone : TexState → Accent → TexState
accent_alone s accent = accent_put s (accent_list accent)

-- \badness behind it is 0 where it was put into a box, whose size is its natural one
abbrev pub badness_behind : Bool → ℤ → ℤ
badness_behind boxed badness = if boxed then pos 0 else badness

abbrev pub with_badness : Lists → Bool → Lists
with_badness lists boxed = record lists { badness = badness_behind boxed lists.badness }

abbrev pub accent_packed : TexState → Bool → TexState
accent_packed s boxed = record s { lists = with_badness s.lists boxed }

-- a character of the font that is current now stands below it, unless that lacks it, which is told of
abbrev pub accent_set : TexState → Bool → Option (List Item) → Outcome
accent_set s boxed None = fails SizeOutOfRange
accent_set s boxed (Some items) = leaves (accent_put (accent_packed s boxed) items)

abbrev pub accent_over : TexState → Accent → ℕ → ℕ → Outcome
accent_over s accent font code =
    if has_character s.words.fonts font code
    then accent_set s (is_boxed_at s.words.fonts accent font code) (accented_at s.words.fonts accent font code)
    else Leaves (accent_alone s accent) (report_of s code (Some font))

-- where none waits, which no command makes, nothing stands there
abbrev pub accenting_in : TexState → ℕ → ℕ → Option Accent → Outcome
accenting_in s font code None = leaves (with_accent s None)
accenting_in s font code (Some accent) = accent_over s accent font code

abbrev pub accenting : TexState → ℕ → Outcome
accenting s code = accenting_in s (current_font s.table.table) code s.words.accent

-- what stands behind it is no character
abbrev pub accent_ended : TexState → Option Accent → TexState
accent_ended s None = with_accent s None
accent_ended s (Some accent) = accent_alone s accent

abbrev pub ending_accent : TexState → Outcome
ending_accent s = leaves (accent_ended s s.words.accent)

-- what becomes of a state where a flag tells whether all sizes fit: this, or else the run is to end, of which nothing was told
abbrev pub FitsIf : Bool → Outcome → State → State → Type 0
FitsIf true outcome before after = IsStepped outcome before Went after
FitsIf false outcome before after = (outcome ≡ fails SizeOutOfRange) × (after.said ≡ before.said)
