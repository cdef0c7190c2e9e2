-- Balanced texts, as \toks, \uppercase, \message and their kin take them (The TeXbook, chapter 24; TeX: The Program, sections
-- 403, 473 and 477).
use Rattle.std.specs.Prelude.{◌≡◌, ◌||◌, ℕ, zero, suc, Bool, true, false, List, [], ◌∷◌, ◌++◌, Result, Ok, Err, if◌then◌else◌}
use Rattle.tx_char.specs.declared.tokens.Token.{Token}
use Rattle.tx_toklist.specs.Macros.{is_begin, is_end}
use Rattle.tx_seen.specs.declared.error.TexError.{TexError}
use Rattle.tx_seen.specs.declared.error.TexError.TheVariants.{MissingBeginGroup, Undefined}
use Rattle.tx_seen.specs.declared.fed.Fed.{Fed}
use Rattle.tx_seen.specs.declared.fed.Fed.TheVariants.{More, Done, Wrong}
use Rattle.tx_seen.specs.declared.fed.Want.{Want}
use Rattle.tx_seen.specs.declared.fed.Want.TheVariants.{Raw, Expanded}
use Rattle.tx_seen.specs.declared.seen.Seen.{Seen}
use Rattle.tx_seen.specs.Seen.{is_begin_group, is_relax, is_space, is_undefined}
use Rattle.tx_text.specs.declared.stages.TextStage.{TextStage}
use Rattle.tx_text.specs.declared.stages.TextStage.TheVariants.{Filler, Inside, Ended}

-- a text that is being taken: whether it is expanded; its tokens; and how far it is
pub record Absorbing : Type 0 where
  pub expanded : Bool
  pub tokens : List Token
  pub stage : TextStage

-- nothing is taken
abbrev pub no_text : Bool → Absorbing
no_text expanded = record { expanded = expanded; tokens = []; stage = Filler }

-- the begin-group token of a text that isn't expanded is taken
abbrev pub begun_text : Absorbing
begun_text = record { expanded = false; tokens = []; stage = Inside 0 }

-- spaces and \relax may stand before the begin-group token, which must be there; a name that means one is too (section 403)
abbrev pub filler_takes : Absorbing → Seen → Result Absorbing TexError
filler_takes a t =
    if is_undefined t then Err Undefined
    else if is_space t || is_relax t then Ok a
    else if is_begin_group t then Ok (record a { stage = Inside 0 })
    else Err MissingBeginGroup

-- one more token of the text
abbrev pub with_one : Absorbing → Token → TextStage → Absorbing
with_one a t stage = record a { tokens = a.tokens ++ t ∷ []; stage = stage }

-- within it, where so many groups are open: the end-group token that belongs to none of them ends it
abbrev pub inside_takes : Absorbing → ℕ → Token → Absorbing
inside_takes a groups t =
    if is_begin t then with_one a t (Inside (suc groups))
    else if is_end t then closed groups
    else with_one a t (Inside groups)
  where
    closed : ℕ → Absorbing
    closed zero = record a { stage = Ended }
    closed (suc outer) = with_one a t (Inside outer)

-- one more token; nothing is behind a text that has ended
abbrev pub absorbs : Absorbing → Seen → TextStage → Result Absorbing TexError
absorbs a t Filler = filler_takes a t
absorbs a t (Inside groups) = Ok (inside_takes a groups t.token)
absorbs a t Ended = Ok a

-- tokens that \the gives to the text: none of them is looked at
abbrev pub with_given : Absorbing → List Token → Absorbing
with_given a ts = record a { tokens = a.tokens ++ ts }

-- how the next token is wanted: what is before the text expanded (section 403), the text as the command has it
abbrev pub text_wanted : Absorbing → TextStage → Want
text_wanted a Filler = Expanded
text_wanted a stage = if a.expanded then Expanded else Raw

-- whether what \the gives is put in as it stands (section 478)
abbrev pub text_takes_the : Absorbing → TextStage → Bool
text_takes_the a (Inside groups) = a.expanded
text_takes_the a stage = false

-- the answer where this was taken
abbrev pub text_answer : Absorbing → TextStage → Fed (Unit {0})
text_answer a Ended = Done tt 0
text_answer a stage = More (text_wanted a stage)

-- what is answered where one more token makes this of a text, and what it is then
abbrev pub IsAbsorbed : Result Absorbing TexError → Fed (Unit {0}) → Absorbing → Type 0
IsAbsorbed (Err error) fed new = fed ≡ Wrong error
IsAbsorbed (Ok a) fed new = (fed ≡ text_answer a a.stage) × (new ≡ a)

-- whether a text has begun and hasn't ended: what is no brace joins it there as it stands
abbrev pub is_within : TextStage → Bool
is_within (Inside groups) = true
is_within _ = false

abbrev pub HasJoined : Absorbing → Token → Bool → Absorbing → Type 0
HasJoined a t true new = (is_within a.stage ≡ true) × (new ≡ with_one a t a.stage)
HasJoined a t false new = new ≡ a
