-- What \def and its kin read behind the name: a parameter text and a body (The TeXbook, chapter 20; TeX: The Program, sections
-- 473 to 479).
use Rattle.std.specs.Prelude.{◌≡◌, ◌==◌, ◌&&◌, ℕ, zero, suc, nat_le, not, Bool, true, false, List, [], ◌∷◌, ◌++◌, length, Option, Some, None, Result, Ok, Err, IsTrue, if◌then◌else◌}
use Rattle.std.specs.List.{list_all}
use Rattle.tx_char.specs.declared.tokens.Token.{Token}
use Rattle.tx_toklist.specs.Bodies.{BodyText, no_body, with_argument, with_body_token, with_body_tokens}
use Rattle.tx_toklist.specs.Macros.{IsMacro, Parameters, is_begin, is_end, no_parameters, with_parameter, with_token}
use Rattle.tx_seen.specs.declared.error.TexError.{TexError}
use Rattle.tx_seen.specs.declared.error.TexError.TheVariants.{BadParameter, MissingBeginGroup}
use Rattle.tx_seen.specs.declared.fed.Fed.{Fed}
use Rattle.tx_seen.specs.declared.fed.Fed.TheVariants.{More, Done, Wrong}
use Rattle.tx_seen.specs.declared.fed.Want.{Want}
use Rattle.tx_seen.specs.declared.fed.Want.TheVariants.{Raw, Expanded}
use Rattle.tx_seen.specs.declared.seen.Seen.{Seen}
use Rattle.tx_seen.specs.Seen.{digit_value}
use Rattle.tx_text.specs.declared.stages.Stage.{Stage}
use Rattle.tx_text.specs.declared.stages.Stage.TheVariants.{Heading, Numbering, Body, Naming, Whole}
use Rattle.tx_text.specs.Signs.{sign_of}

-- a definition that is being read: whether its body is expanded; its parameters, and for each the character that stood for #;
-- its body; the begin-group token of `#{`, which is put at the body's end too; and how far it is
pub record Defining : Type 0 where
  pub expanded : Bool
  pub parameters : Parameters
  pub signs : List ℕ
  pub body : BodyText
  pub closing : Option Token
  pub stage : Stage

-- nothing is read
abbrev pub no_definition : Bool → Defining
no_definition expanded = record { expanded = expanded; parameters = no_parameters; signs = []; body = no_body; closing = None; stage = Heading }

-- one more token of the body
abbrev pub in_body : Defining → Token → Stage → Defining
in_body d t stage = record d { body = with_body_token d.body t; stage = stage }

-- the body has ended
abbrev pub ended : Defining → Option Token → Defining
ended d None = record d { stage = Whole }
ended d (Some t) = in_body d t Whole

-- a token of the parameter text: its end is the begin-group token of the body
abbrev pub heading_takes : Defining → Seen → Option ℕ → Result Defining TexError
heading_takes d t sign =
    if is_end t.token then Err MissingBeginGroup
    else if is_begin t.token then Ok (record d { stage = Body 0 })
    else Ok (by sign)
  where
    by : Option ℕ → Defining
    by (Some code) = record d { stage = Numbering code }
    by None = record d { parameters = with_token d.parameters t.token }

-- one more parameter, whose # is this character
abbrev pub with_sign : Defining → ℕ → Defining
with_sign d code = record d { parameters = with_parameter d.parameters; signs = d.signs ++ code ∷ []; stage = Heading }

-- behind a parameter character in it, with this code: the number of the next parameter, up to 9, or the begin-group token, which
-- delimits the last parameter
abbrev pub numbering_takes : Defining → ℕ → Seen → Option ℕ → Result Defining TexError
numbering_takes d code t digit =
    if is_begin t.token then Ok (record d { parameters = with_token d.parameters t.token; closing = Some t.token; stage = Body 0 }) else by digit
  where
    by : Option ℕ → Result Defining TexError
    by None = Err BadParameter
    by (Some number) =
        if number == suc (length d.parameters.delimiters) then Ok (with_sign d code) else Err BadParameter

-- a token of the body, in which so many groups are open
abbrev pub body_takes : Defining → ℕ → Seen → Option ℕ → Defining
body_takes d groups t sign =
    if is_begin t.token then in_body d t.token (Body (suc groups))
    else if is_end t.token then closed groups
    else by sign
  where
    closed : ℕ → Defining
    closed zero = ended d d.closing
    closed (suc outer) = in_body d t.token (Body outer)

    by : Option ℕ → Defining
    by (Some code) = record d { stage = Naming groups }
    by None = in_body d t.token (Body groups)

-- behind a parameter character in it: another one, which stands for itself, or the number of a parameter
abbrev pub naming_takes : Defining → ℕ → Seen → Option ℕ → Option ℕ → Result Defining TexError
naming_takes d groups t (Some code) digit = Ok (in_body d t.token (Body groups))
naming_takes d groups t None None = Err BadParameter
naming_takes d groups t None (Some number) =
    if nat_le 1 number && nat_le number (length d.parameters.delimiters) then Ok (record d { body = with_argument d.body number; stage = Body groups })
    else Err BadParameter

-- one more token; nothing is behind a definition that is whole
abbrev pub takes : Defining → Seen → Stage → Result Defining TexError
takes d t Heading = heading_takes d t (sign_of t.meaning)
takes d t (Numbering code) = numbering_takes d code t (digit_value t)
takes d t (Body groups) = Ok (body_takes d groups t (sign_of t.meaning))
takes d t (Naming groups) = naming_takes d groups t (sign_of t.meaning) (digit_value t)
takes d t Whole = Ok d

-- tokens that \the gives to the body: none of them is looked at
abbrev pub puts : Defining → List Token → Defining
puts d ts = record d { body = with_body_tokens d.body ts }

-- how the next token is wanted: a parameter text as it stands (section 474), the body of \edef and \xdef expanded
abbrev pub wanted : Defining → Stage → Want
wanted d (Body groups) = if d.expanded then Expanded else Raw
wanted d (Naming groups) = if d.expanded then Expanded else Raw
wanted d _ = Raw

-- whether what \the gives is put in as it stands: directly in the body of \edef or \xdef, and not behind a parameter character
-- (sections 478 and 479)
abbrev pub takes_the : Defining → Stage → Bool
takes_the d (Body groups) = d.expanded
takes_the d _ = false

-- the answer where this was read
abbrev pub answer : Defining → Stage → Fed (Unit {0})
answer d Whole = Done tt 0
answer d stage = More (wanted d stage)

-- what is answered where one more token makes this of a definition, and what it is then
abbrev pub IsTaken : Result Defining TexError → Fed (Unit {0}) → Defining → Type 0
IsTaken (Err error) fed new = fed ≡ Wrong error
IsTaken (Ok d) fed new = (fed ≡ answer d d.stage) × (new ≡ d)

-- whether a body is read, not behind a parameter character: what is no brace and stands for no # joins it there as it stands
abbrev pub is_within : Stage → Bool
is_within (Body groups) = true
is_within _ = false

abbrev pub HasJoined : Defining → Token → Bool → Defining → Type 0
HasJoined d t true new = (is_within d.stage ≡ true) × (new ≡ in_body d t d.stage)
HasJoined d t false new = new ≡ d

-- no group is in a parameter text that is being read
abbrev pub is_braceless : Token → Bool
is_braceless t = not (is_begin t) && not (is_end t)

abbrev pub is_plain : List Token → Bool
is_plain tokens = list_all is_braceless tokens

abbrev pub is_heading : Stage → Bool
is_heading Heading = true
is_heading (Numbering code) = true
is_heading _ = false

-- what is read is a macro's; in a parameter text nothing of the body is read
pub record IsSound (parameters : Parameters) (signs : List ℕ) (body : BodyText) (stage : Stage) : Type 0 where
  pub sound : IsMacro parameters signs body
  pub bare : IsTrue (is_heading stage) → body.slots ≡ []
  pub plain : IsTrue (is_heading stage) → IsTrue (list_all is_plain (parameters.before ∷ parameters.delimiters))
