-- Macros (The TeXbook, chapter 20; TeX: The Program, sections 200 and 473 to 477).
use Rattle.std.specs.Prelude.{◌≡◌, ◌≤◌, ℕ, Bool, true, false, List, [], ◌∷◌, ◌++◌, ◌-◌, ◌==◌, ◌&&◌, nat_le, not, length, slice_set, slice_index_or, IsTrue, if◌then◌else◌}
use Rattle.std.specs.List.{list_all}
use Rattle.tx_char.specs.declared.category.Cat.{Cat}
use Rattle.tx_char.specs.declared.category.Cat.TheVariants.{BeginGroup, EndGroup}
use Rattle.tx_char.specs.declared.tokens.Token.{Token}
use Rattle.tx_char.specs.declared.tokens.Token.TheVariants.{Character}
use Rattle.tx_toklist.specs.declared.body.Slot.{Slot}
use Rattle.tx_toklist.specs.Bodies.{BodyText}

-- a parameter text: the tokens before its first parameter, and for each parameter the tokens behind it, which delimit
-- its argument; none where it is undelimited
pub record Parameters : Type 0 where
  pub before : List Token
  pub delimiters : List (List Token)

-- a macro: its parameter text; for each parameter the character that stood for the # before it, as messages print it; its
-- body; and whether it is \long and \outer
pub record Definition : Type 0 where
  pub parameters : Parameters
  pub signs : List ℕ
  pub body : BodyText
  pub long : Bool
  pub outer : Bool

-- a begin-group token is a character of category 1
abbrev pub is_begin_category : Cat → Bool
is_begin_category BeginGroup = true
is_begin_category _ = false

abbrev pub is_begin : Token → Bool
is_begin (Character code kind) = is_begin_category kind
is_begin _ = false

-- an end-group token is a character of category 2
abbrev pub is_end_category : Cat → Bool
is_end_category EndGroup = true
is_end_category _ = false

abbrev pub is_end : Token → Bool
is_end (Character code kind) = is_end_category kind
is_end _ = false

-- a parameter text without anything
abbrev pub no_parameters : Parameters
no_parameters = record { before = []; delimiters = [] }

-- one more parameter, of which nothing is known yet but that it is there
abbrev pub with_parameter : Parameters → Parameters
with_parameter p = record { before = p.before; delimiters = p.delimiters ++ [] ∷ [] }

-- the tokens behind the last parameter
abbrev pub last_delimiter : Parameters → List Token
last_delimiter p = slice_index_or p.delimiters (length p.delimiters - 1) []

-- one more token: it stands behind the last parameter, or before the first one where there is none yet
abbrev pub with_token : Parameters → Token → Parameters
with_token p token =
    if length p.delimiters == 0
    then record { before = p.before ++ token ∷ []; delimiters = [] }
    else record { before = p.before; delimiters = slice_set p.delimiters (length p.delimiters - 1) (last_delimiter p ++ token ∷ []) }

-- a place in a body names one of this many parameters
abbrev pub is_known : ℕ → Slot → Bool
is_known count slot = nat_le 1 slot.number && nat_le slot.number count

-- the tokens before a parameter or behind it: none is an end-group token, and only the last may be a begin-group token,
-- which `#{` puts there
abbrev pub is_delimiter : List Token → Bool
is_delimiter [] = true
is_delimiter (t ∷ []) = not (is_end t)
is_delimiter (t ∷ u ∷ more) = not (is_end t) && (not (is_begin t) && is_delimiter (u ∷ more))

-- a macro has at most nine parameters, each with its sign, its parameter text has no group in it, and its body names only
-- parameters that it has
pub record IsMacro (p : Parameters) (signs : List ℕ) (body : BodyText) : Type 0 where
  pub nine : length p.delimiters ≤ 9
  pub signed : length signs ≡ length p.delimiters
  pub delimits : IsTrue (list_all is_delimiter (p.before ∷ p.delimiters))
  pub known : IsTrue (list_all (is_known (length p.delimiters)) body.slots)
