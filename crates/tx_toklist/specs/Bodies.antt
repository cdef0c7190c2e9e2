-- Bodies of macros (The TeXbook, chapter 20; TeX: The Program, section 477), and what becomes of them with arguments.
use Rattle.std.specs.Prelude.{ℕ, ◌≤◌, List, [], ◌∷◌, ◌++◌, ◌-◌, length, take, drop, slice_index_or}
use Rattle.tx_char.specs.declared.tokens.Token.{Token}
use Rattle.tx_toklist.specs.declared.body.Slot.{Slot}

-- a body: its tokens, and among them, in their order, the places where the arguments of parameters stand
pub record BodyText : Type 0 where
  pub tokens : List Token
  pub slots : List Slot

-- a body without anything
abbrev pub no_body : BodyText
no_body = record { tokens = []; slots = [] }

-- one more token, several of them, or the argument of one more parameter, at the end
abbrev pub with_body_token : BodyText → Token → BodyText
with_body_token body token = record { tokens = body.tokens ++ token ∷ []; slots = body.slots }

abbrev pub with_body_tokens : BodyText → List Token → BodyText
with_body_tokens body tokens = record { tokens = body.tokens ++ tokens; slots = body.slots }

abbrev pub with_argument : BodyText → ℕ → BodyText
with_argument body number = record { tokens = body.tokens; slots = body.slots ++ record { before = length body.tokens; number = number } ∷ [] }

-- the places from this one on are in their order, each within so many tokens
abbrev pub ArePlaced : ℕ → ℕ → List Slot → Type 0
ArePlaced from count [] = Unit {0}
ArePlaced from count (slot ∷ slots) = (from ≤ slot.before) × ((slot.before ≤ count) × ArePlaced slot.before count slots)

-- the argument of the parameter of this number, counted from 1
abbrev pub argument : List (List Token) → ℕ → List Token
argument arguments number = slice_index_or arguments (number - 1) []

-- the tokens from this place on, with arguments at the places where they stand
abbrev pub filled_from : List (List Token) → List Token → ℕ → List Slot → List Token
filled_from arguments tokens from [] = drop from tokens
filled_from arguments tokens from (slot ∷ slots) =
    take (slot.before - from) (drop from tokens) ++ (argument arguments slot.number ++ filled_from arguments tokens slot.before slots)

-- a body with arguments in place of the parameters
abbrev pub filled : BodyText → List (List Token) → List Token
filled body arguments = filled_from arguments body.tokens 0 body.slots
