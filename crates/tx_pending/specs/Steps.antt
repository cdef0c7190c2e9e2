-- A step of reading one source.
use Rattle.std.specs.Prelude.{◌≡◌, Bool, true, false, List, [], ◌∷◌, ◌++◌, ℤ, drop}
use Rattle.tx_char.specs.declared.category.Cat.{Cat}
use Rattle.tx_char.specs.declared.tokens.Token.{Token as Any_token}
use Rattle.tx_lex.specs.declared.types.PlainToken.{PlainToken}
use Rattle.tx_lex.specs.Plain.{Begins, IsSet, plain_token}
use Rattle.tx_lex.specs.Reading.{Read, Nothing, Refused, reading}
use Rattle.tx_pending.specs.declared.next.Next.{Next}
use Rattle.tx_pending.specs.declared.next.Next.TheVariants.{Token, Held, Marker, PartEnd, Used, E1}
use Rattle.tx_pending.specs.Tails.{ListTail, LineTail}
use Rattle.tx_pending.specs.Elements.{Element, Given, Held as Element_held, Mark, PartEnd as Element_part, Unread, step_of, stepped}

-- a list gives its first token, or its marker where no token is left
abbrev pub IsListStep : ListTail → Next → ListTail → Type 0
IsListStep from (Token token) to = from ≡ record { left = token ∷ to.left; marked = to.marked }
IsListStep from (Held token) to = ⊥
IsListStep from Marker to = (from ≡ record { left = []; marked = true }) × (to ≡ record { left = []; marked = false })
IsListStep from (PartEnd part) to = ⊥
IsListStep from (Used close) to = ⊥
IsListStep from E1 to = ⊥

-- a line gives what the reading of its rest is; where it is used up it tells whether \endinput came; all stays where that is no token
abbrev pub IsLineStep : List Cat → Bool → LineTail → Next → LineTail → Type 0
IsLineStep codes closing from (Token token) to = reading codes from.state from.unread ≡ Read token to.unread to.state
IsLineStep codes closing from (Held token) to = ⊥
IsLineStep codes closing from Marker to = ⊥
IsLineStep codes closing from (PartEnd part) to = ⊥
IsLineStep codes closing from (Used close) to = (reading codes from.state from.unread ≡ Nothing) × ((close ≡ closing) × (to ≡ from))
IsLineStep codes closing from E1 to = (reading codes from.state from.unread ≡ Refused) × (to ≡ from)

-- a token that a line would give as it stands, and a list that begins with it
abbrev pub IsPlainly : List Cat → Any_token → PlainToken → Type 0
IsPlainly codes token plain = (IsSet codes plain) × (token ≡ plain_token codes plain)

abbrev pub BeginsList : List Cat → List Any_token → PlainToken → Type 0
BeginsList codes tokens plain = (IsSet codes plain) × (tokens ≡ plain_token codes plain ∷ drop 1 tokens)

-- an element is such a token, or a line that begins with one
abbrev pub BeginsAs : List Cat → Element → PlainToken → Type 0
BeginsAs codes (Given token) plain = IsPlainly codes token plain
BeginsAs codes (Element_held token) plain = ⊥
BeginsAs codes Mark plain = ⊥
BeginsAs codes (Element_part part) plain = ⊥
BeginsAs codes (Unread unread state) plain = Begins codes state unread plain

-- these elements begin with one
pub record BeginsPlain (codes : List Cat) (elements : List Element) (plain : PlainToken) : Type 0 where
  pub element : Element
  pub behind : List Element
  pub is : elements ≡ element ∷ behind
  pub first : BeginsAs codes element plain

-- whether a line is used up, or none is there
abbrev pub is_used : Next → Bool
is_used (Used close) = true
is_used other = false

-- what is left of a source that gives this, of these elements: a line that is used up is taken away
abbrev pub left_of : Next → List Element → List Element
left_of (Used close) left = []
left_of other left = left

-- a source of these elements gives this and leaves those, whatever is behind it
pub record Gives (codes : List Cat) (closing : Bool) (from : List Element) (next : Next) (to : List Element) : Type 0 where
  pub steps : (level : ℤ) (behind : List Element) → step_of codes closing level (from ++ behind) ≡ stepped closing level (left_of next to ++ behind) next

-- all that is pending gives this and leaves that
pub record Takes (codes : List Cat) (closing : Bool) (from : List Element) (next : Next) (to : List Element) : Type 0 where
  pub steps : (level : ℤ) → step_of codes closing level from ≡ stepped closing level to next
