-- What the sources on the stack are: each stands for elements of the pending input.
use Rattle.std.specs.Prelude.{◌≡◌, ◌≢◌, ◌-◌, ◌≤◌, ◌<◌, drop, take, slice_index_or, List, [], ◌∷◌, ◌++◌, fold, length, slice_get, Some, None, IfSome}
use Rattle.tx_pending.specs.declared.source.Source.{Source}
use Rattle.tx_pending.specs.declared.source.Source.TheVariants.{List as Source_list, Line as Source_line, Token as Source_token, Held as Source_held, PartEnd as Source_part}
use Rattle.tx_pending.specs.declared.same.Position.{Position}
use Rattle.tx_pending.specs.Elements.{Element, Given, Held, PartEnd, Unread, list_elements}

-- the elements that a source stands for
abbrev pub elements_of : Source → List Element
elements_of (Source_list l) = list_elements l.left l.marked
elements_of (Source_line l) = Unread l.unread l.state ∷ []
elements_of (Source_token (Some token)) = Given token ∷ []
elements_of (Source_token None) = []
elements_of (Source_held (Some token)) = Held token ∷ []
elements_of (Source_held None) = []
elements_of (Source_part (Some part)) = PartEnd part ∷ []
elements_of (Source_part None) = []

-- a source before others
abbrev pub before : List Element → Source → List Element
before behind source = elements_of source ++ behind

-- the elements of a stack of sources, whose innermost one stands last
abbrev pub stack_elements : List Source → List Element
stack_elements stack = fold before [] stack

-- something is left of the innermost source, if there is one
abbrev pub IsReady : List Source → Type 0
IsReady stack = IfSome (slice_get stack (length stack - 1)) (λ top. elements_of top ≢ [])

-- the elements that are ahead at a place of a stack
abbrev pub ahead : List Source → Position → List Element
ahead stack place = drop place.passed (stack_elements (take place.sources stack))

-- the source at which a place stands
abbrev pub IsAt : List Source → Position → Source → Type 0
IsAt stack place source = (0 < place.sources) × (source ≡ slice_index_or stack (place.sources - 1) source)

-- a place within the stack, and within the source at which it stands
pub record IsPosition (stack : List Source) (place : Position) : Type 0 where
  pub within : place.sources ≤ length stack
  pub inside : (source : Source) → IsAt stack place source → place.passed ≤ length (elements_of source)

-- a place at which an element stands, or nothing is ahead
pub record IsSettled (stack : List Source) (place : Position) : Type 0 where
  pub within : place.sources ≤ length stack
  pub inside : (source : Source) → IsAt stack place source → place.passed < length (elements_of source)
