-- Characters at the front of the pending input that are tokens as they stand in their line (TeX: The Program, sections 343 to 345), or
-- in a list, where a line would give the same.
use Rattle.std.specs.Prelude.{◌≡◌, List, [], ◌∷◌, drop}
use Rattle.tx_char.specs.declared.category.Cat.{Cat}
use Rattle.tx_lex.specs.declared.types.PlainToken.{PlainToken}
use Rattle.tx_lex.specs.declared.types.ReadState.{ReadState}
use Rattle.tx_lex.specs.Plain.{IsSet, plain_token, state_behind}
use Rattle.tx_pending.specs.declared.next.Next.TheVariants.{Token as Next_token}
use Rattle.tx_pending.specs.Elements.{Element, Given, Held, Input, Mark, PartEnd, Step, Unread, step}

-- a token at the front is passed, or the line there goes on behind its first character, in this state
abbrev pub passed : ReadState → List Element → List Element
passed now [] = []
passed now (Given token ∷ behind) = behind
passed now (Held token ∷ behind) = Held token ∷ behind
passed now (Mark ∷ behind) = Mark ∷ behind
passed now (PartEnd part ∷ behind) = PartEnd part ∷ behind
passed now (Unread unread state ∷ behind) = Unread (drop 1 unread) now ∷ behind

abbrev pub behind_first : ReadState → Input → Input
behind_first now input = record input { elements = passed now input.elements }

-- this token comes next, and is passed
abbrev pub plain_step : List Cat → Input → PlainToken → Step
plain_step codes input plain = record { next = Next_token (plain_token codes plain); left = behind_first (state_behind plain) input }

pub record IsNext (codes : List Cat) (input : Input) (plain : PlainToken) : Type 0 where
  pub set : IsSet codes plain
  pub next : step codes input ≡ plain_step codes input plain
