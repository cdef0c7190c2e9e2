-- How far the use of a macro has come.
use Rattle.std.specs.Prelude.{ℕ, List, [], ◌∷◌, ◌++◌, ◌-◌, length, take, drop}
use Rattle.tx_char.specs.declared.tokens.Token.{Token}
use Rattle.tx_seen.specs.declared.error.TexError.{TexError}
use Rattle.tx_macro.specs.declared.stage.Awaited.{Awaited}
use Rattle.tx_macro.specs.declared.stage.Awaited.TheVariants as awaited
use Rattle.tx_macro.specs.declared.stage.Kind.{Kind}
use Rattle.tx_macro.specs.declared.stage.Kind.TheVariants as kind
use Rattle.tx_macro.specs.declared.stage.Gathered.{Gathered}
use Rattle.tx_macro.specs.declared.stage.Move.{Move}
use Rattle.tx_macro.specs.declared.stage.Move.TheVariants as move
use Rattle.tx_macro.specs.declared.stage.Advance.{Advance}
use Rattle.tx_macro.specs.declared.stage.Advance.TheVariants as advance
use Rattle.tx_macro.specs.Arguments.{without_braces}

-- a group that is being taken: what stands behind its begin, and how many further groups are open in it
pub record InGroup : Type 0 where
  pub inside : List Token
  pub depth : ℕ

-- a delimited argument that is being taken: what was met; how many of its last tokens agree with the first ones of the
-- delimiter; how many groups are open; and the table of the delimiter
pub record Taking : Type 0 where
  pub met : List Token
  pub agreed : ℕ
  pub depth : ℕ
  pub borders : List ℕ

-- the part of an argument that is to come
pub data Part : Type 0 where
  Undelimited : Part
  Group : InGroup → Part
  Delimited : Taking → Part

-- what a use waits for: the tokens before the first parameter, of which so many are met; the rest of the argument behind
-- these ones; or nothing more
pub data Stage : Type 0 where
  Before : ℕ → Stage
  Within : List (List Token) → Part → Stage
  Over : Stage

-- what a token makes of an argument: it goes on so, this one is taken, or an error comes
pub data Step : Type 0 where
  Goes : Part → Step
  Takes : List Token → Step
  Breaks : TexError → Step

-- what a token makes of a use: it goes on so, is whole with these arguments, or an error comes
pub data Next : Type 0 where
  Continues : Stage → Next
  Ends : List (List Token) → Next
  Stops : TexError → Next

-- the part of this kind, by what was met of the argument and the table of its delimiter
abbrev pub part_of : List ℕ → Kind → List Token → Part
part_of borders kind.Undelimited met = Undelimited
part_of borders (kind.Group depth) met = Group (record { inside = met; depth = depth })
part_of borders (kind.Delimited agreed depth) met = Delimited (record { met = met; agreed = agreed; depth = depth; borders = borders })

-- what a token makes of an argument, of which this was met before it
abbrev pub step_of : List ℕ → Move → List Token → Token → Step
step_of borders (move.On kind) met t = Goes (part_of borders kind (met ++ t ∷ []))
step_of borders move.Opens met t = Goes (Group (record { inside = []; depth = 0 }))
step_of borders move.Single met t = Takes (t ∷ [])
step_of borders move.Closes met t = Takes met
step_of borders (move.Delimits agreed) met t = Takes (without_braces (take (length met - agreed) met))
step_of borders (move.Broken error) met t = Breaks error

-- the stage of a use that waits for this and has gathered that
abbrev pub stage_of : Awaited → Gathered → Stage
stage_of (awaited.Before met) g = Before met
stage_of (awaited.Argument kind) g = Within g.arguments (part_of g.borders kind (drop g.from g.taken))
stage_of awaited.Over g = Over

-- what a token has made of a use that has gathered that with it
abbrev pub next_of : Advance → Gathered → Next
next_of (advance.On awaited) g = Continues (stage_of awaited g)
next_of (advance.Fits arguments) g = Ends arguments
next_of (advance.Fails error) g = Stops error
