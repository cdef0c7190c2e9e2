-- A use of which some tokens are taken.
use Rattle.std.specs.Prelude.{◌≡◌, ◌≤◌, Bool, true, false, List, [], ◌∷◌, ◌++◌, length}
use Rattle.tx_char.specs.declared.tokens.Token.{Token}
use Rattle.tx_toklist.specs.Macros.{Definition}
use Rattle.tx_seen.specs.declared.error.TexError.TheVariants.{IncompleteText}
use Rattle.tx_seen.specs.declared.fed.Want.TheVariants.{Raw}
use Rattle.tx_seen.specs.declared.fed.Fed.{Fed}
use Rattle.tx_seen.specs.declared.fed.Fed.TheVariants.{More, Done, Wrong}
use Rattle.tx_toklist.specs.declared.item.Item.{Item}
use Rattle.tx_toklist.specs.declared.item.Item.TheVariants as item
use Rattle.tx_macro.specs.declared.stage.Awaited.{Awaited}
use Rattle.tx_macro.specs.declared.stage.Awaited.TheVariants.{Over}
use Rattle.tx_macro.specs.declared.stage.Gathered.{Gathered}
use Rattle.tx_macro.specs.Stages.{stage_of}
use Rattle.tx_macro.specs.Matching.{Use, Open, Fits, Fails, use_of}
use Rattle.tx_macro.specs.Rests.{IsStage, use_rest}

-- a use of a macro: the tokens that are taken, and whether it takes more
pub record Matching : Type 0 where
  pub definition : Definition
  pub taken : List Token
  pub goes_on : Bool

-- what is answered where a use comes to this: the tokens of a use are taken as they stand
abbrev pub answer_to : Use → Fed (List (List Token))
answer_to Open = More Raw
answer_to (Fits taken) = Done taken 0
answer_to (Fails error) = Wrong error

-- the answer to one more item: neither an \outer macro nor the end of a file is taken
abbrev pub answer : Matching → Item → Fed (List (List Token))
answer m (item.Token token) = answer_to (use_of m.definition (m.taken ++ token ∷ []))
answer m item.Outer = Wrong IncompleteText
answer m item.EndOfFile = Wrong IncompleteText

-- the use with one more item
abbrev pub more_taken : Matching → Item → Matching
more_taken m (item.Token token) = record { definition = m.definition; taken = m.taken ++ token ∷ []; goes_on = m.goes_on }
more_taken m _ = m

-- a token joins the use, which goes on with it; or nothing changes
abbrev pub HasJoined : Matching → Token → Bool → Matching → Type 0
HasJoined m t true new = (use_of m.definition (m.taken ++ t ∷ []) ≡ Open) × (new ≡ more_taken m (item.Token t))
HasJoined m t false new = new ≡ m

-- a use that waits for nothing is over
abbrev pub goes_on : Awaited → Bool
goes_on Over = false
goes_on _ = true

-- a use that goes on, and has gathered this, has come so far: its rest is the rest of the whole
pub record HasGathered (m : Definition) (g : Gathered) (awaited : Awaited) : Type 0 where
  pub stage_is : IsStage m (stage_of awaited g)
  pub within : g.from ≤ length g.taken
  pub rest : (more : List Token) → use_of m (g.taken ++ more) ≡ use_rest m (stage_of awaited g) more
