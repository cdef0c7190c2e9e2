-- The open conditionals, innermost first (TeX: The Program, sections 487 to 510; The TeXbook, chapter 20).
use Rattle.std.specs.Prelude.{zero, suc, ◌++◌, Bool, true, false, ℤ, pos, negsuc, List, [], ◌∷◌, Option, Some, None, if◌then◌else◌}
use Rattle.tx_prim.specs.declared.expandable.CondWord.{CondWord}
use Rattle.tx_prim.specs.declared.expandable.CondWord.TheVariants.{Else, Or, Fi}
use Rattle.tx_cond.specs.declared.types.Meet.{Meet}
use Rattle.tx_cond.specs.declared.types.Meet.TheVariants.{Relax, Skip, Closed}
use Rattle.tx_cond.specs.declared.types.Conditional.{Conditional}
use Rattle.tx_cond.specs.declared.types.Conditional.TheVariants.{Testing, AwaitingOr, AwaitingElse, Live, Ending, LastBranch}

-- whether the test of a conditional is being scanned
abbrev pub is_test : Conditional → Bool
is_test (Testing cases) = true
is_test _ = false

-- whether the innermost of these is one
abbrev pub begins_with_test : List Conditional → Bool
begins_with_test [] = false
begins_with_test (c ∷ outer) = is_test c

-- whether the text of a conditional is skipped
abbrev pub skips : Conditional → Bool
skips (AwaitingOr others) = true
skips (AwaitingElse cases) = true
skips Ending = true
skips _ = false

-- whether text is skipped: the innermost conditional says it
abbrev pub is_skipped : List Conditional → Bool
is_skipped [] = false
is_skipped (c ∷ outer) = skips c

-- a conditional whose test has this value: 0 is false and all else true, or an \ifcase takes the branch of this number
abbrev pub decided : Bool → ℤ → Conditional
decided false (pos zero) = AwaitingElse false
decided false _ = Live false
decided true (pos zero) = Live true
decided true (pos (suc others)) = AwaitingOr others
decided true (negsuc _) = AwaitingElse true

-- a conditional that is open within others: where their text is skipped, so is its own up to its \fi
abbrev pub within : Conditional → List Conditional → List Conditional
within c outer = (if is_skipped outer then Ending else c) ∷ outer

-- these conditionals are open within others
abbrev pub within_all : List Conditional → List Conditional → List Conditional
within_all [] outer = outer
within_all (c ∷ inner) outer = within c (within_all inner outer)

-- the innermost test that is being scanned has this value
abbrev pub decide : ℤ → List Conditional → List Conditional
decide branch [] = []
decide branch (Testing cases ∷ outer) = decided cases branch ∷ outer
decide branch (c ∷ outer) = within c (decide branch outer)

-- what a word makes of its conditional, which is gone behind its \fi; None where the word can't stand there
abbrev pub behind_word : Conditional → CondWord → Option (List Conditional)
behind_word (Testing cases) _ = Some (Testing cases ∷ [])
behind_word _ Fi = Some []
behind_word (AwaitingOr others) Else = Some (LastBranch ∷ [])
behind_word (AwaitingOr zero) Or = Some (Live true ∷ [])
behind_word (AwaitingOr (suc others)) Or = Some (AwaitingOr others ∷ [])
behind_word (AwaitingElse cases) Else = Some (LastBranch ∷ [])
behind_word (AwaitingElse cases) Or = if cases then Some (AwaitingElse true ∷ []) else None
behind_word (Live cases) Else = Some (Ending ∷ [])
behind_word (Live cases) Or = if cases then Some (Ending ∷ []) else None
behind_word Ending Else = Some (Ending ∷ [])
behind_word Ending Or = Some (Ending ∷ [])
behind_word LastBranch Else = None
behind_word LastBranch Or = None

-- an answer to a word, and the conditionals that are open behind it
pub record Met : Type 0 where
  pub answer : Meet
  pub stack : List Conditional

-- the text behind a word is read or skipped, as the conditionals that are open there say
abbrev pub met : List Conditional → Met
met stack = record { answer = (if is_skipped stack then Skip else Closed); stack = stack }

-- a word that is met within these conditionals belongs to the innermost; None is an extra word
abbrev pub meeting : List Conditional → CondWord → Option Met
meeting [] word = None
meeting (c ∷ outer) word = if is_test c then Some (record { answer = Relax; stack = c ∷ outer }) else passed (behind_word c word) outer
  where
    passed : Option (List Conditional) → List Conditional → Option Met
    passed None outer = None
    passed (Some inner) outer = Some (met (inner ++ outer))
