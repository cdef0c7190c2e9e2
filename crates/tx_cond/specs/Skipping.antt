-- Skipping the text that no branch takes (The TeXbook, chapter 20; TeX: The Program, section 494).
use Rattle.std.specs.Prelude.{◌≡◌, ℕ, zero, suc, ◌+◌, ◌-◌, ◌==◌, Bool, true, false, List, [], ◌∷◌, ◌++◌, count_by, if◌then◌else◌}
use Rattle.tx_seen.specs.declared.error.TexError.{TexError}
use Rattle.tx_seen.specs.declared.error.TexError.TheVariants.{IncompleteConditional}
use Rattle.tx_seen.specs.declared.fed.Want.TheVariants.{Raw}
use Rattle.tx_seen.specs.declared.fed.Fed.{Fed}
use Rattle.tx_seen.specs.declared.fed.Fed.TheVariants.{More, Need, Done, Wrong}
use Rattle.tx_seen.specs.declared.meaning.Meaning.{Meaning}
use Rattle.tx_seen.specs.declared.meaning.Meaning.TheVariants.{Expandable, Macro}
use Rattle.tx_prim.specs.declared.expandable.Expandable.TheVariants as expandable
use Rattle.tx_prim.specs.declared.expandable.CondWord.{CondWord}
use Rattle.tx_prim.specs.declared.expandable.CondWord.TheVariants.{Fi}
use Rattle.tx_cond.specs.declared.types.SkipItem.{SkipItem}
use Rattle.tx_cond.specs.declared.types.SkipItem.TheVariants.{If, Word, Other, Outer, EndOfFile}

-- what a token that means this is to text that is skipped; one that \noexpand holds is nothing of it
abbrev pub item_of : Meaning → SkipItem
item_of (Expandable (expandable.Test test)) = If
item_of (Expandable (expandable.Word word)) = Word word
item_of (Macro m) = if m.outer then Outer else Other
item_of _ = Other

-- what an item makes of text that is skipped: it goes on, with so many conditionals open in it; it ends at this word; or
-- this error comes
pub data Passing : Type 0 where
  Inside : ℕ → Passing
  Ended : CondWord → Passing
  Refused : TexError → Passing

-- where so many conditionals are open in it: an \if.. opens one, its \fi closes it, and a word that belongs to none of them
-- is the end; neither an \outer macro nor the end of a file is skipped
abbrev pub passing : ℕ → SkipItem → Passing
passing inside If = Inside (suc inside)
passing zero (Word word) = Ended word
passing (suc inside) (Word Fi) = Inside inside
passing (suc inside) (Word word) = Inside (suc inside)
passing inside Other = Inside inside
passing inside Outer = Refused IncompleteConditional
passing inside EndOfFile = Refused IncompleteConditional

-- an answer to one more item that makes this of the text, and how many are open behind it
abbrev pub IsPassed : Passing → Fed CondWord → ℕ → Type 0
IsPassed (Inside next) fed inside = (fed ≡ More Raw) × (inside ≡ next)
IsPassed (Ended word) fed inside = fed ≡ Done word 0
IsPassed (Refused error) fed inside = fed ≡ Wrong error

-- an \if.. begins a conditional
abbrev pub begins : SkipItem → Bool
begins If = true
begins _ = false

-- a \fi ends one
abbrev pub ends : SkipItem → Bool
ends (Word Fi) = true
ends _ = false

-- how deep the place behind these items lies: the conditionals that begin among them and don't end
abbrev pub depth : List SkipItem → ℕ
depth items = count_by begins items - count_by ends items

-- what the item behind these is to skipping, where nothing is expanded: a word at depth 0 ends it, and neither an \outer
-- macro nor the end of a file is skipped
abbrev pub answer : List SkipItem → SkipItem → Fed CondWord
answer before If = More Raw
answer before (Word word) = if depth before == 0 then Done word 0 else More Raw
answer before Other = More Raw
answer before Outer = Wrong IncompleteConditional
answer before EndOfFile = Wrong IncompleteConditional

-- an answer but for More, which leaves it to the next one
abbrev pub or_else : Fed CondWord → Fed CondWord → Fed CondWord
or_else (More want) later = later
or_else (Need kind) later = Need kind
or_else (Done word back) later = Done word back
or_else (Wrong error) later = Wrong error

-- the first answer to one of these items but for More, where others are before them
abbrev pub first_answer : List SkipItem → List SkipItem → Fed CondWord
first_answer before [] = More Raw
first_answer before (item ∷ rest) = or_else (answer before item) (first_answer (before ++ item ∷ []) rest)

-- what skipping gives of a list of items: its first \else, \or or \fi at depth 0, or the error that comes before it, or
-- More where there is neither
abbrev pub skip : List SkipItem → Fed CondWord
skip items = first_answer [] items

-- these items are skipped, and so many conditionals are open behind them
pub record HasSkipped (inside : ℕ) (taken : List SkipItem) : Type 0 where
  pub skipped : skip taken ≡ More Raw
  pub counted : count_by begins taken ≡ inside + count_by ends taken

-- what an item makes of the text is what skipping gives of all items up to it
abbrev pub IsSkip : Passing → List SkipItem → Type 0
IsSkip (Inside inside) items = HasSkipped inside items
IsSkip (Ended word) items = skip items ≡ Done word 0
IsSkip (Refused error) items = skip items ≡ Wrong error
