-- How far the last tokens that were met agree with the first ones of a delimiter.
use Rattle.std.specs.Prelude.{◌≡◌, ℕ, ◌≤◌, ◌<◌, Bool, true, false, List, [], ◌∷◌, length, take, drop, slice_index, if◌then◌else◌}
use Rattle.tx_char.specs.declared.tokens.Token.{Token}
use Rattle.tx_macro.specs.Tokens.{same_token}

-- whether a list is the beginning of a delimiter
abbrev pub is_beginning : List Token → List Token → Bool
is_beginning [] delimiter = true
is_beginning (t ∷ tokens) [] = false
is_beginning (t ∷ tokens) (d ∷ delimiter) = if same_token d t then is_beginning tokens delimiter else false

-- the greatest number of a list's last tokens that are the beginning of a delimiter
abbrev pub agreement : List Token → List Token → ℕ
agreement delimiter [] = 0
agreement delimiter (t ∷ tokens) = if is_beginning (t ∷ tokens) delimiter then length (t ∷ tokens) else agreement delimiter tokens

-- the table of a delimiter: for each number of its first tokens, up to this one, how many of their last ones, fewer than
-- all, are its beginning
pub record IsTable (delimiter : List Token) (borders : List ℕ) (count : ℕ) : Type 0 where
  pub long : count < length borders
  pub border : (k : ℕ) → k ≤ count → slice_index borders k ≡ agreement delimiter (drop 1 (take k delimiter))
