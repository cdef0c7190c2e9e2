-- What is left of a list and of a line that are read.
use Rattle.std.specs.Prelude.{ℕ, Bool, List}
use Rattle.tx_char.specs.declared.tokens.Token.{Token}
use Rattle.tx_lex.specs.declared.types.ReadState.{ReadState}

-- the tokens that are left, and whether a marker comes behind them
pub record ListTail : Type 0 where
  pub left : List Token
  pub marked : Bool

-- the unread rest of the line, and the state in which it is read
pub record LineTail : Type 0 where
  pub unread : List ℕ
  pub state : ReadState
