-- A command that is begun.
use Rattle.std.specs.Prelude.{List}
use Rattle.tx_prim.specs.declared.modes.Mode.{Mode}
use Rattle.tx_seen.specs.declared.item.Item.{Item}
use Rattle.tx_command.specs.declared.types.Head.{Head}

-- the mode, what stands before the command, and the tokens and values that it has taken since
pub record Begun : Type 0 where
  pub mode : Mode
  pub head : Head
  pub taken : List Item
