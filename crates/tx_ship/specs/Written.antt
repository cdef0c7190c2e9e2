-- What a call has written of a page: commands behind those before it, and what their reader then knows of fonts.
use Rattle.std.specs.Prelude.{◌≡◌, ℕ, List, ◌++◌}
use Rattle.tx_ship.specs.declared.output.Output.{Output}
use Rattle.tx_ship.specs.Commands.{Pen}

pub record IsWritten (before after : Output) (made : List ℕ × Pen) : Type 0 where
  pub bytes : after.body.items ≡ before.body.items ++ made.0
  pub fonts : after.fonts ≡ made.1.fonts
