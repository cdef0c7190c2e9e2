-- Why no script was read.
use Rattle.std.specs.Prelude.{ℕ, List}
use Rattle.tx_script.specs.declared.error.ScriptError.{ScriptError}
use Rattle.tx_script.specs.declared.error.ScriptError.TheVariants.{BadScript, OutOfMemory}
use Rattle.tx_script.specs.Text.{IsRefusal}

-- a refusal is right about the bytes; want of memory says nothing of them
abbrev pub IsCause : List ℕ → ScriptError → Type 0
IsCause bytes (BadScript place rule) = IsRefusal bytes place rule
IsCause bytes OutOfMemory = Unit {0}
