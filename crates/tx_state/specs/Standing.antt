-- Where the reading of an alignment stands: the next command, and the level of braces (TeX: The Program, sections 309 and 785).
use Rattle.std.specs.Prelude.{ℤ, []}
use Rattle.tx_command.specs.declared.types.Head.TheVariants.{Row}
use Rattle.tx_expand.specs.Reader.{Reader}
use Rattle.tx_expand.specs.Turns.{with_input}
use Rattle.tx_nest.specs.States.{mode_of as mode_in}
use Rattle.tx_pending.specs.Elements.{outside, with_level}
use Rattle.tx_state.specs.State.{TexState}

-- the level of braces is this
abbrev pub at_level : ℤ → Reader → Reader
at_level level r = with_input (with_level r.input level) r

-- the next command stands in the mode of the list that is being built
abbrev pub in_mode : TexState → TexState
in_mode s = record s { mode = mode_in s.lists.nest.innermost.state; taken = [] }

-- rows are read next, or what stands between them, or the alignment's end (section 785)
abbrev pub before_row : TexState → TexState
before_row s = record (in_mode s) { head = Row; reader = at_level outside s.reader }
