-- What a nest is once the list that it lent is given back.
use Rattle.std.specs.Borrow.{Lends, MutBor, Fml}
use Rattle.tx_nest.specs.declared.list.ModeList.{ModeList}
use Rattle.tx_nest.specs.contracts.list.ModeList as mode_list
use Rattle.tx_nest.specs.declared.nest.Nest.{Nest}
use Rattle.tx_nest.specs.contracts.nest.Nest as nest

-- another list in the place of the one that is being built
abbrev pub with_top : Nest → ModeList → Nest
with_top lists list = record lists { innermost = list }

abbrev pub LendsTop : MutBor Nest → MutBor ModeList → Fml
LendsTop lists r = Lends nest.the_row mode_list.the_row lists r (with_top lists.now)
