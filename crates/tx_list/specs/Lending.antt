-- What a list and a stack are once the value that they lent is given back.
use Rattle.std.specs.Prelude.{ℕ, List, slice_set}
use Rattle.std.specs.Borrow.{Lends, MutBor, Fml, RattleType}
use Rattle.tx_list.specs.contracts.items.Items as items
use Rattle.tx_list.specs.contracts.stack.Stack as stack

-- another value stands at this place of the list
abbrev pub LendsItem : (T : RattleType) → MutBor (List T.Denot) → ℕ → MutBor T.Denot → Fml
LendsItem T values place r = Lends (items.the_row T) T values r (slice_set values.now place)

-- another value is the newest of the stack
abbrev pub LendsFirst : (T : RattleType) → MutBor (List T.Denot) → MutBor T.Denot → Fml
LendsFirst T values r = Lends (stack.the_row T) T values r (slice_set values.now 0)
