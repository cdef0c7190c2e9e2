use Rattle.std.proofs.Common.{◌-◌, ◌++◌, length}
use Rattle.std.specs.Option.{option_to_list}
use Rattle.tx_lex.proofs.Loops.{Skipping}
use Rattle.tx_lex.proofs.characters.first_kept.Given as goal

abbrev pub invariant-loop-state : goal.invariant-loop-state
invariant-loop-state l = Skipping l.codes l.state (option_to_list l.fn.front ++ l.line) l.line l.character

abbrev pub decreases-loop-state : goal.decreases-loop-state
decreases-loop-state l = length l.line - l.character.next
