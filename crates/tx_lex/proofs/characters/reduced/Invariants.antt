use Rattle.std.proofs.Common.{◌-◌, length}
use Rattle.tx_lex.proofs.Loops.{Reducing}
use Rattle.tx_lex.proofs.characters.reduced.Given as goal

abbrev pub invariant-loop-inner : goal.invariant-loop-inner
invariant-loop-inner l = Reducing l.codes l.line l.code l.next l.character

abbrev pub decreases-loop-inner : goal.decreases-loop-inner
decreases-loop-inner l = length l.line - l.character.next
