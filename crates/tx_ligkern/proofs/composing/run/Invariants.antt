use Rattle.std.proofs.Common.{◌∷◌, reverse}
use Rattle.tx_ligkern.specs.Steps.{most_commands}
use Rattle.tx_ligkern.proofs.Seaming.{Noting}
use Rattle.tx_ligkern.proofs.Steps.{Going, measure}
use Rattle.tx_ligkern.proofs.composing.run.Given as goal

abbrev pub invariant-loop-next : goal.invariant-loop-next
invariant-loop-next l =
    Going l.font (l.fn.first ∷ reverse l.fn.rest.items) (most_commands (l.fn.first ∷ reverse l.fn.rest.items)) l.current (reverse l.rest.items) l.made.items
    × Noting l.font l.left (l.fn.first ∷ reverse l.fn.rest.items) l.current (reverse l.rest.items) l.made.items l.fresh l.made.seams

abbrev pub decreases-loop-next : goal.decreases-loop-next
decreases-loop-next l = measure l.font (most_commands (l.fn.first ∷ reverse l.fn.rest.items)) l.current (reverse l.rest.items)
