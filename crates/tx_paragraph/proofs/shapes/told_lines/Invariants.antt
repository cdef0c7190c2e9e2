use Rattle.std.proofs.Common.{◌≡◌, ◌++◌, length}
use Rattle.tx_paragraph.specs.Shapes.{told_lines}
use Rattle.tx_paragraph.proofs.shapes.told_lines.Given as goal

-- the lines so far stand before those of the sizes that are left
abbrev pub invariant-loop-rest : goal.invariant-loop-rest
invariant-loop-rest l = l.lines.items ++ told_lines l.rest ≡ told_lines l.sizes

abbrev pub decreases-loop-rest : goal.decreases-loop-rest
decreases-loop-rest l = length l.rest
