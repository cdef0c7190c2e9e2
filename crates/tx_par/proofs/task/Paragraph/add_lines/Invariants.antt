use Rattle.std.proofs.Common.{◌≡◌, drop, None}
use Rattle.tx_par.specs.Paragraphs.{none_so_far, with_lines}
use Rattle.tx_par.specs.Tasks.{task_in}
use Rattle.tx_par.proofs.task.Paragraph.add_lines.Given as goal

abbrev pub invariant-loop-lines : goal.invariant-loop-lines
invariant-loop-lines l =
    with_lines (task_in l.self) l.from l.lines (drop l.lines l.chain) l.so_far ≡ with_lines (task_in l.self) None 0 l.chain (none_so_far l.self.params.now)
