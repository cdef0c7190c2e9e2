-- A paragraph as the code has it. No public clause speaks of it.
use Rattle.std.specs.Prelude.{◌<◌, ◌≤◌, length}
use Rattle.tx_num.specs.Glue.{IsDimension}
use Rattle.tx_node.specs.Nodes.{list_of}
use Rattle.tx_par.specs.declared.task.Paragraph.{Paragraph}
use Rattle.tx_par.specs.Paragraphs.{Task}

abbrev pub task_in : Paragraph → Task
task_in p = record {
  items = list_of p.items.now;
  pieces = p.pieces.now;
  shape = p.shape.now;
  params = p.params.now;
  first_pass = p.first_pass;
  count = p.count;
}

-- there is a piece for each item, and a shape, and \overfullrule is a dimension
pub record IsTask (p : Paragraph) : Type 0 where
  pub seen : length p.items.now ≤ length p.pieces.now
  pub shaped : 0 < length p.shape.now
  pub rule : IsDimension p.params.now.packing.overfull_rule
