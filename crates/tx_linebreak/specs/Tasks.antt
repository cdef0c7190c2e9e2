-- A pass as the code has it. No public clause speaks of it.
use Rattle.std.specs.Prelude.{◌≡◌, ◌<◌, ◌^◌, length}
use Rattle.tx_linebreak.specs.declared.attempt.Task.{Task}
use Rattle.tx_linebreak.specs.Lines.{Attempt, background}
use Rattle.tx_linebreak.specs.Sums.{AreStarts, AreSums}
use Rattle.tx_linebreak.specs.Totals.{IsWithin}

-- the pass over a list that a task is
abbrev pub attempt_of : Task → Attempt
attempt_of t = record { pieces = t.pieces.now; shape = t.shape.now; params = t.params.now; pass = t.pass }

-- a task has the sums of its list, where lines start, and the background of its pass, and at least one shape
pub record IsTask (t : Task) : Type 0 where
  pub sums_are : AreSums t.sums.now t.pieces.now
  pub starts_are : AreStarts t.starts.now t.pieces.now
  pub background_is : t.background ≡ background t.params.now t.pass
  pub background_in : IsWithin (2 ^ 65) t.background
  pub shaped : 0 < length t.shape.now
