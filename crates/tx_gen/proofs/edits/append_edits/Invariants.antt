use Rattle.std.proofs.Common.{length}
use Rattle.std.specs.Prelude.{slice_index}
use Rattle.tx_gen.specs.Edits.{edit_text}
use Rattle.tx_gen.proofs.Times.{Grown}
use Rattle.tx_gen.proofs.edits.append_edits.Given as goal

abbrev pub invariant-loop-edit : goal.invariant-loop-edit
invariant-loop-edit l = Grown (edit_text (slice_index l.starts) (length l.starts)) l._edit l.initial.text l.initial.draws l.text l.draws
