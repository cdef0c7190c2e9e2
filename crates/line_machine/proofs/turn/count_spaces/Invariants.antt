use Rattle.std.proofs.Common.{◌≡◌, ◌≤◌}
use Rattle.tx_machine.specs.Steps.{raised}
use Rattle.line_machine.specs.Turns.{HasSpaces}
use Rattle.line_machine.proofs.turn.count_spaces.Given as goal

abbrev pub invariant-loop-byte : goal.invariant-loop-byte
invariant-loop-byte l = record {
  at : l.count ≡ l.byte-index;
  most : l.count ≤ l.most;
  spaces : HasSpaces l.text l.count;
  counted : l.steps ≡ raised l.initial.steps l.count;
}
