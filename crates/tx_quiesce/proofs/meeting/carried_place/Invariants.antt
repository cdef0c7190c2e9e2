use Rattle.std.proofs.Common.{◌≡◌, ◌+◌, ◌*◌, ◌^◌, ◌≤◌, drop}
use Rattle.tx_files.specs.Carry.{carried_place}
use Rattle.tx_quiesce.proofs.meeting.carried_place.Given as goal

-- each change adds less than an offset can tell of
abbrev pub invariant-loop-at : goal.invariant-loop-at
invariant-loop-at l = record {
  so_far : carried_place (drop l.at l.changes) l.name l.here ≡ carried_place l.changes l.name l.offset;
  near : l.here ≤ (l.at + 1) * 2 ^ 64;
}
