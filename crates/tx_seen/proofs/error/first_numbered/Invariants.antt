use Rattle.std.proofs.Common.{◌≡◌, drop}
use Rattle.tx_seen.specs.Errors.{numbered}
use Rattle.tx_seen.proofs.error.first_numbered.Given as goal

-- none of those so far has the number
abbrev pub invariant-loop-error : goal.invariant-loop-error
invariant-loop-error l = numbered (drop l.error-index l.errors) l.number ≡ numbered l.errors l.number
