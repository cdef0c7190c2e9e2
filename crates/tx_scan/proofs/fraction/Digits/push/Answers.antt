use Rattle.std.proofs.Common.{sym, rules}
use Rattle.std.proofs.lemmas.List.{take-append-le}
use Rattle.tx_scan.proofs.KeptDigits.{digits-push}
use Rattle.tx_scan.proofs.fraction.Digits.push.Goals as goal

pub invariant_of-self : goal.invariant_of-self
invariant_of-self c = rw c.in_ok-push.ensures.items (digits-push _ _ c.self.invariant c.requires)

-- more digits than count are left out
pub returns-else-len-lt-COUNTED_DIGITS : goal.returns-else-len-lt-COUNTED_DIGITS
returns-else-len-lt-COUNTED_DIGITS c = sym (take-append-le 17 c.args.self.now _ (search rules))
