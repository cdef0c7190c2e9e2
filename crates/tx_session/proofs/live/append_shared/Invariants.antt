use Rattle.std.proofs.Common.{◌≡◌, ◌++◌, take}
use Rattle.tx_session.proofs.live.append_shared.Given as goal

abbrev pub invariant-loop-page : goal.invariant-loop-page
invariant-loop-page l = l.shared.items ≡ l.initial.shared.items ++ take l.page-index l.pages
