use Rattle.std.proofs.Common.{◌≡◌, ◌++◌, map}
use Rattle.tx_lettering.specs.Letters.{token_for}
use Rattle.tx_lettering.proofs.letters.with_letters.Given as goal

-- those that are changed stand before the changes of those that are left
abbrev pub invariant-loop-token : goal.invariant-loop-token
invariant-loop-token l = l.changed ++ map (token_for l.table.table l.kind) l.token-iterator.rest.items ≡ map (token_for l.table.table l.kind) l.fn.tokens
