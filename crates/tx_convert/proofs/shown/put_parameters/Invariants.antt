use Rattle.std.proofs.Common.{◌≡◌, ◌++◌, ◌+◌, drop}
use Rattle.tx_convert.specs.Meanings.{parameters}
use Rattle.tx_convert.proofs.shown.put_parameters.Given as goal

abbrev pub invariant-loop-k : goal.invariant-loop-k
invariant-loop-k l =
    l.text ++ parameters l.escape l.codes l.fonts (l.k + 1) (drop l.k l.signs) (drop l.k l.delimiters) ≡ l.initial.text ++ parameters l.escape l.codes l.fonts 1 l.signs l.delimiters
