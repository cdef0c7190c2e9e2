use Rattle.tx_hyphen.specs.Levels.{IsRaised, greatest_below, level_at}
use Rattle.tx_hyphen.proofs.lexicon.Lexicon.raise_all.Given as goal

abbrev pub invariant-loop-offset : goal.invariant-loop-offset
invariant-loop-offset l =
    IsRaised l.initial.levels l.levels (λ place. greatest_below l.offset (level_at l.self l.text place))
