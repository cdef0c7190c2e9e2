use Rattle.std.proofs.Common.{◌≡◌, drop}
use Rattle.tx_hyphenate.specs.Texts.{with_patterns}
use Rattle.tx_hyphenate.proofs.known.Hyphenation.add_patterns.Given as goal

abbrev pub invariant-loop-text : goal.invariant-loop-text
invariant-loop-text l = record {
  rest : with_patterns l.lower l.self.hyphens (drop l.text-index l.texts) ≡ with_patterns l.lower l.initial.self.hyphens l.texts;
  used : l.self.used ≡ l.initial.self.used;
}
