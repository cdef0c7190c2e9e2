use Rattle.std.proofs.Common.{◌≡◌, drop}
use Rattle.tx_hyphenate.specs.Texts.{with_exceptions}
use Rattle.tx_hyphenate.proofs.known.Hyphenation.add_exceptions.Given as goal

abbrev pub invariant-loop-word : goal.invariant-loop-word
invariant-loop-word l = record {
  rest : with_exceptions l.lower l.self.hyphens (drop l.word-index l.words) ≡ with_exceptions l.lower l.initial.self.hyphens l.words;
  used : l.self.used ≡ l.initial.self.used;
}
