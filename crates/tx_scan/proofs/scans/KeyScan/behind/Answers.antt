use Rattle.std.proofs.Common.{inl, inr, rules, arith}
use Rattle.tx_scan.proofs.Letters.{skipped-space, has-skipped, no-letter, undefined-letter, other-letter, early-letter, has-letter, skipped-none}
use Rattle.tx_scan.proofs.scans.KeyScan.behind.Goals as goal

pub returns-then-skips-clause-part : goal.returns-then-skips-clause-part
returns-then-skips-clause-part c = λ behind short. (
  skipped-space c.args.word.now c.args.self.now behind c.args.token.now (search rules),
  omega arith,
  has-skipped c.args.word.now c.args.self.now behind _ c.args.token.now (search rules),
)

pub returns-in_default-clause-part : goal.returns-in_default-clause-part
returns-in_default-clause-part c = λ behind short. (
  omega arith,
  no-letter c.args.word.now c.args.self.now behind c.args.token.now short (search rules) c.in_default.ensures.letter,
)

pub returns-then-is_undefined-clause-part : goal.returns-then-is_undefined-clause-part
returns-then-is_undefined-clause-part c = λ behind short.
    undefined-letter c.args.word.now c.args.self.now behind c.args.token.now c.in-Some.letter short (search rules) c.in-Some.ensures.letter (search rules)

pub returns-then-not-is_key-clause-part : goal.returns-then-not-is_key-clause-part
returns-then-not-is_key-clause-part c = λ behind short. (
  omega arith,
  other-letter c.args.word.now c.args.self.now behind c.args.token.now c.in-Some.letter short (search rules) c.in-Some.ensures.letter (search rules) (search rules),
)

pub returns-in-Some-expected-clause-part : goal.returns-in-Some-expected-clause-part
returns-in-Some-expected-clause-part c = λ behind short. (
  early-letter c.args.word.now c.args.self.now behind c.args.token.now c.in-Some.letter _ _ short (search rules) c.in-Some.ensures.letter (search rules) (search rules) c.in-Some-expected.ensures.letter,
  omega arith,
  has-letter c.args.word.now c.args.self.now behind c.args.token.now c.in-Some.letter short (search rules) c.in-Some.ensures.letter (search rules) (search rules),
)

pub returns-then-skips-clause-spelled : goal.returns-then-skips-clause-spelled
returns-then-skips-clause-spelled c =
    let none = skipped-none c.args.word.now c.args.self.now.read c.args.token.now (search rules) in
    inl (none, none)

pub returns-in-Some-expected-clause-spelled : goal.returns-in-Some-expected-clause-spelled
returns-in-Some-expected-clause-spelled c = inr (search rules, (search rules, (c.in-Some.letter, (c.in-Some.ensures.letter, search rules))))
