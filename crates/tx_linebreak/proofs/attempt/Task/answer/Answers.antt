use Rattle.std.proofs.Common.{◌≡◌, ◌∙◌, false, true, rules, sym, true≢false}
use Rattle.tx_linebreak.specs.Tasks.{attempt_of}
use Rattle.tx_linebreak.proofs.Choosing.{found-answer, found-gives, last-enough}
use Rattle.tx_linebreak.proofs.attempt.Task.answer.Goals as goal

pub returns-then-not-is_enough-clause-none : goal.returns-then-not-is_enough-clause-none
returns-then-not-is_enough-clause-none c =
    let fails : c.is_enough.result ≡ false = search rules in
    found-gives (attempt_of c.args.self.now) c.args.chains.now c.args.found.now c.is_enough.result c.requires c.is_enough.ensures ∙ fails

pub returns-then-not-is_enough-clause-last : goal.returns-then-not-is_enough-clause-last
returns-then-not-is_enough-clause-last c = λ last.
    let fails : c.is_enough.result ≡ false = search rules in
    absurd (true≢false (sym (last-enough (attempt_of c.args.self.now) c.args.found.now.best c.args.found.now.lines last) ∙ sym c.is_enough.ensures ∙ fails))

pub returns-clause-some : goal.returns-clause-some
returns-clause-some c =
    let holds : c.is_enough.result ≡ true = search rules in
    let a = attempt_of c.args.self.now in
    found-answer a c.args.chains.now c.args.found.now c.in_ok-told.field-0 c.requires
    (found-gives a c.args.chains.now c.args.found.now c.is_enough.result c.requires c.is_enough.ensures ∙ holds)
    c.in_ok-told.ensures
