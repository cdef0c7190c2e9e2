use Rattle.std.proofs.Common.{refl, ◌∷◌}
use Rattle.tx_seen.specs.declared.item.Item.TheVariants.{Took}
use Rattle.tx_seen.specs.Readings.{next}
use Rattle.tx_scan.specs.IntegerRests as integers
use Rattle.tx_scan.proofs.Mosts.{most-integer}
use Rattle.tx_assign.specs.Assignments.{given, valued}
use Rattle.tx_assign.proofs.Steps.{fed-at-all, fed-behind, seldom}
use Rattle.tx_assign.proofs.scan.AssignScan.behind.Goals as goal

pub returns-in-Equals-clause-part : goal.returns-in-Equals-clause-part
returns-in-Equals-clause-part c =
    fed-behind (λ more. given c.in-Equals.purpose c.args.self.now.place (Took c.args.token.now ∷ more)) c.args.self.now c.feed_equals.new.self c.args.token.now c.feed_equals.result (λ behind more. rw c.in-Equals.is refl) c.feed_equals.ensures.answer

pub returns-in-Integer-clause-part : goal.returns-in-Integer-clause-part
returns-in-Integer-clause-part c =
    fed-at-all (integers.most c.args.self.now.integer) (λ behind more. next (integers.rest c.args.self.now.integer behind (Took c.args.token.now) more) (valued c.in-Integer.purpose c.args.self.now.place)) c.args.self.now c.feed_integer.new.self c.args.token.now c.feed_integer.result (most-integer c.args.self.now.integer) (λ behind more. rw c.in-Integer.is refl) c.feed_integer.ensures.answer

pub behind_other-requires : goal.behind_other-requires
behind_other-requires c = seldom c.args.self.now.stage c.in_default.not-Number c.in_default.not-Equals c.in_default.not-Integer
