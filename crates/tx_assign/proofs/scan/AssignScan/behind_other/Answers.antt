use Rattle.std.proofs.Common.{lit≤, refl, ◌∷◌, Ok}
use Rattle.tx_seen.specs.declared.item.Item.TheVariants.{Took}
use Rattle.tx_seen.specs.Readings.{next}
use Rattle.tx_scan.specs.Grammars.{name}
use Rattle.tx_scan.specs.DimensionRests as sizes
use Rattle.tx_scan.proofs.Mosts.{most-size}
use Rattle.tx_assign.specs.Assignments.{arithmetic, let_behind_equals, let_behind_name, let_token, list_value, sized}
use Rattle.tx_assign.specs.Rests.{by_rest}
use Rattle.tx_assign.proofs.Givens.{glue-fed}
use Rattle.tx_assign.proofs.Steps.{fed-at, fed-at-all, fed-behind}
use Rattle.tx_assign.proofs.scan.AssignScan.behind_other.Goals as goal

pub returns-in-LetName-clause-part : goal.returns-in-LetName-clause-part
returns-in-LetName-clause-part c =
    fed-at 0 (λ more. next (name (Took c.args.token.now ∷ more)) let_behind_name) c.args.self.now c.feed_name.new.self c.args.token.now c.feed_name.result (lit≤ tt) (λ behind more. rw c.in-LetName.is refl) c.feed_name.ensures.answer

pub returns-in-LetBehindName-clause-part : goal.returns-in-LetBehindName-clause-part
returns-in-LetBehindName-clause-part c =
    fed-at 0 (λ more. let_behind_name c.args.self.now.place (Took c.args.token.now ∷ more)) c.args.self.now c.feed_behind_name.new.self c.args.token.now c.feed_behind_name.result (lit≤ tt) (λ behind more. rw c.in-LetBehindName.is refl) c.feed_behind_name.ensures.answer

pub returns-in-LetBehindEquals-clause-part : goal.returns-in-LetBehindEquals-clause-part
returns-in-LetBehindEquals-clause-part c =
    fed-at 0 (λ more. let_behind_equals c.args.self.now.place (Took c.args.token.now ∷ more)) c.args.self.now c.feed_behind_equals.new.self c.args.token.now c.feed_behind_equals.result (lit≤ tt) (λ behind more. rw c.in-LetBehindEquals.is refl) c.feed_behind_equals.ensures.answer

pub returns-in-LetToken-clause-part : goal.returns-in-LetToken-clause-part
returns-in-LetToken-clause-part c =
    fed-at 0 (λ more. let_token c.args.self.now.place (Took c.args.token.now ∷ more)) c.args.self.now c.feed_token.new.self c.args.token.now c.feed_token.result (lit≤ tt) (λ behind more. rw c.in-LetToken.is refl) c.feed_token.ensures.answer

pub returns-in-Operand-clause-part : goal.returns-in-Operand-clause-part
returns-in-Operand-clause-part c =
    fed-at {E = ⊥} 0 (λ more. arithmetic c.in-Operand.operation (Took c.args.token.now ∷ more)) c.args.self.now c.feed_operand.new.self c.args.token.now (Ok c.feed_operand.result) (lit≤ tt) (λ behind more. rw c.in-Operand.is refl) c.feed_operand.ensures.answer

pub returns-in-List-clause-part : goal.returns-in-List-clause-part
returns-in-List-clause-part c =
    fed-at {E = ⊥} 0 (λ more. list_value c.args.self.now.place (Took c.args.token.now ∷ more)) c.args.self.now c.feed_list.new.self c.args.token.now (Ok c.feed_list.result) (lit≤ tt) (λ behind more. rw c.in-List.is refl) c.feed_list.ensures.answer

pub returns-in-By-clause-part : goal.returns-in-By-clause-part
returns-in-By-clause-part c =
    fed-behind (λ more. by_rest c.in-By.word c.in-By.operation c.args.self.now.place (Took c.args.token.now) more) c.args.self.now c.feed_by.new.self c.args.token.now c.feed_by.result (λ behind more. rw c.in-By.is refl) c.feed_by.ensures.answer

pub returns-in-Size-clause-part : goal.returns-in-Size-clause-part
returns-in-Size-clause-part c =
    fed-at-all (sizes.most c.args.self.now.size) (λ behind more. next (sizes.rest c.args.self.now.size behind (Took c.args.token.now) more) (sized c.in-Size.purpose c.args.self.now.place)) c.args.self.now c.feed_size.new.self c.args.token.now c.feed_size.result (most-size c.args.self.now.size) (λ behind more. rw c.in-Size.is refl) c.feed_size.ensures.answer

pub returns-in-Glue-clause-part : goal.returns-in-Glue-clause-part
returns-in-Glue-clause-part c =
    glue-fed c.args.self.now c.feed_glue.new.self c.in-Glue.purpose c.args.token.now c.feed_glue.result c.in-Glue.is c.feed_glue.ensures.answer
