use Rattle.std.proofs.Common.{◌≡◌, Option, false, true, rules}
use Rattle.std.specs.Prelude.{IfNone, IfSome, pos, int_le}
use Rattle.std.proofs.lemmas.Result.{IfOk-weaker}
use Rattle.tx_linebreak.specs.declared.answer.Chosen.{Chosen}
use Rattle.tx_linebreak.specs.Chosen.{IsAnswer, IsAnswerOf, answers, first_succeeds}
use Rattle.tx_linebreak.specs.Tasks.{attempt_of}
use Rattle.tx_linebreak.proofs.Choosing.{first-none, first-skipped, first-some}
use Rattle.tx_linebreak.proofs.choice.find_first.Goals as goal

pub returns-then-params-lt0-clause-none : goal.returns-then-params-lt0-clause-none
returns-then-params-lt0-clause-none c =
    let skipped : int_le (pos 0) c.args.params.now.pretolerance ≡ false = search rules in
    first-skipped c.args.pieces.now c.args.shape.now c.args.params.now skipped

pub returns-clause-none : goal.returns-clause-none
returns-clause-none c =
    let pieces = c.args.pieces.now in
    let shape = c.args.shape.now in
    let params = c.args.params.now in
    let a = attempt_of c.new-first.result in
    let made : int_le (pos 0) params.pretolerance ≡ true = search rules in
    IfOk-weaker c.find.result (λ (found : Option Chosen). IfNone found (answers a ≡ false)) (λ (found : Option Chosen). IfNone found (first_succeeds pieces shape params ≡ false))
    (λ found none. first-none pieces shape params a found c.new-first.ensures.attempt made none) c.find.ensures.none

pub returns-clause-some : goal.returns-clause-some
returns-clause-some c =
    let pieces = c.args.pieces.now in
    let shape = c.args.shape.now in
    let params = c.args.params.now in
    let a = attempt_of c.new-first.result in
    let made : int_le (pos 0) params.pretolerance ≡ true = search rules in
    IfOk-weaker c.find.result (λ (found : Option Chosen). IfSome found (IsAnswerOf a)) (λ (found : Option Chosen). IfSome found (λ chosen. (first_succeeds pieces shape params ≡ true) × IsAnswer pieces shape params chosen))
    (λ found some. first-some pieces shape params a found c.new-first.ensures.attempt made some) c.find.ensures.some
