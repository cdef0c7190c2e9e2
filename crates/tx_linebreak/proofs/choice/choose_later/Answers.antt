use Rattle.std.proofs.Common.{◌≡◌, false, rules}
use Rattle.std.specs.Prelude.{pos, int_le}
use Rattle.tx_linebreak.specs.Tasks.{attempt_of}
use Rattle.tx_linebreak.proofs.Choosing.{passes-unless, positive, second-answer, third-answer}
use Rattle.tx_linebreak.proofs.choice.choose_later.Goals as goal

pub returns-then-params-le0 : goal.returns-then-params-le0
returns-then-params-le0 c =
    let pieces = c.args.pieces.now in
    let shape = c.args.shape.now in
    let params = c.args.params.now in
    second-answer pieces shape params (attempt_of c.new-second.result) c.in_ok-found.found c.unwrap.result c.new-second.ensures.attempt c.unwrap.ensures c.in_ok-found.ensures.some
    (passes-unless pieces shape params c.requires.later)

pub returns-in-Some : goal.returns-in-Some
returns-in-Some c =
    let pieces = c.args.pieces.now in
    let shape = c.args.shape.now in
    let params = c.args.params.now in
    second-answer pieces shape params (attempt_of c.new-second.result) c.in_ok-found.found c.in-Some.chosen c.new-second.ensures.attempt c.in-Some.is c.in_ok-found.ensures.some
    (passes-unless pieces shape params c.requires.later)

pub returns : goal.returns
returns c =
    let pieces = c.args.pieces.now in
    let shape = c.args.shape.now in
    let params = c.args.params.now in
    let stretch : int_le params.emergency_stretch (pos 0) ≡ false = search rules in
    third-answer pieces shape params (attempt_of c.new-second.result) (attempt_of c.new-third.result) c.in_ok-found.found c.in_ok-find.field-0 c.unwrap-2.result c.new-second.ensures.attempt c.in_default.is c.in_ok-found.ensures.none c.new-third.ensures.attempt c.unwrap-2.ensures c.in_ok-find.ensures.some (positive params.emergency_stretch stretch)
    (passes-unless pieces shape params c.requires.later)
