use Rattle.std.proofs.Common.{◌≡◌, refl, arith}
use Rattle.tx_gen.proofs.Times.{grown-none, grown-more, grown-all}
use Rattle.tx_gen.proofs.book.append_letters.Goals as goal

pub loop-letter-init : goal.loop-letter-init
loop-letter-init c = grown-none refl refl

pub loop-letter-preserved : goal.loop-letter-preserved
loop-letter-preserved c = grown-more c.loop-letter.invariant c.in_ok-append_letter.ensures.text c.in_ok-append_letter.ensures.draws

pub returns-clause-text : goal.returns-clause-text
returns-clause-text c =
    let all : c.loop-letter._letter ≡ c.args.count = omega arith in
    (grown-all c.loop-letter.invariant all).text_is

pub returns-clause-draws : goal.returns-clause-draws
returns-clause-draws c =
    let all : c.loop-letter._letter ≡ c.args.count = omega arith in
    (grown-all c.loop-letter.invariant all).state_is
