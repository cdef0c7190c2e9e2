use Rattle.std.proofs.Common.{◌≡◌, refl, arith}
use Rattle.tx_gen.proofs.Times.{grown-none, grown-more, grown-all}
use Rattle.tx_gen.proofs.book.append_lines.Goals as goal

pub loop-line-init : goal.loop-line-init
loop-line-init c = grown-none refl refl

pub loop-line-preserved : goal.loop-line-preserved
loop-line-preserved c = grown-more c.loop-line.invariant c.in_ok-append_line.ensures.text c.in_ok-append_line.ensures.draws

pub returns-clause-text : goal.returns-clause-text
returns-clause-text c =
    let all : c.loop-line._line ≡ 6 = omega arith in
    (grown-all c.loop-line.invariant all).text_is

pub returns-clause-draws : goal.returns-clause-draws
returns-clause-draws c =
    let all : c.loop-line._line ≡ 6 = omega arith in
    (grown-all c.loop-line.invariant all).state_is
