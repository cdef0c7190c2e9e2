use Rattle.std.proofs.Common.{◌≡◌, refl, arith}
use Rattle.tx_gen.proofs.Times.{grown-none, grown-more, grown-all}
use Rattle.tx_gen.proofs.book.append_spaced_words.Goals as goal

pub loop-word-init : goal.loop-word-init
loop-word-init c = grown-none refl refl

pub loop-word-preserved : goal.loop-word-preserved
loop-word-preserved c = grown-more c.loop-word.invariant c.in_ok-append_spaced_word.ensures.text c.in_ok-append_spaced_word.ensures.draws

pub returns-clause-text : goal.returns-clause-text
returns-clause-text c =
    let all : c.loop-word._word ≡ 9 = omega arith in
    (grown-all c.loop-word.invariant all).text_is

pub returns-clause-draws : goal.returns-clause-draws
returns-clause-draws c =
    let all : c.loop-word._word ≡ 9 = omega arith in
    (grown-all c.loop-word.invariant all).state_is
