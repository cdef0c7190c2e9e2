use Rattle.std.proofs.Common.{refl}
use Rattle.tx_state.specs.declared.state.State.{State}
use Rattle.tx_state.specs.Meanings.{state_of}
use Rattle.tx_lettering.proofs.Collects.{collects}
use Rattle.tx_lettering.proofs.words.collect.Goals as goal

pub returns : goal.returns
returns c =
    let mid : State = c.pass_factor.new.s in
    let done : State = record mid { words = c.gather.new.words; lists = c.gather.new.lists } in
    rw (c.in_ok-report.ensures done)
    (collects c.args.s.now mid done c.args.factor c.current_font-font.result c.args.code c.in_paragraph-in_paragraph.result
    c.in_ok-lacking.lacking
    c.requires c.current_font-font.ensures c.in_paragraph-in_paragraph.ensures c.pass_factor.ensures.state c.pass_factor.ensures.phase c.pass_factor.ensures.said
    c.in_ok-lacking.ensures.lacking (λ i. record (state_of mid) { lists = c.in_ok-lacking.ensures.lists i; words = c.in_ok-lacking.ensures.words i }) refl refl)
