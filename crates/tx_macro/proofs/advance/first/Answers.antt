use Rattle.std.proofs.Common.{◌≡◌, [], ◌∙◌, arith}
use Rattle.tx_macro.proofs.Uses.{empty-is, first-gathered}
use Rattle.tx_macro.proofs.advance.first.Goals as goal

pub returns-clause-begun : goal.returns-clause-begun
returns-clause-begun c =
    let bare : c.args.made.now.parameters.before ≡ [] = empty-is c.before-2.result.now c.args.made.now.parameters.before c.before-2.ensures.lent c.if-not-is_empty.ensures in
    (first-gathered c.args.made.now c.args.gathered.now c.begin.new.gathered c.in_ok-next.next c.awaited_behind.result bare c.requires.some c.requires.no_arguments (c.in_ok-next.ensures.taken ∙ c.requires.nothing) (c.in_ok-next.ensures.within (omega (arith, c.requires.from))) c.in_ok-next.ensures.rest c.in_ok-next.ensures.stage c.awaited_behind.ensures).0

pub returns-clause-on : goal.returns-clause-on
returns-clause-on c =
    let bare : c.args.made.now.parameters.before ≡ [] = empty-is c.before-2.result.now c.args.made.now.parameters.before c.before-2.ensures.lent c.if-not-is_empty.ensures in
    (first-gathered c.args.made.now c.args.gathered.now c.begin.new.gathered c.in_ok-next.next c.awaited_behind.result bare c.requires.some c.requires.no_arguments (c.in_ok-next.ensures.taken ∙ c.requires.nothing) (c.in_ok-next.ensures.within (omega (arith, c.requires.from))) c.in_ok-next.ensures.rest c.in_ok-next.ensures.stage c.awaited_behind.ensures).1
