use Rattle.tx_mlist.specs.Choices.{choice_with}
use Rattle.tx_mlist.specs.Items.{gathered}
use Rattle.tx_mlist.specs.Noads.{math_of}
use Rattle.tx_mlist.proofs.Lists.{changed_put}
use Rattle.tx_mlist.proofs.mlist.Mlist.choose.Goals as goal

pub returns-in_ok-with_list-in-Some : goal.returns-in_ok-with_list-in-Some
returns-in_ok-with_list-in-Some c =
    changed_put (choice_with c.args.style (gathered c.args.list)) c.args.self.now c.pop.new.self c.push.new.self (math_of c.in-Some.noad) (math_of c.in_ok-with_list-in-Some.field-0) c.push.result
    c.in-Some.ensures c.in_ok-with_list-in-Some.ensures c.push.ensures.ok
