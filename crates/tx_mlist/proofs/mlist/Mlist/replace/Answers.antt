use Rattle.std.proofs.Common.{refl}
use Rattle.tx_mlist.specs.Items.{MathItem}
use Rattle.tx_mlist.specs.Noads.{math_of}
use Rattle.tx_mlist.proofs.Lists.{changed_put}
use Rattle.tx_mlist.proofs.mlist.Mlist.replace.Goals as goal

pub returns-in-Some : goal.returns-in-Some
returns-in-Some c =
    changed_put (λ (last : MathItem). math_of c.args.noad) c.args.self.now c.pop.new.self c.push.new.self _ (math_of c.args.noad) c.push.result
    c.in-Some.ensures refl c.push.ensures.ok
