use Rattle.std.proofs.Common.{◌≡◌, ◌∷◌}
use Rattle.tx_expand.proofs.state.Expander.take_other.Goals as goal

pub returns-in-Some : goal.returns-in-Some
returns-in-Some c = λ any.
    let items : c.args.self.now.begun ≡ c.in-Some.begun ∷ c.pop.new.self = rw c.in-Some.is at c.pop.ensures in
    rw items (c.take_by.ensures any)
