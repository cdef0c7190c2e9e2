use Rattle.std.proofs.Common.{◌≡◌, List, IfOk, subst}
use Rattle.tx_expand.specs.declared.begun.Begun.{Begun}
use Rattle.tx_expand.specs.Expanding.{reader, reader_of, world_of}
use Rattle.tx_expand.specs.Turns.{given_to, IsTurned}
use Rattle.tx_expand.specs.Values.{lent}
use Rattle.tx_expand.proofs.Joining.{joined-turned, not-joined}
use Rattle.tx_expand.proofs.state.Expander.take_within.Goals as goal

pub returns-then-joined : goal.returns-then-joined
returns-then-joined c = λ any.
    joined-turned (world_of (lent c.args.known.now) any) c.args.token (reader_of c.args.self.now c.args.input.now) c.join_use.new.begun c.in_ok-joined.joined c.if-joined.true
    c.in_ok-joined.ensures

pub returns : goal.returns
returns c = λ any.
    let same : c.join_use.new.begun ≡ c.args.self.now.begun = not-joined c.args.self.now.begun c.join_use.new.begun c.args.token.token c.in_ok-joined.joined c.if-joined.false c.in_ok-joined.ensures in
    subst (λ (bs : List Begun). IfOk c.take_other.result (IsTurned (given_to (world_of (lent c.args.known.now) any) c.args.token (reader bs c.args.input.now c.args.self.now.conditionals c.args.self.now.job) bs) (reader_of c.take_other.new.self c.take_other.new.input))) same
    (c.take_other.ensures any)
