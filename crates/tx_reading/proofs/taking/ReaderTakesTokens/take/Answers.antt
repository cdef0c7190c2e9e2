use Rattle.std.proofs.Common.{◌∷◌, ◌++◌, []}
use Rattle.tx_seen.specs.declared.item.Item.TheVariants.{Took}
use Rattle.tx_scan.specs.Rests.{HasTakenBy}
use Rattle.tx_scan.proofs.Settling.{pending-settled}
use Rattle.tx_command.specs.Commands.{command}
use Rattle.tx_command.specs.Rests.{command_rest, held, more_needed, told}
use Rattle.tx_command.specs.Taken.{joined}
use Rattle.tx_reading.proofs.Settling.{token-told, token-ends}
use Rattle.tx_reading.proofs.Told.{told-no-need}
use Rattle.tx_reading.proofs.taking.ReaderTakesTokens.take.Goals as goal

pub returns-in_ok-push-in-More-clause-settled : goal.returns-in_ok-push-in-More-clause-settled
returns-in_ok-push-in-More-clause-settled g c =
    rw c.in_ok-push-in-More.ensures.ok
    (rw c.in-More.is at
    (token-told (g.Q.Quantities.value_at c.args.quantities.now) c.args.mode c.args.head.now c.args.taken.now c.args.token c.args.scans.now c.feed_scans.new.scans c.feed_scans.new.made c.in_ok-fed.fed
    c.requires.reads c.requires.few c.in_ok-fed.ensures.fed c.in_ok-fed.ensures.needs))

pub returns-in-Need-clause-settled : goal.returns-in-Need-clause-settled
returns-in-Need-clause-settled g c =
    c.supply.ensures.settled c.args.mode c.args.head.now (joined (g.Q.Quantities.value_at c.args.quantities.now) c.args.mode c.args.head.now c.args.taken.now c.args.token)
    (rw c.in-Need.is at
    (token-told (g.Q.Quantities.value_at c.args.quantities.now) c.args.mode c.args.head.now c.args.taken.now c.args.token c.args.scans.now c.feed_scans.new.scans c.feed_scans.new.made c.in_ok-fed.fed
    c.requires.reads c.requires.few c.in_ok-fed.ensures.fed c.in_ok-fed.ensures.needs))

pub returns-then-is_end-clause-settled : goal.returns-then-is_end-clause-settled
returns-then-is_end-clause-settled g c =
    token-ends (g.Q.Quantities.value_at c.args.quantities.now) c.args.mode c.args.head.now c.args.taken.now c.args.token c.args.scans.now c.feed_scans.new.scans c.feed_scans.new.made c.in_ok-fed.fed (c.is_end.ensures.0 c.if-is_end.true)
    c.requires.reads c.requires.few c.in_ok-fed.ensures.fed c.in_ok-fed.ensures.needs

pub returns-in_ok-push-in_default-clause-settled : goal.returns-in_ok-push-in_default-clause-settled
returns-in_ok-push-in_default-clause-settled g c =
    rw c.in_ok-push-in_default.ensures.ok
    (pending-settled (g.Q.Quantities.value_at c.args.quantities.now) (command c.args.mode c.args.head.now) (HasTakenBy (command_rest c.args.mode c.args.head.now) held (command c.args.mode c.args.head.now)) more_needed (joined (g.Q.Quantities.value_at c.args.quantities.now) c.args.mode c.args.head.now c.args.taken.now c.args.token) (c.args.taken.now ++ Took c.args.token ∷ []) c.feed_scans.new.scans (told c.feed_scans.new.scans c.feed_scans.new.made c.in_ok-fed.fed)
    (told-no-need c.feed_scans.new.scans c.feed_scans.new.made c.in_ok-fed.fed c.in_default.not-Need)
    (token-told (g.Q.Quantities.value_at c.args.quantities.now) c.args.mode c.args.head.now c.args.taken.now c.args.token c.args.scans.now c.feed_scans.new.scans c.feed_scans.new.made c.in_ok-fed.fed
    c.requires.reads c.requires.few c.in_ok-fed.ensures.fed c.in_ok-fed.ensures.needs))

pub supply-requires : goal.supply-requires
supply-requires g c = rw c.in-Need.is at c.in_ok-fed.ensures.on
