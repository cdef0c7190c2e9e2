use Rattle.std.proofs.Common.{refl, []}
use Rattle.tx_seen.specs.declared.item.Item.TheVariants.{Took}
use Rattle.tx_scan.specs.IntegerRests as integers
use Rattle.tx_scan.proofs.Behind.{fed-one}
use Rattle.tx_scan.proofs.Mosts.{most-integer}
use Rattle.tx_shape.specs.declared.loading.LoadStage.TheVariants as stage
use Rattle.tx_shape.proofs.LoadSteps.{number-begun}
use Rattle.tx_shape.proofs.loading.LoadScan.begin_number.Goals as goal

pub returns : goal.returns
returns c =
    number-begun (record c.args.self.now { number = c.feed.new.self; stage = stage.Number }) c.args.token.now c.in_ok-fed.fed c.scaled.result refl (rw c.restart.ensures.scan at c.in_ok-fed.ensures.part) (rw c.restart.ensures.scan at c.in_ok-fed.ensures.waits) (fed-one integers.rest integers.held (integers.most c.restart.new.self) (λ more. integers.rest c.restart.new.self [] (Took c.args.token.now) more) c.args.token.now c.feed.new.self c.in_ok-fed.fed (most-integer c.restart.new.self) (c.in_ok-fed.ensures.fed [])) c.scaled.ensures
