use Rattle.std.proofs.Common.{[], rules}
use Rattle.tx_prim.specs.declared.family.SizeKind.TheVariants.{Above}
use Rattle.tx_command.specs.declared.types.SizeUse.TheVariants.{Item}
use Rattle.tx_reading.proofs.Stages.{first-sized}
use Rattle.tx_scan.specs.DimensionRests.{rest as dimen_rest, held as dimen_held, most as dimen_most}
use Rattle.tx_scan.proofs.Behind.{fed-one}
use Rattle.tx_scan.proofs.Mosts.{most-size}
use Rattle.tx_seen.specs.declared.item.Item.TheVariants.{Took}
use Rattle.tx_reading.proofs.stage.feed_thickness.Goals as goal

pub returns : goal.returns
returns c = λ mode head.
    rw c.sized.ensures
    (first-sized mode head (Item Above) c.restart.new.self _ c.args.token.now c.in_ok-feed.field-0 (search rules) c.restart.ensures.scan c.in_ok-feed.ensures.part c.in_ok-feed.ensures.needed
    (fed-one dimen_rest dimen_held (dimen_most c.restart.new.self) (λ more. dimen_rest c.restart.new.self [] (Took c.args.token.now) more) c.args.token.now c.feed.new.self c.in_ok-feed.field-0 (most-size c.restart.new.self) (c.in_ok-feed.ensures.fed [])))
