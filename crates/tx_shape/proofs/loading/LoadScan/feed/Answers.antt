use Rattle.std.proofs.Common.{[], refl}
use Rattle.tx_seen.specs.declared.item.Item.TheVariants.{Took}
use Rattle.tx_scan.specs.DimensionRests as sizes
use Rattle.tx_scan.specs.IntegerRests as integers
use Rattle.tx_scan.proofs.Behind.{fed-one}
use Rattle.tx_scan.proofs.Mosts.{most-integer, most-size}
use Rattle.tx_shape.proofs.LoadSteps.{begins-fed, begins-needs, begins-waits, letter-fed, number-fed, number-needs, number-waits, size-fed, size-needs, size-waits, word-fed}
use Rattle.tx_shape.proofs.loading.LoadScan.feed.Goals as goal

pub returns-in-Equals-clause-fed : goal.returns-in-Equals-clause-fed
returns-in-Equals-clause-fed c =
    begins-fed _ c.args.self.now c.feed_equals.new.self c.args.token.now c.feed_equals.result (rw c.in-Equals.is refl) (λ more. rw c.in-Equals.is refl) c.feed_equals.ensures

pub returns-in-Equals-clause-needs : goal.returns-in-Equals-clause-needs
returns-in-Equals-clause-needs c =
    begins-needs _ c.args.self.now c.feed_equals.new.self c.args.token.now c.feed_equals.result (rw c.in-Equals.is refl) c.feed_equals.ensures

pub returns-in-Equals-clause-waits : goal.returns-in-Equals-clause-waits
returns-in-Equals-clause-waits c =
    begins-waits _ c.feed_equals.new.self c.args.token.now c.feed_equals.result c.feed_equals.ensures

pub returns-in-Name-clause-fed : goal.returns-in-Name-clause-fed
returns-in-Name-clause-fed c =
    begins-fed _ c.args.self.now c.feed_name.new.self c.args.token.now c.feed_name.result (rw c.in-Name.is refl) (λ more. refl) c.feed_name.ensures

pub returns-in-Name-clause-needs : goal.returns-in-Name-clause-needs
returns-in-Name-clause-needs c =
    begins-needs _ c.args.self.now c.feed_name.new.self c.args.token.now c.feed_name.result (rw c.in-Name.is refl) c.feed_name.ensures

pub returns-in-Name-clause-waits : goal.returns-in-Name-clause-waits
returns-in-Name-clause-waits c =
    begins-waits _ c.feed_name.new.self c.args.token.now c.feed_name.result c.feed_name.ensures

pub returns-in-At-clause-fed : goal.returns-in-At-clause-fed
returns-in-At-clause-fed c =
    begins-fed _ c.args.self.now c.feed_at.new.self c.args.token.now c.feed_at.result (rw c.in-At.is refl) (λ more. rw c.in-At.is refl) c.feed_at.ensures

pub returns-in-At-clause-needs : goal.returns-in-At-clause-needs
returns-in-At-clause-needs c =
    begins-needs _ c.args.self.now c.feed_at.new.self c.args.token.now c.feed_at.result (rw c.in-At.is refl) c.feed_at.ensures

pub returns-in-At-clause-waits : goal.returns-in-At-clause-waits
returns-in-At-clause-waits c =
    begins-waits _ c.feed_at.new.self c.args.token.now c.feed_at.result c.feed_at.ensures

pub returns-in-Letter-clause-fed : goal.returns-in-Letter-clause-fed
returns-in-Letter-clause-fed c =
    letter-fed c.in-Letter.blank c.args.self.now c.feed_letter.new.self c.args.token.now c.feed_letter.result c.in-Letter.is c.feed_letter.ensures.reads

pub returns-in-Letter-clause-needs : goal.returns-in-Letter-clause-needs
returns-in-Letter-clause-needs c =
    rw c.in-Letter.is c.feed_letter.ensures.needs

pub returns-in-Scaled-clause-fed : goal.returns-in-Scaled-clause-fed
returns-in-Scaled-clause-fed c =
    word-fed c.in-Scaled.key c.args.self.now c.feed_scaled.new.self c.args.token.now c.feed_scaled.result c.in-Scaled.is c.feed_scaled.ensures.reads

pub returns-in-Scaled-clause-needs : goal.returns-in-Scaled-clause-needs
returns-in-Scaled-clause-needs c =
    rw c.in-Scaled.is c.feed_scaled.ensures.needs

pub returns-in_ok-fed-in-Size-clause-fed : goal.returns-in_ok-fed-in-Size-clause-fed
returns-in_ok-fed-in-Size-clause-fed c =
    size-fed c.args.self.now c.feed.new.self c.args.token.now c.in_ok-fed-in-Size.fed c.sized.result c.in-Size.is c.in_ok-fed-in-Size.ensures.part c.sized.ensures

pub returns-in_ok-fed-in-Size-clause-needs : goal.returns-in_ok-fed-in-Size-clause-needs
returns-in_ok-fed-in-Size-clause-needs c =
    size-needs c.args.self.now c.feed.new.self c.in_ok-fed-in-Size.fed c.sized.result c.in-Size.is c.in_ok-fed-in-Size.ensures.needed c.sized.ensures

pub returns-in_ok-fed-in-Size-clause-waits : goal.returns-in_ok-fed-in-Size-clause-waits
returns-in_ok-fed-in-Size-clause-waits c =
    size-waits c.args.self.now c.feed.new.self c.in_ok-fed-in-Size.fed c.sized.result c.in-Size.is (fed-one sizes.rest sizes.held (sizes.most c.args.self.now.size) (λ more. sizes.rest c.args.self.now.size [] (Took c.args.token.now) more) c.args.token.now c.feed.new.self c.in_ok-fed-in-Size.fed (most-size c.args.self.now.size) (c.in_ok-fed-in-Size.ensures.fed [])) c.sized.ensures

pub returns-in_ok-fed-in-Number-clause-fed : goal.returns-in_ok-fed-in-Number-clause-fed
returns-in_ok-fed-in-Number-clause-fed c =
    number-fed c.args.self.now c.feed-in-Number.new.self c.args.token.now c.in_ok-fed-in-Number.fed c.scaled.result c.in-Number.is c.in_ok-fed-in-Number.ensures.part c.scaled.ensures

pub returns-in_ok-fed-in-Number-clause-needs : goal.returns-in_ok-fed-in-Number-clause-needs
returns-in_ok-fed-in-Number-clause-needs c =
    number-needs c.args.self.now c.feed-in-Number.new.self c.in_ok-fed-in-Number.fed c.scaled.result c.in-Number.is c.in_ok-fed-in-Number.ensures.waits c.scaled.ensures

pub returns-in_ok-fed-in-Number-clause-waits : goal.returns-in_ok-fed-in-Number-clause-waits
returns-in_ok-fed-in-Number-clause-waits c =
    number-waits c.args.self.now c.feed-in-Number.new.self c.in_ok-fed-in-Number.fed c.scaled.result c.in-Number.is (fed-one integers.rest integers.held (integers.most c.args.self.now.number) (λ more. integers.rest c.args.self.now.number [] (Took c.args.token.now) more) c.args.token.now c.feed-in-Number.new.self c.in_ok-fed-in-Number.fed (most-integer c.args.self.now.number) (c.in_ok-fed-in-Number.ensures.fed [])) c.scaled.ensures
