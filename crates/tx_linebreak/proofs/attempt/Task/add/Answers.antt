use Rattle.std.proofs.Common.{refl, ◌∙◌}
use Rattle.tx_linebreak.specs.Tasks.{attempt_of}
use Rattle.tx_linebreak.proofs.Adding.{adding-on}
use Rattle.tx_linebreak.proofs.attempt.Task.add.Goals as goal

pub loop-link-preserved : goal.loop-link-preserved
loop-link-preserved c =
    adding-on (attempt_of c.args.self.now) _ c.loop-link.chains _ c.loop-link.trials.items _ c.args.links.now c.loop-link.link-index _ _ c.trial.result c.loop-link-test.true refl c.in_ok-push-2.ensures.ok c.in_ok-push.ensures.items
    (c.trial.ensures.chain ∙ c.len.ensures) c.trial.ensures.from c.trial.ensures.total c.trial.ensures.start c.loop-link.invariant
