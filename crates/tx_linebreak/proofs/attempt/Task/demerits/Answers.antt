use Rattle.std.proofs.Common.{◌∙◌, arith, w32}
use Rattle.std.proofs.lemmas.Int.{to_z-of_z}
use Rattle.tx_linebreak.specs.Lines.{cost_of, demerits_of}
use Rattle.tx_linebreak.proofs.Summing.{back}
use Rattle.tx_linebreak.proofs.attempt.Task.demerits.Goals as goal

pub returns-clause-value : goal.returns-clause-value
unfolding demerits_of
returns-clause-value c =
    back c.line_demerits.result _ (omega arith)
    (c.line_demerits.ensures.value
    ∙ (λ i. cost_of c.args.self.now.params.now (to_z-of_z w32 c.args.penalty c.ranges.penalty i) c.args.badness (c.are_apart-apart.ensures i) (c.is_double-double.ensures i) (c.is_behind_hyphen-last.ensures i)))
