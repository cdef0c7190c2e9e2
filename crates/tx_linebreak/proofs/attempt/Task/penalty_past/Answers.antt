use Rattle.std.proofs.Common.{get_or, ap, ◌∙◌}
use Rattle.tx_linebreak.specs.Breaks.{behind}
use Rattle.tx_linebreak.proofs.Advancing.{context-on}
use Rattle.tx_linebreak.proofs.attempt.Task.penalty_past.Goals as goal

pub returns-clause-context : goal.returns-clause-context
returns-clause-context c =
    let pieces = c.args.self.now.pieces.now in
    let piece = get_or pieces c.args.place c.index-self-place.result in
    c.penalty_past.ensures.context ∙ ap (λ context. behind context piece) c.requires.context
    ∙ context-on _ pieces c.args.place c.index-self-place.result c.requires.place
