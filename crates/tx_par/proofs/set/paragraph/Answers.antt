use Rattle.std.proofs.Common.{◌≡◌, ◌≢◌, Result, Ok, Err, IfOk, IfErr, refl, sym, ap, subst, ◌∙◌}
use Rattle.tx_linebreak.specs.Chosen.{IsEnded}
use Rattle.tx_node.specs.Nodes.{list_of}
use Rattle.tx_par.specs.declared.error.ParError.{ParError}
use Rattle.tx_par.specs.declared.error.ParError.TheVariants.{OutOfMemory}
use Rattle.tx_par.specs.declared.lines.Lines.{Lines}
use Rattle.tx_par.specs.Pieces.{pieces_of}
use Rattle.tx_par.proofs.Causes.{finite, outcome-from, paragraph-from}
use Rattle.tx_par.proofs.Ends.{pieces-ended}
use Rattle.tx_par.proofs.set.paragraph.Goals as goal

pub breaks-requires-clause-ended : goal.breaks-requires-clause-ended
breaks-requires-clause-ended c = subst IsEnded (sym c.in_ok-pieces.ensures) (pieces-ended (list_of c.as_slice.result.now))

pub returns : goal.returns
returns c =
    let chosen = c.in_ok-chosen.chosen in
    let items_are = c.in_ok-end.ensures in
    let pieces_are = c.in_ok-pieces.ensures ∙ ap pieces_of c.as_slice.ensures in
    let fin = finite _ (Ok chosen) chosen refl c.in_ok-chosen.ensures.endless in
    let answer = c.in_ok-chosen.ensures.answer in
    let is = paragraph-from c.args.list c.args.shape.now c.args.params.now _ _ chosen items_are pieces_are fin answer in
    record {
      outcome = outcome-from c.args.list c.args.shape.now c.args.params.now _ _ chosen c.set.result items_are pieces_are fin answer c.set.ensures.set c.set.ensures.error c.set.ensures.cause;
      lines = subst (λ (o : Result Lines ParError). IfOk c.set.result (λ lines. o ≡ Ok lines)) is c.set.ensures.set;
      error = subst (λ (o : Result Lines ParError). IfErr c.set.result (λ e. e ≢ OutOfMemory → o ≡ Err e)) is c.set.ensures.error;
    }
