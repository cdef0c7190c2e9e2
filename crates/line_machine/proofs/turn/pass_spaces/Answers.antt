use Rattle.std.proofs.Common.{ap, sym, ◌∙◌, refl, drop}
use Rattle.std.proofs.lemmas.List.{take_rest}
use Rattle.line_machine.proofs.Spaces.{passed-plain, behind, on-err}
use Rattle.line_machine.proofs.turn.pass_spaces.Goals as goal

pub returns-in_err-rest-clause-bound : goal.returns-in_err-rest-clause-bound
returns-in_err-rest-clause-bound c = on-err c.from_residual.result (record {
  count = c.count_spaces-count.result;
  to = behind c.args.s.now.date (drop c.count_spaces-count.result c.as_slice.result.now);
  within = c.count_spaces-count.ensures.most;
  turns = passed-plain c.args.s.now c.in-Reads.text c.as_slice.result.now _ _ c.in-Reads.is c.as_slice.ensures c.count_spaces-count.ensures.spaces refl;
  steps = c.count_spaces-count.ensures.steps;
})

pub returns-clause-turns : goal.returns-clause-turns
returns-clause-turns c =
    passed-plain c.args.s.now c.in-Reads.text c.as_slice.result.now _ _ c.in-Reads.is c.as_slice.ensures c.count_spaces-count.ensures.spaces
    (c.in_ok-rest.ensures ∙ take_rest c.as_slice-2.result.now c.count_spaces-count.result ∙ ap (drop c.count_spaces-count.result) (c.as_slice-2.ensures ∙ sym c.as_slice.ensures))
