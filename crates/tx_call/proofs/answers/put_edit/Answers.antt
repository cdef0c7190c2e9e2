use Rattle.std.proofs.Common.{List, false, ap, subst, sym, ◌∙◌}
use Rattle.tx_files.specs.declared.edit.Change.{Change}
use Rattle.tx_call.specs.Answers.{changes_of, most_changes}
use Rattle.tx_call.specs.Sitting.{Goes, edit_effect}
use Rattle.tx_call.specs.Tally.{sitting}
use Rattle.tx_call.proofs.answers.put_edit.Goals as goal

pub returns-in-Some-clause-goes : goal.returns-in-Some-clause-goes
returns-in-Some-clause-goes g c =
    subst (λ (changes : List Change). Goes c.make_changes.result (edit_effect g.M.Machine.formatter most_changes (sitting c.args.live.now c.args.tally.now) false changes) (sitting c.args.live.now c.args.tally.now)
    (sitting c.make_changes.new.document c.make_changes.new.tally) (g.K.Sink.output c.args.sink.now) (g.K.Sink.output c.make_changes.new.sink) c.args.steps.now c.make_changes.new.steps)
    (c.from_ref-changes.ensures.value ∙ ap changes_of (sym c.in-Some.is)) c.make_changes.ensures.goes

pub returns-in-None-clause-goes : goal.returns-in-None-clause-goes
returns-in-None-clause-goes g c =
    subst (λ (changes : List Change). Goes c.make_changes-in-None.result (edit_effect g.M.Machine.formatter most_changes (sitting c.args.live.now c.args.tally.now) false changes) (sitting c.args.live.now c.args.tally.now)
    (sitting c.make_changes-in-None.new.document c.make_changes-in-None.new.tally) (g.K.Sink.output c.args.sink.now) (g.K.Sink.output c.make_changes-in-None.new.sink) c.args.steps.now c.make_changes-in-None.new.steps)
    (c.as_slice.ensures.value ∙ c.new-none.ensures.items ∙ ap changes_of (sym c.in-None.is)) c.make_changes-in-None.ensures.goes
