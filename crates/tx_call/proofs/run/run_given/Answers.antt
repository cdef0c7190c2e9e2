use Rattle.std.proofs.Common.{List, Option, subst}
use Rattle.std.specs.FinMap.{empty}
use Rattle.tx_bytes.specs.Files.{Files}
use Rattle.tx_script.specs.declared.command.Command.{Command}
use Rattle.tx_call.specs.Outcome.{run_outcome, with_listed, ForHeld}
use Rattle.tx_call.specs.Scripts.{Reads, Read, Unread}
use Rattle.tx_call.specs.Trouble.{Does}
use Rattle.tx_call.specs.declared.scripted.Scripted.{Scripted}
use Rattle.tx_call.specs.declared.scripted.Scripted.TheVariants.{Plays, Refused}
use Rattle.tx_call.proofs.Held.{for_any, does_nothing}
use Rattle.tx_call.proofs.run.run_given.Goals as goal

pub returns-in_err-script-clause-does : goal.returns-in_err-script-clause-does
returns-in_err-script-clause-does g c = Unread (λ scripted. for_any _ (λ held. does_nothing c.from_residual.result c.in_err-script.field-0.0 c.from_residual.ensures.1 _ _ _))

pub returns-in-Plays-clause-does : goal.returns-in-Plays-clause-does
returns-in-Plays-clause-does g c =
    Read (Plays c.in-Plays.script) (subst (λ (s : Scripted). Reads (g.S.Source.holds c.args.source.now) c.args.given.now.script s) c.in-Plays.is c.in_ok-script.ensures.read)
    (subst (λ (holds : Option Files). ForHeld holds (λ held. Does c.run_script.result (run_outcome g.M.Machine.formatter c.args.given.now (with_listed held empty c.args.given.now.files) c.in-Plays.script) (g.K.Sink.output c.args.sink.now) (g.K.Sink.output c.run_script.new.sink) c.args.steps.now c.run_script.new.steps)) c.in_ok-script.ensures.holds
    (subst (λ (commands : List Command). ForHeld (g.S.Source.holds c.fetch_script.new.source) (λ held. Does c.run_script.result (run_outcome g.M.Machine.formatter c.args.given.now (with_listed held empty c.args.given.now.files) commands) (g.K.Sink.output c.args.sink.now) (g.K.Sink.output c.run_script.new.sink) c.args.steps.now c.run_script.new.steps)) c.as_slice.ensures c.run_script.ensures.does))

pub returns-in-Refused-clause-does : goal.returns-in-Refused-clause-does
returns-in-Refused-clause-does g c =
    Read (Refused c.in-Refused.place c.in-Refused.rule) (subst (λ (s : Scripted). Reads (g.S.Source.holds c.args.source.now) c.args.given.now.script s) c.in-Refused.is c.in_ok-script.ensures.read)
    (for_any _ (λ held. c.refuse_script.ensures.does c.args.steps.now))
