use Rattle.std.proofs.Common.{◌≡◌, ◌∙◌}
use Rattle.std.proofs.lemmas.Result.{IfOk-weaker}
use Rattle.clap.specs.Words.{app_of}
use Rattle.tx_words.specs.CommandLine.{command_line}
use Rattle.tx_words.specs.Words.{texts}
use Rattle.tx_words.proofs.Reading.{nothing_wrong, wrong, asked_taken, asked_refused}
use Rattle.tx_words.proofs.words.read_call.Goals as goal

pub returns-in-Ok-clause-asked : goal.returns-in-Ok-clause-asked
returns-in-Ok-clause-asked c =
    let words = texts c.args.words.now in
    let is : app_of c.in_ok-command_line.field-0 ≡ command_line = c.in_ok-command_line.ensures in
    IfOk-weaker c.subcommand_asked.result _ _
    (λ a asks. asks ∙ asked_taken _ words c.in-Ok.matches is (nothing_wrong _ words is c.in-Ok.ensures.kinds) c.in-Ok.ensures.matches) c.subcommand_asked.ensures.asked

pub returns-in-Err-clause-asked : goal.returns-in-Err-clause-asked
returns-in-Err-clause-asked c =
    let words = texts c.args.words.now in
    let is : app_of c.in_ok-command_line.field-0 ≡ command_line = c.in_ok-command_line.ensures in
    asked_refused words c.kind.result (wrong _ words c.in-Err.error c.kind.result is c.kind.ensures c.in-Err.ensures.kinds) c.asked_instead.result
    c.asked_instead.ensures.memory c.asked_instead.ensures.asked
