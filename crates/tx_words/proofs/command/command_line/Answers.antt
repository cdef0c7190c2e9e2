use Rattle.std.proofs.Common.{◌≡◌, ap, ◌∙◌}
use Rattle.std.proofs.lemmas.Result.{IfOk-weaker}
use Rattle.clap.specs.Words.{App, app_of, with_subcommand}
use Rattle.tx_words.specs.CommandLine.{run_command, gen_command, list_command, serve_command, run_line, gen_line, list_line, command_line}
use Rattle.tx_words.proofs.command.command_line.Goals as goal

pub returns : goal.returns
unfolding run_line gen_line list_line command_line
returns c =
    let running : app_of c.in_ok-running.running ≡ run_line = c.in_ok-running.ensures run_command c.run_command.ensures ∙ ap (λ (a : App). with_subcommand a run_command.top) c.without_commands.ensures in
    let making : app_of c.in_ok-making.making ≡ gen_line = c.in_ok-making.ensures gen_command c.gen_command.ensures ∙ ap (λ (a : App). with_subcommand a gen_command.top) running in
    let listing : app_of c.in_ok-listing.listing ≡ list_line = c.in_ok-listing.ensures list_command c.list_command.ensures ∙ ap (λ (a : App). with_subcommand a list_command.top) making in
    IfOk-weaker c.with_command-4.result _ _ (λ all is. is ∙ ap (λ (a : App). with_subcommand a serve_command.top) listing) (c.with_command-4.ensures serve_command c.serve_command.ensures)
