use Rattle.std.specs.Prelude.{codes}
use Rattle.clap.specs.Words.{new_app}
use Rattle.tx_words.specs.Told.{IsTold}
use Rattle.tx_words.proofs.command.list_command.Goals as goal

pub returns : goal.returns
returns c =
    let begun : IsTold (new_app (codes "list")) c.new.result = record { told = c.new.ensures.app; local = c.new.ensures.local } in
    c.with_arg.ensures _ _ c.word.ensures begun
