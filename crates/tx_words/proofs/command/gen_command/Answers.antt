use Rattle.std.specs.Prelude.{codes}
use Rattle.clap.specs.Words.{new_app}
use Rattle.tx_words.specs.Told.{IsTold}
use Rattle.tx_words.proofs.command.gen_command.Goals as goal

pub returns : goal.returns
returns c =
    let begun : IsTold (new_app (codes "gen")) c.new.result = record { told = c.new.ensures.app; local = c.new.ensures.local } in
    let seeded = c.with_arg-seeded.ensures _ _ c.word.ensures begun in
    c.with_arg.ensures _ _ c.word-2.ensures seeded
