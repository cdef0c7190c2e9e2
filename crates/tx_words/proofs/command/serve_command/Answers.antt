use Rattle.std.specs.Prelude.{codes}
use Rattle.clap.specs.Words.{new_app}
use Rattle.tx_words.specs.Told.{IsTold}
use Rattle.tx_words.proofs.command.serve_command.Goals as goal

pub returns : goal.returns
returns c =
    let begun : IsTold (new_app (codes "serve")) c.new.result = record { told = c.new.ensures.app; local = c.new.ensures.local } in
    let dated = c.with_arg-dated.ensures _ _ c.required_option.ensures begun in
    let bounded = c.with_arg-bounded.ensures _ _ c.option.ensures dated in
    let paged = c.with_arg-paged.ensures _ _ c.option-2.ensures bounded in
    let keeping = c.with_arg-keeping.ensures _ _ c.option-3.ensures paged in
    c.with_arg.ensures _ _ c.files.ensures keeping
