use Rattle.std.specs.Prelude.{codes}
use Rattle.clap.specs.Words.{new_app}
use Rattle.tx_words.specs.Told.{IsTold}
use Rattle.tx_words.proofs.command.run_command.Goals as goal

pub returns : goal.returns
returns c =
    let begun : IsTold (new_app (codes "run")) c.new.result = record { told = c.new.ensures.app; local = c.new.ensures.local } in
    let dated = c.with_arg-dated.ensures _ _ c.required_option.ensures begun in
    let named = c.with_arg-named.ensures _ _ c.required_option-2.ensures dated in
    let scripted = c.with_arg-scripted.ensures _ _ c.option.ensures named in
    let bounded = c.with_arg-bounded.ensures _ _ c.option-2.ensures scripted in
    let paged = c.with_arg-paged.ensures _ _ c.option-3.ensures bounded in
    let keeping = c.with_arg-keeping.ensures _ _ c.option-4.ensures paged in
    c.with_arg.ensures _ _ c.files.ensures keeping
