use Rattle.std.proofs.Common.{sym}
use Rattle.std.proofs.lemmas.Result.{on_ok_weaker}
use Rattle.tx_word.proofs.Fronts.{with-word}
use Rattle.tx_word.proofs.word.append_word.Goals as goal

pub returns-in-Some-clause-made : goal.returns-in-Some-clause-made
returns-in-Some-clause-made c =
    on_ok_weaker c.append_some.result
    (λ value. with-word c.args.fonts.now c.args.font c.in-Some.named.now c.args.hyphen (sym c.in-Some.ensures.found) c.is_sound.ensures c.args.chars.now c.args.left c.args.right c.args.list.now c.append_some.new.list c.requires value)
    c.append_some.ensures
