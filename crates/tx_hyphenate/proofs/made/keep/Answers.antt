use Rattle.std.proofs.lemmas.Result.{on_ok_weaker}
use Rattle.tx_hyphenate.proofs.Parting.{kept-more}
use Rattle.tx_hyphenate.proofs.made.keep.Goals as goal

pub returns : goal.returns
returns c = on_ok_weaker c.append.result (λ e. kept-more c.args.made.now c.args.items c.append.new.self e.0) c.append.ensures.ok
