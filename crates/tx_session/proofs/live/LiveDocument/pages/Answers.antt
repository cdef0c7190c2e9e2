use Rattle.std.proofs.Common.{length, length-append, sym, ap, ◌∙◌}
use Rattle.tx_session.proofs.live.LiveDocument.pages.Goals as goal

pub returns : goal.returns
returns g c = sym (length-append c.shown.result.0.now c.shown.result.1.now) ∙ ap length c.shown.ensures
