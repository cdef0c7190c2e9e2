use Rattle.std.proofs.Common.{◌∙◌, sym, refl}
use Rattle.tx_expand.proofs.Joining.{skip-taken, use-taken}
use Rattle.tx_expand.proofs.state.Expander.take_character.Goals as goal

pub returns-then-is_skipping : goal.returns-then-is_skipping
returns-then-is_skipping c = skip-taken c.args.self.now c.args.code c.args.category (sym c.is_skipping.ensures ∙ c.if-is_skipping.true)

pub returns : goal.returns
returns c = use-taken c.args.self.now (record c.args.self.now { begun = c.join_use.new.begun }) c.args.code c.args.category c.join_use.result refl refl c.join_use.ensures
