use Rattle.std.proofs.Common.{sym, arith}
use Rattle.tx_tfm.specs.Rules.{all_recipes_fit}
use Rattle.tx_tfm.proofs.Every.{every-fails}
use Rattle.tx_tfm.proofs.file.Tfm.all_recipes_fit.Goals as goal

pub returns-then-not-recipe_fits : goal.returns-then-not-recipe_fits
unfolding all_recipes_fit
returns-then-not-recipe_fits c = sym (every-fails (c.args.self.now.lengths.recipes) c.loop-k.k _ (omega arith) (sym c.if-not-recipe_fits.ensures))
