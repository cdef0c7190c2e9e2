use Rattle.std.proofs.Common.{rules, ◌≡◌, ◌∙◌, ap, subst}
use Rattle.tx_node.specs.declared.head.Setting.{Setting}
use Rattle.tx_node.specs.Setting.{IsSet}
use Rattle.tx_align.specs.Prototypes.{placed, prototype}
use Rattle.tx_align.proofs.Fits.{has_fits, is_prototype}
use Rattle.tx_align.proofs.placing.made_of.Goals as goal

pub placed-requires-clause-sums : goal.placed-requires-clause-sums
placed-requires-clause-sums c =
    has_fits c.setting-setting.result (prototype c.args.first.now c.args.columns.now) c.setting-setting.ensures.is_set c.requires

pub returns-clause-is : goal.returns-clause-is
returns-clause-is c =
    let same : c.setting-setting.result ≡ c.head-head.result.setting = search rules in
    let is_set : IsSet c.head-head.result.setting = subst (λ (s : Setting). IsSet s) same c.setting-setting.ensures.is_set in
    is_prototype c.head-head.result c.args.first.now c.args.columns.now c.in_ok-moved_columns.moved_columns is_set
    (has_fits c.head-head.result.setting (prototype c.args.first.now c.args.columns.now) is_set c.requires)
    (c.in_ok-moved_columns.ensures ∙ ap (λ (s : Setting). placed s c.args.first.now c.args.columns.now) same)
