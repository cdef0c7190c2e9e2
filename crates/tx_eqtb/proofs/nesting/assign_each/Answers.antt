use Rattle.std.proofs.Common.{◌≡◌, rules, ap, ◌∙◌, get_or, set}
use Rattle.std.proofs.lemmas.List.Edits.{map_over_more}
use Rattle.tx_eqtb.specs.declared.entry.Entry.{Entry}
use Rattle.tx_eqtb.specs.declared.groups.Group.{Group}
use Rattle.tx_eqtb.specs.declared.table.Table.{Table}
use Rattle.tx_eqtb.specs.Stack.{assigned_outside}
use Rattle.tx_eqtb.specs.Table.{with_entry}
use Rattle.tx_eqtb.proofs.nesting.assign_each.Goals as goal

pub loop-k-preserved : goal.loop-k-preserved
loop-k-preserved c =
    let before : Group = get_or c.loop-k.groups c.loop-k.k c.index-groups-k.result in
    let same : c.in_ok-entry.entry ≡ c.args.value.now = search rules in
    ap (λ (t : Table). set c.loop-k.groups c.loop-k.k (record before { outside = t })) (c.in_ok-set.ensures ∙ ap (λ (e : Entry). with_entry c.args.level before.outside c.args.place.now e) same)
    ∙ map_over_more (assigned_outside c.args.level c.args.place.now c.args.value.now) _ _ _ before c.loop-k-test.true c.loop-k.invariant (ap (get_or c.loop-k.groups c.loop-k.k) c.index-groups-k.is)
