use Rattle.std.proofs.Common.{rules, ◌∙◌, List, fold, sym, ap}
use Rattle.std.proofs.lemmas.List.{drop_all}
use Rattle.tx_align.specs.declared.entry.Entry.{Entry}
use Rattle.tx_align.specs.Grouping.{put}
use Rattle.tx_align.proofs.Grouped.{all_put}
use Rattle.tx_align.proofs.grouping.endings.Goals as goal

pub returns : goal.returns
returns c =
    let none = drop_all c.loop-entry.entry-index c.args.entries.now (search rules) in
    ap (λ (more : List Entry). fold put c.loop-entry.groups.items more) (sym none) ∙ c.loop-entry.invariant ∙ all_put c.args.count c.args.entries.now
