use Rattle.std.proofs.Common.{◌≡◌, ◌-◌, length, ap, ◌∙◌, rules}
use Rattle.tx_quiesce.proofs.Spliced.{overwritten-so, spliced-so}
use Rattle.tx_quiesce.proofs.splice.reuse_items.Goals as goal
use Rattle.tx_quiesce.proofs.splice.reuse_items.Goals.{then-len-from, else-len-from}

pub returns : goal.returns
returns g c = elim c.if-len-from.branch [
  | then-len-from w ↦
      let size : length c.args.middle.items ≡ c.args.from - c.args.kept = search (rules, w.if-len-from.true, c.len.ensures) in
      overwritten-so c.args.items.now.items c.args.middle.items c.args.later.items c.args.kept c.args.from c.args.count c.requires.order (search (rules, c.requires.within)) size
      c.truncate.ensures.items (ap (λ v. v.items) w.items-is ∙ w.overwrite_items.ensures.items) c.append_within-2.ensures.items
  | else-len-from w ↦
      spliced-so c.args.items.now.items c.args.middle.items c.args.later.items c.args.kept c.args.from c.args.count c.requires.order (search (rules, c.requires.within))
      c.truncate.ensures.items w.rotate_items.ensures.items w.truncate-else-len-from.ensures.items w.append_within.ensures.items (ap (λ v. v.items) w.items-is ∙ w.rotate_items-else-len-from.ensures.items) c.append_within-2.ensures.items
]
