use Rattle.std.proofs.Common.{◌∙◌, List, ap, refl}
use Rattle.tx_char.specs.declared.tokens.Token.{Token}
use Rattle.tx_pending.specs.Elements.{given_back}
use Rattle.tx_seen.specs.declared.item.Item.{Item}
use Rattle.tx_seen.specs.Readings.{last}
use Rattle.tx_expand.specs.Scans.{Scan}
use Rattle.tx_expand.specs.Turns.{joined}
use Rattle.tx_expand.proofs.scanning.Scanning.feed.Goals as goal

pub returns-in-Ok-More : goal.returns-in-Ok-More
returns-in-Ok-More g c =
    let settled = rw c.in-Ok-More.field-0-is at c.in-Ok-More.ensures in
    let scan : List Item → Scan = λ taken. record { what = c.self.inside.what; taken = taken } in
    rw (← c.self.view_is) ((c.in-Ok-More.want, rw settled.0 at settled.1.wants), (ap scan settled.0, refl))

pub returns-in_ok-given-in-Ok-Done : goal.returns-in_ok-given-in-Ok-Done
returns-in_ok-given-in-Ok-Done g c =
    let settled = rw c.in-Ok-Done.field-0-is at c.in-Ok-Done.ensures in
    let items : List Item = joined (g.Q.Quantities.value_at c.args.quantities.now) (record { what = c.self.inside.what; taken = c.self.inside.taken }) c.args.token in
    rw (← c.self.view_is) (
      last c.in-Ok-Done.back items,
      (settled.0, c.in_ok-given-in-Ok-Done.ensures ∙ ap (λ (tokens : List Token). given_back c.args.input.now tokens) settled.1),
    )

pub returns-in-Ok-Wrong : goal.returns-in-Ok-Wrong
returns-in-Ok-Wrong g c = rw (← c.self.view_is) (rw c.in-Ok-Wrong.field-0-is at c.in-Ok-Wrong.ensures)
