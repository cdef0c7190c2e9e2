use Rattle.std.proofs.Common.{◌≡◌, ◌∙◌, List, ap, refl, sym}
use Rattle.tx_pending.specs.Elements.{given_back}
use Rattle.tx_seen.specs.declared.item.Item.{Item}
use Rattle.tx_seen.specs.Readings.{Done, last}
use Rattle.tx_command.specs.Taken.{joined}
use Rattle.tx_command.specs.Begun.{Begun}
use Rattle.tx_command.specs.Rests.{whole_command}
use Rattle.tx_command.specs.declared.scans.Scans.{Scans}
use Rattle.tx_command.specs.declared.types.Command.{Command}
use Rattle.tx_char.specs.declared.tokens.Token.{Token}
use Rattle.tx_command.proofs.taking.CommandScan.feed.Goals as goal

pub returns-in-Ok-More : goal.returns-in-Ok-More
returns-in-Ok-More g c =
    let settled = rw c.in-Ok-More.field-0-is at c.in-Ok-More.ensures.settled in
    let begun : List Item → Begun = λ taken. record { mode = c.self.inside.mode; head = c.self.inside.head; taken = taken } in
    rw (← c.self.view_is) ((c.in-Ok-More.want, rw settled.0 at settled.1.wants), (ap begun settled.0, refl))

pub returns-in_ok-given-in-Ok-Done : goal.returns-in_ok-given-in-Ok-Done
returns-in_ok-given-in-Ok-Done g c =
    let settled = rw c.in-Ok-Done.field-0-is at c.in-Ok-Done.ensures.settled in
    let items : List Item = joined (g.Q.Quantities.value_at c.args.quantities.now) c.self.inside.mode c.self.inside.head c.self.inside.taken c.args.token in
    let begun : List Item → Begun = λ taken. record { mode = c.self.inside.mode; head = c.self.inside.head; taken = taken } in
    let made : c.take_whole.new.made ≡ whole_command c.take-fed.new.scans c.take-fed.new.made c.in-Ok-Done.whole =
    c.take_whole.ensures ∙ ap (λ (scans : Scans). whole_command scans c.take-fed.new.made c.in-Ok-Done.whole) c.deref_mut-in-Ok-Done.ensures.value in
    rw (← c.self.view_is) (
      last c.in-Ok-Done.back items,
      (settled.0 ∙ ap (λ (made : Command). Done made (last c.in-Ok-Done.back items)) (sym made), (ap begun c.begin_next.ensures.taken, c.in_ok-given-in-Ok-Done.ensures.given ∙ ap (λ (tokens : List Token). given_back c.args.input.now tokens) settled.1)),
    )

pub returns-in-Ok-Wrong : goal.returns-in-Ok-Wrong
returns-in-Ok-Wrong g c = rw (← c.self.view_is) (rw c.in-Ok-Wrong.field-0-is at c.in-Ok-Wrong.ensures.settled)
