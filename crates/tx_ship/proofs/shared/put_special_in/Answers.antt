use Rattle.std.proofs.Common.{◌++◌, ◌∙◌, refl, sym, ap, subst}
use Rattle.tx_ship.specs.declared.places.Cursor.{Cursor}
use Rattle.tx_ship.specs.Commands.{cursor_at, special_item}
use Rattle.tx_ship.specs.Within.{IsReader, point_lies}
use Rattle.tx_ship.proofs.shared.put_special_in.Goals as goal

pub returns-then-not-point_lies-clause-outside : goal.returns-then-not-point_lies-clause-outside
returns-then-not-point_lies-clause-outside c = λ _. (refl, ap point_lies (sym c.upright_point-at.ensures.value) ∙ sym c.if-not-point_lies.ensures.value)

pub returns-clause-lies : goal.returns-clause-lies
returns-clause-lies c = ap point_lies (sym c.upright_point-at.ensures.value) ∙ sym c.if-not-point_lies.ensures.value

pub returns-clause-commands : goal.returns-clause-commands
returns-clause-commands c =
    c.in_ok-put_special.ensures
    ∙ ap (λ (k : Cursor). c.args.body.now.items ++ (special_item c.args.cursor k c.args.text.now).0) (c.cursor_at-to.ensures ∙ ap cursor_at c.upright_point-at.ensures.value)

pub returns-clause-next : goal.returns-clause-next
returns-clause-next c = c.cursor_at-to.ensures ∙ ap cursor_at c.upright_point-at.ensures.value

pub cursor_at-to-requires : goal.cursor_at-to-requires
cursor_at-to-requires c = c.if-not-point_lies.ensures.facts refl

pub put_special-requires-clause-to : goal.put_special-requires-clause-to
put_special-requires-clause-to c = subst IsReader (sym c.cursor_at-to.ensures) (c.if-not-point_lies.ensures.facts refl)

pub returns-clause-still : goal.returns-clause-still
returns-clause-still c = subst IsReader (sym c.cursor_at-to.ensures) (c.if-not-point_lies.ensures.facts refl)
