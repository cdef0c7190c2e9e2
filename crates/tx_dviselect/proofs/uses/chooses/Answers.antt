use Rattle.std.proofs.Common.{◌≡◌, ◌+◌, ◌-◌, ◌≤◌, take, drop, sym, subst, ◌∙◌, arith}
use Rattle.tx_dviselect.specs.Uses.{chooses, chooses_from}
use Rattle.tx_dviselect.proofs.Choosing.{wanting-on, choice-on, other-on, chooses-over}
use Rattle.tx_dviselect.proofs.uses.chooses.Goals as goal
use Rattle.tx_dviselect.proofs.uses.chooses.Goals.{then-not-is_wanting+else-is_choice, else-not-is_wanting}

pub returns-then-is_choice : goal.returns-then-is_choice
returns-then-is_choice c =
    sym (choice-on c.args.number c.args.body.now c.loop-at.start c.loop-at.at c.loop-at.invariant.0 c.loop-at-test.true (sym c.is_wanting.ensures ∙ c.if-not-is_wanting.true) (sym c.is_choice.ensures ∙ c.if-is_choice.true))
    ∙ c.loop-at.invariant.1

pub loop-at-preserved : goal.loop-at-preserved
loop-at-preserved c =
    let number = c.args.number in
    let body = c.args.body.now in
    let at = c.loop-at.at in
    elim c.if-not-is_wanting.branch [
      | then-not-is_wanting+else-is_choice w ↦
          subst (λ n. (n ≤ at + 1) × (chooses_from number (take (at + 1 - n) (drop n body)) (drop (at + 1) body) ≡ chooses number body)) (sym w.start-is)
          (omega arith, sym (other-on number body c.loop-at.start at c.loop-at.invariant.0 c.loop-at-test.true (sym c.is_wanting.ensures ∙ w.if-not-is_wanting.true) (sym w.is_choice.ensures ∙ w.if-is_choice.false)) ∙ c.loop-at.invariant.1)
      | else-not-is_wanting w ↦
          subst (λ n. (n ≤ at + 1) × (chooses_from number (take (at + 1 - n) (drop n body)) (drop (at + 1) body) ≡ chooses number body)) (sym w.start-is)
          (omega (arith, c.loop-at.invariant.0), sym (wanting-on number body c.loop-at.start at c.loop-at.invariant.0 c.loop-at-test.true (sym c.is_wanting.ensures ∙ w.if-not-is_wanting.false)) ∙ c.loop-at.invariant.1)
    ]

pub returns : goal.returns
returns c = sym (chooses-over c.args.number c.args.body.now c.loop-at.start c.loop-at.at (omega (arith, c.loop-at-test.false))) ∙ c.loop-at.invariant.1
