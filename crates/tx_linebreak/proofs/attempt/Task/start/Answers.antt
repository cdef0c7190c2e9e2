use Rattle.std.proofs.Common.{◌^◌, ◌≤◌, ◌∙◌, ◌-ℤ◌, refl, sym, subst, w64, arith}
use Rattle.std.specs.Prelude.{unsigned_abs}
use Rattle.std.proofs.lemmas.Int.{to_z-of_z}
use Rattle.tx_linebreak.proofs.Summing.{back}
use Rattle.tx_linebreak.proofs.attempt.Task.start.Goals as goal

pub returns : goal.returns
returns c =
    let small = c.rest.ensures.small in
    record {
      first_is = c.first_place.ensures;
      goal_is =
          back c.rest.result _ (omega arith)
          (c.rest.ensures.value
          ∙ (λ i. to_z-of_z w64 c.line_width-width.result (record { sfits = c.line_width-width.type_inv }) i -ℤ to_z-of_z w64 c.begin_width-begin.result (record { sfits = c.begin_width-begin.type_inv }) i)
          ∙ (λ i. c.line_width-width.ensures i -ℤ c.begin_width-begin.ensures i));
      goal_in = subst (λ z. unsigned_abs z ≤ 2 ^ 65) (sym (back c.rest.result c.rest.result (omega arith) refl)) c.rest.ensures.small;
      hyphened_is = c.begins_hyphened.ensures;
    }
