use Rattle.std.proofs.Common.{◌∙◌, sym, subst, refl, to_z-of_z}
use Rattle.tx_num.specs.Decimals.{IsShortest}
use Rattle.tx_num.proofs.Shortest.{IsShortest-text, assembled}
use Rattle.tx_num.proofs.decimal.scaled_text.Goals as goal

pub returns-clause-text : goal.returns-clause-text
returns-clause-text c =
    let text = assembled _ _ _ _ _ _ _ _ c.new-text.ensures c.in_ok-push_sign.ensures c.in_ok-append.ensures.ok c.in_ok-push.ensures.ok c.in_ok-push_digits.ensures in
    let size = c.unsigned_abs-size.ensures.value in
    let back = to_z-of_z c.ranges.x in
    text ∙ rw (c.as_bytes.ensures.value, c.format.ensures.text, c.rounded_to.ensures.value, c.fewest_places-places.ensures.value, size, back) refl

pub returns-clause-shortest : goal.returns-clause-shortest
returns-clause-shortest c = subst (IsShortest c.args.x) (sym (returns-clause-text c)) (IsShortest-text c.args.x)
