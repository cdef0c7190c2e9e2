use Rattle.std.proofs.Common.{◌≡◌, ◌∙◌, pos, get_or, rules, refl, to_z, of_z, w32, w64}
use Rattle.tx_paragraph.proofs.Told.{told-on}
use Rattle.tx_paragraph.proofs.shapes.told_lines.Goals as goal

pub loop-rest-preserved : goal.loop-rest-preserved
loop-rest-preserved c =
    let wide : to_z w64 (of_z w64 c.from.result) ≡ c.from.result = search rules in
    let wide-2 : to_z w64 (of_z w64 c.from-in-len2-up.result) ≡ c.from-in-len2-up.result = search rules in
    let same : to_z w32 (of_z w32 (get_or c.loop-rest.rest.now 0 (pos 0))) ≡ get_or c.loop-rest.rest.now 0 (pos 0) = search rules in
    let same-2 : to_z w32 (of_z w32 (get_or c.loop-rest.rest.now 1 (pos 0))) ≡ get_or c.loop-rest.rest.now 1 (pos 0) = search rules in
    told-on c.args.sizes.now c.loop-rest.rest.now c.loop-rest.lines.items _ _ _ _ refl c.in-len2-up.len_at_least (wide ∙ c.from.ensures ∙ same) (wide-2 ∙ c.from-in-len2-up.ensures ∙ same-2) c.in_ok-push.ensures.items c.loop-rest.invariant
