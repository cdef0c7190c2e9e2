use Rattle.std.proofs.Common.{◌≡◌, ◌≤◌, ◌+◌, drop, arith, sym, ap, ◌∙◌, ◌&&◌, ◌==◌, false}
use Rattle.tx_toklist.specs.Macros.{is_end}
use Rattle.tx_macro.specs.Arguments.{level, closes_last}
use Rattle.tx_macro.proofs.Groups.{closing-drop, no-close, level-bounds}
use Rattle.tx_macro.proofs.delimited.ends_at_last.Goals as goal

pub loop-place-preserved : goal.loop-place-preserved
loop-place-preserved c =
    let t = c.index-tokens-place.result in
    let h : (is_end t && c.loop-place.depth == 1) ≡ false = no-close t c.loop-place.depth c.ends_group.result c.ends_group.ensures c.else-ends_group.either in
    let b : (1 ≤ level c.loop-place.depth t) × (level c.loop-place.depth t ≤ c.loop-place.depth + 1) = level-bounds t c.loop-place.depth c.loop-place.invariant.some h in
    record {
      some = omega (arith, b.0, c.level_of-depth.ensures);
      within = omega (arith, b.1, c.level_of-depth.ensures, c.loop-place.invariant.within);
      left = c.loop-place.invariant.left ∙ closing-drop c.loop-place.depth c.loop-place.place t c.args.tokens.now c.loop-place-test.true c.index-tokens-place.is h ∙ ap (λ n. closes_last n (drop (c.loop-place.place + 1) c.args.tokens.now)) (sym c.level_of-depth.ensures);
    }
