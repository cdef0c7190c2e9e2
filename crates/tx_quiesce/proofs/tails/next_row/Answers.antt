use Rattle.std.proofs.Common.{◌≡◌, ◌+◌, true, false, suc, drop, nat_eq, sym, ap, ◌∙◌, arith}
use Rattle.std.proofs.lemmas.Bool.{eq-eqb}
use Rattle.tx_checkpoint.specs.declared.row.Row.{Row}
use Rattle.tx_quiesce.specs.Tails.{innermost_offset, offsets_of, unequal}
use Rattle.tx_quiesce.proofs.Candidates.{skip-here, skip-on, differ}
use Rattle.tx_quiesce.proofs.tails.next_row.Goals as goal

pub returns-then-old-origin : goal.returns-then-old-origin
returns-then-old-origin g c =
    let fits : nat_eq (innermost_offset c.index-rows-at.result.opens) c.args.origin ≡ true =
    ap (λ (r : Row g.row.S.Denot). nat_eq (innermost_offset r.opens) c.args.origin) c.index-rows-at.is ∙ ap (λ n. nat_eq n c.args.origin) (sym c.innermost_offset-old.ensures) ∙ eq-eqb c.innermost_offset-old.result c.args.origin c.if-old-origin.true in
    let none : unequal c.args.origin (drop c.loop-at.at (offsets_of c.args.rows.now)) ≡ 0 =
    skip-here c.args.origin c.loop-at.at c.args.rows.now c.index-rows-at.result c.loop-at-test.true c.index-rows-at.is fits in
    omega (arith, none, c.loop-at.invariant)

pub loop-at-preserved : goal.loop-at-preserved
loop-at-preserved g c =
    let other : nat_eq (innermost_offset c.index-rows-at.result.opens) c.args.origin ≡ false =
    ap (λ (r : Row g.row.S.Denot). nat_eq (innermost_offset r.opens) c.args.origin) c.index-rows-at.is ∙ ap (λ n. nat_eq n c.args.origin) (sym c.innermost_offset-old.ensures) ∙ differ c.innermost_offset-old.result c.args.origin c.if-old-origin.false in
    let next : suc c.loop-at.at ≡ c.loop-at.at + 1 = omega arith in
    let more : unequal c.args.origin (drop c.loop-at.at (offsets_of c.args.rows.now)) ≡ 1 + unequal c.args.origin (drop (c.loop-at.at + 1) (offsets_of c.args.rows.now)) =
    skip-on c.args.origin c.loop-at.at c.args.rows.now c.index-rows-at.result c.loop-at-test.true c.index-rows-at.is other ∙ ap (λ n. 1 + unequal c.args.origin (drop n (offsets_of c.args.rows.now))) next in
    omega (arith, more, c.loop-at.invariant)
