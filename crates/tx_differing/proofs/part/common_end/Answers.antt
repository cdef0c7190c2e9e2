use Rattle.std.proofs.Common.{◌≡◌, ◌+◌, ◌<◌, length, drop, sym, ◌∙◌, arith}
use Rattle.std.specs.Prelude.{reverse}
use Rattle.std.proofs.lemmas.List.{length-reverse, get_or-reverse}
use Rattle.tx_differing.specs.Differing.{common}
use Rattle.tx_differing.proofs.Exchanged.{common-over, common-on, common-stops}
use Rattle.tx_differing.proofs.part.common_end.Goals as goal

pub returns-then-old-at-clause-count : goal.returns-then-old-at-clause-count
returns-then-old-at-clause-count c =
    let at = c.loop-at.at in
    let size_old = length-reverse c.args.old.now in
    let size_new = length-reverse c.args.new.now in
    let in_old : at < length c.args.old.now = omega (arith, c.min-most.ensures, c.loop-at-test.true) in
    let in_new : at < length c.args.new.now = omega (arith, c.min-most.ensures, c.loop-at-test.true) in
    sym (common-stops at (reverse c.args.old.now) (reverse c.args.new.now) (omega (arith, in_old, size_old)) (omega (arith, in_new, size_new))
    (λ same. c.if-old-at.true (sym (get_or-reverse c.args.old.now at 0 in_old) ∙ same ∙ get_or-reverse c.args.new.now at 0 in_new)))
    ∙ c.loop-at.invariant

pub loop-at-preserved : goal.loop-at-preserved
loop-at-preserved c =
    let at = c.loop-at.at in
    let size_old = length-reverse c.args.old.now in
    let size_new = length-reverse c.args.new.now in
    let in_old : at < length c.args.old.now = omega (arith, c.min-most.ensures, c.loop-at-test.true) in
    let in_new : at < length c.args.new.now = omega (arith, c.min-most.ensures, c.loop-at-test.true) in
    sym (common-on at (reverse c.args.old.now) (reverse c.args.new.now) (omega (arith, in_old, size_old)) (omega (arith, in_new, size_new))
    (get_or-reverse c.args.old.now at 0 in_old ∙ c.if-old-at.false ∙ sym (get_or-reverse c.args.new.now at 0 in_new)))
    ∙ c.loop-at.invariant

pub returns-clause-count : goal.returns-clause-count
returns-clause-count c =
    let at = c.loop-at.at in
    let size_old = length-reverse c.args.old.now in
    let size_new = length-reverse c.args.new.now in
    let over : at + common (drop at (reverse c.args.old.now)) (drop at (reverse c.args.new.now)) ≡ at =
    common-over at (reverse c.args.old.now) (reverse c.args.new.now) (omega (arith, size_old, size_new, c.min-most.ensures, c.loop-at-test.false)) in
    omega (arith, over, c.loop-at.invariant, c.loop-at.auto.at-end, c.loop-at-test.false)
