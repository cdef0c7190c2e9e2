use Rattle.std.proofs.Common.{rules, arith, ◌≡◌, ◌<◌, ℤ, sym, subst, w64, to_z, of_z, to_z-of_z}
use Rattle.tx_dvi.specs.declared.placed.Registers.{Registers}
use Rattle.tx_dvi.specs.Meaning.{right_by, down_by}
use Rattle.tx_dvitype.specs.Partial.{IsKept}
use Rattle.std.proofs.lemmas.Bool.Decides.{nat_tests}
use Rattle.tx_dvitype.proofs.Moves.{moved-last}
use Rattle.tx_dvitype.proofs.movement.moved.Goals as goal

pub returns-then-opcode-le151 : goal.returns-then-opcode-le151
returns-then-opcode-le151 c =
    let same : to_z w64 (of_z w64 c.args.size) ≡ c.args.size = to_z-of_z c.ranges.size in
    let kept : IsKept c.right_by-then-opcode-le151.result (right_by c.args.size (record c.args.now { w = c.args.size }))
    = subst (λ (z : ℤ). IsKept c.right_by-then-opcode-le151.result (right_by z (record c.args.now { w = z }))) same
    (subst (λ (r : Registers). IsKept c.right_by-then-opcode-le151.result (right_by (to_z w64 (of_z w64 c.args.size)) r)) c.with_w.ensures c.right_by-then-opcode-le151.ensures) in
    search rules

pub returns-then-opcode-le156 : goal.returns-then-opcode-le156
returns-then-opcode-le156 c =
    let same : to_z w64 (of_z w64 c.args.size) ≡ c.args.size = to_z-of_z c.ranges.size in
    let kept : IsKept c.right_by-then-opcode-le156.result (right_by c.args.size (record c.args.now { x = c.args.size }))
    = subst (λ (z : ℤ). IsKept c.right_by-then-opcode-le156.result (right_by z (record c.args.now { x = z }))) same
    (subst (λ (r : Registers). IsKept c.right_by-then-opcode-le156.result (right_by (to_z w64 (of_z w64 c.args.size)) r)) c.with_x.ensures c.right_by-then-opcode-le156.ensures) in
    search rules

pub returns-then-opcode-le165 : goal.returns-then-opcode-le165
returns-then-opcode-le165 c =
    let same : to_z w64 (of_z w64 c.args.size) ≡ c.args.size = to_z-of_z c.ranges.size in
    let kept : IsKept c.down_by-then-opcode-le165.result (down_by c.args.size (record c.args.now { y = c.args.size }))
    = subst (λ (z : ℤ). IsKept c.down_by-then-opcode-le165.result (down_by z (record c.args.now { y = z }))) same
    (subst (λ (r : Registers). IsKept c.down_by-then-opcode-le165.result (down_by (to_z w64 (of_z w64 c.args.size)) r)) c.with_y.ensures c.down_by-then-opcode-le165.ensures) in
    search rules

pub returns-else-opcode-eq166 : goal.returns-else-opcode-eq166
returns-else-opcode-eq166 c =
    let same : to_z w64 (of_z w64 c.args.size) ≡ c.args.size = to_z-of_z c.ranges.size in
    let kept : IsKept c.down_by-else-opcode-eq166.result (down_by c.args.size (record c.args.now { z = c.args.size }))
    = subst (λ (z : ℤ). IsKept c.down_by-else-opcode-eq166.result (down_by z (record c.args.now { z = z }))) same
    (subst (λ (r : Registers). IsKept c.down_by-else-opcode-eq166.result (down_by (to_z w64 (of_z w64 c.args.size)) r)) c.with_z.ensures c.down_by-else-opcode-eq166.ensures) in
    let past : 166 < c.args.opcode = grind (arith, nat_tests) in
    subst (λ (r : Registers). IsKept c.down_by-else-opcode-eq166.result r) (sym (moved-last c.args.opcode c.args.size c.args.now past)) kept
