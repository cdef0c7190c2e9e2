-- The movements behind z0.
use Rattle.std.proofs.Common.{◌≡◌, ◌<◌, ◌==◌, ℕ, false, nat_le, ℤ, refl, arith}
use Rattle.std.proofs.lemmas.Bool.Decides.{nat_tests}
use Rattle.tx_dvi.specs.declared.placed.Registers.{Registers}
use Rattle.tx_dvi.specs.Meaning.{down_by, moved}

pub moved-last : (opcode : ℕ) (size : ℤ) (r : Registers) → 166 < opcode → moved opcode size r ≡ down_by size (record r { z = size })
moved-last opcode size r past =
    let right : nat_le opcode 146 ≡ false = grind (arith, nat_tests) in
    let w0 : (opcode == 147) ≡ false = grind (arith, nat_tests) in
    let w : nat_le opcode 151 ≡ false = grind (arith, nat_tests) in
    let x0 : (opcode == 152) ≡ false = grind (arith, nat_tests) in
    let x : nat_le opcode 156 ≡ false = grind (arith, nat_tests) in
    let down : nat_le opcode 160 ≡ false = grind (arith, nat_tests) in
    let y0 : (opcode == 161) ≡ false = grind (arith, nat_tests) in
    let y : nat_le opcode 165 ≡ false = grind (arith, nat_tests) in
    let z0 : (opcode == 166) ≡ false = grind (arith, nat_tests) in
    rw (right, w0, w, x0, x, down, y0, y, z0) refl
