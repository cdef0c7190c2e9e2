use Rattle.std.proofs.Common.{ℤ, ◌∷◌, ap, arith, drop, length, refl, sym, take, w64, ◌∙◌}
use Rattle.std.specs.Prelude.{reverse}
use Rattle.std.proofs.Math.ListN.{length-set}
use Rattle.std.proofs.lemmas.Int.{to_z-of_z}
use Rattle.std.proofs.lemmas.List.{length-reverse, take-set}
use Rattle.tx_cond.specs.Conditionals.{decide}
use Rattle.tx_cond.proofs.Decided.{place-within, settles, settles-none}
use Rattle.tx_cond.proofs.stack.settle.Goals as goal

pub returns-in-Some : goal.returns-in-Some
returns-in-Some c =
    let xs = reverse c.args.conditionals.now in
    let is = sym c.open_at.ensures ∙ c.in-Some.is in
    let test = c.requires (omega (arith, place-within xs c.args.place c.in-Some.conditional is, length-reverse c.args.conditionals.now)) in
    let passed = to_z-of_z w64 c.args.branch c.ranges.branch in
    record {
      inner = ap (take c.args.place) c.put.ensures ∙ take-set xs c.args.place c.settled.result;
      outer = ap (drop c.args.place) c.put.ensures ∙ settles c.args.branch xs c.args.place c.in-Some.conditional c.settled.result is test (λ tests outer. ap (λ (b : ℤ). decide b (c.in-Some.conditional ∷ outer)) (sym passed) ∙ c.settled.ensures tests outer);
      long = omega (arith, length-reverse c.put.new.conditionals, length-reverse c.args.conditionals.now, ap length c.put.ensures, length-set xs c.args.place c.settled.result);
    }

pub returns-in-None : goal.returns-in-None
returns-in-None c = record {
  inner = refl;
  outer = settles-none c.args.branch (reverse c.args.conditionals.now) c.args.place (sym c.open_at.ensures ∙ c.in-None.is);
  long = refl;
}
