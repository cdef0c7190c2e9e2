use Rattle.std.proofs.Common.{ℕ, ◌-◌, set, ap, ◌∙◌}
use Rattle.std.specs.Prelude.{reverse}
use Rattle.tx_cond.proofs.FromInside.{set-from_inside}
use Rattle.tx_cond.proofs.stack.put.Goals as goal

pub returns : goal.returns
returns c =
    ap (λ (n : ℕ). reverse (set c.args.conditionals.now (n - 1 - c.args.place) c.args.conditional)) c.len.ensures
    ∙ set-from_inside c.args.conditionals.now c.args.place c.args.conditional c.requires
