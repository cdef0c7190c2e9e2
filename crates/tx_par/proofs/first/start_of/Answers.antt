use Rattle.std.proofs.Common.{◌≡◌, ◌≤◌, ℕ, ◌+◌, suc, min, ap, ◌∙◌, arith}
use Rattle.tx_linebreak.specs.Breaks.{past_discardables}
use Rattle.tx_par.proofs.Firsts.{start-by, start-over}
use Rattle.tx_par.proofs.first.start_of.Goals as goal

pub returns-then-place-end : goal.returns-then-place-end
returns-then-place-end c = let over : c.args.end ≤ c.args.place = omega arith in start-over c.args.pieces.now c.args.place c.args.end over

pub returns-in-Some : goal.returns-in-Some
returns-in-Some c = c.past_discretionary.ensures ∙ start-by c.args.pieces.now c.args.place c.args.end _ c.in-Some.ensures

pub returns-in-None : goal.returns-in-None
returns-in-None c =
    let next : c.args.place + 1 ≡ suc c.args.place = omega arith in
    c.past_discardables.ensures ∙ ap (λ (k : ℕ). min (past_discardables c.args.pieces.now k) c.args.end) next ∙ start-by c.args.pieces.now c.args.place c.args.end _ c.in-None.ensures
