use Rattle.std.proofs.Common.{◌∙◌, ℕ, pos, ◌-ℤ◌, ap}
use Rattle.std.proofs.lemmas.Int.{to_z-of_z}
use mir.Syntax.{w128}
use Rattle.tx_linebreak.proofs.told.told.Goals as goal

pub returns : goal.returns
returns c = λ i. record {
  chain = c.in_ok-chain.ensures.places i;
  total = (to_z-of_z w128 c.total.result (record { sfits = c.total.type_inv }) ∙ c.total.ensures.value) i;
  pass = c.number.ensures i;
  forced = c.in_ok-chain.ensures.forced i;
  looseness = (to_z-of_z w128 c.more_lines.result (record { sfits = c.more_lines.type_inv }) ∙ c.more_lines.ensures ∙ ap (λ (n : ℕ). pos n -ℤ pos c.args.found.now.best) c.requires.lines) i;
}
