use Rattle.std.proofs.Common.{◌≡◌, ◌∙◌, ℕ, false, true, sym, subst}
use Rattle.std.specs.Prelude.{All}
use Rattle.tx_linebreak.specs.Chosen.{is_between, is_preferred}
use Rattle.tx_linebreak.specs.Shared.{chain_of}
use Rattle.tx_linebreak.specs.Tasks.{attempt_of}
use Rattle.tx_linebreak.proofs.Asking.{asked-of-all, best-asked}
use Rattle.tx_linebreak.proofs.attempt.Task.asked.Goals as goal

pub returns-then-asks_nothing-clause-asked : goal.returns-then-asks_nothing-clause-asked
returns-then-asks_nothing-clause-asked c =
    best-asked (attempt_of c.args.self.now) (chain_of c.args.chains.now c.args.best.now) (sym c.asks_nothing.ensures ∙ c.if-asks_nothing.true) c.requires.best

pub returns-clause-asked : goal.returns-clause-asked
returns-clause-asked c =
    let chains = c.args.chains.now in
    let best = c.args.best.now in
    let chosen = c.preferred.result in
    asked-of-all (attempt_of c.args.self.now) chains c.args.links.now best chosen c.requires.some (sym c.asks_nothing.ensures ∙ c.if-asks_nothing.false) c.requires.chains
    c.preferred.ensures.among
    (subst (λ (asked : ℕ). is_between best.line.number asked chosen.line.number ≡ true) c.lines_asked-asked.ensures c.preferred.ensures.between)
    (subst (λ (asked : ℕ). All (λ link. is_preferred asked (chain_of chains link) (chain_of chains chosen) ≡ false) c.args.links.now) c.lines_asked-asked.ensures c.preferred.ensures.unpreferred)
