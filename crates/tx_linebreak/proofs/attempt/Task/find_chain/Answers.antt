use Rattle.std.proofs.Common.{◌≡◌, ◌∙◌, false, map, sym, ap, subst}
use Rattle.std.specs.Prelude.{All, Contains}
use Rattle.tx_linebreak.specs.Chosen.{beats}
use Rattle.tx_linebreak.specs.Shared.{IsFound, chain_of}
use Rattle.tx_linebreak.specs.Tasks.{attempt_of}
use Rattle.tx_linebreak.proofs.Choosing.{best-of-all, emptied, found-behind, none-of-all, not-none}
use Rattle.tx_linebreak.proofs.attempt.Task.find_chain.Goals as goal

pub returns-then-is_empty-clause-none : goal.returns-then-is_empty-clause-none
returns-then-is_empty-clause-none c = none-of-all (attempt_of c.args.self.now) c.ends.new.chains c.in_ok-links.links.items c.in_ok-links.ensures.chains (emptied c.in_ok-links.links.items c.in_ok-links.links.len c.in_ok-links.links.ok.0 c.if-is_empty.ensures)

pub returns-then-is_empty-clause-last : goal.returns-then-is_empty-clause-last
returns-then-is_empty-clause-last c = λ last. absurd (not-none (attempt_of c.args.self.now) c.ends.new.chains c.in_ok-links.links.items c.requires.ended last c.in_ok-links.ensures.chains (emptied c.in_ok-links.links.items c.in_ok-links.links.len c.in_ok-links.links.ok.0 c.if-is_empty.ensures))

pub asked-asked-requires-clause-chains : goal.asked-asked-requires-clause-chains
asked-asked-requires-clause-chains c = ap (map (chain_of c.ends.new.chains)) c.as_slice-list.ensures.value ∙ c.in_ok-links.ensures.chains

pub asked-asked-requires-clause-best : goal.asked-asked-requires-clause-best
asked-asked-requires-clause-best c =
    let chains = c.ends.new.chains in
    let best = c.best-best.result in
    best-of-all (attempt_of c.args.self.now) chains c.in_ok-links.links.items best c.in_ok-links.ensures.chains
    (subst (λ links. Contains links best) c.as_slice-list.ensures.value c.best-best.ensures.among)
    (subst (λ links. All (λ link. beats (chain_of chains link) (chain_of chains best) ≡ false) links) c.as_slice-list.ensures.value c.best-best.ensures.unbeaten)

pub returns-clause-some : goal.returns-clause-some
returns-clause-some c =
    let a = attempt_of c.args.self.now in
    let chains = c.ends.new.chains in
    let best = c.best-best.result in
    let asked = c.asked-asked.result in
    subst (λ all. IsFound a all (record { chain = c.len-chain.result; lines = asked.line.number; best = best.line.number })) (sym c.in_ok-push.ensures.ok)
    (found-behind a chains best asked c.len-chain.result c.len-chain.ensures
    (best-of-all a chains c.in_ok-links.links.items best c.in_ok-links.ensures.chains
    (subst (λ links. Contains links best) c.as_slice-list.ensures.value c.best-best.ensures.among)
    (subst (λ links. All (λ link. beats (chain_of chains link) (chain_of chains best) ≡ false) links) c.as_slice-list.ensures.value c.best-best.ensures.unbeaten))
    c.asked-asked.ensures.asked)
