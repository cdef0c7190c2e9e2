use Rattle.std.proofs.Common.{◌∙◌, map, sym, ap}
use Rattle.std.specs.Prelude.{position}
use Rattle.std.proofs.lemmas.List.Quantifiers.{position-Some}
use Rattle.tx_linebreak.specs.Chosen.{beats}
use Rattle.tx_linebreak.specs.Shared.{chain_of}
use Rattle.tx_linebreak.specs.Steps.{line_alike}
use Rattle.tx_linebreak.proofs.Offering.{none-alike, offered-better, offered-first, offered-worse}
use Rattle.tx_linebreak.proofs.offers.offer.Goals as goal

pub returns-in_ok-push-in-None-clause-offered : goal.returns-in_ok-push-in-None-clause-offered
returns-in_ok-push-in-None-clause-offered c =
    ap (map (chain_of c.args.chains.now)) c.in_ok-push-in-None.ensures.items
    ∙ offered-first c.args.last_special c.args.chains.now c.args.links.now.items c.args.link c.args.link
    (none-alike c.args.last_special c.args.links.now.items c.args.link c.args.link (ap (position (λ link. line_alike c.args.last_special link.line c.args.link.line)) (sym c.as_slice.ensures.value) ∙ sym c.place_of.ensures ∙ c.in-None.is))

pub returns-then-wins-clause-offered : goal.returns-then-wins-clause-offered
returns-then-wins-clause-offered c =
    let links = c.args.links.now.items in
    let lent = c.index.result.now in
    let at = position-Some (λ link. line_alike c.args.last_special link.line c.args.link.line) links c.in-Some.at lent (ap (position (λ link. line_alike c.args.last_special link.line c.args.link.line)) (sym c.as_slice.ensures.value) ∙ sym c.place_of.ensures ∙ c.in-Some.is) in
    offered-better c.args.last_special c.args.chains.now links c.args.link c.in-Some.at lent (record { within = at.0; alike = at.1; before = at.2 })
    (ap (λ link. beats (chain_of c.args.chains.now c.args.link) (chain_of c.args.chains.now link)) (sym c.index.ensures) ∙ sym c.wins.ensures ∙ c.if-wins.true)

pub returns-else-wins-clause-offered : goal.returns-else-wins-clause-offered
returns-else-wins-clause-offered c =
    let links = c.args.links.now.items in
    let lent = c.index.result.now in
    let at = position-Some (λ link. line_alike c.args.last_special link.line c.args.link.line) links c.in-Some.at lent (ap (position (λ link. line_alike c.args.last_special link.line c.args.link.line)) (sym c.as_slice.ensures.value) ∙ sym c.place_of.ensures ∙ c.in-Some.is) in
    offered-worse c.args.last_special c.args.chains.now links c.args.link c.in-Some.at lent (record { within = at.0; alike = at.1; before = at.2 })
    (ap (λ link. beats (chain_of c.args.chains.now c.args.link) (chain_of c.args.chains.now link)) (sym c.index.ensures) ∙ sym c.wins.ensures ∙ c.if-wins.false)
