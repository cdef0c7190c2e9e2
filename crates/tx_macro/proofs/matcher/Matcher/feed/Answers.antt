use Rattle.std.proofs.Common.{◌≡◌, List, ◌∷◌, ap, subst, ◌∙◌, true}
use Rattle.tx_char.specs.declared.tokens.Token.{Token}
use Rattle.tx_macro.specs.declared.stage.Advance.{Advance}
use Rattle.tx_macro.specs.declared.stage.Awaited.{Awaited}
use Rattle.tx_macro.specs.Matchers.{Matching, HasGathered, goes_on}
use Rattle.tx_macro.specs.Rests.{next_rest, use_rest}
use Rattle.tx_macro.specs.Stages.{next_of, stage_of}
use Rattle.tx_macro.proofs.Uses.{answer-more, goes-on-open}
use Rattle.tx_macro.proofs.matcher.Matcher.feed.Goals as goal

pub returns-in-On-clause-answer : goal.returns-in-On-clause-answer
returns-in-On-clause-answer c =
    let m = c.self.inside.made in
    let g = c.self.inside.gathered in
    let now = next_of c.in_ok-awaited.field-0 c.advance.new.gathered in
    let there : goes_on c.self.inside.awaited ≡ true = ap (λ (x : Matching). x.goes_on) c.self.view_is ∙ c.requires in
    let held : HasGathered m g c.self.inside.awaited = c.self.invariant there in
    let steps : (more : List Token) → use_rest m (stage_of c.self.inside.awaited g) (c.in-Token.token ∷ more) ≡ next_rest m now more = λ more. subst (λ (s : Awaited). use_rest m (stage_of s g) (c.in-Token.token ∷ more) ≡ next_rest m now more) c.replace-awaited.ensures.value (c.in_ok-awaited.ensures.rest more) in
    answer-more c.args.self.now c.args.item m g.taken c.in-Token.token (ap (λ (x : Matching). x.definition) c.self.view_is) (ap (λ (x : Matching). x.taken) c.self.view_is) c.in-Token.is
    (goes-on-open m g.taken c.in-Token.token (stage_of c.self.inside.awaited g) (stage_of c.in-On.awaited c.advance.new.gathered) now held.rest steps c.in_ok-awaited.ensures.stage (ap (λ (a : Advance). next_of a c.advance.new.gathered) c.in-On.is))
