use Rattle.std.proofs.Common.{◌≡◌, true, List, [], ◌∷◌, ◌++◌, ap, subst, sym, ◌∙◌}
use Rattle.tx_char.specs.declared.tokens.Token.{Token}
use Rattle.tx_toklist.specs.Macros.{Definition}
use Rattle.tx_macro.specs.declared.stage.Awaited.{Awaited}
use Rattle.tx_macro.specs.declared.stage.Awaited.TheVariants.{Argument}
use Rattle.tx_macro.specs.Matchers.{HasGathered, Matching, goes_on}
use Rattle.tx_macro.specs.Matching.{Open, use_of}
use Rattle.tx_macro.specs.Rests.{IsStage, use_rest}
use Rattle.tx_macro.specs.Stages.{stage_of}
use Rattle.tx_macro.proofs.Uses.{argument-open}
use Rattle.tx_macro.proofs.matcher.Matcher.join.Goals as goal

pub returns-in-Some-clause-joined : goal.returns-in-Some-clause-joined
returns-in-Some-clause-joined c =
    let m = c.self.inside.made in
    let g = c.self.inside.gathered in
    let g' = c.join_within.new.gathered in
    let t : Token = c.args.token.now in
    let a : Awaited = Argument c.in-Argument.kind in
    let b : Awaited = Argument c.in-Some.next in
    let there : goes_on c.self.inside.awaited ≡ true = ap (λ (x : Matching). x.goes_on) c.self.view_is ∙ c.requires in
    let held : HasGathered m g a = subst (λ (x : Awaited). HasGathered m g x) c.in-Argument.is (c.self.invariant there) in
    let steps : (more : List Token) → use_rest m (stage_of a g) (t ∷ more) ≡ use_rest m (stage_of b g') more = rw c.in-Some.is at c.in_ok-next.ensures.rest in
    let is : IsStage m (stage_of b g') = rw c.in-Some.is at c.in_ok-next.ensures.stage in
    let taken : g'.taken ≡ g.taken ++ t ∷ [] = rw c.in-Some.is at c.in_ok-next.ensures.taken in
    let whole : m ≡ c.args.self.now.definition = ap (λ (x : Matching). x.definition) c.self.view_is in
    let before : g.taken ≡ c.args.self.now.taken = ap (λ (x : Matching). x.taken) c.self.view_is in
    let goes : use_of m (g.taken ++ t ∷ []) ≡ Open = argument-open m g g' a b t held steps is in (
      ap (λ (x : Definition). use_of x (c.args.self.now.taken ++ t ∷ [])) (sym whole) ∙ ap (λ (x : List Token). use_of m (x ++ t ∷ [])) (sym before) ∙ goes,
      λ i. record { definition = whole i; taken = (taken ∙ ap (λ (x : List Token). x ++ t ∷ []) before) i; goes_on = sym c.requires i },
    )
