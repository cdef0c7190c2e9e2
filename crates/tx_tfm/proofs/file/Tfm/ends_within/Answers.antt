use Rattle.std.proofs.Common.{◌≡◌, ◌-◌, ℕ, Option, List, [], ◌∷◌, reverse, sym, ap, ◌∙◌, arith}
use Rattle.tx_tfm.specs.Rewriting.{ends_within}
use Rattle.tx_tfm.proofs.Endings.{ends_within-one, ends_within-pass, ends_within-command, ends_within-spent, reverse-last, empty}
use Rattle.tx_tfm.proofs.file.Tfm.ends_within.Goals as goal

pub loop-next-preserved-in-None : goal.loop-next-preserved-in-None
loop-next-preserved-in-None c =
    let popped = ap (λ (l : List (Option ℕ)). ends_within c.args.self.now c.loop-next.remaining (c.loop-next.current ∷ l)) (reverse-last _ _ _ c.in-Some.ensures.items) in
    sym (popped ∙ ends_within-pass c.args.self.now c.loop-next.remaining c.loop-next.current c.in-Some.next (reverse c.pop.new.self.items) (sym (c.in-None.ensures c.args.self.now c.requires))) ∙ c.loop-next.invariant

pub returns-then-remaining-eq0 : goal.returns-then-remaining-eq0
returns-then-remaining-eq0 c =
    let popped = ap (λ (l : List (Option ℕ)). ends_within c.args.self.now c.loop-next.remaining (c.loop-next.current ∷ l)) (reverse-last _ _ _ c.in-Some.ensures.items) in
    let spent = ap (λ n. ends_within c.args.self.now n (c.loop-next.current ∷ c.in-Some.next ∷ reverse c.pop.new.self.items)) c.if-remaining-eq0.true in
    sym (popped ∙ spent ∙ ends_within-spent c.args.self.now c.loop-next.current c.in-Some.next (reverse c.pop.new.self.items) c.in-Some-meets.command (sym (c.in-Some-meets.ensures c.args.self.now c.requires))) ∙ c.loop-next.invariant

pub loop-next-preserved : goal.loop-next-preserved
loop-next-preserved c =
    let popped = ap (λ (l : List (Option ℕ)). ends_within c.args.self.now c.loop-next.remaining (c.loop-next.current ∷ l)) (reverse-last _ _ _ c.in-Some.ensures.items) in
    let carried = ends_within-command c.args.self.now c.loop-next.remaining c.loop-next.current c.in-Some.next (reverse c.pop.new.self.items) c.in-Some-meets.command (omega arith) (sym (c.in-Some-meets.ensures c.args.self.now c.requires)) in
    ap (ends_within c.args.self.now (c.loop-next.remaining - 1)) c.in_ok-current-in-Some-meets.ensures.rewritten ∙ sym (popped ∙ carried) ∙ c.loop-next.invariant

pub returns : goal.returns
returns c =
    let none : c.loop-next.rest.items ≡ [] = empty c.loop-next.rest.items (omega (arith, c.loop-next.rest.ok.0, c.in_default.ensures.cases)) in
    let over = ap (λ (l : List (Option ℕ)). ends_within c.args.self.now c.loop-next.remaining (c.loop-next.current ∷ reverse l)) none in
    sym (over ∙ ends_within-one c.args.self.now c.loop-next.remaining c.loop-next.current) ∙ c.loop-next.invariant
