use Rattle.std.proofs.Common.{◌≡◌, ◌<◌, ◌∙◌, ℕ, false, true, refl, rules, subst, sym}
use Rattle.std.specs.List.{All}
use Rattle.std.proofs.lemmas.Bool.{false≢true, true≢false}
use Rattle.std.proofs.lemmas.List.{take_all}
use Rattle.std.proofs.lemmas.List.Elements.{All-get_or, All-more}
use Rattle.tx_word.proofs.asked.are_between.Goals as goal

pub returns-then-not-is_between : goal.returns-then-not-is_between
returns-then-not-is_between c =
    let between : ℕ → Type 0 = λ place. (0 < place) × (place < c.args.length) in
    let fails : c.is_between.result ≡ false = search rules in (
      λ is. absurd (false≢true is),
      λ all. absurd (true≢false (sym (c.is_between.ensures.1 (All-get_or between c.args.places.now c.loop-place.place-index _ c.loop-place-test.true all)) ∙ fails)),
    )

pub loop-place-preserved : goal.loop-place-preserved
loop-place-preserved c =
    let between : ℕ → Type 0 = λ place. (0 < place) × (place < c.args.length) in
    let holds : c.is_between.result ≡ true = search rules in
    All-more between c.args.places.now c.loop-place.place-index 0 c.loop-place-test.true c.loop-place.invariant (c.is_between.ensures.0 holds)

pub returns : goal.returns
returns c =
    let between : ℕ → Type 0 = λ place. (0 < place) × (place < c.args.length) in
    let all : All between c.args.places.now = subst (All between) (take_all c.loop-place.place-index c.args.places.now c.loop-place-test.false) c.loop-place.invariant in
    (λ is. all, λ every. refl)
