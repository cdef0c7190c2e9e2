use Rattle.std.proofs.Common.{◌≡◌, ◌≤◌, ◌∙◌, Option, length, refl, sym, ap, subst, arith}
use Rattle.std.specs.Prelude.{IfSome}
use Rattle.tx_ligkern.specs.declared.seam.Seam.{Seam}
use Rattle.tx_word.specs.Dividing.{seam_in}
use Rattle.tx_word.specs.Divisions.{seam_below}
use Rattle.tx_word.proofs.Divided.{below-found, below-more}
use Rattle.tx_word.proofs.dividing.Dividing.seam_below.Goals as goal

pub loop-at-init : goal.loop-at-init
loop-at-init c = (omega arith, refl)

pub seam_of-requires-clause-within : goal.seam_of-requires-clause-within
seam_of-requires-clause-within c = omega (arith, c.loop-at.invariant.0, c.requires.within)

pub loop-at-preserved : goal.loop-at-preserved
loop-at-preserved c = (
  omega (arith, c.loop-at.invariant.0),
  sym (below-more (seam_in c.args.self.now) c.loop-at.at (omega arith) (sym c.in_ok-found.ensures.value ∙ c.in_default.is)) ∙ c.loop-at.invariant.1,
)

pub returns-in-Some-clause-value : goal.returns-in-Some-clause-value
returns-in-Some-clause-value c =
    sym (below-found (seam_in c.args.self.now) c.loop-at.at c.in-Some.seam (omega arith) (sym c.in_ok-found.ensures.value ∙ c.in-Some.is)) ∙ c.loop-at.invariant.1

pub returns-clause-value : goal.returns-clause-value
returns-clause-value c =
    let none : c.loop-at.at ≡ 0 = omega arith in
    c.first_seam.ensures ∙ sym (ap (seam_below (seam_in c.args.self.now)) none) ∙ c.loop-at.invariant.1

pub returns-in-Some-clause-few : goal.returns-in-Some-clause-few
returns-in-Some-clause-few c =
    subst (λ (o : Option Seam). IfSome o (λ s. s.item ≤ length c.args.self.now.items.now)) c.in-Some.is c.in_ok-found.ensures.few

pub returns-clause-few : goal.returns-clause-few
returns-clause-few c = subst (λ (s : Seam). s.item ≤ length c.args.self.now.items.now) (sym c.first_seam.ensures) (omega arith)
