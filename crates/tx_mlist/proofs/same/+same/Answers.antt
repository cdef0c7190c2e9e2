use Rattle.std.proofs.Common.{ℕ, ◌<◌, subst, ap}
use Rattle.tx_mlist.specs.Noads.{math_of}
use Rattle.tx_mlist.proofs.Equal.{differ, same-atoms, same-fractions, same-choices}
use Rattle.tx_mlist.proofs.Measures.{list_measure, noad_measure, to-item, to-noads}
use Rattle.tx_mlist.proofs.same.+same.Goals as goal

pub same_mlist-same_noad-requires : goal.same_mlist-same_noad-requires
same_mlist-same_noad-requires t c =
    (subst (λ (n : ℕ). noad_measure c.index-a-i.result < n) c.decreases (to-item c.args.a.now c.loop-i.i c.loop-i-test.true c.index-a-i.is), tt)

pub same_mlist-returns-then-not-same_noad : goal.same_mlist-returns-then-not-same_noad
same_mlist-returns-then-not-same_noad t c = (
  (λ h. absurd (cc h)),
  differ c.args.a.now c.args.b.now c.loop-i.i c.loop-i-test.true c.loop-i.invariant.long c.index-a-i.is c.index-b-i.is c.if-not-same_noad.true c.same_noad.ensures.1,
)

pub same_inner-same_mlist-requires : goal.same_inner-same_mlist-requires
same_inner-same_mlist-requires t c =
    (subst (λ (n : ℕ). list_measure c.as_slice.result.now < n) c.decreases (to-noads c.args.a.now c.as_slice.result.now c.as_slice.ensures), tt)

pub same_noad-returns-in-Atom-Atom : goal.same_noad-returns-in-Atom-Atom
same_noad-returns-in-Atom-Atom t c =
    same-atoms c.deref.result.now c.deref-in-Atom-Atom.result.now
    (rw c.deref.ensures (ap math_of c.in-Atom-Atom.is-0)) (rw c.deref-in-Atom-Atom.ensures (ap math_of c.in-Atom-Atom.is-1))
    c.same_atom.ensures

pub same_noad-returns-in-Fraction-Fraction : goal.same_noad-returns-in-Fraction-Fraction
same_noad-returns-in-Fraction-Fraction t c =
    same-fractions c.deref-in-Fraction-Fraction.result.now c.deref-in-Fraction-Fraction-2.result.now
    (rw c.deref-in-Fraction-Fraction.ensures (ap math_of c.in-Fraction-Fraction.is-0)) (rw c.deref-in-Fraction-Fraction-2.ensures (ap math_of c.in-Fraction-Fraction.is-1))
    c.same_fraction.ensures

pub same_noad-returns-in-Choice-Choice : goal.same_noad-returns-in-Choice-Choice
same_noad-returns-in-Choice-Choice t c =
    same-choices c.deref-in-Choice-Choice.result.now c.deref-in-Choice-Choice-2.result.now
    (rw c.deref-in-Choice-Choice.ensures (ap math_of c.in-Choice-Choice.is-0)) (rw c.deref-in-Choice-Choice-2.ensures (ap math_of c.in-Choice-Choice.is-1))
    c.same_choice.ensures
