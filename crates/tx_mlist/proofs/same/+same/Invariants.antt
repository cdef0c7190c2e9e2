use Rattle.std.proofs.Common.{◌≡◌, length, take}
use Rattle.tx_mlist.specs.Noads.{mlist_of}
use Rattle.tx_mlist.proofs.Measures.{list_measure, noad_measure, atom_measure, fraction_measure, choice_measure, part_measure, inner_measure}
use Rattle.tx_mlist.proofs.same.+same.Given as goal

abbrev pub invariant-same_mlist-loop-i : goal.invariant-same_mlist-loop-i
invariant-same_mlist-loop-i l = record {
  equal : mlist_of (take l.i l.a) ≡ mlist_of (take l.i l.b);
  long : length l.a ≡ length l.b;
}

abbrev pub decreases-same_mlist : goal.decreases-same_mlist
decreases-same_mlist l = list_measure l.a.now

abbrev pub decreases-same_noad : goal.decreases-same_noad
decreases-same_noad l = noad_measure l.a.now

abbrev pub decreases-same_atom : goal.decreases-same_atom
decreases-same_atom l = atom_measure l.a.now

abbrev pub decreases-same_fraction : goal.decreases-same_fraction
decreases-same_fraction l = fraction_measure l.a.now

abbrev pub decreases-same_choice : goal.decreases-same_choice
decreases-same_choice l = choice_measure l.a.now

abbrev pub decreases-same_part : goal.decreases-same_part
decreases-same_part l = part_measure l.a.now

abbrev pub decreases-same_inner : goal.decreases-same_inner
decreases-same_inner l = inner_measure l.a.now
