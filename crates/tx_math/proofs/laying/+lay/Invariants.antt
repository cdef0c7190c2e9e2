use Rattle.std.proofs.Common.{◌≡◌, drop}
use Rattle.tx_mlist.specs.Items.{gathered}
use Rattle.tx_mlist.specs.Noads.{mlist_of}
use Rattle.tx_mlist.proofs.Measures.{choice_measure, list_measure, noad_measure}
use Rattle.tx_math.specs.Converting.{entries_in}
use Rattle.tx_math.specs.Entries.{laid, laid_behind}
use Rattle.tx_math.proofs.laying.+lay.Given as goal

abbrev pub invariant-lay_list-loop-noad : goal.invariant-lay_list-loop-noad
invariant-lay_list-loop-noad l =
    laid_behind (entries_in l.entries) (laid l.style (gathered (mlist_of (drop l.noad-index l.list))))
    ≡ laid_behind (entries_in l.initial.entries) (laid l.fn.style (gathered (mlist_of l.list)))

abbrev pub decreases-lay_list : goal.decreases-lay_list
decreases-lay_list l = list_measure l.list.now

abbrev pub decreases-lay_noad : goal.decreases-lay_noad
decreases-lay_noad l = noad_measure l.noad.now

abbrev pub decreases-lay_choice : goal.decreases-lay_choice
decreases-lay_choice l = choice_measure l.choice.now
