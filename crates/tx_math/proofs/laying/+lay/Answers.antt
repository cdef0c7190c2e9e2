use Rattle.std.proofs.Common.{ℕ, ◌<◌, subst}
use Rattle.tx_mlist.proofs.Measures.{list_measure, noad_measure, to-item}
use Rattle.tx_math.proofs.Chosen.{chosen_falls}
use Rattle.tx_math.proofs.laying.+lay.Goals as goal

pub lay_list-lay_noad-requires : goal.lay_list-lay_noad-requires
lay_list-lay_noad-requires t c =
    (subst (λ (n : ℕ). noad_measure c.noad-item.result < n) c.decreases (to-item c.args.list.now c.loop-noad.noad-index c.loop-noad-test.true c.noad-item.is), tt)

pub lay_choice-lay_list-requires : goal.lay_choice-lay_list-requires
lay_choice-lay_list-requires t c =
    (subst (λ (n : ℕ). list_measure c.chosen.result.now < n) c.decreases (chosen_falls c.args.style c.args.choice.now c.chosen.result.now c.chosen.ensures), tt)
