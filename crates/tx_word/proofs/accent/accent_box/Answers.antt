use Rattle.tx_word.proofs.Leanings.{box-fits}
use Rattle.tx_word.proofs.accent.accent_box.Goals as goal

pub new-requires : goal.new-requires
new-requires c = box-fits _ _ c.args.accent c.box_head.ensures c.in_ok-list.ensures
