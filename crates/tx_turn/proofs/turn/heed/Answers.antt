use Rattle.tx_turn.proofs.turn.heed.Goals as goal

pub heed_other-requires-clause-no_token : goal.heed_other-requires-clause-no_token
heed_other-requires-clause-no_token g c = c.in_default.not-Got

pub heed_other-requires-clause-asks : goal.heed_other-requires-clause-asks
heed_other-requires-clause-asks g c = c.in_default.not-Went
