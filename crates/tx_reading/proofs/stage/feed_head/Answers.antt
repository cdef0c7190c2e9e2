use Rattle.tx_reading.proofs.stage.feed_head.Goals as goal

pub returns : goal.returns
returns c = rw (c.put_whole.ensures.made c.begin_command.new.scans) c.in_ok-fed.ensures
