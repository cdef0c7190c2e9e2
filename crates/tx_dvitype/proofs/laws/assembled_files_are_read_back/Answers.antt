use Rattle.tx_dvitype.proofs.Assembled.{assembled}
use Rattle.tx_dvitype.proofs.laws.assembled_files_are_read_back.Goals as goal

pub returns : goal.returns
returns c first others placed least most year few small readable = assembled first others placed least most year few small readable
