use Rattle.tx_align.proofs.Reading.{read_as_written}
use Rattle.tx_align.proofs.laws.preambles_are_read_as_written.Goals as goal

pub returns : goal.returns
returns c tabskip w h = read_as_written tabskip w h
