use Rattle.tx_dvitype.proofs.Meant.{file-meant}
use Rattle.tx_dvitype.proofs.laws.pages_are_read_by_their_meaning.Goals as goal

pub returns : goal.returns
returns c bytes file pages is = file-meant bytes file pages is
