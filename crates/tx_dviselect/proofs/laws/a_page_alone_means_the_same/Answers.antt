use Rattle.tx_dviselect.proofs.Means.{means-the-same}
use Rattle.tx_dviselect.proofs.laws.a_page_alone_means_the_same.Goals as goal

pub returns : goal.returns
returns c = means-the-same
