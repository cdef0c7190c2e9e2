use Rattle.tx_dvitype.proofs.Refused.{refused-so}
use Rattle.tx_dvitype.proofs.laws.no_file_begins_with_what_is_refused.Goals as goal

pub returns : goal.returns
returns c bytes others broken refused less same = refused-so bytes others broken refused less same
