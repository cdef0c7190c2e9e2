use Rattle.tx_checkpoint.proofs.Standing.{resumes-last}
use Rattle.tx_checkpoint.proofs.laws.resume_law.Goals as goal

pub returns : goal.returns
returns g c rows changes = resumes-last rows changes
