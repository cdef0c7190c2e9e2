use Rattle.std.proofs.Common.{◌∙◌}
use Rattle.tx_files.proofs.Copied.{copied-files}
use Rattle.tx_files.proofs.file_set.FileSet.copied.Goals as goal

pub returns : goal.returns
returns c = copied-files c.self.inside.files.entries c.in_ok-clone.field-0.entries c.in_ok-clone.ensures.cases ∙ c.self.view_is
