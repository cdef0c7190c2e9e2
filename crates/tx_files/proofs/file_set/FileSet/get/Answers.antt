use Rattle.std.proofs.Common.{sym, ◌∙◌, ap}
use Rattle.tx_bytes.specs.Files.{content}
use Rattle.tx_files.proofs.FilesOf.{get-by_names}
use Rattle.tx_files.proofs.file_set.FileSet.get.Goals as goal

pub returns : goal.returns
returns c = c.get.ensures.value ∙ sym (get-by_names c.self.inside.files.entries c.args.name.now) ∙ ap (λ files. content files c.args.name.now) c.self.view_is
