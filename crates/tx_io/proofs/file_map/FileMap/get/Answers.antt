use Rattle.std.proofs.Common.{sym, ◌∙◌, ap}
use Rattle.tx_bytes.specs.Files.{content}
use Rattle.tx_io.proofs.FilesOf.{content-files_of}
use Rattle.tx_io.proofs.file_map.FileMap.get.Goals as goal

pub returns : goal.returns
returns c = c.get.ensures.value ∙ sym (content-files_of c.self.inside.files.entries c.args.name.now) ∙ ap (λ files. content files c.args.name.now) c.self.view_is
