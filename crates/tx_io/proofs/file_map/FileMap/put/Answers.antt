use Rattle.std.proofs.Common.{◌∙◌, ap}
use Rattle.std.specs.FinMap.{insert}
use Rattle.tx_io.specs.Entries.{files_of}
use Rattle.tx_io.proofs.FilesOf.{files_of-insert_entry}
use Rattle.tx_io.proofs.file_map.FileMap.put.Goals as goal

pub returns-clause-ok : goal.returns-clause-ok
returns-clause-ok c = ap files_of c.in_ok-insert.ensures.entries
    ∙ files_of-insert_entry c.self.inside.files.entries c.in_ok-name.name c.in_ok-bytes.bytes
    ∙ (λ i. insert (c.self.view_is i) (c.in_ok-name.ensures.items i) (c.in_ok-bytes.ensures i))
