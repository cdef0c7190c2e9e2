use Rattle.std.proofs.Common.{◌∙◌, ap, sym}
use Rattle.std.specs.FinMap.{insert}
use Rattle.tx_bytes.specs.Files.{content}
use Rattle.tx_files.specs.Entries.{files_of}
use Rattle.tx_files.proofs.FilesOf.{by_names-insert_entry, get-by_names}
use Rattle.tx_files.proofs.file_set.FileSet.insert.Goals as goal

pub returns-clause-before : goal.returns-clause-before
returns-clause-before c = c.in_ok-before.ensures.old
    ∙ sym (get-by_names c.self.inside.files.entries c.into_vec.result.items)
    ∙ (λ i. content (c.self.view_is i) ((c.into_vec.ensures ∙ c.into_bytes.ensures) i))

pub returns-clause-ok : goal.returns-clause-ok
returns-clause-ok c = ap files_of c.in_ok-before.ensures.entries
    ∙ by_names-insert_entry c.self.inside.files.entries c.into_vec.result c.args.bytes
    ∙ (λ i. insert (c.self.view_is i) ((c.into_vec.ensures ∙ c.into_bytes.ensures) i) c.args.bytes)
