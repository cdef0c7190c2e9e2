use Rattle.std.proofs.Common.{◌∙◌, ap}
use Rattle.std.specs.FinMap.{remove}
use Rattle.tx_files.proofs.FilesOf.{by_names-removed}
use Rattle.tx_files.proofs.file_set.FileSet.remove.Goals as goal

pub returns : goal.returns
returns c = by_names-removed c.args.name.now c.self.inside.files.entries c.swap_remove.new.self.entries c.swap_remove.ensures.updates.1 c.swap_remove.ensures.updates.3
    ∙ ap (λ f. remove f c.args.name.now) c.self.view_is
