use Rattle.std.proofs.Common.{sym, ◌∙◌, ap}
use Rattle.std.specs.FinMap.{get}
use Rattle.tx_files.proofs.FilesOf.{get-by_names}
use Rattle.tx_files.proofs.seen.Seen.get.Goals as goal

pub returns : goal.returns
returns c = c.copied.ensures ∙ c.get.ensures.value ∙ sym (get-by_names c.self.inside.files.entries c.args.name.now) ∙ ap (λ reads. get reads c.args.name.now) c.self.view_is
