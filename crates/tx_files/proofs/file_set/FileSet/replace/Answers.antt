use Rattle.std.proofs.Common.{◌∙◌, ap, sym, rules}
use Rattle.std.specs.FinMap.{insert}
use Rattle.std.specs.Option.{option_copied_mut}
use Rattle.tx_bytes.specs.Files.{content}
use Rattle.tx_files.proofs.FilesOf.{by_names-changed, get-by_names}
use Rattle.tx_files.proofs.Restored.{not_there}
use Rattle.tx_files.proofs.file_set.FileSet.replace.Goals as goal

pub unreachable-requires : goal.unreachable-requires
unreachable-requires c = not_there
    (sym (ap (λ f. content f c.args.name.now) c.self.view_is) ∙ get-by_names c.self.inside.files.entries c.args.name.now ∙ sym c.get_mut.ensures.value ∙ ap option_copied_mut c.in-None.is)
    c.requires

pub returns : goal.returns
returns c =
    let updates = (c.get_mut.follows.holds c.args.bytes).3 (search rules) in
    by_names-changed c.args.name.now c.args.bytes c.self.inside.files.entries (c.get_mut.follows.lender c.args.bytes).entries updates.1 updates.3
    ∙ (λ i. insert (c.self.view_is i) c.args.name.now c.args.bytes)
