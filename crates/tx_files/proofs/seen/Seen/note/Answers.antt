use Rattle.std.proofs.Common.{sym, ◌∙◌, ap, rules}
use Rattle.std.specs.FinMap.{insert, get}
use Rattle.tx_files.specs.Entries.{by_names}
use Rattle.tx_files.specs.Reads.{seen_more}
use Rattle.tx_files.proofs.FilesOf.{get-by_names, by_names-insert_entry, by_names-changed}
use Rattle.tx_files.proofs.seen.Seen.note.Goals as goal

pub returns-in-Some-clause-ok : goal.returns-in-Some-clause-ok
returns-in-Some-clause-ok c =
    let updates = (c.get_mut.follows.holds c.seen_again.result).3 (search rules) in
    by_names-changed c.args.name.now c.seen_again.result c.self.inside.files.entries (c.get_mut.follows.lender c.seen_again.result).entries updates.1 updates.3
    ∙ (λ i. insert (c.self.view_is i) c.args.name.now ((c.seen_again.ensures ∙ ap (λ o. seen_more o c.args.sight)
    (c.in-Some.ensures.value ∙ sym (get-by_names c.self.inside.files.entries c.args.name.now) ∙ ap (λ reads. get reads c.args.name.now) c.self.view_is)) i))

pub returns-clause-ok : goal.returns-clause-ok
returns-clause-ok c =
    ap by_names c.in_ok-insert.ensures.entries
    ∙ by_names-insert_entry c.get_mut.follows.lender-at-none.entries c.in_ok-key.key c.seen_first.result
    ∙ (λ i. insert ((ap (λ files. by_names files.entries) c.get_mut.follows.holds-at-none ∙ c.self.view_is) i) (c.in_ok-key.ensures.items i)
    ((c.seen_first.ensures ∙ ap (λ o. seen_more o c.args.sight)
    (c.in_default.ensures.value ∙ sym (get-by_names c.self.inside.files.entries c.args.name.now) ∙ ap (λ reads. get reads c.args.name.now) c.self.view_is)) i))
