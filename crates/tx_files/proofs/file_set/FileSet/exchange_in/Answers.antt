use Rattle.std.proofs.Common.{◌≡◌, ◌+◌, ◌≤◌, [], length, take, drop, unwrap_or, ◌∙◌, ap, sym, subst, rules}
use Rattle.std.specs.FinMap.{insert}
use Rattle.std.specs.Option.{option_copied_mut}
use Rattle.tx_bytes.specs.Files.{content}
use Rattle.tx_files.specs.Edits.{bytes_of, spliced}
use Rattle.tx_files.proofs.FilesOf.{by_names-changed, get-by_names}
use Rattle.tx_files.proofs.Restored.{not_there}
use Rattle.tx_files.proofs.file_set.FileSet.exchange_in.Goals as goal

pub exchange-requires : goal.exchange-requires
exchange-requires c =
    let held : c.in-Some.held.now ≡ bytes_of c.args.self.now c.args.name.now =
    ap (λ o. unwrap_or o []) (sym (ap option_copied_mut c.in-Some.is) ∙ c.get_mut.ensures.value ∙ sym (get-by_names c.self.inside.files.entries c.args.name.now) ∙ ap (λ f. content f c.args.name.now) c.self.view_is) in
    subst (λ bytes. c.args.place + length c.args.bytes ≤ length bytes) (sym held) c.requires.within

pub unreachable-requires : goal.unreachable-requires
unreachable-requires c = not_there
    (sym (ap (λ f. content f c.args.name.now) c.self.view_is) ∙ get-by_names c.self.inside.files.entries c.args.name.now ∙ sym c.get_mut.ensures.value ∙ ap option_copied_mut c.in-None.is)
    c.requires.there

pub returns-clause-new : goal.returns-clause-new
returns-clause-new c =
    let held : c.in-Some.held.now ≡ bytes_of c.args.self.now c.args.name.now =
    ap (λ o. unwrap_or o []) (sym (ap option_copied_mut c.in-Some.is) ∙ c.get_mut.ensures.value ∙ sym (get-by_names c.self.inside.files.entries c.args.name.now) ∙ ap (λ f. content f c.args.name.now) c.self.view_is) in
    let updates = (c.get_mut.follows.holds c.exchange.new.held).3 (search rules) in
    by_names-changed c.args.name.now c.exchange.new.held c.self.inside.files.entries (c.get_mut.follows.lender c.exchange.new.held).entries updates.1 updates.3
    ∙ (λ i. insert (c.self.view_is i) c.args.name.now (c.exchange.ensures.new i))
    ∙ ap (λ bytes. insert c.args.self.now c.args.name.now (spliced bytes c.args.place (length c.args.bytes) c.args.bytes)) held

pub returns-clause-before : goal.returns-clause-before
returns-clause-before c =
    let held : c.in-Some.held.now ≡ bytes_of c.args.self.now c.args.name.now =
    ap (λ o. unwrap_or o []) (sym (ap option_copied_mut c.in-Some.is) ∙ c.get_mut.ensures.value ∙ sym (get-by_names c.self.inside.files.entries c.args.name.now) ∙ ap (λ f. content f c.args.name.now) c.self.view_is) in
    c.exchange.ensures.before ∙ ap (λ bytes. take (length c.args.bytes) (drop c.args.place bytes)) held
