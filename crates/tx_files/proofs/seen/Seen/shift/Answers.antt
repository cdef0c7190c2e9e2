use Rattle.std.proofs.Common.{sym, ◌∙◌, ap, subst, rules, Option}
use Rattle.std.specs.FinMap.{get, insert}
use Rattle.tx_files.specs.declared.reads.FileReads.{FileReads}
use Rattle.tx_files.specs.Shift.{CanShiftReads, shifted_by}
use Rattle.tx_files.specs.Entries.{by_names}
use Rattle.tx_files.proofs.FilesOf.{get-by_names, by_names-changed}
use Rattle.tx_files.proofs.seen.Seen.shift.Goals as goal

pub shifted_reads-requires : goal.shifted_reads-requires
shifted_reads-requires c =
    subst (CanShiftReads c.args.e.now)
    (sym (c.in-Some.ensures.value ∙ sym (get-by_names c.self.inside.files.entries c.as_slice-name.result.now)
    ∙ (λ i. get (c.self.view_is i) (c.as_slice-name.ensures.bytes i))))
    c.requires

pub returns-in-Some : goal.returns-in-Some
returns-in-Some c =
    let updates = (c.get_mut.follows.holds c.shifted_reads.result).3 (search rules) in
    let before = c.in-Some.ensures.value ∙ sym (get-by_names c.self.inside.files.entries c.as_slice-name.result.now) ∙ (λ i. get (c.self.view_is i) (c.as_slice-name.ensures.bytes i)) in
    by_names-changed c.as_slice-name.result.now c.shifted_reads.result c.self.inside.files.entries (c.get_mut.follows.lender c.shifted_reads.result).entries updates.1 updates.3
    ∙ (λ i. insert (c.self.view_is i) (c.as_slice-name.ensures.bytes i) (c.shifted_reads.ensures i))
    ∙ ap (λ (held : Option FileReads). shifted_by c.args.e.now c.args.self.now held) before

pub returns : goal.returns
returns c =
    let before = c.in_default.ensures.value ∙ sym (get-by_names c.self.inside.files.entries c.as_slice-name.result.now) ∙ (λ i. get (c.self.view_is i) (c.as_slice-name.ensures.bytes i)) in
    ap (λ files. by_names files.entries) c.get_mut.follows.holds-at-none ∙ c.self.view_is
    ∙ ap (λ (held : Option FileReads). shifted_by c.args.e.now c.args.self.now held) before
