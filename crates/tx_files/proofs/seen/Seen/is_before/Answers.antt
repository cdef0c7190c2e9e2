use Rattle.std.proofs.Common.{◌≡◌, true, refl, sym, subst, ◌∙◌, ap, arith, Option}
use Rattle.std.specs.FinMap.{get}
use Rattle.tx_files.specs.declared.reads.FileReads.{FileReads}
use Rattle.tx_files.specs.Reads.{Reads, leaves}
use Rattle.tx_files.proofs.FilesOf.{get-nothing, get-one}
use Rattle.tx_files.proofs.seen.Seen.is_before.Goals as goal

pub returns-in-None : goal.returns-in-None
returns-in-None c is name =
    subst (λ (reads : Reads). leaves (get reads name) c.args.place ≡ true) c.self.view_is
    (ap (λ held. leaves held c.args.place) (get-nothing c.self.inside.files.entries (sym c.in-None.ensures.entry) name))

pub returns-in-Some : goal.returns-in-Some
returns-in-Some c is name =
    subst (λ (reads : Reads). leaves (get reads name) c.args.place ≡ true) c.self.view_is
    (get-one (λ (held : Option FileReads). leaves held c.args.place ≡ true) c.self.inside.files.entries (omega (arith, c.len.ensures.len, c.if-len-gt1.false)) (sym c.in-Some.ensures.entry) refl (sym c.lies_before.ensures ∙ is) name)
