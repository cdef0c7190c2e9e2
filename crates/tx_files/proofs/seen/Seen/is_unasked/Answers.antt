use Rattle.std.proofs.Common.{◌≡◌, Bool, true, false, not, refl, sym, subst, ap, arith, Option}
use Rattle.std.specs.FinMap.{get}
use Rattle.tx_files.specs.declared.reads.FileReads.{FileReads}
use Rattle.tx_files.specs.Reads.{Reads, was_asked}
use Rattle.tx_files.proofs.FilesOf.{get-nothing, get-one}
use Rattle.tx_files.proofs.seen.Seen.is_unasked.Goals as goal

denied : (b : Bool) → not b ≡ true → b ≡ false
denied true is = sym is
denied false is = refl

pub returns-in-None : goal.returns-in-None
returns-in-None c is name =
    subst (λ (reads : Reads). was_asked (get reads name) ≡ false) c.self.view_is
    (ap was_asked (get-nothing c.self.inside.files.entries (sym c.in-None.ensures.entry) name))

pub returns-in-Some : goal.returns-in-Some
returns-in-Some c is name =
    subst (λ (reads : Reads). was_asked (get reads name) ≡ false) c.self.view_is
    (get-one (λ (held : Option FileReads). was_asked held ≡ false) c.self.inside.files.entries (omega (arith, c.len.ensures.len, c.if-len-gt1.false)) (sym c.in-Some.ensures.entry) refl (denied c.in-Some.reads.now.asked is) name)
