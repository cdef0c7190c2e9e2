-- What comes of lines that are set, whatever is known of hyphenation then.
use Rattle.std.proofs.Common.{◌≡◌, ◌≢◌, ℕ, ℤ, List, Result, Ok, Err, IfOk, IfErr, sym, ap, subst, ◌∙◌}
use Rattle.tx_eqtb.specs.declared.eqtb.Eqtb.{Eqtb}
use Rattle.tx_hyphenate.specs.declared.known.Hyphenation.{Hyphenation}
use Rattle.tx_node.specs.Items.{Item}
use Rattle.tx_par.specs.declared.error.ParError.{ParError}
use Rattle.tx_par.specs.declared.error.ParError.TheVariants.{OutOfMemory}
use Rattle.tx_par.specs.declared.lines.Lines.{Lines as Set}
use Rattle.tx_box.specs.declared.parts.Lists.{Lists}
use Rattle.tx_paragraph.specs.declared.last_line.LastLine.TheVariants.{OfParagraph}
use Rattle.tx_paragraph.specs.Ending.{Left, first_of, left, lines_if, set_list, setting, used_after}
use Rattle.tx_paragraph.specs.Hyphens.{Hyphenating}

-- a list that has these lines is set as they are
pub set-so : (h : Hyphenating) (lists : Lists) (table : Eqtb) (passed : ℕ) (list : List Item) (set : Set) (depth d : ℤ) → d ≡ depth → lines_if h OfParagraph table.table d passed list ≡ Ok set
    → setting (used_after (first_of OfParagraph table.table d passed list) h.known) lists table passed (Ok set) ≡ set_list h depth passed list lists table
set-so h lists table passed list set depth d same lines =
    sym (ap (λ (o : Result Set ParError). setting (used_after (first_of OfParagraph table.table d passed list) h.known) lists table passed o) lines)
    ∙ ap (λ (z : ℤ). set_list h z passed list lists table) same

pub left-so : (r : Result (List ℕ) ParError) (known known' : Hyphenation) (lists lists' : Lists) (table table' : Eqtb) (passed : ℕ) (set : Set) (whole : Result Left ParError)
    → setting known lists table passed (Ok set) ≡ whole → known' ≡ known
    → IfOk r (λ (report : List ℕ). (k : Hyphenation) → setting k lists table passed (Ok set) ≡ left lists' table' k report)
    → IfOk r (λ (report : List ℕ). whole ≡ left lists' table' known' report)
left-so (Err e) known known' lists lists' table table' passed set whole is now said = tt
left-so (Ok report) known known' lists lists' table table' passed set whole is now said =
    subst (λ (k : Hyphenation). whole ≡ left lists' table' k report) (sym now) (sym is ∙ said known)

pub error-so : (r : Result (List ℕ) ParError) (known : Hyphenation) (lists : Lists) (table : Eqtb) (passed : ℕ) (set : Set) (whole : Result Left ParError)
    → setting known lists table passed (Ok set) ≡ whole
    → IfErr r (λ (e : ParError). e ≢ OutOfMemory → (k : Hyphenation) → setting k lists table passed (Ok set) ≡ Err e)
    → IfErr r (λ (e : ParError). e ≢ OutOfMemory → whole ≡ Err e)
error-so (Ok report) known lists table passed set whole is said = tt
error-so (Err e) known lists table passed set whole is said = λ fails. sym is ∙ said fails known
