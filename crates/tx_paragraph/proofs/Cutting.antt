-- What a display leaves of a list is what comes of its lines.
use Rattle.std.proofs.Common.{◌≡◌, ◌≢◌, ℕ, ℤ, List, Option, Result, Ok, Err, IfOk, IfErr, sym, ap, subst, ◌∙◌}
use Rattle.tx_eqtb.specs.declared.table.Table.{Table}
use Rattle.tx_hyphenate.specs.declared.known.Hyphenation.{Hyphenation}
use Rattle.tx_node.specs.Items.{Item}
use Rattle.tx_par.specs.declared.error.ParError.{ParError}
use Rattle.tx_par.specs.declared.error.ParError.TheVariants.{OutOfMemory}
use Rattle.tx_par.specs.declared.lines.Lines.{Lines as Set}
use Rattle.tx_tfm.specs.declared.state.FontState.{FontState}
use Rattle.tx_box.specs.declared.parts.Lists.{Lists}
use Rattle.tx_paragraph.specs.declared.interrupting.Interruption.{Interruption}
use Rattle.tx_paragraph.specs.declared.last_line.LastLine.TheVariants.{BeforeDisplay}
use Rattle.tx_paragraph.specs.Ending.{first_of, lines_if, used_after}
use Rattle.tx_paragraph.specs.Hyphens.{Hyphenating}
use Rattle.tx_paragraph.specs.Interrupting.{Cut, Seat, cut, cut_at, cut_set, cutting, lines_counted, seat}

-- a list that has these lines leaves what they do
pub cut-so : (h : Hyphenating) (lists : Lists) (table : Table) (passed : ℕ) (list : List Item) (set : Set) (depth d : ℤ) → d ≡ depth → lines_if h BeforeDisplay table d passed list ≡ Ok set
    → cut_at (used_after (first_of BeforeDisplay table d passed list) h.known) (cutting h.fonts table lists passed (Ok set)) ≡ cut_set h table depth passed list lists
unfolding cut_set
cut-so h lists table passed list set depth d same lines =
    sym (ap (λ (o : Result Set ParError). cut_at (used_after (first_of BeforeDisplay table d passed list) h.known) (cutting h.fonts table lists passed o)) lines)
    ∙ ap (λ (z : ℤ). cut_at (used_after (first_of BeforeDisplay table z passed list) h.known) (cutting h.fonts table lists passed (lines_if h BeforeDisplay table z passed list))) same

pub left-so : (r : Result Interruption ParError) (known known' : Hyphenation) (lists' : Lists) (seats : Result Seat ParError) (whole : Result Cut ParError)
    → cut_at known seats ≡ whole → known' ≡ known
    → IfOk r (λ (told : Interruption). seats ≡ seat lists' told.report told.place)
    → IfOk r (λ (told : Interruption). whole ≡ cut lists' known' told.report told.place)
left-so (Err e) known known' lists' seats whole is now said = tt
left-so (Ok told) known known' lists' seats whole is now said =
    sym is ∙ ap (cut_at known) said ∙ ap (λ (k : Hyphenation). cut lists' k told.report told.place) (sym now)

pub error-so : (r : Result Interruption ParError) (known : Hyphenation) (seats : Result Seat ParError) (whole : Result Cut ParError)
    → cut_at known seats ≡ whole
    → IfErr r (λ (e : ParError). e ≢ OutOfMemory → seats ≡ Err e)
    → IfErr r (λ (e : ParError). e ≢ OutOfMemory → whole ≡ Err e)
error-so (Ok told) known seats whole is said = tt
error-so (Err e) known seats whole is said = λ fails. sym is ∙ ap (cut_at known) (said fails)

-- lines that are counted alike leave the same
pub counted-so : (r : Result Interruption ParError) (fonts : List FontState) (table : Table) (lists lists' : Lists) (set : Set) (graf counted : Option ℕ) → graf ≡ counted
    → IfOk r (λ (told : Interruption). lines_counted fonts table lists set graf ≡ seat lists' told.report told.place)
    → IfOk r (λ (told : Interruption). lines_counted fonts table lists set counted ≡ seat lists' told.report told.place)
counted-so r fonts table lists lists' set graf counted same said =
    subst (λ (g : Option ℕ). IfOk r (λ (told : Interruption). lines_counted fonts table lists set g ≡ seat lists' told.report told.place)) same said

pub refused-so : (r : Result Interruption ParError) (fonts : List FontState) (table : Table) (lists : Lists) (set : Set) (graf counted : Option ℕ) → graf ≡ counted
    → IfErr r (λ (e : ParError). e ≢ OutOfMemory → lines_counted fonts table lists set graf ≡ Err e)
    → IfErr r (λ (e : ParError). e ≢ OutOfMemory → lines_counted fonts table lists set counted ≡ Err e)
refused-so r fonts table lists set graf counted same said =
    subst (λ (g : Option ℕ). IfErr r (λ (e : ParError). e ≢ OutOfMemory → lines_counted fonts table lists set g ≡ Err e)) same said
