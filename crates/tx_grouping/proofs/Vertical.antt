-- The group of a vertical box stays open where the paragraph in it ends.
use Rattle.std.proofs.Common.{◌≡◌, ℕ, ℤ, List, [], ◌∷◌, length, Option, Some, None, Result, Ok, Err, IfOk, refl, ap, subst, ◌∙◌}
use Rattle.std.specs.Prelude.{option_map}
use Rattle.tx_box.specs.declared.parts.Lists.{Lists}
use Rattle.tx_eqtb.specs.declared.eqtb.Eqtb.{Eqtb}
use Rattle.tx_eqtb.specs.declared.groups.Group.{Group}
use Rattle.tx_eqtb.specs.declared.groups.GroupKind.{GroupKind}
use Rattle.tx_eqtb.specs.Stack.{innermost, kind_of}
use Rattle.tx_hyphenate.specs.declared.known.Hyphenation.{Hyphenation}
use Rattle.tx_nest.specs.declared.list.ModeList.{ModeList}
use Rattle.tx_nest.specs.declared.state.ModeState.{ModeState}
use Rattle.tx_nest.specs.declared.state.ModeState.TheVariants.{Vertical, InternalVertical, Horizontal, RestrictedHorizontal, Math, DisplayMath}
use Rattle.tx_nest.specs.Grafs.{raised_graf}
use Rattle.tx_node.specs.Items.{Item}
use Rattle.tx_par.specs.declared.error.ParError.{ParError}
use Rattle.tx_par.specs.declared.lines.Lines.{Lines as Set}
use Rattle.tx_paragraph.specs.declared.last_line.LastLine.TheVariants.{OfParagraph}
use Rattle.tx_paragraph.specs.Ending.{Left, closing, closing_in, counted, depth_of, ended_list, first_of, leaving, left, lines_if, setting, used_after}
use Rattle.tx_paragraph.specs.Hyphens.{Hyphenating}

-- the same groups are open
abbrev Keeps : Eqtb → Result Left ParError → Type 0
Keeps table made = IfOk made (λ l. l.table.groups ≡ table.groups)

counted-keeps : (known : Hyphenation) (lists : Lists) (table : Eqtb) (set : Set) (graf : Option ℕ) → Keeps table (counted known lists table set graf)
counted-keeps known lists table set None = tt
counted-keeps known lists table set (Some graf) = refl

setting-keeps : (known : Hyphenation) (lists : Lists) (table : Eqtb) (passed : ℕ) (made : Result Set ParError) → Keeps table (setting known lists table passed made)
setting-keeps known lists table passed (Err error) = tt
setting-keeps known lists table passed (Ok set) = counted-keeps known lists table set (raised_graf passed (length set.chosen.chain))

ended-keeps : (h : Hyphenating) (passed : ℕ) (list : List Item) (lists : Lists) (table : Eqtb) → Keeps table (ended_list h passed list lists table)
ended-keeps h passed [] lists table = refl
ended-keeps h passed (item ∷ rest) lists table =
    let depth : ℤ = depth_of lists.nest.innermost.state in
    setting-keeps (used_after (first_of OfParagraph table.table depth passed (item ∷ rest)) h.known) lists table passed (lines_if h OfParagraph table.table depth passed (item ∷ rest))

leaving-keeps : (h : Hyphenating) (around : List ModeList) (lists : Lists) (table : Eqtb) → Keeps table (leaving h around lists table)
leaving-keeps h [] lists table = refl
leaving-keeps h (outer ∷ around) lists table =
    ended-keeps h lists.nest.innermost.prev_graf lists.nest.innermost.nodes (record lists { nest = record { innermost = outer; around = around } }) table

closing-keeps : (h : Hyphenating) (state : ModeState) (lists : Lists) (table : Eqtb) → Keeps table (closing_in h state lists table)
closing-keeps h (Horizontal factor) lists table = leaving-keeps h lists.nest.around lists table
closing-keeps h (Vertical depth) lists table = refl
closing-keeps h (InternalVertical depth) lists table = refl
closing-keeps h (RestrictedHorizontal factor) lists table = refl
closing-keeps h Math lists table = refl
closing-keeps h DisplayMath lists table = refl

pub kind-stays : (h : Hyphenating) (lists made : Lists) (table new : Eqtb) (known : Hyphenation) (report : List ℕ) (kind : GroupKind) → closing h lists table ≡ left made new known report → kind_of table ≡ Some kind → kind_of new ≡ Some kind
kind-stays h lists made table new known report kind is open_kind =
    let kept : new.groups ≡ table.groups = subst (Keeps table) is (closing-keeps h lists.nest.innermost.state lists table) in
    ap (λ (groups : List Group). option_map (λ (group : Group). group.kind) (innermost groups)) kept ∙ open_kind
