use Rattle.std.proofs.Common.{◌≡◌, ◌++◌, ℕ, List, refl, ap, sym, ◌∙◌}
use Rattle.tx_grouping.specs.GroupEnds.{telling}
use Rattle.tx_grouping.specs.GroupEnds.{behind_left, behind_paragraph, list_ending}
use Rattle.tx_paragraph.specs.Ending as paragraph
use Rattle.tx_state.specs.declared.state.State.{State}
use Rattle.tx_state.specs.Meanings.{state_of}
use Rattle.tx_state.proofs.Outcomes.{outcome-by}
use Rattle.tx_tfm.specs.declared.state.FontState.{FontState}
use Rattle.tx_grouping.proofs.Telling.{tells-list, told-before}
use Rattle.tx_grouping.proofs.Vertical.{kind-stays}
use Rattle.tx_grouping.proofs.groups.end_behind_paragraph.Goals as goal

pub end_list-requires-clause-kind : goal.end_list-requires-clause-kind
end_list-requires-clause-kind c =
    kind-stays (record { fonts = c.fonts.result.now; known = c.args.s.now.hyphenation }) c.args.s.now.lists c.close_paragraph.new.lists c.args.s.now.table c.close_paragraph.new.table c.close_paragraph.new.known c.in-Ok.report c.args.kind
    c.in-Ok.ensures.left c.requires.kind

-- the list ends behind the lines that the paragraph's end told
pub returns-in_ok-append-in-Ok : goal.returns-in_ok-append-in-Ok
returns-in_ok-append-in-Ok c =
    let between : State = record c.args.s.now { hyphenation = c.close_paragraph.new.known; lists = c.close_paragraph.new.lists; table = c.close_paragraph.new.table } in
    outcome-by (telling c.in-Ok.report (list_ending c.args.kind (state_of between))) (behind_paragraph c.args.kind (state_of c.args.s.now)) c.args.s.now between c.end_list.new.s c.end_list.result
    (sym
    (ap (λ (fonts : List FontState). behind_left c.args.kind (state_of c.args.s.now) (paragraph.closing (record { fonts = fonts; known = c.args.s.now.hyphenation }) c.args.s.now.lists c.args.s.now.table)) (sym c.fonts.ensures)
    ∙ ap (behind_left c.args.kind (state_of c.args.s.now)) c.in-Ok.ensures.left))
    refl
    (told-before (list_ending c.args.kind (state_of between)) between c.end_list.new.s c.in-Ok.report c.append.new.self c.end_list.result (tells-list c.args.kind (state_of between))
    (c.in_ok-append-in-Ok.ensures.ok ∙ ap (λ (lines : List ℕ). c.args.s.now.said ++ lines) c.as_slice.ensures) c.end_list.ensures)
