use Rattle.std.proofs.Common.{◌≡◌, ℕ, Bool, true, false, [], None, Result, Ok, IfOk, append-nil, refl, ap, sym, ◌∙◌}
use Rattle.tx_box.specs.declared.parts.Lists.{Lists}
use Rattle.tx_building.specs.Carrying.{carrying}
use Rattle.tx_building.specs.Building.{exercising, is_pages}
use Rattle.tx_grouping.specs.Paragraphs.{beginning_paragraph, indenting, indenting_so, with_every_par}
use Rattle.tx_event.specs.declared.types.Event.{Event}
use Rattle.tx_nest.specs.declared.list.ModeList.{ModeList}
use Rattle.tx_nest.specs.States.{mode_of}
use Rattle.tx_paragraph.specs.Beginning.{begins_paragraph, indented}
use Rattle.tx_prim.specs.declared.family.Indentation.{Indentation}
use Rattle.tx_prim.specs.declared.modes.ModeTest.TheVariants.{Vertical}
use Rattle.tx_prim.specs.Modes.{holds}
use Rattle.tx_state.specs.declared.parts.Phase.{Phase}
use Rattle.tx_state.specs.declared.parts.Phase.TheVariants.{Running, Waiting, Halted}
use Rattle.tx_state.specs.declared.state.State.{State}
use Rattle.tx_state.specs.Meanings.{IsStepped, state_of}
use Rattle.tx_state.specs.Outcomes.{Leaves}
use Rattle.tx_state.specs.State.{Runs, TexState, meaning_in}
use Rattle.tx_state.proofs.Outcomes.{outcome-by}
use Rattle.tx_grouping.proofs.paragraphs.indent.Goals as goal

-- a state that is ready for turns is what it was left as
runs-on : (phase : Phase) (now left : TexState) → meaning_in phase now ≡ Runs left → now ≡ left
runs-on Running now left is = cc
runs-on (Waiting kind) now left is = absurd (cc)
runs-on Halted now left is = absurd (cc)

-- a paragraph has begun on the pages' list, and the page builder is exercised
begins : {E : Type 0} (before read carried new : State) (how : Indentation) (lists : Lists) (b on : Bool) (event : Event) (answer : Result Event E) → b ≡ begins_paragraph before.lists.nest.innermost.state → on ≡ is_pages before.scan.mode → on ≡ true → state_of read ≡ with_every_par b (state_of before) → read.said ≡ before.said → lists ≡ indented how read.table.table read.lists → IsStepped (Leaves (carrying (state_of (record read { lists = lists })) (record { lists = lists; table = read.table; due = None; leads = None })) []) (record read { lists = lists }) event carried → IfOk answer (λ e. IsStepped (exercising (state_of carried) []) carried e new) → IfOk answer (λ e. IsStepped (indenting_so (state_of before) how) before e new)
begins before read carried new how lists b on event answer paragraph pages is_on is said has_indented went did =
    let begun : TexState = indenting how (with_every_par (begins_paragraph before.lists.nest.innermost.state) (state_of before)) in
    let left : state_of carried ≡ begun =
    runs-on carried.phase (state_of carried) (carrying (state_of (record read { lists = lists })) (record { lists = lists; table = read.table; due = None; leads = None })) went.state_is
    ∙ ap (λ (l : Lists). carrying (state_of read) (record { lists = l; table = read.table; due = None; leads = None })) has_indented
    ∙ ap (indenting how) (is ∙ ap (λ (p : Bool). with_every_par p (state_of before)) paragraph) in
    outcome-by (exercising (state_of carried) []) (indenting_so (state_of before) how) before carried new answer
    (ap (λ (s : TexState). exercising s []) left ∙ ap (λ (p : Bool). beginning_paragraph p begun) (sym is_on ∙ pages))
    (went.said_is ∙ append-nil read.said ∙ said)
    did

-- one has begun elsewhere, or another list goes on
goes-on : (before read carried : State) (how : Indentation) (lists : Lists) (b on : Bool) (event : Event) → b ≡ begins_paragraph before.lists.nest.innermost.state → on ≡ is_pages before.scan.mode → on ≡ false → state_of read ≡ with_every_par b (state_of before) → read.said ≡ before.said → lists ≡ indented how read.table.table read.lists → IsStepped (Leaves (carrying (state_of (record read { lists = lists })) (record { lists = lists; table = read.table; due = None; leads = None })) []) (record read { lists = lists }) event carried → IsStepped (indenting_so (state_of before) how) before event carried
goes-on before read carried how lists b on event paragraph pages is_off is said has_indented went =
    let begun : TexState = indenting how (with_every_par (begins_paragraph before.lists.nest.innermost.state) (state_of before)) in
    let left : carrying (state_of (record read { lists = lists })) (record { lists = lists; table = read.table; due = None; leads = None }) ≡ begun =
    ap (λ (l : Lists). carrying (state_of read) (record { lists = l; table = read.table; due = None; leads = None })) has_indented
    ∙ ap (indenting how) (is ∙ ap (λ (p : Bool). with_every_par p (state_of before)) paragraph) in
    outcome-by {E = ℕ} (Leaves (carrying (state_of (record read { lists = lists })) (record { lists = lists; table = read.table; due = None; leads = None })) []) (indenting_so (state_of before) how) before (record read { lists = lists }) carried (Ok event)
    (ap (λ (s : TexState). Leaves s []) left ∙ ap (λ (p : Bool). beginning_paragraph p begun) (sym is_off ∙ pages))
    said
    went

pub returns-then-on_pages : goal.returns-then-on_pages
returns-then-on_pages c =
    begins c.args.s.now (record c.args.s.now { input = c.read_every_par.new.input }) c.carry.new.s c.build.new.s c.args.how c.indent.new.lists c.holds-begins.result c.is_pages-on_pages.result c.in_ok-event.event c.build.result
    (c.holds-begins.ensures ∙ ap (holds Vertical) (c.mode.ensures ∙ ap (λ (list : ModeList). mode_of list.state) c.innermost.ensures)) (c.is_pages-on_pages.ensures ∙ ap is_pages c.mode-2.ensures) c.if-on_pages.true
    (c.in_ok-read_every_par.ensures c.args.s.now) refl c.in_ok-indent.ensures c.in_ok-event.ensures c.build.ensures

pub returns-else-on_pages : goal.returns-else-on_pages
returns-else-on_pages c =
    goes-on c.args.s.now (record c.args.s.now { input = c.read_every_par.new.input }) c.carry.new.s c.args.how c.indent.new.lists c.holds-begins.result c.is_pages-on_pages.result c.in_ok-event.event
    (c.holds-begins.ensures ∙ ap (holds Vertical) (c.mode.ensures ∙ ap (λ (list : ModeList). mode_of list.state) c.innermost.ensures)) (c.is_pages-on_pages.ensures ∙ ap is_pages c.mode-2.ensures) c.if-on_pages.false
    (c.in_ok-read_every_par.ensures c.args.s.now) refl c.in_ok-indent.ensures c.in_ok-event.ensures
