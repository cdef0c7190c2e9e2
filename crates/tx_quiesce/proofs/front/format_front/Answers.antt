use Rattle.std.proofs.Common.{◌≡◌, ◌∙◌, ℕ, ◌+◌, ◌-◌, ◌≤◌, suc, sym, ap, subst, arith, rules, map, length}
use Rattle.tx_machine.specs.Run.{page_start}
use Rattle.tx_machine.specs.Turn.{Progress, stretch}
use Rattle.tx_checkpoint.specs.Meant.{AreIdle, row_meant, rows_meant}
use Rattle.tx_checkpoint.proofs.Keeping.{keeping-begins, page-idle, idle-push}
use Rattle.tx_quiesce.specs.declared.front.Stopped.TheVariants.{Over}
use Rattle.tx_quiesce.specs.Meeting.{first_meeting}
use Rattle.tx_quiesce.proofs.Untils.{until-bound, stops-met, stops-over, stops-limit, goes-on, none-so_far}
use Rattle.tx_quiesce.proofs.front.format_front.Goals as goal

-- while pages may still come, one fewer may come behind the next one
one_fewer : (limit page : ℕ) → suc page ≤ limit → limit - page ≡ suc (limit - (page + 1))
one_fewer limit page below = omega arith

none_left : (limit page : ℕ) → limit ≤ page → limit - page ≡ 0
none_left limit page past = omega arith

pub loop-page-init : goal.loop-page-init
loop-page-init g c =
    let no_rows = ap (map (row_meant g.M.Machine.meaning)) c.requires.empty.no_rows in
    record {
      so_far = keeping-begins g.M.Machine.formatter c.args.files.now c.args.budget c.args.most (c.args.most - 0) (g.M.Machine.meaning c.args.spot.now.state) c.args.spot.now.opens _ _ _ c.args.steps.now
          (omega arith) c.requires.empty.no_pages c.requires.empty.no_pieces no_rows;
      none = ap (first_meeting g.M.Machine.formatter c.args.changes.now (rows_meant g.M.Machine.meaning c.args.old.now.rows.items) c.args.old.now.last c.args.resumed) no_rows;
      idle = c.requires.idle;
      kept = λ k d below. absurd (omega (arith, below, ap length c.requires.empty.no_rows));
      offsets = c.requires.offsets;
    }

pub returns-in_err-body-clause-bound : goal.returns-in_err-body-clause-bound
returns-in_err-body-clause-bound g c =
    until-bound c.args.changes.now (rows_meant g.M.Machine.meaning c.args.old.now.rows.items) c.args.old.now.last c.args.resumed c.loop-page.invariant.so_far c.loop-page.invariant.none _ (one_fewer _ _ c.loop-page-test.true) c.format_row.ensures.bound

pub returns-in_err-met-in-Page-clause-bound : goal.returns-in_err-met-in-Page-clause-bound
returns-in_err-met-in-Page-clause-bound g c =
    until-bound c.args.changes.now (rows_meant g.M.Machine.meaning c.args.old.now.rows.items) c.args.old.now.last c.args.resumed c.loop-page.invariant.so_far c.loop-page.invariant.none _ (one_fewer _ _ c.loop-page-test.true) c.format_row.ensures.bound

pub returns-in-Some-clause-bound : goal.returns-in-Some-clause-bound
returns-in-Some-clause-bound g c =
    until-bound c.args.changes.now (rows_meant g.M.Machine.meaning c.args.old.now.rows.items) c.args.old.now.last c.args.resumed c.loop-page.invariant.so_far c.loop-page.invariant.none _ (one_fewer _ _ c.loop-page-test.true) c.format_row.ensures.bound

pub returns-in-Over-clause-bound : goal.returns-in-Over-clause-bound
returns-in-Over-clause-bound g c =
    until-bound c.args.changes.now (rows_meant g.M.Machine.meaning c.args.old.now.rows.items) c.args.old.now.last c.args.resumed c.loop-page.invariant.so_far c.loop-page.invariant.none _ (one_fewer _ _ c.loop-page-test.true) c.format_row.ensures.bound

pub returns-in-Some-clause-reaches : goal.returns-in-Some-clause-reaches
returns-in-Some-clause-reaches g c =
    (stops-met g.M.Machine.meaning c.args.changes.now (rows_meant g.M.Machine.meaning c.args.old.now.rows.items) c.args.old.now.last c.args.resumed c.loop-page.front c.loop-page.invariant.so_far c.loop-page.invariant.none _ (one_fewer _ _ c.loop-page-test.true) c.in_ok-body.ensures.formatted c.in-Page.is c.in_ok-met-in-Page.ensures.met
    c.stop.new.self
    (c.stop.ensures.pages ∙ c.in_ok-met-in-Page.ensures.pages) (c.stop.ensures.pieces ∙ c.in_ok-met-in-Page.ensures.pieces) (c.stop.ensures.rows ∙ c.in_ok-met-in-Page.ensures.rows) c.in-Some.is c.stop.ensures.stopped c.in_ok-body.ensures.counted).reaches

pub returns-in-Some-clause-counted : goal.returns-in-Some-clause-counted
returns-in-Some-clause-counted g c =
    (stops-met g.M.Machine.meaning c.args.changes.now (rows_meant g.M.Machine.meaning c.args.old.now.rows.items) c.args.old.now.last c.args.resumed c.loop-page.front c.loop-page.invariant.so_far c.loop-page.invariant.none _ (one_fewer _ _ c.loop-page-test.true) c.in_ok-body.ensures.formatted c.in-Page.is c.in_ok-met-in-Page.ensures.met
    c.stop.new.self
    (c.stop.ensures.pages ∙ c.in_ok-met-in-Page.ensures.pages) (c.stop.ensures.pieces ∙ c.in_ok-met-in-Page.ensures.pieces) (c.stop.ensures.rows ∙ c.in_ok-met-in-Page.ensures.rows) c.in-Some.is c.stop.ensures.stopped c.in_ok-body.ensures.counted).counted

pub returns-in-Some-clause-idle : goal.returns-in-Some-clause-idle
returns-in-Some-clause-idle g c =
    let t : Progress g.M.Machine.Meaning = stretch g.M.Machine.formatter c.args.files.now (page_start (g.M.Machine.meaning c.loop-page.spot.state) c.loop-page.spot.opens c.args.budget) in
    let idle = page-idle g.M.Machine.formatter g.M.Machine.meaning g.M.Machine.pending c.args.files.now t c.in_ok-body.field-0 c.in-Page.is c.in_ok-body.ensures.idle in
    subst (AreIdle g.M.Machine.formatter g.M.Machine.meaning g.M.Machine.pending) (sym (c.stop.ensures.rows ∙ c.in_ok-met-in-Page.ensures.rows))
    (idle-push g.M.Machine.formatter g.M.Machine.meaning g.M.Machine.pending c.loop-page.front.rows.items c.in-Page.row c.loop-page.invariant.kept idle.0)

pub returns-in-Over-clause-reaches : goal.returns-in-Over-clause-reaches
returns-in-Over-clause-reaches g c =
    (stops-over g.M.Machine.meaning c.args.changes.now (rows_meant g.M.Machine.meaning c.args.old.now.rows.items) c.args.old.now.last c.args.resumed c.loop-page.front c.loop-page.invariant.so_far c.loop-page.invariant.none _ (one_fewer _ _ c.loop-page-test.true) c.in_ok-body.ensures.formatted c.in-Over.is
    c.stop-in-Over.new.self
    c.stop-in-Over.ensures.pages c.stop-in-Over.ensures.pieces c.stop-in-Over.ensures.rows c.stop-in-Over.ensures.stopped c.in_ok-body.ensures.counted).reaches

pub returns-in-Over-clause-counted : goal.returns-in-Over-clause-counted
returns-in-Over-clause-counted g c =
    (stops-over g.M.Machine.meaning c.args.changes.now (rows_meant g.M.Machine.meaning c.args.old.now.rows.items) c.args.old.now.last c.args.resumed c.loop-page.front c.loop-page.invariant.so_far c.loop-page.invariant.none _ (one_fewer _ _ c.loop-page-test.true) c.in_ok-body.ensures.formatted c.in-Over.is
    c.stop-in-Over.new.self
    c.stop-in-Over.ensures.pages c.stop-in-Over.ensures.pieces c.stop-in-Over.ensures.rows c.stop-in-Over.ensures.stopped c.in_ok-body.ensures.counted).counted

pub loop-page-preserved : goal.loop-page-preserved
loop-page-preserved g c =
    let t : Progress g.M.Machine.Meaning = stretch g.M.Machine.formatter c.args.files.now (page_start (g.M.Machine.meaning c.loop-page.spot.state) c.loop-page.spot.opens c.args.budget) in
    let idle = page-idle g.M.Machine.formatter g.M.Machine.meaning g.M.Machine.pending c.args.files.now t c.in_ok-body.field-0 c.in-Page.is c.in_ok-body.ensures.idle in
    record {
      so_far = goes-on g.M.Machine.meaning c.args.changes.now (rows_meant g.M.Machine.meaning c.args.old.now.rows.items) c.args.old.now.last c.args.resumed c.loop-page.front c.loop-page.invariant.so_far c.loop-page.invariant.none _ (one_fewer _ _ c.loop-page-test.true) c.in_ok-body.ensures.formatted c.in-Page.is c.in_ok-met-in-Page.ensures.met c.take_page.new.front c.in_ok-met-in-Page.ensures.pages c.in_ok-met-in-Page.ensures.pieces c.in_ok-met-in-Page.ensures.rows c.in_default.is c.in_ok-body.ensures.place c.in_ok-body.ensures.counted;
      none = none-so_far g.M.Machine.meaning c.args.changes.now (rows_meant g.M.Machine.meaning c.args.old.now.rows.items) c.args.old.now.last c.args.resumed c.loop-page.front c.loop-page.invariant.so_far c.loop-page.invariant.none _ (one_fewer _ _ c.loop-page-test.true) c.in_ok-body.ensures.formatted c.in-Page.is c.in_ok-met-in-Page.ensures.met c.take_page.new.front c.in_ok-met-in-Page.ensures.pages c.in_ok-met-in-Page.ensures.pieces c.in_ok-met-in-Page.ensures.rows c.in_default.is;
      idle = idle.1;
      kept = subst (AreIdle g.M.Machine.formatter g.M.Machine.meaning g.M.Machine.pending) (sym c.in_ok-met-in-Page.ensures.rows)
          (idle-push g.M.Machine.formatter g.M.Machine.meaning g.M.Machine.pending c.loop-page.front.rows.items c.in-Page.row c.loop-page.invariant.kept idle.0);
      offsets = c.in_ok-met-in-Page.ensures.offsets;
    }

pub returns-clause-reaches : goal.returns-clause-reaches
returns-clause-reaches g c =
    (stops-limit g.M.Machine.meaning c.args.changes.now (rows_meant g.M.Machine.meaning c.args.old.now.rows.items) c.args.old.now.last c.args.resumed c.loop-page.front c.loop-page.invariant.so_far c.loop-page.invariant.none (none_left _ _ c.loop-page-test.false)
    c.stop-2.new.self
    c.stop-2.ensures.pages c.stop-2.ensures.pieces c.stop-2.ensures.rows (c.stop-2.ensures.stopped ∙ ap Over (search rules))).reaches

pub returns-clause-counted : goal.returns-clause-counted
returns-clause-counted g c =
    (stops-limit g.M.Machine.meaning c.args.changes.now (rows_meant g.M.Machine.meaning c.args.old.now.rows.items) c.args.old.now.last c.args.resumed c.loop-page.front c.loop-page.invariant.so_far c.loop-page.invariant.none (none_left _ _ c.loop-page-test.false)
    c.stop-2.new.self
    c.stop-2.ensures.pages c.stop-2.ensures.pieces c.stop-2.ensures.rows (c.stop-2.ensures.stopped ∙ ap Over (search rules))).counted

pub returns-clause-bound : goal.returns-clause-bound
returns-clause-bound g c =
    let all = (stops-limit g.M.Machine.meaning c.args.changes.now (rows_meant g.M.Machine.meaning c.args.old.now.rows.items) c.args.old.now.last c.args.resumed c.loop-page.front c.loop-page.invariant.so_far c.loop-page.invariant.none (none_left _ _ c.loop-page-test.false)
    c.stop-2.new.self
    c.stop-2.ensures.pages c.stop-2.ensures.pieces c.stop-2.ensures.rows (c.stop-2.ensures.stopped ∙ ap Over (search rules))).counted in
    omega arith
