use Rattle.std.proofs.Common.{◌≡◌, ℕ, ◌+◌, ◌-◌, ◌≤◌, suc, sym, ap, subst, ◌∙◌, arith, [], ◌∷◌, map, length}
use Rattle.std.proofs.lemmas.List.{map-append}
use Rattle.tx_machine.specs.declared.types.End.TheVariants.{PageLimit}
use Rattle.tx_machine.specs.Run.{page_start}
use Rattle.tx_machine.specs.Turn.{Progress, stretch}
use Rattle.tx_checkpoint.specs.Meant.{AreIdle, row_meant}
use Rattle.tx_checkpoint.proofs.Keeping.{keeping-begins, keeping-page, keeping-told, keeping-counted, keeping-bound, limit-told, limit-counted, page-formatted, page-idle, end-formatted, idle-push}
use Rattle.tx_checkpoint.proofs.format.format_pages.Goals as goal

-- while pages may still come, one fewer may come behind the next one
one_fewer : (limit page : ℕ) → suc page ≤ limit → limit - page ≡ suc (limit - (page + 1))
one_fewer limit page below = omega arith

none_left : (limit page : ℕ) → limit ≤ page → limit - page ≡ 0
none_left limit page past = omega arith

pub loop-page-init : goal.loop-page-init
loop-page-init g c = record {
  so_far = keeping-begins g.M.Machine.formatter c.args.files.now c.args.budget c.args.most (c.args.most - 0) (g.M.Machine.meaning c.args.spot.now.state) c.args.spot.now.opens _ _ _ c.args.steps.now
      (omega arith) c.requires.no_pages c.requires.no_pieces (ap (map (row_meant g.M.Machine.meaning)) c.requires.no_rows);
  idle = c.requires.idle;
  kept = λ k d below. absurd (omega (arith, below, ap length c.requires.no_rows));
}

pub returns-in_err-body-clause-bound : goal.returns-in_err-body-clause-bound
returns-in_err-body-clause-bound g c = keeping-bound _ (one_fewer _ _ c.loop-page-test.true) c.loop-page.invariant.so_far c.format_row.ensures.bound

pub returns-in_err-push_page-in-Page-clause-bound : goal.returns-in_err-push_page-in-Page-clause-bound
returns-in_err-push_page-in-Page-clause-bound g c = keeping-bound _ (one_fewer _ _ c.loop-page-test.true) c.loop-page.invariant.so_far c.format_row.ensures.bound

pub returns-in-Over-clause-rows : goal.returns-in-Over-clause-rows
returns-in-Over-clause-rows g c =
    let t : Progress g.M.Machine.Meaning = stretch g.M.Machine.formatter c.args.files.now (page_start (g.M.Machine.meaning c.loop-page.spot.state) c.loop-page.spot.opens c.args.budget) in
    let over = end-formatted g.M.Machine.formatter g.M.Machine.meaning g.M.Machine.pending c.args.files.now t c.in_ok-body.field-0 c.in-Over.is c.in_ok-body.ensures.formatted in
    let told = keeping-told _ (one_fewer _ _ c.loop-page-test.true) c.loop-page.invariant.so_far over in
    record { pages_are = told.bodies_are; pieces_are = told.pieces_are; rows_are = told.rows_are; last_is = told.last_is }

pub returns-in-Over-clause-counted : goal.returns-in-Over-clause-counted
returns-in-Over-clause-counted g c =
    let t : Progress g.M.Machine.Meaning = stretch g.M.Machine.formatter c.args.files.now (page_start (g.M.Machine.meaning c.loop-page.spot.state) c.loop-page.spot.opens c.args.budget) in
    let over = end-formatted g.M.Machine.formatter g.M.Machine.meaning g.M.Machine.pending c.args.files.now t c.in_ok-body.field-0 c.in-Over.is c.in_ok-body.ensures.formatted in
    keeping-counted _ (one_fewer _ _ c.loop-page-test.true) c.loop-page.invariant.so_far over c.in_ok-body.ensures.counted

pub returns-in-Over-clause-bound : goal.returns-in-Over-clause-bound
returns-in-Over-clause-bound g c = keeping-bound _ (one_fewer _ _ c.loop-page-test.true) c.loop-page.invariant.so_far c.format_row.ensures.bound

pub loop-page-preserved : goal.loop-page-preserved
loop-page-preserved g c =
    let t : Progress g.M.Machine.Meaning = stretch g.M.Machine.formatter c.args.files.now (page_start (g.M.Machine.meaning c.loop-page.spot.state) c.loop-page.spot.opens c.args.budget) in
    let page = page-formatted g.M.Machine.formatter g.M.Machine.meaning g.M.Machine.pending c.args.files.now t c.in_ok-body.field-0 c.in-Page.is c.in_ok-body.ensures.formatted in
    let idle = page-idle g.M.Machine.formatter g.M.Machine.meaning g.M.Machine.pending c.args.files.now t c.in_ok-body.field-0 c.in-Page.is c.in_ok-body.ensures.idle in
    record {
      so_far = keeping-page _ (one_fewer _ _ c.loop-page-test.true) c.loop-page.invariant.so_far page.0 page.1 c.in_ok-body.ensures.place c.in_ok-body.ensures.counted
          c.in_ok-push_page-in-Page.ensures.pages c.in_ok-push_page-in-Page.ensures.pieces
          (ap (map (row_meant g.M.Machine.meaning)) c.in_ok-push_page-in-Page.ensures.rows ∙ map-append (row_meant g.M.Machine.meaning) c.loop-page.rows.items (c.in-Page.row ∷ []));
      idle = idle.1;
      kept = subst (AreIdle g.M.Machine.formatter g.M.Machine.meaning g.M.Machine.pending) (sym c.in_ok-push_page-in-Page.ensures.rows)
          (idle-push g.M.Machine.formatter g.M.Machine.meaning g.M.Machine.pending c.loop-page.rows.items c.in-Page.row c.loop-page.invariant.kept idle.0);
    }

pub returns-clause-rows : goal.returns-clause-rows
returns-clause-rows g c =
    let told = limit-told (none_left _ _ c.loop-page-test.false) c.loop-page.invariant.so_far in
    record {
      pages_are = told.bodies_are;
      pieces_are = told.pieces_are;
      rows_are = told.rows_are;
      last_is = (λ i. record { piece = c.new.ensures i; turns = 0; seen = c.new-2.ensures i; opens = c.replace.ensures.value i; end = PageLimit }) ∙ told.last_is;
    }

pub returns-clause-counted : goal.returns-clause-counted
returns-clause-counted g c = limit-counted (none_left _ _ c.loop-page-test.false) c.loop-page.invariant.so_far

pub returns-clause-bound : goal.returns-clause-bound
returns-clause-bound g c =
    let all = limit-counted (none_left _ _ c.loop-page-test.false) c.loop-page.invariant.so_far in
    omega arith
