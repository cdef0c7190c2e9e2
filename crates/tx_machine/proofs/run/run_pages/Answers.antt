use Rattle.std.proofs.Common.{◌≡◌, ◌≤◌, ℕ, ◌+◌, ◌-◌, suc, refl, ◌∙◌, arith}
use Rattle.tx_machine.specs.declared.types.Close.TheVariants.{Halt, Spent}
use Rattle.tx_machine.proofs.Running.{running-page, running-halted, running-ended, running-bound, running-limit, ended-counted, limit-counted}
use Rattle.tx_machine.proofs.run.run_pages.Goals as goal

-- while pages may still come, one fewer may come behind the next one
one_fewer : (limit page : ℕ) → suc page ≤ limit → limit - page ≡ suc (limit - (page + 1))
one_fewer limit page below = omega arith

none_left : (limit page : ℕ) → limit ≤ page → limit - page ≡ 0
none_left limit page past = omega arith

pub returns-in_err-close-clause-bound : goal.returns-in_err-close-clause-bound
returns-in_err-close-clause-bound g c = running-bound g.met.M.Machine.lawful _ (one_fewer _ _ c.loop-page-test.true) c.loop-page.invariant.so_far c.format_page.ensures.bound

pub returns-in_err-push-in-Page-clause-bound : goal.returns-in_err-push-in-Page-clause-bound
returns-in_err-push-in-Page-clause-bound g c = running-bound g.met.M.Machine.lawful _ (one_fewer _ _ c.loop-page-test.true) c.loop-page.invariant.so_far c.format_page.ensures.bound

pub returns-in_err-push-in-Page-2-clause-bound : goal.returns-in_err-push-in-Page-2-clause-bound
returns-in_err-push-in-Page-2-clause-bound g c = running-bound g.met.M.Machine.lawful _ (one_fewer _ _ c.loop-page-test.true) c.loop-page.invariant.so_far c.format_page.ensures.bound

pub returns-in_err-end_of-in-Halt-clause-bound : goal.returns-in_err-end_of-in-Halt-clause-bound
returns-in_err-end_of-in-Halt-clause-bound g c = running-bound g.met.M.Machine.lawful _ (one_fewer _ _ c.loop-page-test.true) c.loop-page.invariant.so_far c.format_page.ensures.bound

pub returns-in-Halt-clause-ran : goal.returns-in-Halt-clause-ran
returns-in-Halt-clause-ran g c =
    (λ i. record { pages = c.pages.view_is i; pieces = c.pieces.view_is i; last = c.piece-in-Halt.view_is i; end = c.in_ok-end_of-in-Halt.field-0 })
    ∙ running-halted g.met.M.Machine.lawful _ (one_fewer _ _ c.loop-page-test.true) c.loop-page.invariant.so_far c.in_ok-close.ensures.closes c.in-Halt.is c.in_ok-end_of-in-Halt.ensures

pub returns-in-Halt-clause-counted : goal.returns-in-Halt-clause-counted
returns-in-Halt-clause-counted g c = ended-counted g.met.M.Machine.lawful _ (one_fewer _ _ c.loop-page-test.true) c.loop-page.invariant.so_far (Halt c.in-Halt.stop) c.in_ok-close.ensures.closes c.in-Halt.is refl c.in_ok-close.ensures.steps

pub returns-in-Halt-clause-bound : goal.returns-in-Halt-clause-bound
returns-in-Halt-clause-bound g c = running-bound g.met.M.Machine.lawful _ (one_fewer _ _ c.loop-page-test.true) c.loop-page.invariant.so_far c.format_page.ensures.bound

pub returns-in-Spent-clause-ran : goal.returns-in-Spent-clause-ran
returns-in-Spent-clause-ran g c = running-ended g.met.M.Machine.lawful _ (one_fewer _ _ c.loop-page-test.true) c.loop-page.invariant.so_far Spent c.in_ok-close.ensures.closes c.in-Spent.is refl

pub returns-in-Spent-clause-counted : goal.returns-in-Spent-clause-counted
returns-in-Spent-clause-counted g c = ended-counted g.met.M.Machine.lawful _ (one_fewer _ _ c.loop-page-test.true) c.loop-page.invariant.so_far Spent c.in_ok-close.ensures.closes c.in-Spent.is refl c.in_ok-close.ensures.steps

pub returns-in-Spent-clause-bound : goal.returns-in-Spent-clause-bound
returns-in-Spent-clause-bound g c = running-bound g.met.M.Machine.lawful _ (one_fewer _ _ c.loop-page-test.true) c.loop-page.invariant.so_far c.format_page.ensures.bound

pub loop-page-preserved : goal.loop-page-preserved
loop-page-preserved g c = record {
  so_far = rw (c.in_ok-push-in-Page.ensures.ok, c.in_ok-push-in-Page-2.ensures.ok)
      (running-page g.met.M.Machine.lawful _ (one_fewer _ _ c.loop-page-test.true) c.loop-page.invariant.so_far c.in_ok-close.ensures.closes c.in-Page.is c.in_ok-close.ensures.steps);
  taken = c.in_ok-close.ensures.taken;
}

pub returns-clause-ran : goal.returns-clause-ran
returns-clause-ran g c = running-limit (none_left _ _ c.loop-page-test.false) c.loop-page.invariant.so_far c.new.ensures

pub returns-clause-counted : goal.returns-clause-counted
returns-clause-counted g c = limit-counted (none_left _ _ c.loop-page-test.false) c.loop-page.invariant.so_far
