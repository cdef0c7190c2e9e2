use Rattle.std.proofs.Common.{◌≡◌, ◌-◌, suc, sym, arith}
use Rattle.tx_convert.proofs.Dots.{up-to-dot, without-dot}
use Rattle.tx_convert.proofs.jobs.job_of.Goals as goal

pub returns-then-name-end-eq46 : goal.returns-then-name-end-eq46
returns-then-name-end-eq46 c =
    let here : suc (c.loop-end.end - 1) ≡ c.loop-end.end = omega arith in
    sym (up-to-dot c.args.name.now (c.loop-end.end - 1) (omega arith) c.if-name-end-eq46.true (rw here c.loop-end.invariant.1))

pub returns : goal.returns
returns c =
    let all : c.loop-end.end ≡ 0 = omega arith in
    sym (without-dot c.args.name.now (rw all at c.loop-end.invariant.1))
