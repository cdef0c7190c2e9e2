use Rattle.std.proofs.Common.{◌≡◌, ◌-◌, suc, sym, ap, ◌∙◌, take, arith}
use Rattle.std.proofs.lemmas.Result.{IfOk-at_ok, MatchResult-at_ok}
use Rattle.tx_checkpoint.specs.Meant.{rows_meant}
use Rattle.tx_checkpoint.specs.Resume.{Begun, after_rows, start_of}
use Rattle.tx_checkpoint.specs.declared.row.Row.{Row}
use Rattle.tx_checkpoint.proofs.LastRow.{last-row}
use Rattle.tx_checkpoint.proofs.behind.spot_behind.Goals as goal

pub returns-clause-begun : goal.returns-clause-begun
returns-clause-begun g c =
    let start : Begun g.M.Machine.Meaning = start_of g.M.Machine.formatter c.args.main.now c.args.date.now in
    let kept : suc (c.args.kept - 1) ≡ c.args.kept = omega (arith, c.if-kept-eq0.false) in
    let row = c.index-rows-kept.result in
    let state = IfOk-at_ok _ c.in_ok-state.ensures.0 c.share.ensures.state in
    let opens = MatchResult-at_ok _ _ _ c.in_ok-state.ensures.1 c.clone.ensures.cases in
    (λ i. record { state = state i; opens = opens i })
    ∙ ap (λ (it : Row g.row.M-State.Denot). record { state = g.M.Machine.meaning it.state; opens = it.opens }) c.index-rows-kept.is
    ∙ sym (last-row g.M.Machine.meaning start c.args.rows.now (c.args.kept - 1) row (omega (arith, c.if-kept-eq0.false, c.requires.within)))
    ∙ ap (λ n. after_rows start (take n (rows_meant g.M.Machine.meaning c.args.rows.now))) kept
