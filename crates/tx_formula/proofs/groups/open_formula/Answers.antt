use Rattle.std.proofs.Common.{refl}
use Rattle.tx_state.specs.declared.state.State.{State}
use Rattle.tx_state.specs.Groups.{opening}
use Rattle.tx_formula.specs.Groups.{opening_formula}
use Rattle.tx_state.specs.Meanings.{state_of}
use Rattle.tx_state.proofs.Outcomes.{outcome-by}
use Rattle.tx_formula.proofs.groups.open_formula.Goals as goal

pub returns : goal.returns
returns c =
    let begun : State = record c.args.s.now { lists = c.begin.new.lists; scan = c.begin.new.scan } in
    outcome-by (opening (state_of begun) c.args.kind (state_of begun)) (opening_formula (state_of c.args.s.now) c.args.kind) c.args.s.now begun c.open.new.s c.open.result
    (λ i. opening (state_of (record c.args.s.now { lists = c.in_ok-begin.ensures.lists i; scan = c.in_ok-begin.ensures.scan i })) c.args.kind (state_of (record c.args.s.now { lists = c.in_ok-begin.ensures.lists i; scan = c.in_ok-begin.ensures.scan i })))
    refl c.open.ensures
