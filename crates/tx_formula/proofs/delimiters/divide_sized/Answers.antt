use Rattle.std.proofs.Common.{◌≡◌, ℤ, to_z, of_z, w32, rules, ap, refl, sym, ◌∙◌}
use Rattle.tx_command.specs.Commands.{delimiters_before}
use Rattle.tx_state.specs.declared.state.State.{State}
use Rattle.tx_state.specs.Meanings.{state_of}
use Rattle.tx_state.proofs.Outcomes.{outcome-by}
use Rattle.tx_formula.specs.Atoms.{dividing}
use Rattle.tx_formula.specs.Delimiters.{lining}
use Rattle.tx_formula.proofs.delimiters.divide_sized.Goals as goal

pub returns : goal.returns
returns c =
    let same : to_z w32 (of_z w32 c.args.size) ≡ c.args.size = search rules in
    let between : State = record c.args.s.now { scan = c.fraction_lined-head.new.scan } in
    outcome-by (dividing (state_of between) c.fraction_lined-head.result) (lining (state_of c.args.s.now) c.args.size (delimiters_before c.args.s.now.scan.head)) c.args.s.now between c.divide.new.s c.divide.result
    (sym (ap (λ (size : ℤ). lining (state_of c.args.s.now) size (delimiters_before c.args.s.now.scan.head)) (sym same) ∙ c.fraction_lined-head.ensures c.args.s.now)) refl c.divide.ensures
