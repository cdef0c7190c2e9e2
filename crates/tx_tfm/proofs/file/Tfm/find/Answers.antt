use Rattle.std.proofs.Common.{◌≡◌, sym, ap, ◌∙◌, arith}
use Rattle.tx_tfm.specs.LigKern.{found}
use Rattle.tx_tfm.proofs.Programs.{found-halt, found-here, found-last, found-later, found-none}
use Rattle.tx_tfm.proofs.file.Tfm.find.Goals as goal

pub returns-then-command-gt128 : goal.returns-then-command-gt128
returns-then-command-gt128 c =
    sym (found-halt c.args.self.now c.loop-left.left c.loop-left.place c.args.code _ c.command-command.ensures (omega arith) c.if-command-gt128.true) ∙ c.loop-left.invariant.0

pub returns-then-command-code : goal.returns-then-command-code
returns-then-command-code c =
    sym (found-here c.args.self.now c.loop-left.left c.loop-left.place c.args.code _ c.command-command.ensures (omega arith) c.if-command-gt128.false c.if-command-code.true) ∙ c.loop-left.invariant.0

pub returns-then-command : goal.returns-then-command
returns-then-command c =
    sym (found-last c.args.self.now c.loop-left.left c.loop-left.place c.args.code _ c.command-command.ensures (omega arith) c.if-command-code.false c.if-command.true) ∙ c.loop-left.invariant.0

pub loop-left-preserved : goal.loop-left-preserved
loop-left-preserved c =
    (sym (found-later c.args.self.now c.loop-left.left c.loop-left.place c.args.code _ _ c.command-command.ensures (omega arith) c.if-command-gt128.false c.if-command-code.false c.if-command.false (omega arith)) ∙ c.loop-left.invariant.0, omega arith)

pub returns : goal.returns
returns c =
    let over : c.loop-left.left ≡ 0 = omega arith in
    sym (found-none c.args.self.now c.loop-left.place c.args.code) ∙ ap (λ n. found c.args.self.now n c.loop-left.place c.args.code) (sym over) ∙ c.loop-left.invariant.0
