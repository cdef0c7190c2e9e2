use Rattle.std.proofs.Common.{◌≡◌, sym, ap, ◌∙◌, arith}
use Rattle.tx_tfm.specs.Rules.{successors_end}
use Rattle.tx_tfm.proofs.Programs.{successors-over, successors-on, successors-none}
use Rattle.tx_tfm.proofs.file.Tfm.successors_end.Goals as goal

pub returns-then-tag-ne2 : goal.returns-then-tag-ne2
returns-then-tag-ne2 c =
    sym (successors-over c.args.self.now c.loop-left.left c.loop-left.code _ c.info-info.ensures (omega arith) (omega (arith, c.tag.ensures, c.if-tag-ne2.true))) ∙ c.loop-left.invariant.0

pub loop-left-preserved : goal.loop-left-preserved
loop-left-preserved c =
    (sym (successors-on c.args.self.now c.loop-left.left c.loop-left.code _ _ c.info-info.ensures (omega arith) (omega (arith, c.tag.ensures, c.if-tag-ne2.false)) c.from-code.ensures) ∙ c.loop-left.invariant.0, omega arith)

pub returns : goal.returns
returns c =
    let over : c.loop-left.left ≡ 0 = omega arith in
    sym (successors-none c.args.self.now c.loop-left.code) ∙ ap (λ n. successors_end c.args.self.now n c.loop-left.code) (sym over) ∙ c.loop-left.invariant.0
