use Rattle.std.proofs.Common.{rules, ap, ◌∙◌}
use Rattle.tx_reading.proofs.Stages.{leaders-boxed, leaders-ruled, leaders-skip}
use Rattle.tx_reading.proofs.stage.feed_leaders.Goals as goal

pub returns-then-is_space : goal.returns-then-is_space
returns-then-is_space c =
    rw c.on.ensures.answer (leaders-skip c.args.kind c.args.token.now c.on.new.scans (search rules) (search rules) (ap (λ scans. scans.stage) c.on.ensures.scans))

pub returns-in-Some : goal.returns-in-Some
returns-in-Some c =
    rw c.on-in-Some.ensures.answer
    (leaders-ruled c.args.kind c.in-Some.direction c.args.token.now c.on-in-Some.new.scans (search rules) (search rules) (search rules) (ap (λ scans. scans.stage) c.on-in-Some.ensures.scans)
    (ap (λ scans. scans.rule.rule) c.on-in-Some.ensures.scans ∙ c.begin.ensures.rule) (ap (λ scans. scans.rule.part) c.on-in-Some.ensures.scans ∙ c.begin.ensures.part))

pub returns-in-None : goal.returns-in-None
returns-in-None c =
    leaders-boxed c.args.kind c.args.token.now c.feed_led_box.new.scans c.feed_led_box.result (search rules) (search rules) (search rules) c.feed_led_box.ensures
