use Rattle.std.proofs.Common.{◌≡◌, ◌-◌, ◌<◌, ◌≤◌, length, Err, sym, subst, rules}
use Rattle.tx_script.specs.declared.error.Broken.{Broken}
use Rattle.tx_script.specs.declared.error.Fault.{Fault}
use Rattle.tx_script.specs.Reading.{command_at, Fails}
use Rattle.tx_script.specs.Text.{IsRefusal}
use Rattle.tx_script.proofs.Scripts.{going-on, only_script, refusal, shorter}
use Rattle.tx_script.proofs.read.read_script.Goals as goal

pub loop-rest-smaller : goal.loop-rest-smaller
loop-rest-smaller c = shorter c.loop-rest.rest.now c.in-Ok.after.now c.in-Ok.command c.in-Ok.ensures

pub loop-rest-preserved : goal.loop-rest-preserved
loop-rest-preserved c = rw c.in_ok-push-in-Ok.ensures.ok (going-on c.loop-rest.invariant c.in-Ok.ensures)

pub overflow_sub-result : goal.overflow_sub-result
overflow_sub-result c =
    let e : command_at c.loop-rest.rest.now ≡ Err c.in-Err-Broken.broken = subst (λ (f : Fault). Fails f (command_at c.loop-rest.rest.now)) c.in-Err-Broken.field-0-is c.in-Err-Broken.ensures in
    let some : 0 < length c.loop-rest.rest.now = search rules in
    subst (λ (b : Broken). b.left ≤ length c.args.bytes.now) (sym c.in-Err-Broken.broken-is) (refusal c.loop-rest.invariant some e).0

pub returns-in-Err-Broken-clause-refused : goal.returns-in-Err-Broken-clause-refused
returns-in-Err-Broken-clause-refused c =
    let e : command_at c.loop-rest.rest.now ≡ Err c.in-Err-Broken.broken = subst (λ (f : Fault). Fails f (command_at c.loop-rest.rest.now)) c.in-Err-Broken.field-0-is c.in-Err-Broken.ensures in
    let some : 0 < length c.loop-rest.rest.now = search rules in
    subst (λ (b : Broken). IsRefusal c.args.bytes.now (length c.args.bytes.now - b.left) b.rule) (sym c.in-Err-Broken.broken-is) (refusal c.loop-rest.invariant some e).1

pub returns-clause-only : goal.returns-clause-only
returns-clause-only c other h = only_script c.loop-rest.invariant (search rules) other h
