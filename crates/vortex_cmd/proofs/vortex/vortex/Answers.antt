use Rattle.std.proofs.Common.{◌≡◌, refl, ⊎_elim, arith, rules}
use Rattle.tx_main.specs.Turns.{tex}
use Rattle.tx_main.specs.Lawful.{tex-lawful}
use Rattle.tx_call.specs.declared.trouble.Trouble.TheVariants.{Memory, Source, Sink}
use Rattle.tx_call.specs.declared.trouble.Interruption.TheVariants.{Trouble as Interrupted, RefusedEdit}
use Rattle.tx_words.specs.Words.{texts}
use Rattle.tx_call.proofs.Held.{leaves_of, turns_bound, stays_at_memory, stays_at_source, leaves_all, leaves_part, leaves_refused}
use Rattle.vortex_cmd.proofs.vortex.vortex.Goals as goal

pub returns-in-Ok-clause-leaves : goal.returns-in-Ok-clause-leaves
returns-in-Ok-clause-leaves g c = leaves_of tex (texts c.args.words.now) c.in-Ok.ensures.does (λ outcome does. leaves_all does c.in-Ok.ensures.causes.1)

pub returns-in-Err-Trouble-Source-clause-leaves : goal.returns-in-Err-Trouble-Source-clause-leaves
returns-in-Err-Trouble-Source-clause-leaves g c =
    let is : c.in-Err-Trouble-Source.field-0 ≡ Interrupted Source = search rules in
    leaves_of tex (texts c.args.words.now) c.in-Err-Trouble-Source.ensures.does (λ outcome does. leaves_part _ Source is (⊎_elim (λ small. omega arith) (λ five. omega arith)) (λ _. stays_at_source _ _ _ _ _ is c.in-Err-Trouble-Source.ensures.causes) does)

pub returns-in-Err-Trouble-Sink-clause-leaves : goal.returns-in-Err-Trouble-Sink-clause-leaves
returns-in-Err-Trouble-Sink-clause-leaves g c =
    let is : c.in-Err-Trouble-Sink.field-0 ≡ Interrupted Sink = search rules in
    leaves_of tex (texts c.args.words.now) c.in-Err-Trouble-Sink.ensures.does (λ outcome does. leaves_part _ Sink is (⊎_elim (λ small. omega arith) (λ five. omega arith)) (λ other. absurd (other refl)) does)

pub returns-in-Err-Trouble-Memory-clause-leaves : goal.returns-in-Err-Trouble-Memory-clause-leaves
returns-in-Err-Trouble-Memory-clause-leaves g c =
    let is : c.in-Err-Trouble-Memory.field-0 ≡ Interrupted Memory = search rules in
    leaves_of tex (texts c.args.words.now) c.in-Err-Trouble-Memory.ensures.does (λ outcome does. leaves_part _ Memory is (⊎_elim (λ small. omega arith) (λ five. omega arith)) (λ _. stays_at_memory _ _ _ _ _ is c.in-Err-Trouble-Memory.ensures.causes) does)

pub returns-in-Err-RefusedEdit-clause-leaves : goal.returns-in-Err-RefusedEdit-clause-leaves
returns-in-Err-RefusedEdit-clause-leaves g c =
    let is : c.in-Err-RefusedEdit.field-0 ≡ RefusedEdit = search rules in
    leaves_of tex (texts c.args.words.now) c.in-Err-RefusedEdit.ensures.does (λ outcome does. leaves_refused _ is does)

pub returns-in-Ok-clause-bound : goal.returns-in-Ok-clause-bound
returns-in-Ok-clause-bound g c = turns_bound tex (texts c.args.words.now) tex-lawful c.run_words.ensures.does

pub returns-in-Err-Trouble-Sink-clause-bound : goal.returns-in-Err-Trouble-Sink-clause-bound
returns-in-Err-Trouble-Sink-clause-bound g c = turns_bound tex (texts c.args.words.now) tex-lawful c.run_words.ensures.does

pub returns-in-Err-Trouble-Memory-clause-bound : goal.returns-in-Err-Trouble-Memory-clause-bound
returns-in-Err-Trouble-Memory-clause-bound g c = turns_bound tex (texts c.args.words.now) tex-lawful c.run_words.ensures.does

pub returns-in-Err-RefusedEdit-clause-bound : goal.returns-in-Err-RefusedEdit-clause-bound
returns-in-Err-RefusedEdit-clause-bound g c = turns_bound tex (texts c.args.words.now) tex-lawful c.run_words.ensures.does
