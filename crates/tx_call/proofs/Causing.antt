-- Trouble of a part is that of the whole, with the faults that it counted.
use Rattle.std.proofs.Common.{◌≡◌, ℕ, Result, Err, refl, subst}
use Rattle.std.specs.Prelude.{IsErrAnd}
use Rattle.tx_call.specs.declared.trouble.Trouble.{Trouble}
use Rattle.tx_call.specs.declared.trouble.Trouble.TheVariants.{Memory, Source, Sink}
use Rattle.tx_call.specs.declared.trouble.Interruption.{Interruption}
use Rattle.tx_call.specs.declared.trouble.Interruption.TheVariants.{Trouble as Interrupted}
use Rattle.tx_call.specs.declared.trouble.Break.{Break}
use Rattle.tx_call.specs.declared.trouble.Break.TheVariants as breaks
use Rattle.tx_call.specs.Hearing.{BreakCauses}
use Rattle.tx_call.specs.Trouble.{SinkCauses, EditCauses}
use Rattle.tx_call.proofs.Replayed.{on-err}

-- what a part answers but for trouble doesn't matter
same-sink : (T U : Type 0) (trouble : Trouble) (before after : ℕ) → SinkCauses {T = U} (Err trouble) before after → SinkCauses {T = T} (Err trouble) before after
same-sink T U Memory before after causes = causes
same-sink T U Source before after causes = causes
same-sink T U Sink before after causes = causes

same-break : (T U : Type 0) (e : Break) (inlet inlet' before after : ℕ) → BreakCauses {T = U} (Err e) inlet inlet' before after → BreakCauses {T = T} (Err e) inlet inlet' before after
same-break T U breaks.Inlet inlet inlet' before after causes = causes
same-break T U (breaks.Trouble trouble) inlet inlet' before after causes = (causes.0, same-sink T U trouble before after causes.1)

pub edit-caused : (T U : Type 0) (r : Result T Interruption) (trouble : Trouble) (before after : ℕ) → IsErrAnd r (λ e. e ≡ Interrupted trouble) → SinkCauses {T = U} (Err trouble) before after → EditCauses r before after
edit-caused T U r trouble before after err causes = on-err r (Interrupted trouble) (λ (x : Result T Interruption). EditCauses x before after) err (same-sink T U trouble before after causes)

pub line-caused : (T U : Type 0) (r : Result T Break) (trouble : Trouble) (inlet before after : ℕ) → IsErrAnd r (λ e. e ≡ breaks.Trouble trouble) → SinkCauses {T = U} (Err trouble) before after → BreakCauses r inlet inlet before after
line-caused T U r trouble inlet before after err causes =
    on-err r (breaks.Trouble trouble) (λ (x : Result T Break). BreakCauses x inlet inlet before after) err (refl, same-sink T U trouble before after causes)

pub break-caused : (T U : Type 0) (r : Result T Break) (e : Break) (inlet inlet' before between after : ℕ) → IsErrAnd r (λ x. x ≡ e) → between ≡ before → BreakCauses {T = U} (Err e) inlet inlet' between after → BreakCauses r inlet inlet' before after
break-caused T U r e inlet inlet' before between after err same causes =
    on-err r e (λ (x : Result T Break). BreakCauses x inlet inlet' before after) err
    (same-break T U e inlet inlet' before after (subst (λ (n : ℕ). BreakCauses {T = U} (Err e) inlet inlet' n after) same causes))
