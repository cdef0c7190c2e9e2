-- A document that is served, where nothing comes in, has the line of its run alone.
use Rattle.std.proofs.Common.{◌≡◌, ℕ, ◌≤◌, false, [], ◌∷◌, Option, Result, Ok, subst, arith}
use Rattle.std.specs.Prelude.{IsErrAnd}
use Rattle.tx_bytes.specs.Files.{Files}
use Rattle.tx_io.specs.Output.{Output, told}
use Rattle.tx_io.specs.Cut.{IsCutShort}
use Rattle.tx_machine.specs.Machine.{Formatter}
use Rattle.tx_machine.specs.Steps.{raised}
use Rattle.tx_session.specs.Held.{Held, fresh}
use Rattle.tx_words.specs.declared.given.Serving.{Serving}
use Rattle.tx_call.specs.declared.trouble.Interruption.{Interruption}
use Rattle.tx_call.specs.declared.trouble.Interruption.TheVariants.{Trouble as Interrupted}
use Rattle.tx_call.specs.declared.trouble.Trouble.{Trouble}
use Rattle.tx_call.specs.Outcome.{first_piece, served, unasked_outcome}
use Rattle.tx_call.specs.Replay.{status_after}
use Rattle.tx_call.specs.Trouble.{Does, Ends}
use Rattle.tx_call.proofs.Replayed.{on-err}

is-most : (steps steps' turns : ℕ) → steps' ≡ raised steps turns → steps' ≤ raised steps turns
is-most steps steps' turns is = omega (arith, is)

module _ {S : Type 0} (m : Formatter S) (serving : Serving) (files : Files) (held : Held) (is : held ≡ served serving files) where
  counted : (steps steps' : ℕ) → steps' ≡ raised steps (fresh m held).turns → steps' ≡ raised steps (unasked_outcome m serving files).turns
  counted steps steps' run = subst (λ (h : Held). steps' ≡ raised steps (fresh m h).turns) is run

  -- the line was said
  pub line-said : (status : ℕ) {before after : Option Output} {steps steps' : ℕ} → after ≡ told before (first_piece (fresh m held).ran ∷ []) → steps' ≡ raised steps (fresh m held).turns
      → status ≡ status_after (fresh m held).ran.end false → Does (Ok status) (unasked_outcome m serving files) before after steps steps'
  line-said status {before = before} {after = after} {steps = steps} {steps' = steps'} line run end = record {
    ends = record {
      status_is = subst (λ (h : Held). status ≡ status_after (fresh m h).ran.end false) is end;
      output_is = subst (λ (h : Held). after ≡ told before (first_piece (fresh m h).ran ∷ [])) is line;
      steps_are = counted steps steps' run;
    };
    most = is-most steps steps' (unasked_outcome m serving files).turns (counted steps steps' run);
  }

  -- or trouble came in its midst
  pub line-short : (result : Result ℕ Interruption) (trouble : Trouble) {before after : Option Output} {steps steps' : ℕ} → IsErrAnd result (λ e. e ≡ Interrupted trouble)
      → IsCutShort before (first_piece (fresh m held).ran ∷ []) after → steps' ≡ raised steps (fresh m held).turns → Does result (unasked_outcome m serving files) before after steps steps'
  line-short result trouble {before = before} {after = after} {steps = steps} {steps' = steps'} err cut run = record {
    ends = on-err result (Interrupted trouble) (λ r. Ends r (unasked_outcome m serving files) before after steps steps') err
        (subst (λ (h : Held). IsCutShort before (first_piece (fresh m h).ran ∷ []) after) is cut);
    most = is-most steps steps' (unasked_outcome m serving files).turns (counted steps steps' run);
  }
