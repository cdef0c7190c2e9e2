-- What a call leaves that served a document, by how it ended.
use Rattle.std.proofs.Common.{◌≡◌, ◌≢◌, ℕ, ◌<◌, ◌≤◌, ◌⊎◌, inl, inr, ⊎_elim, [], Option, List, Err, sym, subst, arith, append-nil}
use Rattle.tx_io.specs.Cut.{IsCutShort}
use Rattle.tx_io.specs.Faults.{Rose}
use Rattle.tx_io.specs.Output.{Output, Piece, told}
use Rattle.tx_machine.specs.Machine.{Formatter}
use Rattle.tx_session.specs.Held.{Held}
use Rattle.tx_call.specs.declared.trouble.Trouble.{Trouble}
use Rattle.tx_call.specs.declared.trouble.Trouble.TheVariants.{Source}
use Rattle.tx_call.specs.declared.trouble.Break.{Break}
use Rattle.tx_call.specs.declared.trouble.Break.TheVariants as breaks
use Rattle.tx_call.specs.Hearing.{ServeCauses, ServesFiles}
use Rattle.tx_call.specs.Serving.{IsServed, IsServedInPart, IsServedToTheEnd, IsServedToTheFault, IsUntouched, ServeLeaves}

-- what was put out whole was so in part
pub in-part : {before after : Option Output} {pieces : List Piece} → after ≡ told before pieces → IsCutShort before pieces after
in-part {pieces = pieces} whole = record { whole = pieces; left = []; are = sym (append-nil pieces); next = whole }

-- where a file couldn't be fetched, the source counted that
pub source-rose : (e : Break) (source source' inlet inlet' sink sink' : ℕ) → e ≡ breaks.Trouble Source → ServeCauses {T = ℕ} (Err e) source source' inlet inlet' sink sink' → Rose source source'
source-rose e source source' inlet inlet' sink sink' is causes = (subst (λ (x : Break). ServeCauses {T = ℕ} (Err x) source source' inlet inlet' sink sink') is causes).1.0.rose

module _ {S : Type 0} (m : Formatter S) (held : Held) {left : Option (List ℕ)} {before after : Option Output} {steps steps' : ℕ} where
  all-in-part : IsServed m held left before after steps steps' → IsServedInPart m held left before after steps steps'
  all-in-part so_far = record {
    events = so_far.events;
    rest = so_far.rest;
    heard = so_far.heard;
    cut = in-part so_far.output_is;
    most = so_far.most;
  }

module _ {S : Type 0} (m : Formatter S) (held : Held) {faults faults' : ℕ} {left left' : Option (List ℕ)} {before after : Option Output} {steps steps' : ℕ} where
  -- all that came in was answered
  pub leaves-all : (status : ℕ) → (status ≤ 2) ⊎ (status ≡ 5) → IsServedToTheEnd m held left status before after steps steps' → ServeLeaves m held faults faults' left left' status before after steps steps'
  leaves-all status range all = record {
    whole = λ _. all;
    at_fault = λ three. absurd (⊎_elim (λ small. omega (arith, small, three)) (λ five. omega (arith, five, three)) range);
    part = all-in-part m held all.so_far;
  }

  -- what comes in couldn't be read
  pub leaves-at-inlet : (e : Break) → e ≡ breaks.Inlet → ServesFiles m held left left' (Err e) before after steps steps' → ServeLeaves m held faults faults' left left' 3 before after steps steps'
  leaves-at-inlet e is serves =
      let to_fault : IsServedToTheFault m held left left' before after steps steps' = subst (λ (x : Break). ServesFiles m held left left' (Err x) before after steps steps') is serves in
      record {
        whole = λ early. absurd (⊎_elim (λ small. omega arith) (λ five. omega arith) early);
        at_fault = λ _. inr to_fault;
        part = all-in-part m held to_fault.so_far;
      }

  -- a file couldn't be fetched
  pub leaves-at-source : (e : Break) → e ≡ breaks.Trouble Source → Rose faults faults' → IsUntouched left left' before after steps steps' → ServesFiles m held left left' (Err e) before after steps steps' → ServeLeaves m held faults faults' left left' 3 before after steps steps'
  leaves-at-source e is rose untouched serves = record {
    whole = λ early. absurd (⊎_elim (λ small. omega arith) (λ five. omega arith) early);
    at_fault = λ _. inl (rose, untouched);
    part = subst (λ (x : Break). ServesFiles m held left left' (Err x) before after steps steps') is serves;
  }

  -- trouble came that is no fault of what comes in
  pub leaves-in-part : (e : Break) (trouble : Trouble) (status : ℕ) → e ≡ breaks.Trouble trouble → ((status < 2) ⊎ (status ≡ 5) → ⊥) → status ≢ 3
      → ServesFiles m held left left' (Err e) before after steps steps' → ServeLeaves m held faults faults' left left' status before after steps steps'
  leaves-in-part e trouble status is late no_fault serves = record {
    whole = λ early. absurd (late early);
    at_fault = λ fault. absurd (no_fault fault);
    part = subst (λ (x : Break). ServesFiles m held left left' (Err x) before after steps steps') is serves;
  }
