-- What came in next was answered, or memory was wanting for that.
use Rattle.std.proofs.Common.{◌≡◌, ℕ, ◌≤◌, Bool, true, inr, List, [], ◌∷◌, Option, Some, None, Result, Ok, Err, refl, sym, subst, arith}
use Rattle.std.specs.Prelude.{IsErrAnd, IfSome}
use Rattle.tx_io.specs.Output.{Output, Say}
use Rattle.tx_machine.specs.Machine.{Formatter}
use Rattle.tx_machine.specs.Steps.{raised}
use Rattle.tx_request.specs.declared.request.Next.{Next}
use Rattle.tx_request.specs.declared.request.Next.TheVariants.{Asks, Refused, Over}
use Rattle.tx_request.specs.declared.request.Request.{Request}
use Rattle.tx_request.specs.Requests.{IsNext}
use Rattle.tx_script.specs.declared.error.Rule.{Rule}
use Rattle.tx_call.specs.declared.trouble.Trouble.{Trouble}
use Rattle.tx_call.specs.declared.trouble.Break.{Break}
use Rattle.tx_call.specs.declared.trouble.Break.TheVariants as breaks
use Rattle.tx_call.specs.Answers.{Unread}
use Rattle.tx_call.specs.Hearing.{Answers, Hears, HearsOne}
use Rattle.tx_call.specs.Lines.{request_refusal_line}
use Rattle.tx_call.specs.Sitting.{Sitting}
use Rattle.tx_call.specs.Trouble.{PutsOut}
use Rattle.tx_call.proofs.Replayed.{on-err}

still : (steps : ℕ) → steps ≡ raised steps 0
still steps = omega arith

no-fewer : (steps : ℕ) → steps ≤ raised steps 0
no-fewer steps = omega arith

-- where nothing more comes in, no byte was left
pub over-ends : (left left' : Option (List ℕ)) → IsNext Over left left' → IfSome left (λ bytes. bytes ≡ [])
over-ends None left' next = tt
over-ends (Some bytes) None next = absurd next
over-ends (Some bytes) (Some rest) next = next.0

module _ {S : Type 0} (m : Formatter S) where
  -- a request was answered
  pub request-heard : {T : Type 0} (r : Request) (value : T) {left left' : Option (List ℕ)} {t t' : Sitting} {before after : Option Output} {steps steps' : ℕ}
      → IsNext (Asks r) left left' → Answers m r (Ok value) t t' before after steps steps' → HearsOne {T = Bool} m (Ok true) left left' t t' before after steps steps'
  request-heard r value {left = left} {left' = left'} next answers = record {
    event = answers.event;
    read = subst (λ (n : Next). IsNext n left left') (sym answers.asked) next;
    may_come = answers.may_come;
    comes = answers.comes;
  }

  request-heard-in-part : {T : Type 0} (r : Request) (trouble : Trouble) {left left' : Option (List ℕ)} {t t' : Sitting} {before after : Option Output} {steps steps' : ℕ}
      → IsNext (Asks r) left left' → Answers {T = T} m r (Err trouble) t t' before after steps steps' → HearsOne {T = Bool} m (Err trouble) left left' t t' before after steps steps'
  request-heard-in-part r trouble {left = left} {left' = left'} next answers = record {
    event = answers.event;
    read = subst (λ (n : Next). IsNext n left left') (sym answers.asked) next;
    may_come = answers.may_come;
    comes = answers.comes;
  }

  -- bytes that are no request were refused
  pub refusal-heard : (rule : Rule) (left left' : Option (List ℕ)) (t : Sitting) (before after : Option Output) (steps : ℕ)
      → IsNext (Refused rule) left left' → PutsOut {T = Bool} (Ok true) before (Say (request_refusal_line rule) ∷ []) after → HearsOne {T = Bool} m (Ok true) left left' t t before after steps steps
  refusal-heard rule left left' t before after steps next puts = record {
    event = Unread rule;
    read = next;
    may_come = tt;
    comes = record { sitting_is = refl; output_is = puts; most = no-fewer steps; steps_are = λ _. still steps };
  }

  refusal-heard-in-part : (rule : Rule) (trouble : Trouble) (left left' : Option (List ℕ)) (t : Sitting) (before after : Option Output) (steps : ℕ)
      → IsNext (Refused rule) left left' → PutsOut {T = Bool} (Err trouble) before (Say (request_refusal_line rule) ∷ []) after → HearsOne {T = Bool} m (Err trouble) left left' t t before after steps steps
  refusal-heard-in-part rule trouble left left' t before after steps next puts = record {
    event = Unread rule;
    read = next;
    may_come = tt;
    comes = record { cut = puts; most = no-fewer steps };
  }

  -- trouble came in the midst of either
  hears-short : (result : Result Bool Break) (trouble : Trouble) (left left' : Option (List ℕ)) (t t' : Sitting) (before after : Option Output) (steps steps' : ℕ)
      → IsErrAnd result (λ e. e ≡ breaks.Trouble trouble) → HearsOne {T = Bool} m (Err trouble) left left' t t' before after steps steps' → Hears m result left left' t t' before after steps steps'
  hears-short result trouble left left' t t' before after steps steps' err one =
      on-err result (breaks.Trouble trouble) (λ r. Hears m r left left' t t' before after steps steps') err (inr one)

  pub request-cut : {T : Type 0} (result : Result Bool Break) (r : Request) (trouble : Trouble) (left left' : Option (List ℕ)) {t t' : Sitting} {before after : Option Output} {steps steps' : ℕ}
      → IsErrAnd result (λ e. e ≡ breaks.Trouble trouble) → IsNext (Asks r) left left' → Answers {T = T} m r (Err trouble) t t' before after steps steps' → Hears m result left left' t t' before after steps steps'
  request-cut {T = T} result r trouble left left' {t = t} {t' = t'} {before = before} {after = after} {steps = steps} {steps' = steps'} err next answers =
      hears-short result trouble left left' t t' before after steps steps' err (request-heard-in-part {T = T} r trouble next answers)

  pub refusal-cut : (result : Result Bool Break) (rule : Rule) (trouble : Trouble) (left left' : Option (List ℕ)) (t : Sitting) (before after : Option Output) (steps : ℕ)
      → IsErrAnd result (λ e. e ≡ breaks.Trouble trouble) → IsNext (Refused rule) left left' → PutsOut {T = Bool} (Err trouble) before (Say (request_refusal_line rule) ∷ []) after
      → Hears m result left left' t t before after steps steps
  refusal-cut result rule trouble left left' t before after steps err next puts =
      hears-short result trouble left left' t t before after steps steps err (refusal-heard-in-part rule trouble left left' t before after steps next puts)
