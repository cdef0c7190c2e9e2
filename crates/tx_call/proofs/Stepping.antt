-- What came of a command, by what its parts put out; and a script's command, carried out where no earlier run is kept, is as it stands there.
use Rattle.std.proofs.Common.{◌≡◌, ℕ, ◌+◌, ◌≤◌, true, false, List, [], ◌∷◌, length, Option, Result, Ok, Err, refl, sym, ap, subst, ◌∙◌, arith}
use Rattle.std.specs.Prelude.{IfOk, OnOk, IsErr, IsErrAnd}
use Rattle.tx_io.specs.Output.{Output, Piece, Say, told}
use Rattle.tx_io.specs.Cut.{IsCutShort}
use Rattle.tx_machine.specs.Machine.{Formatter}
use Rattle.tx_machine.specs.Steps.{raised}
use Rattle.tx_machine.proofs.Going.{raised-zero}
use Rattle.tx_script.specs.declared.command.Command.{Command}
use Rattle.tx_script.specs.declared.command.Command.TheVariants.{Save as SaveAs, Locate}
use Rattle.tx_script.specs.declared.command.FilePlace.{FilePlace}
use Rattle.tx_checkpoint.specs.Locate.{located}
use Rattle.tx_session.specs.Held.{fresh, rows_of}
use Rattle.tx_session.specs.Standing.{now}
use Rattle.tx_call.specs.declared.step.Stepped.{Stepped}
use Rattle.tx_call.specs.declared.step.Stepped.TheVariants.{Done, Wanting}
use Rattle.tx_call.specs.declared.trouble.Trouble.{Trouble}
use Rattle.tx_call.specs.declared.trouble.Interruption.{Interruption}
use Rattle.tx_call.specs.declared.trouble.Interruption.TheVariants.{Trouble as Interrupted}
use Rattle.tx_call.specs.Lines.{locate_line}
use Rattle.tx_call.specs.Pieces.{saved_pieces}
use Rattle.tx_call.specs.Replay.{Moment, next_moment, pieces_at, turns_at, refused_pieces, Puts}
use Rattle.tx_call.specs.Sitting.{Sitting, Effect, Comes, ComesInPart, ComesToNothing, Goes, moment_of, effect}
use Rattle.tx_call.specs.Trouble.{PutsOut}
use Rattle.tx_call.proofs.Agreeing.{sitting_at, effect-leads, effect-says, effect-takes}
use Rattle.tx_call.proofs.Puts.{puts-some}
use Rattle.tx_call.proofs.Replayed.{on-err}

-- it is so whatever came
pub ok-so : {T E : Type 0} (r : Result T E) {P : Type 0} → P → OnOk r P
ok-so (Ok value) p = p
ok-so (Err e) p = tt

pub each-ok : {T E : Type 0} (r : Result T E) (P : T → Type 0) → ((value : T) → P value) → IfOk r P
each-ok (Ok value) P all = all value
each-ok (Err e) P all = tt

-- trouble came in the midst
pub goes-in-part : (r : Result Stepped Trouble) {e : Effect} (t t' : Sitting) {before after : Option Output} {steps steps' : ℕ} → IsErr r → ComesInPart e before after steps steps' → Goes r e t t' before after steps steps'
goes-in-part (Ok stepped) t t' err part = absurd (let no : false ≡ true = err in cc)
goes-in-part (Err trouble) t t' err part = part

-- by how it went: all of it came, or memory was wanting for it
pub went : (stepped : Stepped) (e : Effect) (t t' : Sitting) (before after : Option Output) (steps steps' : ℕ) → stepped ≡ Done → Goes (Ok stepped) e t t' before after steps steps' → Comes e t' before after steps steps'
went stepped e t t' before after steps steps' is goes = subst (λ (s : Stepped). Goes (Ok s) e t t' before after steps steps') is goes

pub wanted : (stepped : Stepped) (e : Effect) (t t' : Sitting) (before after : Option Output) (steps steps' : ℕ) → stepped ≡ Wanting → Goes (Ok stepped) e t t' before after steps steps' → ComesToNothing e t t' before after steps steps'
wanted stepped e t t' before after steps steps' is goes = subst (λ (s : Stepped). Goes (Ok s) e t t' before after steps steps') is goes

zero-most : (steps : ℕ) → steps ≤ raised steps 0
zero-most steps = omega arith

all-most : (steps steps' turns : ℕ) → steps' ≡ raised steps turns → steps' ≤ raised steps turns
all-most steps steps' turns is = omega arith

-- what there is was saved, or it was told by which page a place is first read
module _ {S : Type 0} (m : Formatter S) (most : ℕ) (t : Sitting) (c : Command) where
  pub saved-comes : (name : List ℕ) {before after : Option Output} (steps : ℕ) → c ≡ SaveAs name → after ≡ told before (saved_pieces name (fresh m (now t.standing)).ran)
      → Comes (effect m most t c) t before after steps steps
  saved-comes name {before = before} {after = after} steps is puts =
      let comes : Comes (effect m most t (SaveAs name)) t before after steps steps = record { sitting_is = refl; output_is = puts; steps_are = sym (raised-zero steps) } in
      subst (λ (x : Command). Comes (effect m most t x) t before after steps steps) (sym is) comes

  pub saved-in-part : (name : List ℕ) {before after : Option Output} (steps : ℕ) → c ≡ SaveAs name → IsCutShort before (saved_pieces name (fresh m (now t.standing)).ran) after
      → ComesInPart (effect m most t c) before after steps steps
  saved-in-part name {before = before} {after = after} steps is cut =
      let part : ComesInPart (effect m most t (SaveAs name)) before after steps steps = record { cut = cut; most = zero-most steps } in
      subst (λ (x : Command). ComesInPart (effect m most t x) before after steps steps) (sym is) part

  pub located-comes : (at : FilePlace) {before after : Option Output} (steps : ℕ) → c ≡ Locate at
      → after ≡ told before (Say (locate_line (t.places + 1) (length (fresh m (now t.standing)).ran.pages) (located (rows_of m (now t.standing)) at.name at.place)) ∷ [])
      → Comes (effect m most t c) (record t { places = t.places + 1 }) before after steps steps
  located-comes at {before = before} {after = after} steps is puts =
      let comes : Comes (effect m most t (Locate at)) (record t { places = t.places + 1 }) before after steps steps = record { sitting_is = refl; output_is = puts; steps_are = sym (raised-zero steps) } in
      subst (λ (x : Command). Comes (effect m most t x) (record t { places = t.places + 1 }) before after steps steps) (sym is) comes

  pub located-in-part : (at : FilePlace) {before after : Option Output} (steps : ℕ) → c ≡ Locate at
      → IsCutShort before (Say (locate_line (t.places + 1) (length (fresh m (now t.standing)).ran.pages) (located (rows_of m (now t.standing)) at.name at.place)) ∷ []) after
      → ComesInPart (effect m most t c) before after steps steps
  located-in-part at {before = before} {after = after} steps is cut =
      let part : ComesInPart (effect m most t (Locate at)) before after steps steps = record { cut = cut; most = zero-most steps } in
      subst (λ (x : Command). ComesInPart (effect m most t x) before after steps steps) (sym is) part

-- a script's command
module _ {S : Type 0} (m : Formatter S) (t : Moment) (c : Command) {before after : Option Output} {steps steps' : ℕ} where
  pub script-moment : {t' : Sitting} → Comes (effect m 0 (sitting_at t) c) t' before after steps steps' → moment_of t' ≡ next_moment t c
  script-moment comes = ap moment_of comes.sitting_is ∙ effect-leads m 0 (sitting_at t) c

  pub script-puts : {t' : Sitting} → Comes (effect m 0 (sitting_at t) c) t' before after steps steps' → after ≡ told before (pieces_at m t c)
  script-puts comes = comes.output_is ∙ ap (told before) (effect-says m 0 t c)

  pub script-takes : {t' : Sitting} → Comes (effect m 0 (sitting_at t) c) t' before after steps steps' → steps' ≡ raised steps (turns_at m t c)
  script-takes comes = comes.steps_are ∙ ap (raised steps) (effect-takes m 0 t c)

  pub script-fully : {t' : Sitting} → Comes (effect m 0 (sitting_at t) c) t' before after steps steps' → steps' ≤ raised steps (turns_at m t c)
  script-fully comes = all-most steps steps' (turns_at m t c) (script-takes comes)

  pub script-cut : (U : Type 0) (out : List ℕ) (r : Result U Interruption) (trouble : Trouble) → IsErrAnd r (λ e. e ≡ Interrupted trouble) → ComesInPart (effect m 0 (sitting_at t) c) before after steps steps'
      → Puts (pieces_at m t c) (refused_pieces m out t) r before after
  script-cut U out r trouble err part =
      on-err r (Interrupted trouble) (λ (x : Result U Interruption). Puts (pieces_at m t c) (refused_pieces m out t) x before after) err (subst (λ (pieces : List Piece). IsCutShort before pieces after) (effect-says m 0 t c) part.cut)

  pub script-most : ComesInPart (effect m 0 (sitting_at t) c) before after steps steps' → steps' ≤ raised steps (turns_at m t c)
  script-most part = subst (λ (turns : ℕ). steps' ≤ raised steps turns) (effect-takes m 0 t c) part.most

-- and one for which memory was wanting
module _ {S : Type 0} (m : Formatter S) (t : Moment) (c : Command) {before between : Option Output} {steps steps' : ℕ} {t' : Sitting} (nothing : ComesToNothing (effect m 0 (sitting_at t) c) (sitting_at t) t' before between steps steps') where
  pub refused-puts : {U : Type 0} (out : List ℕ) (r : Result U Trouble) (after : Option Output) → PutsOut r between (refused_pieces m out (moment_of t')) after → IsCutShort before (refused_pieces m out t) after
  refused-puts out r after puts =
      subst (λ (o : Option Output). IsCutShort o (refused_pieces m out t) after) nothing.output_is
      (subst (λ (x : Sitting). IsCutShort between (refused_pieces m out (moment_of x)) after) nothing.sitting_is (puts-some r (refused_pieces m out (moment_of t')) puts))

  pub refused-most : steps' ≤ raised steps (turns_at m t c)
  refused-most = subst (λ (turns : ℕ). steps' ≤ raised steps turns) (effect-takes m 0 t c) nothing.most
