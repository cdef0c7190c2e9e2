-- The edits that were made so far, with their turns, and what stands where memory was wanting for the next one.
use Rattle.std.proofs.Common.{◌≡◌, ℕ, ◌+◌, ◌<◌, ◌≤◌, true, List, [], ◌∷◌, ◌++◌, length, take, get_or, Some, Result, Ok, Err, refl, sym, ap, ◌∙◌, subst, arith}
use Rattle.std.specs.Prelude.{OnErr}
use Rattle.std.proofs.lemmas.List.{take_more, take_all}
use Rattle.std.proofs.lemmas.List.Sums.{fold-append}
use Rattle.std.proofs.lemmas.Option.{slice_get-get_or}
use Rattle.tx_files.specs.Edits.{fits_in, after_edit}
use Rattle.tx_files.specs.declared.edit.Edit.{Edit}
use Rattle.tx_machine.specs.Machine.{Formatter}
use Rattle.tx_machine.specs.Steps.{raised}
use Rattle.tx_machine.proofs.Going.{raised-zero, raised-raised}
use Rattle.tx_session.specs.Held.{Held, with_files, after, replayed}
use Rattle.tx_session.specs.Report.{turns_of_edit, turns_of_edits, IsStopped}

pub record Replaying {S : Type 0} (m : Formatter S) (begun here : Held) (edits : List Edit) (made before now : ℕ) : Type 0 where
  pub held : here ≡ replayed begun (take made edits)
  pub counted : now ≡ raised before (turns_of_edits m begun (take made edits))

-- what is so of an error is so of the result that is one
pub on-err : {T E : Type 0} (r : Result T E) {IsSo : Type 0} → IsSo → OnErr r IsSo
on-err (Ok value) so = tt
on-err (Err e) so = so

plus_none : (turns : ℕ) → turns + 0 ≡ 0 + turns
plus_none turns = omega arith

regroup : (a b c : ℕ) → a + (b + c) ≡ a + b + c
regroup a b c = omega arith

-- the edits so far and the next one
one_more : (edits : List Edit) (k : ℕ) (e : Edit) → k < length edits → e ≡ get_or edits k e → take (k + 1) edits ≡ take k edits ++ e ∷ []
one_more edits k e more is = take_more edits k e more ∙ ap (λ x. take k edits ++ x ∷ []) (sym is)

replayed-append : (held : Held) (first : List Edit) (e : Edit) → after (replayed held first) e ≡ replayed held (first ++ e ∷ [])
replayed-append held first e = ap (with_files held) (sym (fold-append after_edit held.files first (e ∷ [])))

module _ {S : Type 0} (m : Formatter S) where
  turns-append : (held : Held) (first : List Edit) (e : Edit) → turns_of_edits m held (first ++ e ∷ []) ≡ turns_of_edits m held first + turns_of_edit m (replayed held first) e
  turns-append held [] e = plus_none (turns_of_edit m held e)
  turns-append held (d ∷ first) e =
      ap (λ n. turns_of_edit m held d + n) (turns-append (after held d) first e)
      ∙ regroup (turns_of_edit m held d) (turns_of_edits m (after held d) first) (turns_of_edit m (replayed (after held d) first) e)

  pub replaying-begun : (held : Held) (edits : List Edit) (steps : ℕ) → Replaying m held held edits 0 steps steps
  replaying-begun held edits steps = record { held = refl; counted = sym (raised-zero steps) }

  counted-on : {begun here : Held} {edits : List Edit} {k before now : ℕ} (e : Edit)
      → Replaying m begun here edits k before now → k < length edits → e ≡ get_or edits k e
      → raised now (turns_of_edit m here e) ≡ raised before (turns_of_edits m begun (take (k + 1) edits))
  counted-on {begun = begun} {edits = edits} {k = k} {before = before} e so_far more is =
      (λ i. raised (so_far.counted i) (turns_of_edit m (so_far.held i) e))
      ∙ raised-raised before (turns_of_edits m begun (take k edits)) (turns_of_edit m (replayed begun (take k edits)) e)
      ∙ ap (raised before) (sym (turns-append begun (take k edits) e) ∙ ap (turns_of_edits m begun) (sym (one_more edits k e more is)))

  -- it was made, or left out
  pub replaying-on : {begun here next : Held} {edits : List Edit} {k before now now' : ℕ} (e : Edit)
      → Replaying m begun here edits k before now → k < length edits → e ≡ get_or edits k e
      → next ≡ after here e → now' ≡ raised now (turns_of_edit m here e)
      → Replaying m begun next edits (k + 1) before now'
  replaying-on {begun = begun} {edits = edits} {k = k} e so_far more is gives count = record {
    held = gives ∙ ap (λ held. after held e) so_far.held ∙ replayed-append begun (take k edits) e ∙ ap (replayed begun) (sym (one_more edits k e more is));
    counted = count ∙ counted-on e so_far more is;
  }

  -- memory was wanting for it
  pub replaying-stopped : {begun here next : Held} {edits : List Edit} {k before now now' : ℕ} (e : Edit)
      → Replaying m begun here edits k before now → k < length edits → e ≡ get_or edits k e
      → next ≡ here → fits_in here.files e ≡ true → now' ≤ raised now (turns_of_edit m here e)
      → IsStopped m edits begun next before now'
  replaying-stopped {edits = edits} {k = k} {now' = now'} e so_far more is stays fits few = record {
    made = k;
    wanting = e;
    is_next = slice_get-get_or edits k e more ∙ ap Some (sym is);
    held_is = stays ∙ so_far.held;
    fits = subst (λ (held : Held). fits_in held.files e ≡ true) (sym stays) fits;
    most = subst (λ (n : ℕ). now' ≤ n) (counted-on e so_far more is) few;
  }

  -- all were
  pub replaying-counted : {begun here : Held} {edits : List Edit} {k before now : ℕ}
      → Replaying m begun here edits k before now → length edits ≤ k → now ≡ raised before (turns_of_edits m begun edits)
  replaying-counted {begun = begun} {edits = edits} {k = k} {before = before} so_far past = so_far.counted ∙ ap (λ made. raised before (turns_of_edits m begun made)) (take_all k edits past)
