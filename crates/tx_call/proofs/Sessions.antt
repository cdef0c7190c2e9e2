-- The first line, the commands, and what is saved at last, one after the other.
use Rattle.std.proofs.Common.{◌≡◌, List, [], ◌∷◌, ◌++◌, ℕ, Option, Result, Ok, Err, ap, ◌∙◌, subst}
use Rattle.std.specs.Prelude.{IsErrAnd, option_map}
use Rattle.tx_io.specs.Output.{Output, Piece, told}
use Rattle.tx_io.specs.Cut.{IsCutShort}
use Rattle.tx_io.proofs.Told.{told-append}
use Rattle.tx_io.proofs.CutShort.{cut-behind, cut-longer}
use Rattle.tx_call.specs.declared.trouble.Trouble.{Trouble}
use Rattle.tx_call.specs.declared.trouble.Interruption.{Interruption}
use Rattle.tx_call.specs.declared.trouble.Interruption.TheVariants.{Trouble as Interrupted, RefusedEdit}
use Rattle.tx_call.specs.Replay.{Refusal, refusal_behind, Replays}
use Rattle.tx_call.proofs.Replayed.{on-err}

module _ (first : Piece) (middle last : List Piece) (refusal : ℕ → Option Refusal) (before : Option Output) where
  abbrev goes : Result ℕ Interruption → Option Output → Type 0
  goes r after = Replays (first ∷ middle ++ last) (λ made. option_map (refusal_behind first) (refusal made)) r before after

  -- the first line met trouble
  pub first-cut : (r : Result ℕ Interruption) (trouble : Trouble) (after : Option Output) → IsErrAnd r (λ e. e ≡ Interrupted trouble) → IsCutShort before (first ∷ []) after → goes r after
  first-cut r trouble after err cut = on-err r (Interrupted trouble) (λ e. goes e after) err (cut-longer before (first ∷ []) (middle ++ last) after cut)

  -- the commands did
  middle-cut : (T : Type 0) (e : Interruption) (said after : Option Output) → said ≡ told before (first ∷ []) → Replays {T = T} middle refusal (Err e) said after → goes (Err e) after
  middle-cut T (Interrupted trouble) said after whole cut =
      cut-longer before (first ∷ middle) last after (cut-behind before (first ∷ []) middle after (subst (λ (o : Option Output). IsCutShort o middle after) whole cut))
  middle-cut T RefusedEdit said after whole short = record {
    made = short.made;
    pieces = refusal_behind first short.pieces;
    are = ap (option_map (refusal_behind first)) short.are;
    cut = subst (λ (o : Option Output). IsCutShort (told o short.pieces.before_it) short.pieces.of_it after) whole short.cut;
  }

  pub commands-cut : (T : Type 0) (r : Result ℕ Interruption) (e : Interruption) (said after : Option Output) → IsErrAnd r (λ x. x ≡ e) → said ≡ told before (first ∷ []) → Replays {T = T} middle refusal (Err e) said after → goes r after
  commands-cut T r e said after err whole cut = on-err r e (λ x. goes x after) err (middle-cut T e said after whole cut)

  all_but_last : (said replayed : Option Output) → said ≡ told before (first ∷ []) → replayed ≡ told said middle → replayed ≡ told before (first ∷ middle)
  all_but_last said replayed whole middles = middles ∙ ap (λ o. told o middle) whole

  -- what is saved at last did
  pub last-cut : (r : Result ℕ Interruption) (trouble : Trouble) (said replayed after : Option Output) (saved : List Piece) → IsErrAnd r (λ e. e ≡ Interrupted trouble) → said ≡ told before (first ∷ []) → replayed ≡ told said middle → saved ≡ last → IsCutShort replayed saved after → goes r after
  last-cut r trouble said replayed after saved err whole middles same cut =
      on-err r (Interrupted trouble) (λ e. goes e after) err
      (cut-behind before (first ∷ middle) last after
      (subst (λ (o : Option Output). IsCutShort o last after) (all_but_last said replayed whole middles) (subst (λ (ps : List Piece). IsCutShort replayed ps after) same cut)))

  -- all is done
  pub all-done : (status : ℕ) (said replayed after : Option Output) (saved : List Piece) → said ≡ told before (first ∷ []) → replayed ≡ told said middle → saved ≡ last → after ≡ told replayed saved → goes (Ok status) after
  all-done status said replayed after saved whole middles same done =
      done ∙ ap (told replayed) same ∙ ap (λ o. told o last) (all_but_last said replayed whole middles) ∙ told-append before (first ∷ middle) last
