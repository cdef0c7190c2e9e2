-- The search for a break, as it stands before a place.
use Rattle.std.specs.Prelude.{neg_ℤ}
use Rattle.std.proofs.Common.{◌≡◌, ℕ, suc, ℤ, pos, Bool, true, false, List, [], ◌∷◌, Option, Some, None, Result, Ok, Err, refl, ap, ◌∙◌, if◌then◌else◌}
use Rattle.tx_insert.specs.declared.error.SplitError.{SplitError}
use Rattle.tx_insert.specs.declared.kind.Kind.{Kind}
use Rattle.tx_insert.specs.declared.sums.Sums.{Sums}
use Rattle.tx_insert.specs.declared.trial.Break.{Break}
use Rattle.tx_insert.specs.declared.trial.Trial.{Trial}
use Rattle.tx_insert.specs.Kinds.{stays, begins_with_glue, penalty_at}
use Rattle.tx_insert.specs.Sums.{with_item}
use Rattle.tx_insert.specs.Costs.{trial_at}
use Rattle.tx_insert.specs.Breaks.{before, behind, legal_breaks, tried, best_of, better, with_place}

-- what the search finds from a place on
abbrev pub search_from : ℤ → ℤ → Break → ℕ → Bool → Sums → List Kind → Result Break SplitError
search_from goal most best place after_solid sums list = best_of best (tried (legal_breaks goal most place after_solid sums list))

-- the search goes on behind a place at which it doesn't stop, and is over behind one at which it does
on-by : (stops : Bool) (best : Break) (trial : Trial) (others : List (Result Trial SplitError)) → stops ≡ false
    → best_of best (if stops then Ok trial ∷ [] else Ok trial ∷ tried others) ≡ best_of (better best trial.made) (tried others)
on-by true best trial others e = absurd (cc)
on-by false best trial others e = refl

over-by : (stops : Bool) (best : Break) (trial : Trial) (others : List (Result Trial SplitError)) → stops ≡ true
    → best_of best (if stops then Ok trial ∷ [] else Ok trial ∷ tried others) ≡ Ok (better best trial.made)
over-by true best trial others e = refl
over-by false best trial others e = absurd (cc)

on : (goal : ℤ) (best : Break) (place : ℕ) (penalty : Option ℤ) (sums : Sums) (others : List (Result Trial SplitError))
    → (with_place best goal place penalty sums).stops ≡ false
    → best_of best (tried (before goal place sums penalty others)) ≡ best_of (with_place best goal place penalty sums).made (tried others)
on goal best place None sums others e = refl
on goal best place (Some penalty) sums others e = on-by (trial_at goal place penalty sums).stops best (trial_at goal place penalty sums) others e

over : (goal : ℤ) (best : Break) (place : ℕ) (penalty : Option ℤ) (sums : Sums) (others : List (Result Trial SplitError))
    → (with_place best goal place penalty sums).stops ≡ true
    → best_of best (tried (before goal place sums penalty others)) ≡ Ok (with_place best goal place penalty sums).made
over goal best place None sums others e = absurd (cc)
over goal best place (Some penalty) sums others e = over-by (trial_at goal place penalty sums).stops best (trial_at goal place penalty sums) others e

pub goes-on : (goal most : ℤ) (best : Break) (place : ℕ) (after_solid : Bool) (sums : Sums) (kind : Kind) (rest : List Kind) (s : Sums)
    → (with_place best goal place (penalty_at after_solid kind (begins_with_glue rest)) sums).stops ≡ false → with_item most sums kind ≡ Ok s
    → search_from goal most best place after_solid sums (kind ∷ rest)
    ≡ search_from goal most (with_place best goal place (penalty_at after_solid kind (begins_with_glue rest)) sums).made (suc place) (stays kind) s rest
goes-on goal most best place after_solid sums kind rest s e is =
    on goal best place (penalty_at after_solid kind (begins_with_glue rest)) sums (behind (λ t. legal_breaks goal most (suc place) (stays kind) t rest) (with_item most sums kind)) e
    ∙ ap (λ r. best_of (with_place best goal place (penalty_at after_solid kind (begins_with_glue rest)) sums).made (tried (behind (λ t. legal_breaks goal most (suc place) (stays kind) t rest) r))) is

pub fails : (goal most : ℤ) (best : Break) (place : ℕ) (after_solid : Bool) (sums : Sums) (kind : Kind) (rest : List Kind) (x : SplitError)
    → (with_place best goal place (penalty_at after_solid kind (begins_with_glue rest)) sums).stops ≡ false → with_item most sums kind ≡ Err x
    → search_from goal most best place after_solid sums (kind ∷ rest) ≡ Err x
fails goal most best place after_solid sums kind rest x e is =
    on goal best place (penalty_at after_solid kind (begins_with_glue rest)) sums (behind (λ t. legal_breaks goal most (suc place) (stays kind) t rest) (with_item most sums kind)) e
    ∙ ap (λ r. best_of (with_place best goal place (penalty_at after_solid kind (begins_with_glue rest)) sums).made (tried (behind (λ t. legal_breaks goal most (suc place) (stays kind) t rest) r))) is

pub is-over : (goal most : ℤ) (best : Break) (place : ℕ) (after_solid : Bool) (sums : Sums) (kind : Kind) (rest : List Kind)
    → (with_place best goal place (penalty_at after_solid kind (begins_with_glue rest)) sums).stops ≡ true
    → search_from goal most best place after_solid sums (kind ∷ rest) ≡ Ok (with_place best goal place (penalty_at after_solid kind (begins_with_glue rest)) sums).made
is-over goal most best place after_solid sums kind rest e =
    over goal best place (penalty_at after_solid kind (begins_with_glue rest)) sums (behind (λ t. legal_breaks goal most (suc place) (stays kind) t rest) (with_item most sums kind)) e

ends-by : (stops : Bool) (best : Break) (trial : Trial) → best_of best (if stops then Ok trial ∷ [] else Ok trial ∷ []) ≡ Ok (better best trial.made)
ends-by true best trial = refl
ends-by false best trial = refl

pub ends : (goal most : ℤ) (best : Break) (place : ℕ) (after_solid : Bool) (sums : Sums)
    → search_from goal most best place after_solid sums [] ≡ Ok (with_place best goal place (Some (neg_ℤ (pos 10000))) sums).made
ends goal most best place after_solid sums = ends-by (trial_at goal place (neg_ℤ (pos 10000)) sums).stops best (trial_at goal place (neg_ℤ (pos 10000)) sums)
