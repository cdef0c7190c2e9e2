-- Where a vertical list is broken (TeX: The Program, sections 970 to 974): of the legal breaks up to the first at which the search stops, at
-- the last one of least cost.
use Rattle.std.specs.Prelude.{ℕ, suc, Bool, false, ℤ, pos, neg_ℤ, int_le, List, [], ◌∷◌, Option, Some, None, Result, Ok, Err, if◌then◌else◌}
use Rattle.tx_node.specs.Items.{Item}
use Rattle.tx_insert.specs.declared.error.SplitError.{SplitError}
use Rattle.tx_insert.specs.declared.error.SplitError.TheVariants.{SizeOutOfRange, EndlessShrink}
use Rattle.tx_insert.specs.declared.kind.Kind.{Kind}
use Rattle.tx_insert.specs.declared.sums.Sums.{Sums}
use Rattle.tx_insert.specs.declared.trial.Break.{Break}
use Rattle.tx_insert.specs.declared.trial.Trial.{Trial}
use Rattle.tx_insert.specs.Kinds.{kinds_of, stays, begins_with_glue, penalty_at, is_endless}
use Rattle.tx_num.specs.Limits.{fits}
use Rattle.tx_insert.specs.Sums.{no_sums, with_item}
use Rattle.tx_insert.specs.Costs.{awful, trial_at}

-- a break, if there is a legal one, before others
abbrev pub before : ℤ → ℕ → Sums → Option ℤ → List (Result Trial SplitError) → List (Result Trial SplitError)
before goal place sums None others = others
before goal place sums (Some penalty) others = Ok (trial_at goal place penalty sums) ∷ others

-- what comes of the sums behind an item, or the error that there are none
abbrev pub behind : (Sums → List (Result Trial SplitError)) → Result Sums SplitError → List (Result Trial SplitError)
behind breaks (Err e) = Err e ∷ []
behind breaks (Ok sums) = breaks sums

-- the legal breaks of a list from a place on, before which these sums stand, and the end as a forced one; where an item can't be added to
-- the sums, its error is the last
abbrev pub legal_breaks : ℤ → ℤ → ℕ → Bool → Sums → List Kind → List (Result Trial SplitError)
legal_breaks goal most place after_solid sums [] = Ok (trial_at goal place (neg_ℤ (pos 10000)) sums) ∷ []
legal_breaks goal most place after_solid sums (kind ∷ rest) =
    before goal place sums (penalty_at after_solid kind (begins_with_glue rest)) (behind (λ s. legal_breaks goal most (suc place) (stays kind) s rest) (with_item most sums kind))

-- those that are tried: up to the first at which the search stops
abbrev pub tried : List (Result Trial SplitError) → List (Result Trial SplitError)
tried [] = []
tried (Err e ∷ others) = Err e ∷ []
tried (Ok trial ∷ others) = if trial.stops then Ok trial ∷ [] else Ok trial ∷ tried others

-- the later of two breaks, unless it costs more
abbrev pub better : Break → Break → Break
better best later = if int_le later.cost best.cost then later else best

-- the last one of least cost
abbrev pub best_of : Break → List (Result Trial SplitError) → Result Break SplitError
best_of best [] = Ok best
best_of best (Err e ∷ others) = Err e
best_of best (Ok trial ∷ others) = best_of (better best trial.made) others

-- what any break is better than
abbrev pub no_break : Break
no_break = record { place = 0; size = pos 0; cost = awful }

-- the size of the break has to be a dimension
abbrev pub sized : Break → Result Break SplitError
sized made = if fits made.size then Ok made else Err SizeOutOfRange

abbrev pub sized_if : Result Break SplitError → Result Break SplitError
sized_if (Err e) = Err e
sized_if (Ok made) = sized made

-- where a list is broken whose part before the break is to have this height, with at most so much depth
abbrev pub found : List Item → ℤ → ℤ → Result Break SplitError
found list goal most = best_of no_break (tried (legal_breaks goal most 0 false no_sums (kinds_of list)))

abbrev pub break_of : List Item → ℤ → ℤ → Result Break SplitError
break_of list goal most = if is_endless list then Err EndlessShrink else sized_if (found list goal most)

-- the best break so far, and whether the search stops, behind a place at which a break may be legal
abbrev pub with_place : Break → ℤ → ℕ → Option ℤ → Sums → Trial
with_place best goal place None sums = record { made = best; stops = false }
with_place best goal place (Some penalty) sums = record (trial_at goal place penalty sums) { made = better best (trial_at goal place penalty sums).made }
