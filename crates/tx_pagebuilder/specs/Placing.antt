-- What one node makes of a page's measures: first comes its break, if one is legal, and unless the page fires there, the node counts
-- (TeX: The Program, sections 1003 to 1005).
use Rattle.std.specs.Prelude.{ℕ, Bool, ℤ, Option, Some, None, Result, Ok, Err, if◌then◌else◌}
use Rattle.tx_num.specs.Glue.{IsDimension}
use Rattle.tx_insert.specs.declared.error.SplitError.{SplitError}
use Rattle.tx_insert.specs.declared.error.SplitError.TheVariants as splitting
use Rattle.tx_insert.specs.declared.kind.Kind.{Kind}
use Rattle.tx_insert.specs.declared.sums.Sums.{Sums}
use Rattle.tx_insert.specs.declared.trial.Break.{Break}
use Rattle.tx_insert.specs.declared.trial.Trial.{Trial}
use Rattle.tx_insert.specs.Kinds.{stays, penalty_at, shrinks_endlessly}
use Rattle.tx_num.specs.Limits.{fits}
use Rattle.tx_insert.specs.Sums.{with_item, IsSmall}
use Rattle.tx_insert.specs.Costs.{badness_at, trial_of}
use Rattle.tx_insert.specs.Breaks.{better}
use Rattle.tx_pagebuilder.specs.declared.error.PageError.{PageError}
use Rattle.tx_pagebuilder.specs.declared.error.PageError.TheVariants.{SizeOutOfRange, EndlessShrink, OutOfMemory}
use Rattle.tx_pagebuilder.specs.declared.measures.Measures.{Measures}
use Rattle.tx_pagebuilder.specs.declared.measures.Placed.{Placed}
use Rattle.tx_pagebuilder.specs.declared.measures.Built.TheVariants.{Went, Fires}

-- what errors of splitting are to a page
abbrev pub of_splitting : SplitError → PageError
of_splitting splitting.SizeOutOfRange = SizeOutOfRange
of_splitting splitting.EndlessShrink = EndlessShrink
of_splitting splitting.OutOfMemory = OutOfMemory

-- a size that has to be a dimension
abbrev pub dimension : ℤ → Result ℤ PageError
dimension size = if fits size then Ok size else Err SizeOutOfRange

-- the break at a place of the page with this penalty: its size is the goal as it stands there
abbrev pub break_at : Measures → ℕ → ℤ → Trial
break_at m place penalty = trial_of place m.goal penalty m.insert_penalties (badness_at m.goal m.sums)

-- the best break is the later one of two, unless that costs more
abbrev pub best_with : Option Break → Break → Break
best_with None later = later
best_with (Some best) later = better best later

abbrev pub with_break : Measures → Break → Measures
with_break m made = record m { best = Some (best_with m.best made) }

-- a node of this kind counts
abbrev pub with_sums : Measures → Kind → Result Sums SplitError → Result Measures PageError
with_sums m kind (Err e) = Err (of_splitting e)
with_sums m kind (Ok sums) = Ok (record m { sums = sums; after_solid = stays kind })

abbrev pub added : Measures → Kind → Result Measures PageError
added m kind = if shrinks_endlessly kind then Err EndlessShrink else with_sums m kind (with_item m.most m.sums kind)

-- a node that counts, at which the page doesn't fire
abbrev pub going : Result Measures PageError → Result Placed PageError
going (Err e) = Err e
going (Ok m) = Ok (record { measures = m; built = Went })

-- a node at a break, at which the page may fire
abbrev pub placed_at : Measures → Kind → Trial → Result Placed PageError
placed_at m kind trial =
    if trial.stops then Ok (record { measures = with_break m trial.made; built = Fires })
    else going (added (with_break m trial.made) kind)

abbrev pub placed_by : Measures → ℕ → Kind → Option ℤ → Result Placed PageError
placed_by m place kind None = going (added m kind)
placed_by m place kind (Some penalty) = placed_at m kind (break_at m place penalty)

-- a node of this kind at a place of the page, which comes before glue or doesn't
unfoldable pub placed : Measures → ℕ → Bool → Kind → Result Placed PageError
placed m place before_glue kind = placed_by m place kind (penalty_at m.after_solid kind before_glue)

-- sizes that are dimensions
pub record IsMeasured (m : Measures) : Type 0 where
  pub goal : IsDimension m.goal
  pub most : IsDimension m.most
  pub sums : IsSmall m.sums
