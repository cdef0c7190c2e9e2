-- The lines that are tried at a break, one from each chain that is kept. No public clause speaks of it.
use Rattle.std.specs.Prelude.{◌≡◌, ℕ, ◌<◌, ◌≤◌, ◌*◌, ◌^◌, ℤ, ◌-ℤ◌, unsigned_abs, Bool, not, ◌&&◌, ◌||◌, if◌then◌else◌, List, length, take, slice_index_or, Option}
use Rattle.std.specs.List.{list_all}
use Rattle.tx_linebreak.specs.declared.line.Candidate.{Candidate}
use Rattle.tx_linebreak.specs.declared.line.Line.{Line}
use Rattle.tx_linebreak.specs.declared.totals.Totals.{Totals}
use Rattle.tx_linebreak.specs.declared.trial.Start.{Start}
use Rattle.tx_linebreak.specs.declared.trial.Trial.{Trial}
use Rattle.tx_linebreak.specs.Breaks.{is_forced}
use Rattle.tx_linebreak.specs.Chains.{Chain, candidate_of, is_last_pass, is_overfull, is_tolerable, line_set, line_taken, next_place, tolerance_of}
use Rattle.tx_linebreak.specs.Chosen.{total}
use Rattle.tx_linebreak.specs.Lines.{Attempt, background, begin_width, begins_hyphened, end_width, first_place, line_fit, line_width}
use Rattle.tx_linebreak.specs.Shared.{chain_at}
use Rattle.tx_linebreak.specs.Totals.{both, rigid, totals_of}

-- where a line from a break, or from the list's beginning, begins, with so many lines before it
pub record IsStart (a : Attempt) (from : Option ℕ) (lines : ℕ) (start : Start) : Type 0 where
  pub first_is : start.first ≡ first_place a.pieces from
  pub goal_is : start.goal ≡ line_width a.shape lines -ℤ begin_width a.pieces from
  pub goal_in : unsigned_abs start.goal ≤ 2 ^ 65
  pub hyphened_is : start.hyphened ≡ begins_hyphened a.pieces from

-- what the pieces before a place have, with what the pass adds to each line and the text at the line's end
abbrev pub totals_until : Attempt → ℕ → Totals
totals_until a place = both (both (background a.params a.pass) (rigid (end_width a.pieces place))) (totals_of (take place a.pieces))

-- a trial knows the chain that it begins with, one of these
pub record IsKept (a : Attempt) (chains : List Chain) (trial : Trial) : Type 0 where
  pub there : trial.chain < length chains
  pub from_is : trial.from ≡ candidate_of (chain_at chains trial.chain)
  pub few : trial.from.lines ≤ next_place trial.from.place
  pub total_is : trial.total ≡ total (chain_at chains trial.chain)
  pub small : unsigned_abs trial.total ≤ trial.from.lines * 2 ^ 63
  pub start_is : IsStart a trial.from.place trial.from.lines trial.start

-- a trial is that of a chain's line to a place
pub record IsTrial (a : Attempt) (chains : List Chain) (place : ℕ) (trial : Trial) : Type 0 where
  pub kept : IsKept a chains trial
  pub before : next_place trial.from.place ≤ place
  pub fit_is : trial.fit ≡ line_fit a trial.from place

-- each of some trials, with how its line to a place fits
pub record AreMeasured (a : Attempt) (place : ℕ) (before trials : List Trial) : Type 0 where
  pub length_is : length trials ≡ length before
  pub trials_are : (k : ℕ) (d : Trial) → k < length before → slice_index_or trials k d ≡ record (slice_index_or before k d) { fit = line_fit a (slice_index_or before k d).from place }

-- the chain whose line is tried
abbrev pub chain_tried : List Chain → Trial → Chain
chain_tried chains trial = chain_at chains trial.chain

-- in the last pass, no line that is tried may be taken, and all candidates die
abbrev pub is_stuck_by : Attempt → ℤ → List Trial → Bool
is_stuck_by a penalty trials =
    is_last_pass a.params a.pass && list_all (λ trial. not (is_tolerable (tolerance_of a.params a.pass) trial.fit)) trials
    && list_all (λ trial. is_forced penalty || is_overfull trial.fit) trials

-- the line from a candidate to a break with this penalty; where none fits, it is taken all the same
abbrev pub line_by : Attempt → Candidate → ℕ → ℤ → Bool → Line
line_by a c place penalty stuck =
    if stuck then line_taken a c place penalty else line_set a c place penalty (line_fit a c place)
