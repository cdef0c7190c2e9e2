-- Chains of breaks (TeX: The Program, sections 813 to 836). Neither how long a candidate lives nor which lines are taken
-- depends on the demerits before it.
use Rattle.std.specs.Prelude.{ℕ, nat_lt, zero, suc, ◌-◌, ℤ, pos, int_le, Bool, true, false, not, ◌&&◌, ◌||◌, if◌then◌else◌, List, [], ◌∷◌, ◌++◌, map, filter, length, Option, None, Some}
use Rattle.std.specs.List.{list_all}
use Rattle.tx_linebreak.specs.declared.line.Candidate.{Candidate}
use Rattle.tx_linebreak.specs.declared.line.Fit.{Fit}
use Rattle.tx_linebreak.specs.declared.line.Fit.TheVariants.{Overfull, Set}
use Rattle.tx_linebreak.specs.declared.line.Line.{Line}
use Rattle.tx_linebreak.specs.declared.params.BreakParams.{BreakParams}
use Rattle.tx_linebreak.specs.declared.params.Pass.{Pass}
use Rattle.tx_linebreak.specs.declared.params.Pass.TheVariants.{First, Second, Emergency}
use Rattle.tx_linebreak.specs.declared.piece.Class.TheVariants.{Decent, Tight}
use Rattle.tx_linebreak.specs.Breaks.{is_forced, penalty_at}
use Rattle.tx_linebreak.specs.Lines.{Attempt, demerits_of, line_fit}

-- a chain is the list of its lines, the last one first; the next line begins where it ends
abbrev pub Chain : Type 0
Chain = List Line

abbrev pub candidate_of : Chain → Candidate
candidate_of [] = record { place = None; lines = 0; class = Decent }
candidate_of (line ∷ lines) = record { place = Some line.place; lines = line.number; class = line.class }

-- the worst badness that a line may have in a pass
abbrev pub tolerance_of : BreakParams → Pass → ℤ
tolerance_of params First = params.pretolerance
tolerance_of params Second = params.tolerance
tolerance_of params Emergency = params.tolerance

-- no further pass is made after this one
abbrev pub is_last_pass : BreakParams → Pass → Bool
is_last_pass params First = false
is_last_pass params Second = int_le params.emergency_stretch (pos 0)
is_last_pass params Emergency = true

abbrev pub is_overfull : Fit → Bool
is_overfull Overfull = true
is_overfull (Set badness class) = false

-- a line that isn't overfull may be taken if its badness is tolerated; above 10000 more makes no difference, since no
-- badness is greater
abbrev pub is_tolerable : ℤ → Fit → Bool
is_tolerable tolerance Overfull = false
is_tolerable tolerance (Set badness class) = int_le (pos badness) tolerance

-- a candidate dies at a legal break with this penalty: one that has to be taken, or to which its line is overfull
abbrev pub dies_by : Attempt → Candidate → ℕ → Option ℤ → Bool
dies_by a c place None = false
dies_by a c place (Some penalty) = is_forced penalty || is_overfull (line_fit a c place)

unfoldable pub dies_at : Attempt → Candidate → ℕ → Bool
dies_at a c place = dies_by a c place (penalty_at a.params a.pass a.pieces place)

-- the first place at which a candidate can die
abbrev pub next_place : Option ℕ → ℕ
next_place None = 0
next_place (Some place) = suc place

-- a candidate survives a place: it lies behind it, or doesn't die there
abbrev pub survives : Attempt → Candidate → ℕ → Bool
survives a c place = nat_lt place (next_place c.place) || not (dies_at a c place)

-- a candidate lives at a place if it survives all places before
abbrev pub lives_at : Attempt → Candidate → ℕ → Bool
lives_at a c zero = true
lives_at a c (suc place) = lives_at a c place && survives a c place

-- a candidate's line to a place may be taken
unfoldable pub is_feasible : Attempt → Candidate → ℕ → Bool
is_feasible a c place = is_tolerable (tolerance_of a.params a.pass) (line_fit a c place)

-- the line from a candidate to a break with this penalty
abbrev pub line_set : Attempt → Candidate → ℕ → ℤ → Fit → Line
line_set a c place penalty Overfull =
    record { place = place; number = suc c.lines; class = Tight; demerits = pos 0; forced = true }
line_set a c place penalty (Set badness class) = record {
  place = place;
  number = suc c.lines;
  class = class;
  demerits = demerits_of a c place penalty badness class;
  forced = false;
}

-- the same where no line fits, and so this one is taken, with demerits 0
abbrev pub line_taken : Attempt → Candidate → ℕ → ℤ → Line
line_taken a c place penalty =
    record (line_set a c place penalty (line_fit a c place)) { demerits = pos 0; forced = true }

-- a chain with one more line
unfoldable pub with_line : Attempt → ℕ → ℤ → Chain → Chain
with_line a place penalty chain =
    line_set a (candidate_of chain) place penalty (line_fit a (candidate_of chain) place) ∷ chain

unfoldable pub with_line_taken : Attempt → ℕ → ℤ → Chain → Chain
with_line_taken a place penalty chain = line_taken a (candidate_of chain) place penalty ∷ chain

-- in the last pass, where no line from a living candidate may be taken and all of them die, all their lines are taken
abbrev pub is_stuck : Attempt → ℕ → List Chain → Bool
is_stuck a place living =
    is_last_pass a.params a.pass && list_all (λ chain. not (is_feasible a (candidate_of chain) place)) living
    && list_all (λ chain. dies_at a (candidate_of chain) place) living

-- the chains of which a living candidate is the end, each with one more line to a break with this penalty
abbrev pub from_living : Attempt → ℕ → ℤ → List Chain → List Chain
from_living a place penalty living =
    if is_stuck a place living then map (with_line_taken a place penalty) living
    else map (with_line a place penalty) (filter (λ chain. is_feasible a (candidate_of chain) place) living)

-- the chains whose last line ends at a place, made of those that end before it
abbrev pub ending_by : Attempt → ℕ → Option ℤ → List Chain → List Chain
ending_by a place None earlier = []
ending_by a place (Some penalty) earlier =
    from_living a place penalty (filter (λ chain. lives_at a (candidate_of chain) place) earlier)

unfoldable pub ending_at : Attempt → ℕ → List Chain → List Chain
ending_at a place earlier = ending_by a place (penalty_at a.params a.pass a.pieces place) earlier

-- all chains that end before a place: the empty one, and the others by their last places
abbrev pub and_ending_at : Attempt → ℕ → List Chain → List Chain
and_ending_at a place earlier = earlier ++ ending_at a place earlier

abbrev pub chains_before : Attempt → ℕ → List Chain
chains_before a zero = [] ∷ []
chains_before a (suc place) = and_ending_at a place (chains_before a place)

-- all chains that end at the list's end
unfoldable pub chains_of : Attempt → List Chain
chains_of a = let last = length a.pieces - 1 in ending_at a last (chains_before a last)
