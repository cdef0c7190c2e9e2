-- The chain that is chosen: in each pass the one with the least demerits, and of equals the greatest, unless \looseness asks for
-- more lines or fewer; and of the passes the first one whose chain is as long as is asked, or the last one.
use Rattle.std.specs.Prelude.{◌≡◌, ℕ, ◌+◌, ◌==◌, nat_lt, nat_le, ℤ, pos, ◌+ℤ◌, ◌-ℤ◌, int_lt, int_le, unsigned_abs, Bool, true, false, not, ◌&&◌, ◌||◌, if◌then◌else◌, List, [], ◌∷◌, ◌++◌, map, reverse, filter, length, slice_get, ◌-◌, Option, None, Some, Contains}
use Rattle.std.specs.List.{flat_map, list_any}
use Rattle.std.specs.Ordering.{int_eq}
use Rattle.tx_num.specs.Glue.{GlueSpec}
use Rattle.tx_linebreak.specs.declared.answer.Chosen.{Chosen}
use Rattle.tx_linebreak.specs.declared.params.BreakParams.{BreakParams}
use Rattle.tx_linebreak.specs.declared.params.LineShape.{LineShape}
use Rattle.tx_linebreak.specs.declared.params.Pass.{Pass}
use Rattle.tx_linebreak.specs.declared.params.Pass.TheVariants.{First, Second, Emergency}
use Rattle.tx_linebreak.specs.declared.piece.Piece.{Piece}
use Rattle.tx_linebreak.specs.declared.piece.Piece.TheVariants.{Solid, Kern, Glue, Penalty, Discretionary as Disc, MathOn, MathOff}
use Rattle.tx_linebreak.specs.Breaks.{context_from, is_forced, outset}
use Rattle.tx_linebreak.specs.Lines.{Attempt}
use Rattle.tx_linebreak.specs.Classes.{class_number}
use Rattle.tx_linebreak.specs.Chains.{Chain, candidate_of, chains_of, is_last_pass}

-- the demerits of all lines of a chain
abbrev pub total : Chain → ℤ
total [] = pos 0
total (line ∷ lines) = total lines +ℤ line.demerits

-- place, line number and class of each line, from the last one backwards
abbrev pub steps_of : Chain → List ℕ
steps_of chain = flat_map (λ line. line.place ∷ line.number ∷ class_number line.class ∷ []) chain

-- the first list is below the second: at the first difference its number is the lesser
abbrev pub is_below : List ℕ → List ℕ → Bool
is_below [] [] = false
is_below [] (n ∷ ns) = true
is_below (m ∷ ms) [] = false
is_below (m ∷ ms) (n ∷ ns) = nat_lt m n || (m == n && is_below ms ns)

-- a chain beats another: less demerits, or as many and greater steps
unfoldable pub beats : Chain → Chain → Bool
beats chain other =
    int_lt (total chain) (total other)
    || (int_eq (total chain) (total other) && is_below (steps_of other) (steps_of chain))

-- a chain of an attempt that no other one beats
pub record IsBest (a : Attempt) (chain : Chain) : Type 0 where
  pub is_one : Contains (chains_of a) chain
  pub unbeaten : (other : Chain) → Contains (chains_of a) other → beats other chain ≡ false

-- the better one of two chains
abbrev pub better_of : Chain → Option Chain → Chain
better_of chain None = chain
better_of chain (Some other) = if beats other chain then other else chain

-- a chain of a list that no other one beats, found by looking at each
abbrev pub best_of : List Chain → Option Chain
best_of [] = None
best_of (chain ∷ chains) = Some (better_of chain (best_of chains))

-- how many lines a chain has: the number of its last one
abbrev pub line_count : Chain → ℕ
line_count chain = (candidate_of chain).lines

-- how many lines are asked for, where the best chain has so many: as many more or fewer as \looseness says; where that were fewer than
-- none, none, which no chain has either
abbrev pub lines_asked : ℤ → ℕ → ℕ
lines_asked looseness lines = if int_lt looseness (pos 0) then lines - unsigned_abs looseness else lines + unsigned_abs looseness

-- a number of lines lies between another one and what is asked for, both included
abbrev pub is_between : ℕ → ℕ → ℕ → Bool
is_between from asked lines = (nat_le from lines && nat_le lines asked) || (nat_le asked lines && nat_le lines from)

-- a number of lines is nearer to what is asked for than another one, and not past it (TeX: The Program, section 875)
abbrev pub is_nearer : ℕ → ℕ → ℕ → Bool
is_nearer asked lines other = (nat_lt other lines && nat_le lines asked) || (nat_lt lines other && nat_le asked lines)

-- a chain is preferred to another one: its number of lines is nearer to what is asked for, or the same, and it beats the other
unfoldable pub is_preferred : ℕ → Chain → Chain → Bool
is_preferred asked chain other =
    is_nearer asked (line_count chain) (line_count other) || (line_count chain == line_count other && beats chain other)

-- the chain of an attempt of which this is the best one: its number of lines lies between that of the best one and what \looseness
-- asks for, and no other chain is preferred to it. Where \looseness is 0, the best one is such a chain
pub record IsAsked (a : Attempt) (best chain : Chain) : Type 0 where
  pub is_one : Contains (chains_of a) chain
  pub between : is_between (line_count best) (lines_asked a.params.looseness (line_count best)) (line_count chain) ≡ true
  pub unpreferred : (other : Chain) → Contains (chains_of a) other
      → is_preferred (lines_asked a.params.looseness (line_count best)) other chain ≡ false

-- the one of two chains that is preferred, the second where the first isn't
abbrev pub preferred_of : ℕ → Chain → Chain → Chain
preferred_of asked chain other = if is_preferred asked chain other then chain else other

-- the chain of a list to which no other one is preferred, found by looking at each, where the best one comes first
abbrev pub asked_of : ℕ → Chain → List Chain → Chain
asked_of asked best [] = best
asked_of asked best (chain ∷ chains) = preferred_of asked chain (asked_of asked best chains)

-- so many lines are enough, where the best chain has as many as that: they are what is asked for, or no further pass is made (TeX:
-- The Program, section 873)
abbrev pub is_enough : Attempt → ℕ → ℕ → Bool
is_enough a best lines = is_last_pass a.params a.pass || lines == lines_asked a.params.looseness best

-- the chain that is asked for, of all chains of an attempt of which this is the best one
abbrev pub asked_in : Attempt → Chain → Chain
asked_in a best = asked_of (lines_asked a.params.looseness (line_count best)) best (chains_of a)

-- a pass gives the answer: it has a chain, and the lines of the one that is asked for are enough
abbrev pub answers_by : Attempt → Option Chain → Bool
answers_by a None = false
answers_by a (Some best) = is_enough a (line_count best) (line_count (asked_in a best))

unfoldable pub answers : Attempt → Bool
answers a = answers_by a (best_of (chains_of a))

-- the passes in their order (TeX: The Program, section 863)
abbrev pub passes_of : BreakParams → List Pass
passes_of params =
    (if int_le (pos 0) params.pretolerance then First ∷ [] else [])
    ++ Second ∷ (if int_lt (pos 0) params.emergency_stretch then Emergency ∷ [] else [])

abbrev pub pass_number : Pass → ℕ
pass_number First = 1
pass_number Second = 2
pass_number Emergency = 3

-- a pass over a list
abbrev pub attempt : List Piece → List LineShape → BreakParams → Pass → Attempt
attempt pieces shape params pass = record { pieces = pieces; shape = shape; params = params; pass = pass }

-- the first of some passes that gives the answer
abbrev pub first_to_answer : List Piece → List LineShape → BreakParams → List Pass → Option Pass
first_to_answer pieces shape params [] = None
first_to_answer pieces shape params (pass ∷ passes) =
    if answers (attempt pieces shape params pass) then Some pass else first_to_answer pieces shape params passes

-- the first pass is made, and gives the answer
abbrev pub first_succeeds : List Piece → List LineShape → BreakParams → Bool
first_succeeds pieces shape params = int_le (pos 0) params.pretolerance && answers (attempt pieces shape params First)

-- what is told of a chain, where the best one has so many lines: the places of its breaks, its demerits, its pass, the places where
-- no line fitted, and how many lines more than the best one it has
abbrev pub places_of : Chain → List ℕ
places_of chain = reverse (map (λ line. line.place) chain)

abbrev pub answer_of : Pass → ℕ → Chain → Chosen
answer_of pass lines chain = record {
  chain = places_of chain;
  total = total chain;
  pass = pass_number pass;
  forced = places_of (filter (λ line. line.forced) chain);
  looseness = pos (line_count chain) -ℤ pos lines;
}

-- a pass and a chain are those that are chosen, where this is the pass's best chain
pub record IsChosen (pieces : List Piece) (shape : List LineShape) (params : BreakParams) (pass : Pass) (best chain : Chain) : Type 0 where
  pub is_first : first_to_answer pieces shape params (passes_of params) ≡ Some pass
  pub is_best : IsBest (attempt pieces shape params pass) best
  pub is_asked : IsAsked (attempt pieces shape params pass) best chain

-- an answer is the one that an attempt gives: that of the chain that is asked for
pub record IsAnswerOf (a : Attempt) (answer : Chosen) : Type 0 where
  pub gives : answers a ≡ true
  pub best : Chain
  pub chain : Chain
  pub is_best : IsBest a best
  pub is_asked : IsAsked a best chain
  pub answer_is : answer ≡ answer_of a.pass (line_count best) chain

-- a piece is a penalty that forces a break
abbrev pub forces_break : Piece → Bool
forces_break (Solid width) = false
forces_break (Kern width) = false
forces_break (Glue glue) = false
forces_break (Penalty penalty) = is_forced penalty
forces_break (Disc d) = false
forces_break (MathOn width) = false
forces_break (MathOff width) = false

-- a list ends with a penalty that forces a break, and that no no-break text takes
pub record IsEnded (pieces : List Piece) : Type 0 where
  pub penalty : ℤ
  pub last_is : slice_get pieces (length pieces - 1) ≡ Some (Penalty penalty)
  pub forces : is_forced penalty ≡ true
  pub taken : (context_from outset pieces (length pieces - 1)).replaced ≡ 0

-- an answer is that of the chain that is chosen
pub record IsAnswer (pieces : List Piece) (shape : List LineShape) (params : BreakParams) (answer : Chosen) : Type 0 where
  pub pass : Pass
  pub best : Chain
  pub chain : Chain
  pub is_chosen : IsChosen pieces shape params pass best chain
  pub answer_is : answer ≡ answer_of pass (line_count best) chain

-- the answer, found by looking at every chain
abbrev pub answer_in : Attempt → Option Chain → Option Chosen
answer_in a None = None
answer_in a (Some best) = Some (answer_of a.pass (line_count best) (asked_in a best))

abbrev pub answer_from : List Piece → List LineShape → BreakParams → Option Pass → Option Chosen
answer_from pieces shape params None = None
answer_from pieces shape params (Some pass) =
    let a = attempt pieces shape params pass in answer_in a (best_of (chains_of a))

unfoldable pub answer_by_trial : List Piece → List LineShape → BreakParams → Option Chosen
answer_by_trial pieces shape params = answer_from pieces shape params (first_to_answer pieces shape params (passes_of params))

-- shrink that is infinite, and not 0
abbrev pub shrinks_endlessly : GlueSpec → Bool
shrinks_endlessly glue = not (glue.shrink_order == 0) && not (unsigned_abs glue.shrink == 0)

abbrev pub piece_shrinks_endlessly : Piece → Bool
piece_shrinks_endlessly (Solid width) = false
piece_shrinks_endlessly (Kern width) = false
piece_shrinks_endlessly (Glue glue) = shrinks_endlessly glue
piece_shrinks_endlessly (Penalty penalty) = false
piece_shrinks_endlessly (Disc d) = false
piece_shrinks_endlessly (MathOn width) = false
piece_shrinks_endlessly (MathOff width) = false

-- glue of the list, or at the ends of its lines, shrinks infinitely (TeX: The Program, section 825)
abbrev pub has_endless_shrink : List Piece → BreakParams → Bool
has_endless_shrink pieces params =
    shrinks_endlessly params.left_skip || shrinks_endlessly params.right_skip || list_any piece_shrinks_endlessly pieces
