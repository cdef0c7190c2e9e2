-- Legal breaks (The TeXbook, chapter 14; TeX: The Program, sections 837 to 841 and 866 to 869).
use Rattle.std.specs.Prelude.{ℕ, zero, suc, ◌+◌, ℤ, pos, negsuc, int_lt, int_le, Bool, true, false, not, ◌&&◌, if◌then◌else◌, List, [], ◌∷◌, drop, Option, None, Some, slice_get, unwrap_or}
use Rattle.tx_linebreak.specs.declared.legal.Context.{Context}
use Rattle.tx_linebreak.specs.declared.params.BreakParams.{BreakParams}
use Rattle.tx_linebreak.specs.declared.params.Pass.{Pass}
use Rattle.tx_linebreak.specs.declared.params.Pass.TheVariants.{First, Second, Emergency}
use Rattle.tx_linebreak.specs.declared.piece.Discretionary.{Discretionary}
use Rattle.tx_linebreak.specs.declared.piece.Piece.{Piece}
use Rattle.tx_linebreak.specs.declared.piece.Piece.TheVariants.{Solid, Kern, Glue, Penalty, Discretionary as Disc, MathOn, MathOff}

-- what they say at the list's beginning
abbrev pub outset : Context
outset = record { after_solid = false; in_math = false; replaced = 0 }

-- what they say behind one more piece; a no-break text is passed over, and then the discretionary stands before
abbrev pub behind_piece : ℕ → Context → Piece → Context
behind_piece (suc replaced) context piece = record context { replaced = replaced }
behind_piece zero context (Solid width) = record context { after_solid = true }
behind_piece zero context (Kern width) = record context { after_solid = false }
behind_piece zero context (Glue glue) = record context { after_solid = false }
behind_piece zero context (Penalty penalty) = record context { after_solid = false }
behind_piece zero context (Disc d) = record context { after_solid = true; replaced = d.replaced }
behind_piece zero context (MathOn width) = record context { after_solid = false; in_math = true }
behind_piece zero context (MathOff width) = record context { after_solid = false; in_math = false }

abbrev pub behind : Context → Piece → Context
behind context piece = behind_piece context.replaced context piece

-- what the pieces before a place say of it
abbrev pub context_from : Context → List Piece → ℕ → Context
context_from context [] place = context
context_from context (piece ∷ pieces) zero = context
context_from context (piece ∷ pieces) (suc place) = context_from (behind context piece) pieces place

-- a piece is glue
abbrev pub is_glue : Option Piece → Bool
is_glue None = false
is_glue (Some (Solid width)) = false
is_glue (Some (Kern width)) = false
is_glue (Some (Glue glue)) = true
is_glue (Some (Penalty penalty)) = false
is_glue (Some (Disc d)) = false
is_glue (Some (MathOn width)) = false
is_glue (Some (MathOff width)) = false

-- a break that costs nothing, if it may be there
abbrev pub free : Bool → Option ℤ
free true = Some (pos 0)
free false = None

-- a break at this penalty, which 10000 forbids
abbrev pub unless_forbidden : ℤ → Option ℤ
unless_forbidden penalty = if int_lt penalty (pos 10000) then Some penalty else None

-- whether a pass breaks at discretionaries that hyphenation made
abbrev pub hyphenates : Pass → Bool
hyphenates First = false
hyphenates Second = true
hyphenates Emergency = true

-- what a break at a discretionary costs
abbrev pub hyphen_cost : BreakParams → Option ℤ → ℤ
hyphen_cost params None = params.ex_hyphen_penalty
hyphen_cost params (Some width) = params.hyphen_penalty

abbrev pub discretionary_penalty : BreakParams → Pass → Discretionary → Option ℤ
discretionary_penalty params pass d =
    if d.hyphenated && not (hyphenates pass) then None else unless_forbidden (hyphen_cost params d.before)

-- the penalty of a break at a piece, None where there is no legal break, given what stands before and behind it
abbrev pub piece_penalty : BreakParams → Pass → ℕ → Context → Option Piece → Option Piece → Option ℤ
piece_penalty params pass replaced context None next = None
piece_penalty params pass (suc replaced) context (Some piece) next = None
piece_penalty params pass zero context (Some (Solid width)) next = None
piece_penalty params pass zero context (Some (Kern width)) next = free (not context.in_math && is_glue next)
piece_penalty params pass zero context (Some (Glue glue)) next = free (context.after_solid && not context.in_math)
piece_penalty params pass zero context (Some (Penalty penalty)) next = unless_forbidden penalty
piece_penalty params pass zero context (Some (Disc d)) next = discretionary_penalty params pass d
piece_penalty params pass zero context (Some (MathOn width)) next = None
piece_penalty params pass zero context (Some (MathOff width)) next = free (is_glue next)

-- the penalty of the break at a place, None where there is no legal break
unfoldable pub penalty_at : BreakParams → Pass → List Piece → ℕ → Option ℤ
penalty_at params pass pieces place =
    let context = context_from outset pieces place in
    piece_penalty params pass context.replaced context (slice_get pieces place) (slice_get pieces (suc place))

-- a break that has to be taken
abbrev pub is_forced : ℤ → Bool
is_forced penalty = int_le penalty (negsuc 9999)

-- the discretionary at a place, if there is one
abbrev pub discretionary_of : Option Piece → Option Discretionary
discretionary_of None = None
discretionary_of (Some (Solid width)) = None
discretionary_of (Some (Kern width)) = None
discretionary_of (Some (Glue glue)) = None
discretionary_of (Some (Penalty penalty)) = None
discretionary_of (Some (Disc d)) = Some d
discretionary_of (Some (MathOn width)) = None
discretionary_of (Some (MathOff width)) = None

abbrev pub discretionary_at : List Piece → ℕ → Option Discretionary
discretionary_at pieces place = discretionary_of (slice_get pieces place)

-- the width of the text that a break at a place puts at the end of its line
abbrev pub width_before : Option Discretionary → ℤ
width_before None = pos 0
width_before (Some d) = unwrap_or d.before (pos 0)

-- and at the beginning of the next line
abbrev pub width_behind : Option Discretionary → ℤ
width_behind None = pos 0
width_behind (Some d) = unwrap_or d.behind (pos 0)

-- what vanishes behind a break
abbrev pub is_discardable : Piece → Bool
is_discardable (Solid width) = false
is_discardable (Kern width) = true
is_discardable (Glue glue) = true
is_discardable (Penalty penalty) = true
is_discardable (Disc d) = false
is_discardable (MathOn width) = true
is_discardable (MathOff width) = true

-- how many pieces at the front of a list are discardable
abbrev pub discardables : List Piece → ℕ
discardables [] = 0
discardables (piece ∷ pieces) = if is_discardable piece then suc (discardables pieces) else 0

-- the first place, from this one on, whose piece doesn't vanish behind a break
abbrev pub past_discardables : List Piece → ℕ → ℕ
past_discardables pieces place = place + discardables (drop place pieces)

-- the first place of the line behind a discretionary's text, if it has one
abbrev pub start_behind : List Piece → ℕ → Option ℤ → ℕ
start_behind pieces place None = past_discardables pieces place
start_behind pieces place (Some width) = place

-- the first place of the line behind a break at a place; a discretionary's no-break text is gone, and behind its own text
-- nothing vanishes
abbrev pub start_at : List Piece → ℕ → Option Discretionary → ℕ
start_at pieces place None = past_discardables pieces (suc place)
start_at pieces place (Some d) = start_behind pieces (suc place + d.replaced) d.behind

unfoldable pub start_of : List Piece → ℕ → ℕ
start_of pieces place = start_at pieces place (discretionary_at pieces place)
