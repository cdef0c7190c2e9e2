-- One chain for each candidate, where those that go on alike are one: the programme of dynamic steps, by which the best of all
-- chains is found without looking at each. No public clause speaks of it.
use Rattle.std.specs.Prelude.{◌≡◌, ℕ, zero, suc, ◌-◌, min, max, ◌==◌, ℤ, unsigned_abs, Bool, true, false, not, ◌&&◌, if◌then◌else◌, List, [], ◌∷◌, ◌++◌, filter, length, Option, None, Some}
use Rattle.tx_linebreak.specs.declared.line.Candidate.{Candidate}
use Rattle.tx_linebreak.specs.Breaks.{penalty_at}
use Rattle.tx_linebreak.specs.Lines.{Attempt}
use Rattle.tx_linebreak.specs.Classes.{class_number}
use Rattle.tx_linebreak.specs.Chains.{Chain, candidate_of, chains_of, dies_at, from_living}
use Rattle.tx_linebreak.specs.Chosen.{IsBest, beats, best_of}

-- two places are the same
abbrev pub same_place : Option ℕ → Option ℕ → Bool
same_place None None = true
same_place None (Some q) = false
same_place (Some p) None = false
same_place (Some p) (Some q) = p == q

-- two candidates are the same
abbrev pub same_candidate : Candidate → Candidate → Bool
same_candidate c d = same_place c.place d.place && c.lines == d.lines && class_number c.class == class_number d.class

-- the number of the last special line: to all that may come behind it, it makes no difference how many lines there are (TeX: The
-- Program, sections 847 and 848). Where \looseness is 0, that is the last line of special shape, since all further ones have the same
-- one; else the number of lines counts, and no chain has more of them than there are pieces
unfoldable pub last_special : Attempt → ℕ
last_special a =
    if unsigned_abs a.params.looseness == 0 then length a.shape - 1 else max (length a.shape - 1) (length a.pieces)

-- a candidate, as the lines behind it depend on it: it makes no difference how many lines come before it where there are as many
-- as the last special one's number says (TeX: The Program, section 835: easy_line)
abbrev pub as_seen : ℕ → Candidate → Candidate
as_seen special c = record { place = c.place; lines = min c.lines special; class = c.class }

-- what may come behind two candidates is the same
abbrev pub go_on_alike : ℕ → Candidate → Candidate → Bool
go_on_alike special c d = same_candidate (as_seen special c) (as_seen special d)

-- the better one of two chains, the second where neither beats the other
abbrev pub better : Chain → Chain → Chain
better chain other = if beats chain other then chain else other

-- chains, of which no two go on alike, with one more: of those that do the better one stays
abbrev pub offered : ℕ → List Chain → Chain → List Chain
offered special [] chain = chain ∷ []
offered special (other ∷ others) chain =
    if go_on_alike special (candidate_of other) (candidate_of chain) then better chain other ∷ others
    else other ∷ offered special others chain

-- with some more
abbrev pub all_offered : ℕ → List Chain → List Chain → List Chain
all_offered special others [] = others
all_offered special others (chain ∷ chains) = all_offered special (offered special others chain) chains

-- the chains kept behind a place, of those kept before it: those whose candidates don't die there, and, of those made there
-- that go on alike, one each
abbrev pub kept_by : Attempt → ℕ → Option ℤ → List Chain → List Chain
kept_by a place None kept = kept
kept_by a place (Some penalty) kept =
    filter (λ chain. not (dies_at a (candidate_of chain) place)) kept ++ all_offered (last_special a) [] (from_living a place penalty kept)

-- the chains kept before a place: one for each candidate that lives there, where those that go on alike are one
abbrev pub kept_before : Attempt → ℕ → List Chain
kept_before a zero = [] ∷ []
kept_before a (suc place) = kept_by a place (penalty_at a.params a.pass a.pieces place) (kept_before a place)

-- the chains that end at the list's end, made of those kept before it
abbrev pub last_by : Attempt → ℕ → Option ℤ → List Chain → List Chain
last_by a place None kept = []
last_by a place (Some penalty) kept = from_living a place penalty kept

unfoldable pub last_chains : Attempt → List Chain
last_chains a =
    let last = length a.pieces - 1 in last_by a last (penalty_at a.params a.pass a.pieces last) (kept_before a last)

-- the best of these is the best of all chains; and where there is none, there is no chain
abbrev pub FindsBest : Attempt → Option Chain → Type 0
FindsBest a None = chains_of a ≡ []
FindsBest a (Some chain) = IsBest a chain

-- it is enough to keep one chain for each candidate, where those that go on alike are one
abbrev pub OneIsEnough : Attempt → Type 0
OneIsEnough a = FindsBest a (best_of (last_chains a))
