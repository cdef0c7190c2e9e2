-- The name of a job.
use Rattle.std.specs.Prelude.{ℕ, Bool, false, not, ◌==◌, ◌&&◌, ◌||◌, List, [], ◌∷◌, if◌then◌else◌}
use Rattle.tx_char.specs.Character.{character}

-- whether a name has a dot
abbrev pub has_dot : List ℕ → Bool
has_dot [] = false
has_dot (code ∷ rest) = (code == character ".") || has_dot rest

-- a name up to its last dot, or all of it where there is none
abbrev pub job_name : List ℕ → List ℕ
job_name [] = []
job_name (code ∷ rest) = if (code == character ".") && not (has_dot rest) then [] else code ∷ job_name rest
