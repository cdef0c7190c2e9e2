-- Files by their names, as a source holds them, a run reads them and a sink keeps them.
use Rattle.std.specs.Prelude.{ℕ, List, Option}
use Rattle.std.specs.Ordering.{nat_cmp}
use Rattle.std.specs.Cmp.Lexicographic.{slice_cmp}
use Rattle.std.specs.FinMap.{FinMap, get}

-- a finite map from names to contents, both lists of bytes
abbrev pub Files : Type 0
Files = FinMap (slice_cmp nat_cmp) (List ℕ)

-- what the file of this name holds, and None where there is no such file
abbrev pub content : Files → List ℕ → Option (List ℕ)
content files name = get files name
