-- What names mean: a finite map, as TeX's hash table and table of equivalents are one (TeX: The Program, parts 17 and 18).
use Rattle.std.specs.Ordering.{nat_cmp}
use Rattle.std.specs.Cmp.Lexicographic.{slice_cmp}
use Rattle.std.specs.FinMap.{FinMap}

-- a finite map from names, which are lists of bytes, to values
abbrev pub Names : Type 0 → Type 0
Names X = FinMap (slice_cmp nat_cmp) X
