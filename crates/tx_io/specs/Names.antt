-- Names of files.
use Rattle.std.specs.Prelude.{ℕ, Bool, List, length, nat_le, ◌&&◌}
use Rattle.std.specs.List.{list_all}

-- a visible character of ASCII
abbrev pub is_visible : ℕ → Bool
is_visible code = nat_le 33 code && nat_le code 126

-- at least one and at most 255 of these
abbrev pub is_name : List ℕ → Bool
is_name bytes = nat_le 1 (length bytes) && nat_le (length bytes) 255 && list_all is_visible bytes
