-- Two lines by their places, numbers and classes. No public clause speaks of it.
use Rattle.std.specs.Prelude.{ℕ, ◌==◌, nat_lt, min, Bool, ◌&&◌, ◌||◌}
use Rattle.tx_linebreak.specs.declared.line.Line.{Line}
use Rattle.tx_linebreak.specs.Classes.{class_number}

-- at the first of the three that differs, the line has the lesser number
abbrev pub line_below : Line → Line → Bool
line_below l m =
    nat_lt l.place m.place
    || l.place == m.place && (nat_lt l.number m.number || l.number == m.number && nat_lt (class_number l.class) (class_number m.class))

-- all three are the same
abbrev pub line_level : Line → Line → Bool
line_level l m = l.place == m.place && l.number == m.number && class_number l.class == class_number m.class

-- they are, or the numbers differ where all further lines have the same shape
abbrev pub line_alike : ℕ → Line → Line → Bool
line_alike special l m =
    l.place == m.place && min l.number special == min m.number special && class_number l.class == class_number m.class
