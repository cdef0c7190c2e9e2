-- Entries are put, one by one, to those that end in the same column. No public clause speaks of it.
use Rattle.std.specs.Prelude.{◌-◌, ◌&&◌, nat_lt, nat_le, List, [], ◌∷◌, ◌++◌, length, slice_index_or, slice_set, if◌then◌else◌}
use Rattle.tx_align.specs.declared.entry.Entry.{Entry}

abbrev pub put : List (List Entry) → Entry → List (List Entry)
put groups entry =
    if nat_lt 0 entry.end && nat_le entry.end (length groups)
    then slice_set groups (entry.end - 1) (slice_index_or groups (entry.end - 1) [] ++ entry ∷ [])
    else groups
