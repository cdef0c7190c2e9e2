-- The table with its groups: a stack of tables.
use Rattle.std.specs.Prelude.{ℕ, Bool, true, false, ◌-◌, List, [], ◌∷◌, ◌++◌, length, take, drop, map, Option, None, Some, option_map, slice_get}
use Rattle.tx_seen.specs.declared.place.Place.{Place}
use Rattle.tx_eqtb.specs.declared.entry.Entry.{Entry}
use Rattle.tx_eqtb.specs.declared.groups.GroupKind.{GroupKind}
use Rattle.tx_eqtb.specs.declared.groups.Group.{Group}
use Rattle.tx_eqtb.specs.declared.eqtb.Eqtb.{Eqtb}
use Rattle.tx_eqtb.specs.Table.{level_at, with_entry}

-- the innermost group, which stands last
abbrev pub innermost : List Group → Option Group
innermost groups = slice_get groups (length groups - 1)

-- its kind
abbrev pub kind_of : Eqtb → Option GroupKind
kind_of stack = option_map (λ group. group.kind) (innermost stack.groups)

-- a local assignment changes the table as it stands
abbrev pub assigned : Eqtb → Place → Entry → Eqtb
assigned stack place value = record stack { table = with_entry (length stack.groups) stack.table place value }

-- what a group is left to is changed as the table is, as if so many groups were open
abbrev pub assigned_outside : ℕ → Place → Entry → Group → Group
assigned_outside level place value group = record group { outside = with_entry level group.outside place value }

-- so are all groups but the outermost ones, so many
abbrev pub assigned_within : ℕ → Place → Entry → List Group → List Group
assigned_within level place value groups = take level groups ++ map (assigned_outside level place value) (drop level groups)

-- a global assignment changes it and every table outside
abbrev pub assigned_everywhere : Eqtb → Place → Entry → Eqtb
assigned_everywhere stack place value =
    record { table = with_entry 0 stack.table place value; groups = map (assigned_outside 0 place value) stack.groups }

-- one or the other
abbrev pub assigned_by : Bool → Eqtb → Place → Entry → Eqtb
assigned_by true stack place value = assigned_everywhere stack place value
assigned_by false stack place value = assigned stack place value

-- a box register that is used up, or whose box gets another size, changes where its value was assigned: here, and in what each
-- group is left to that was opened since (TeX: The Program, sections 1079 and 1247)
abbrev pub replaced_from : ℕ → Eqtb → Place → Entry → Eqtb
replaced_from level stack place value =
    record {
      table = with_entry level stack.table place value;
      groups = assigned_within level place value stack.groups;
    }

abbrev pub replaced : Eqtb → Place → Entry → Eqtb
replaced stack place value = replaced_from (level_at stack.table place) stack place value

-- a group begins with a copy of the table
abbrev pub opened : Eqtb → GroupKind → Eqtb
opened stack kind = record stack { groups = stack.groups ++ record { kind = kind; outside = stack.table } ∷ [] }

-- when the innermost group ends, the table outside it stands again
abbrev pub closed_to : Eqtb → Option Group → Eqtb
closed_to stack None = stack
closed_to stack (Some group) = record { table = group.outside; groups = take (length stack.groups - 1) stack.groups }

abbrev pub closed : Eqtb → Eqtb
closed stack = closed_to stack (innermost stack.groups)
