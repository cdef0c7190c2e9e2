-- Groups behind a level.
use Rattle.std.proofs.Common.{◌≡◌, ◌∙◌, ◌++◌, ◌-◌, ◌≤◌, ℕ, List, length, take, drop, map, ap, arith}
use Rattle.std.proofs.lemmas.List.{take_all, take_rest, drop_all, length-drop, append-nil}
use borrow.Rule.Slice.PartMut.{put_mid, mid_of}
use Rattle.tx_seen.specs.declared.place.Place.{Place}
use Rattle.tx_eqtb.specs.declared.entry.Entry.{Entry}
use Rattle.tx_eqtb.specs.declared.groups.Group.{Group}
use Rattle.tx_eqtb.specs.Stack.{assigned_outside, assigned_within}

-- no group is open behind as many as there are
pub none_within : (level : ℕ) (place : Place) (value : Entry) (groups : List Group) → length groups ≤ level → assigned_within level place value groups ≡ groups
none_within level place value groups all =
    ap (λ rest. take level groups ++ map (assigned_outside level place value) rest) (drop_all level groups all)
    ∙ append-nil (take level groups) ∙ take_all level groups all

-- all groups behind a level are written
pub from_level : (level : ℕ) (place : Place) (value : Entry) (groups changed : List Group) → changed ≡ map (assigned_outside level place value) (mid_of level (length groups - level) groups) → put_mid level (length groups - level) groups changed ≡ assigned_within level place value groups
from_level level place value groups changed is =
    ap (λ rest. take level groups ++ (changed ++ rest)) (drop_all (length groups - level) (drop level groups) (omega (arith, length-drop level groups)))
    ∙ ap (λ part. take level groups ++ part) (append-nil changed ∙ is ∙ ap (λ part. map (assigned_outside level place value) part) (take_rest groups level))
