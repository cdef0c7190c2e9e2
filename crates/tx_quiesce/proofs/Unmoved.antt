-- Where each edit puts in as many bytes as it takes out, what stands behind the changes stays where it is.
use Rattle.std.proofs.Common.{◌≡◌, ℕ, suc, ◌+◌, ◌≤◌, Bool, true, false, cond, List, [], ◌∷◌, length, map, Option, Some, None, refl, sym, ap, ◌∙◌, arith}
use Rattle.std.specs.Cmp.Lexicographic.{nat_list_cmp_total, bytes_decides}
use Rattle.std.specs.FinMap.{get, get-insert, same_map, slice_cmp-IsAntisymmetric, nat_cmp-IsAntisymmetric}
use Rattle.std.specs.List.{All, list_all}
use Rattle.std.specs.Str.{bytes_eq}
use Rattle.std.proofs.lemmas.Bool.{and_parts, eqb-true}
use Rattle.std.proofs.lemmas.Map.Text.{is_eq-slice_cmp}
use Rattle.tx_files.specs.Carry.{carried, CanCarry}
use Rattle.tx_files.specs.declared.edit.Edit.{Edit as FileEdit}
use Rattle.tx_files.specs.declared.edit.Change.{Change}
use Rattle.tx_files.specs.declared.edit.Change.TheVariants.{Edit, Remove}
use Rattle.tx_files.specs.declared.reads.Extent.{Extent}
use Rattle.tx_files.specs.declared.reads.Extent.TheVariants.{Absent, Upto, Whole}
use Rattle.tx_files.specs.declared.reads.FileReads.{FileReads}
use Rattle.tx_files.specs.Reads.{Reads}
use Rattle.tx_files.specs.Shift.{shifted, CanShift, CanShiftExtent, CanShiftReads, shifted_extent, shifted_by, shifted_reads}
use Rattle.tx_machine.specs.declared.types.OpenFile.{OpenFile}
use Rattle.tx_checkpoint.specs.declared.row.Row.{Row}
use Rattle.tx_quiesce.specs.Moves.{opens_by, reads_by, carried_row, is_even, CanMoveOpens, CanMoveReads, CanCarryRow}
use Rattle.tx_quiesce.specs.Shift.{CanShiftFile, shifted_file, shifted_opens}

module _ (e : FileEdit) (even : e.removed ≡ length e.put) where
  place_still : (n : ℕ) → CanShift e n → shifted e n ≡ n
  place_still n can = let behind : e.place + e.removed ≤ n = can.0 in omega (arith, even)

  file_still : (file : OpenFile) → CanShiftFile e file → shifted_file e file ≡ file
  file_still file can = by (bytes_eq file.name e.name) refl
    where
      by : (b : Bool) → bytes_eq file.name e.name ≡ b → cond b (record file { offset = shifted e file.offset }) file ≡ file
      by true is = ap (λ offset. record file { offset = offset }) (place_still file.offset (can is))
      by false is = refl

  opens_still : (opens : List OpenFile) → All (CanShiftFile e) opens → shifted_opens e opens ≡ opens
  opens_still [] can = refl
  opens_still (file ∷ opens) can = λ i. file_still file (can 0 file (omega arith)) i ∷ opens_still opens (λ k d below. can (suc k) d (omega arith)) i

  extent_still : (extent : Extent) → CanShiftExtent e extent → shifted_extent e extent ≡ extent
  extent_still Absent can = refl
  extent_still (Upto n) can = ap Upto (place_still n can)
  extent_still Whole can = refl

  reads_still : (reads : Reads) → CanShiftReads e (get reads e.name) → shifted_reads e reads ≡ reads
  reads_still reads can = by (get reads e.name) refl can
    where
      at : (held : FileReads) → get reads e.name ≡ Some held → CanShiftExtent e held.extent → (q : List ℕ) (b : Bool) → bytes_eq q e.name ≡ b → cond b (Some (record held { extent = shifted_extent e held.extent })) (get reads q) ≡ get reads q
      at held is fits q true same = ap (λ (extent : Extent). Some (record held { extent = extent })) (extent_still held.extent fits) ∙ sym is ∙ ap (get reads) (sym ((bytes_decides q e.name).0 same))
      at held is fits q false same = refl

      by : (held : Option FileReads) → get reads e.name ≡ held → CanShiftReads e held → shifted_by e reads held ≡ reads
      by None is fits = refl
      by (Some held) is fits =
          same_map nat_list_cmp_total (slice_cmp-IsAntisymmetric nat_cmp-IsAntisymmetric) _ _
          (λ q. get-insert nat_list_cmp_total reads e.name (record held { extent = shifted_extent e held.extent }) q
          ∙ ap (λ b. cond b (Some (record held { extent = shifted_extent e held.extent })) (get reads q)) (is_eq-slice_cmp q e.name)
          ∙ at held is fits q (bytes_eq q e.name) refl)

opens_rest : (c : Change) (opens : List OpenFile) → is_even c ≡ true → CanMoveOpens c opens → opens_by c opens ≡ opens
opens_rest (Edit e) opens even can = opens_still e (eqb-true e.removed (length e.put) even) opens can
opens_rest (Remove gone) opens even can = refl

reads_rest : (c : Change) (reads : Reads) → is_even c ≡ true → CanMoveReads c reads → reads_by c reads ≡ reads
reads_rest (Edit e) reads even can = reads_still e (eqb-true e.removed (length e.put) even) reads can
reads_rest (Remove gone) reads even can = refl

-- where each change leaves it, all do
module _ {X : Type 0} (move : Change → X → X) (Can : Change → X → Type 0) (rests : (c : Change) (x : X) → is_even c ≡ true → Can c x → move c x ≡ x) where
  all_rest : (changes : List Change) (x : X) → list_all (λ c. is_even c) changes ≡ true → CanCarry move Can changes x → carried move changes x ≡ x
  all_rest [] x even can = refl
  all_rest (c ∷ changes) x even can =
      let both = and_parts (is_even c) (list_all (λ d. is_even d) changes) even in
      all_rest changes (move c x) both.1 can.1 ∙ rests c x both.0 can.0

module _ (changes : List Change) (even : list_all (λ c. is_even c) changes ≡ true) where
  pub rows-still : {S : Type 0} (rows : List (Row S)) → All (CanCarryRow changes) rows → map (carried_row changes) rows ≡ rows
  rows-still [] can = refl
  rows-still {S = S} (row ∷ rows) can =
      let first : CanCarryRow changes row = can 0 row (omega arith) in
      let rest : map (carried_row changes) rows ≡ rows = rows-still rows (λ k d below. can (suc k) d (omega arith)) in
      let seen = all_rest reads_by CanMoveReads reads_rest changes row.seen even first.seen in
      let opens = all_rest opens_by CanMoveOpens opens_rest changes row.opens even first.opens in
      let same : carried_row changes row ≡ row = λ i. record row { seen = seen i; opens = opens i } in
      λ i. same i ∷ rest i
