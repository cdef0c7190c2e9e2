-- The transcript after changes is that of the rows.
use Rattle.std.proofs.Common.{◌≡◌, ℕ, List, Result, Ok, Err, refl, sym, ap, ◌∙◌}
use Rattle.std.specs.Prelude.{OnOk, OnErr}
use Rattle.tx_files.specs.declared.edit.Change.{Change}
use Rattle.tx_checkpoint.specs.declared.row.Last.{Last}
use Rattle.tx_quiesce.specs.declared.further.Further.{Further}
use Rattle.tx_quiesce.specs.declared.further.Further.TheVariants.{Goes, Stands}
use Rattle.tx_quiesce.specs.declared.later.Later.{Later}
use Rattle.tx_quiesce.specs.Later.{AreReused, last_of}
use Rattle.tx_session.specs.declared.kept.Made.{Made}
use Rattle.tx_session.specs.Held.{joined_with}
use Rattle.tx_session.specs.Made.{IsSaid, last_piece, pieces_after}

pub on-ok : {T E : Type 0} (r : Result T E) {P Q : Type 0} → (P → Q) → OnOk r P → OnOk r Q
on-ok (Ok x) f p = f p
on-ok (Err x) f p = tt

pub on-err : {T E : Type 0} (r : Result T E) {P Q : Type 0} → (P → Q) → OnErr r P → OnErr r Q
on-err (Ok x) f p = tt
on-err (Err x) f p = f p

-- so it is whatever the answer says
pub err-so : {T E : Type 0} (r : Result T E) {P : Type 0} → P → OnErr r P
err-so (Ok x) p = tt
err-so (Err x) p = p

pub last-said : {S : Type 0} (changes : List Change) (last : Last) (f : Further S) → (last_of changes last f).piece ≡ last_piece last.piece f
last-said changes last (Goes rows) = refl
last-said changes last (Stands end) = refl

-- what was said beside a run that is taken over is what its rows say then
pub is-said : {S : Type 0} (changes : List Change) (old : Made S) {new : Made S} {kept : ℕ} {later : Later S} → AreReused changes old.rows kept later new.rows
    → new.said ≡ joined_with (pieces_after old.rows kept later) (last_piece old.rows.last.piece later.further) → IsSaid new
is-said changes old {later = later} are said =
    said ∙ (λ i. joined_with (sym are.pieces_are i) (sym (ap (λ last. last.piece) are.last_is ∙ last-said changes old.rows.last later.further) i))
