-- Where a document stands, written as pairs, by which a proof tells two of them apart.
use Rattle.std.specs.Prelude.{◌≡◌, ◌⊎◌, ℕ, List}
use Rattle.std.proofs.Common.{inl, inr, refl}
use Rattle.std.specs.Coded.{Coded, code_by, coded×, coded⊎, coded_ℕ, coded_list}
use Rattle.tx_files.specs.declared.edit.Change.{Change}
use Rattle.tx_files.specs.declared.edit.Change.TheVariants.{Edit, Remove}
use Rattle.tx_session.specs.Held.{Held}
use Rattle.tx_session.specs.HeldCode.{held_code}
use Rattle.tx_session.specs.Standing.{Standing}

abbrev pub EditCode : Type 0
EditCode = List ℕ × (ℕ × (ℕ × List ℕ))

abbrev pub change_to : Change → EditCode ⊎ List ℕ
change_to (Edit e) = inl (e.name, (e.place, (e.removed, e.put)))
change_to (Remove name) = inr name

abbrev pub change_from : EditCode ⊎ List ℕ → Change
change_from (inl p) = Edit (record { name = p.0; place = p.1.0; removed = p.1.1.0; put = p.1.1.1 })
change_from (inr name) = Remove name

pub change-back : (c : Change) → change_from (change_to c) ≡ c
change-back (Edit e) = refl
change-back (Remove name) = refl

abbrev pub change_code : Coded Change
change_code = code_by (EditCode ⊎ List ℕ) (coded⊎ (coded× (coded_list coded_ℕ) (coded× coded_ℕ (coded× coded_ℕ (coded_list coded_ℕ)))) (coded_list coded_ℕ)) change_to change_from change-back

abbrev pub standing_code : Coded Standing
standing_code = code_by (Held × List Change) (coded× held_code (coded_list change_code)) (λ t. (t.base, t.since)) (λ p. record { base = p.0; since = p.1 }) (λ _. refl)
