-- What a ligature command of a font inserts is there.
use Rattle.std.proofs.Common.{◌≡◌, ℕ, zero, suc, ◌+◌, ◌-◌, ◌*◌, ◌<◌, ◌≤◌, Bool, true, false, cond, ltb, leb, eqb, Option, Some, None, refl, sym, ap, subst, ◌∙◌, arith, inl, inr}
use Rattle.std.specs.Prelude.{◌&&◌, ◌||◌, option_and_then}
use Rattle.std.proofs.lemmas.Bool.{ltb-true, ltb-false, leb-true, eqb-true, and_parts, or_cases, cases_eq, lt-ltb, le-ltb, true≢false}
use Rattle.tx_tfm.specs.declared.file.Tfm.{Tfm}
use Rattle.tx_tfm.specs.declared.file.Word.{Word}
use Rattle.tx_tfm.specs.Format.{character_count, info_of, is_listed, is_there, tag, width_index}
use Rattle.tx_tfm.specs.LigKern.{boundary_start, character_start, code_of, command_at, command_of, found, start_of, target}
use Rattle.tx_tfm.specs.Rules.{all_commands_fit, all_remainders_fit, can_come, command_fits, every, inserts_well, is_piece, remainder_fits}

some_is : {A : Type 0} (x y : A) → Some x ≡ Some y → x ≡ y
some_is x y e = cc

none_or_some : {A : Type 0} (x : A) → None ≡ Some x → ⊥
none_or_some x e = cc

-- what is tested of each number below another holds of each
pub every-at : (n k : ℕ) (test : ℕ → Bool) → every n test ≡ true → k < n → test k ≡ true
unfolding every
every-at zero k test h below = absurd (omega arith)
every-at (suc n) k test h below =
    let parts = and_parts (every n test) (test n) h in
    elim (cases_eq k n) [
      | inl same ↦ ap test same ∙ parts.1
      | inr other ↦ every-at n k test parts.0 (omega arith)
    ]

pub command_at_fits : (t : Tfm) (k : ℕ) → all_commands_fit t ≡ true → k < t.lengths.commands → command_fits t k ≡ true
unfolding all_commands_fit
command_at_fits t k fit below = every-at t.lengths.commands k (command_fits t) fit below

-- a command that leads elsewhere leads to a command
leads_within : (t : Tfm) (k : ℕ) → all_commands_fit t ≡ true → k < t.lengths.commands → 128 < (command_at t k).a → target (command_at t k) < t.lengths.commands
unfolding command_fits
leads_within t k fit below far =
    let here = command_at_fits t k fit below in
    let is : ltb 128 (command_at t k).a ≡ true = lt-ltb 128 (command_at t k).a far in
    let e : ltb (target (command_at t k)) t.lengths.commands ≡ true =
    sym (ap (λ (b : Bool). cond b (ltb (target (command_at t k)) t.lengths.commands)
    (can_come t (command_at t k).b && inserts_well t (command_at t k) && (eqb (command_at t k).a 128 || ltb (k + (command_at t k).a + 1) t.lengths.commands))) is) ∙ here in
    ltb-true (target (command_at t k)) t.lengths.commands e

-- any other inserts what is there, and doesn't skip past the end
stays_within : (t : Tfm) (k : ℕ) → all_commands_fit t ≡ true → k < t.lengths.commands → (command_at t k).a ≤ 128
    → (inserts_well t (command_at t k) ≡ true) × (eqb (command_at t k).a 128 ≡ false → k + (command_at t k).a + 1 < t.lengths.commands)
unfolding command_fits
stays_within t k fit below near =
    let w : Word = command_at t k in
    let here = command_at_fits t k fit below in
    let is : ltb 128 w.a ≡ false = le-ltb 128 w.a near in
    let skip : Bool = eqb w.a 128 || ltb (k + w.a + 1) t.lengths.commands in
    let e : (can_come t w.b && inserts_well t w && skip) ≡ true =
    sym (ap (λ (b : Bool). cond b (ltb (target w) t.lengths.commands) (can_come t w.b && inserts_well t w && skip)) is) ∙ here in
    let both = and_parts (can_come t w.b && inserts_well t w) skip e in (
      (and_parts (can_come t w.b) (inserts_well t w) both.0).1,
      λ last. elim (or_cases (eqb w.a 128) (ltb (k + w.a + 1) t.lengths.commands) both.1) [
        | inl is ↦ absurd (true≢false (sym is ∙ last))
        | inr less ↦ ltb-true (k + w.a + 1) t.lengths.commands less
      ],
    )

-- the command that is found in a program inserts what is there
found_fits : (t : Tfm) (n k r : ℕ) (w : Word) → all_commands_fit t ≡ true → k < t.lengths.commands → found t n k r ≡ Some w → inserts_well t w ≡ true
unfolding found
found_fits t zero k r w fit below e = absurd (none_or_some w e)
found_fits t (suc n) k r w fit below e =
    by (λ h e'. found_fits t n (k + (command_at t k).a + 1) r w fit h e') (ltb 128 (command_at t k).a) refl (eqb (command_at t k).b r) refl (eqb (command_at t k).a 128) refl e
  where
    by : (k + (command_at t k).a + 1 < t.lengths.commands → found t n (k + (command_at t k).a + 1) r ≡ Some w → inserts_well t w ≡ true)
        → (far : Bool) → ltb 128 (command_at t k).a ≡ far → (same : Bool) → eqb (command_at t k).b r ≡ same → (last : Bool) → eqb (command_at t k).a 128 ≡ last
        → cond far None (cond same (Some (command_at t k)) (cond last None (found t n (k + (command_at t k).a + 1) r))) ≡ Some w → inserts_well t w ≡ true
    by others true fis same sis last lis e = absurd (none_or_some w e)
    by others false fis true sis last lis e =
        ap (inserts_well t) (sym (some_is (command_at t k) w e)) ∙ (stays_within t k fit below (ltb-false 128 (command_at t k).a fis)).0
    by others false fis false sis true lis e = absurd (none_or_some w e)
    by others false fis false sis false lis e = others ((stays_within t k fit below (ltb-false 128 (command_at t k).a fis)).1 lis) e

-- where the program of a boundary begins there is a command
boundary_within : (t : Tfm) (k : ℕ) → all_commands_fit t ≡ true → boundary_start t ≡ Some k → k < t.lengths.commands
unfolding boundary_start
boundary_within t k fit e = by (ltb 0 t.lengths.commands && eqb (command_at t (t.lengths.commands - 1)).a 255) refl e
  where
    by : (b : Bool) → (ltb 0 t.lengths.commands && eqb (command_at t (t.lengths.commands - 1)).a 255) ≡ b
        → cond b (Some (target (command_at t (t.lengths.commands - 1)))) None ≡ Some k → k < t.lengths.commands
    by true is e =
        let parts = and_parts (ltb 0 t.lengths.commands) (eqb (command_at t (t.lengths.commands - 1)).a 255) is in
        let some : 0 < t.lengths.commands = ltb-true 0 t.lengths.commands parts.0 in
        let last : (command_at t (t.lengths.commands - 1)).a ≡ 255 = eqb-true (command_at t (t.lengths.commands - 1)).a 255 parts.1 in
        let less = leads_within t (t.lengths.commands - 1) fit (omega arith) (omega arith) in
        subst (λ (x : ℕ). x < t.lengths.commands) (some_is (target (command_at t (t.lengths.commands - 1))) k e) less
    by false is e = absurd (none_or_some k e)

-- and where that of a character begins
character_within : (t : Tfm) (code k : ℕ) → all_commands_fit t ≡ true → all_remainders_fit t ≡ true → is_there t code ≡ true → character_start t code ≡ Some k → k < t.lengths.commands
unfolding character_start all_remainders_fit remainder_fits
character_within t code k fit remainders there e =
    by (eqb (tag (info_of t code)) 1) refl (ltb 128 (command_at t (info_of t code).d).a) refl e
  where
    place : t.lengths.first + (code - t.lengths.first) ≡ code
    place =
        let parts = and_parts (leb t.lengths.first code && leb code t.lengths.last) (ltb 0 (width_index (info_of t code))) there in
        let low : t.lengths.first ≤ code = leb-true t.lengths.first code (and_parts (leb t.lengths.first code) (leb code t.lengths.last) parts.0).0 in
        omega arith

    within : code - t.lengths.first < character_count t.lengths
    within =
        let parts = and_parts (leb t.lengths.first code && leb code t.lengths.last) (ltb 0 (width_index (info_of t code))) there in
        let low : t.lengths.first ≤ code = leb-true t.lengths.first code (and_parts (leb t.lengths.first code) (leb code t.lengths.last) parts.0).0 in
        let high : code ≤ t.lengths.last = leb-true code t.lengths.last (and_parts (leb t.lengths.first code) (leb code t.lengths.last) parts.0).1 in
        omega arith

    fits : remainder_fits t code ≡ true
    fits = sym (ap (remainder_fits t) place) ∙ every-at (character_count t.lengths) (code - t.lengths.first) (λ j. remainder_fits t (t.lengths.first + j)) remainders within

    program : eqb (tag (info_of t code)) 1 ≡ true → (info_of t code).d < t.lengths.commands
    program is = ltb-true (info_of t code).d t.lengths.commands (
        sym (ap (λ (b : Bool). cond b (ltb (info_of t code).d t.lengths.commands) (cond (eqb (tag (info_of t code)) 2) (is_listed t (info_of t code).d) (cond (eqb (tag (info_of t code)) 3) (ltb (info_of t code).d t.lengths.recipes) true))) is) ∙ fits)

    by : (b : Bool) → eqb (tag (info_of t code)) 1 ≡ b → (far : Bool) → ltb 128 (command_at t (info_of t code).d).a ≡ far
        → cond b (Some (cond far (target (command_at t (info_of t code).d)) (info_of t code).d)) None ≡ Some k → k < t.lengths.commands
    by true is true fis e = subst (λ (x : ℕ). x < t.lengths.commands) (some_is (target (command_at t (info_of t code).d)) k e) (leads_within t (info_of t code).d fit (program is) (ltb-true 128 (command_at t (info_of t code).d).a fis))
    by true is false fis e = subst (λ (x : ℕ). x < t.lengths.commands) (some_is (info_of t code).d k e) (program is)
    by false is far fis e = absurd (none_or_some k e)

start_within : (t : Tfm) (left : Option ℕ) (k : ℕ) → all_commands_fit t ≡ true → all_remainders_fit t ≡ true → is_piece t left ≡ true → start_of t left ≡ Some k → k < t.lengths.commands
start_within t None k fit remainders there e = boundary_within t k fit e
start_within t (Some code) k fit remainders there e = character_within t code k fit remainders there e

-- the ligature of a command that a pair meets is there
pub ligature_is_there : (t : Tfm) (left right : Option ℕ) (w : Word) → all_commands_fit t ≡ true → all_remainders_fit t ≡ true → is_piece t left ≡ true
    → command_of t left right ≡ Some w → w.c < 128 → is_there t w.d ≡ true
unfolding command_of
ligature_is_there t left right w fit remainders there e small = by (code_of t right) refl (start_of t left) refl e
  where
    by : (r : Option ℕ) → code_of t right ≡ r → (s : Option ℕ) → start_of t left ≡ s
        → option_and_then (λ r. option_and_then (λ k. found t t.lengths.commands k r) s) r ≡ Some w → is_there t w.d ≡ true
    by None ris s sis e = absurd (none_or_some w e)
    by (Some r) ris None sis e = absurd (none_or_some w e)
    by (Some r) ris (Some k) sis e =
        let well = found_fits t t.lengths.commands k r w fit (start_within t left k fit remainders there sis) e in
        sym (ap (λ (b : Bool). cond b (is_there t w.d) (ltb (256 * (w.c - 128) + w.d) t.lengths.kerns)) (lt-ltb w.c 128 small)) ∙ well
