-- The composition of a word ends, since that of each two characters does.
use Rattle.std.proofs.Common.{◌≡◌, ℕ, zero, suc, ◌+◌, ◌-◌, ◌*◌, ◌<◌, ◌≤◌, Bool, true, false, cond, ltb, leb, Option, Some, None, List, [], ◌∷◌, ◌++◌, length, refl, sym, ap, subst, ◌∙◌, append_assoc, arith}
use Rattle.std.specs.Prelude.{option_and_then, if◌then◌else◌, ◌&&◌}
use Rattle.std.specs.List.{AllByRecursion}
use Rattle.std.proofs.lemmas.Bool.{ltb-true, lt-ltb, le-ltb, leb-true, and_parts, and_from, true≢false}
use Rattle.tx_tfm.specs.declared.file.Tfm.{Tfm}
use Rattle.tx_tfm.specs.declared.file.Word.{Word}
use Rattle.tx_tfm.specs.declared.metrics.Metrics.{Metrics}
use Rattle.tx_tfm.specs.Format.{info_of, width_index}
use Rattle.tx_tfm.specs.LigKern.{command_of}
use Rattle.tx_tfm.specs.Rewriting.{after_command, ends_within, first_pair, is_empty, ligature_of}
use Rattle.tx_tfm.specs.Rules.{all_commands_fit, all_pairs_end, all_pairs_end_after, all_remainders_fit, codes_are_bytes, is_piece, pair_ends}
use Rattle.tx_tfm.specs.Sound.{IsSound}
use Rattle.tx_tfm.specs.Table.{piece_of}
use Rattle.tx_tfm.proofs.Endings.{ends_within-one, ends_within-pass, ends_within-command, ends_within-spent}
use Rattle.tx_ligkern.proofs.Inserted.{every-at, ligature_is_there}
use Rattle.tx_ligkern.proofs.Rewritten.{rewrites}

-- each of these is a character that is there, or a boundary
abbrev pub AllThere : Tfm → List (Option ℕ) → Type 0
AllThere t list = AllByRecursion (λ (z : Option ℕ). is_piece t z ≡ true) list

AllThere-append : (t : Tfm) (a b : List (Option ℕ)) → AllThere t a → AllThere t b → AllThere t (a ++ b)
AllThere-append t [] b ha hb = hb
AllThere-append t (x ∷ a) b ha hb = (ha.0, AllThere-append t a b ha.1 hb)

-- more commands are enough too
ends_next : (t : Tfm) (n : ℕ) (list : List (Option ℕ)) → ends_within t n list ≡ true → ends_within t (suc n) list ≡ true
unfolding ends_within first_pair after_command
ends_next t zero list e = by (first_pair t list) e
  where
    by : (x : List (Option ℕ)) → is_empty x ≡ true → is_empty (first_pair t (after_command t x)) ≡ true
    by [] e = refl
    by (x ∷ xs) e = absurd cc
ends_next t (suc n) list e = ends_next t n (after_command t (first_pair t list)) e

pub ends_more : (t : Tfm) (n m : ℕ) (list : List (Option ℕ)) → ends_within t n list ≡ true → ends_within t (m + n) list ≡ true
ends_more t n zero list e = let same : zero + n ≡ n = omega arith in ap (λ (k : ℕ). ends_within t k list) same ∙ e
ends_more t n (suc m) list e =
    let same : suc m + n ≡ suc (m + n) = omega arith in
    ap (λ (k : ℕ). ends_within t k list) same ∙ ends_next t (m + n) list (ends_more t n m list e)

-- a ligature command is a command of its pair
pub ligature-is_command : (t : Tfm) (x y : Option ℕ) (w : Word) → ligature_of t x y ≡ Some w → (command_of t x y ≡ Some w) × (w.c < 128)
unfolding ligature_of
ligature-is_command t x y w e = by (command_of t x y) e
  where
    pick : (v : Word) (b : Bool) → ltb v.c 128 ≡ b → cond b (Some v) None ≡ Some w → (Some v ≡ Some w) × (w.c < 128)
    pick v true is e =
        let small : v.c < 128 = ltb-true v.c 128 is in
        let same : v ≡ w = cc in
        (e, subst (λ (u : Word). u.c < 128) same small)
    pick v false is e = absurd cc

    by : (o : Option Word) → option_and_then (λ u. if ltb u.c 128 then Some u else None) o ≡ Some w → (o ≡ Some w) × (w.c < 128)
    by None e = absurd cc
    by (Some v) e = pick v (ltb v.c 128) refl e

pub command-is_ligature : (t : Tfm) (x y : Option ℕ) (w : Word) → command_of t x y ≡ Some w → w.c < 128 → ligature_of t x y ≡ Some w
unfolding ligature_of
command-is_ligature t x y w e small = rw (e, lt-ltb w.c 128 small) refl

pub kern-is_no_ligature : (t : Tfm) (x y : Option ℕ) (w : Word) → command_of t x y ≡ Some w → 128 ≤ w.c → ligature_of t x y ≡ None
unfolding ligature_of
kern-is_no_ligature t x y w e great = rw (e, le-ltb w.c 128 great) refl

pub none-is_no_ligature : (t : Tfm) (x y : Option ℕ) → command_of t x y ≡ None → ligature_of t x y ≡ None
unfolding ligature_of
none-is_no_ligature t x y e = rw e refl

-- within n commands a list is left with its last piece alone, whatever stands behind it
record Leads (t : Tfm) (n : ℕ) (x : Option ℕ) (list : List (Option ℕ)) : Type 0 where
  last : Option ℕ
  there : is_piece t last ≡ true
  on : (rest : List (Option ℕ)) (m : ℕ) → ends_within t m (last ∷ rest) ≡ true → ends_within t (n + m) (x ∷ (list ++ rest)) ≡ true

-- what is known with one command less
Prior : Tfm → ℕ → Type 0
Prior t zero = Unit {0}
Prior t (suc n) = (x : Option ℕ) (list : List (Option ℕ)) → AllThere t (x ∷ list) → ends_within t n (x ∷ list) ≡ true → Leads t n x list

leads-command : (t : Tfm) → all_commands_fit t ≡ true → all_remainders_fit t ≡ true → (n : ℕ) → Prior t n → (x y : Option ℕ) (list : List (Option ℕ)) → AllThere t (x ∷ y ∷ list)
    → ends_within t n (x ∷ y ∷ list) ≡ true → (w : Word) → ligature_of t x y ≡ Some w → Leads t n x (y ∷ list)
unfolding Prior
leads-command t fit remainders zero prior x y list there e w is = absurd (true≢false (sym e ∙ ends_within-spent t x y list w is))
leads-command t fit remainders (suc n) prior x y list there e w is =
    let k = ligature-is_command t x y w is in
    let made = rewrites t w x y there.0 there.1.0 (ligature_is_there t x y w fit remainders there.0 k.0 k.1) in
    let less : suc n - 1 ≡ n = omega arith in
    let after : ends_within t n (made.first ∷ (made.others ++ list)) ≡ true =
    sym (ends_within-command t (suc n) x y list w (omega arith) is ∙ (λ i. ends_within t (less i) (made.is list i))) ∙ e in
    let j = prior made.first (made.others ++ list) (made.first_there, AllThere-append t made.others list made.others_there there.1.1) after in
    record {
      last = j.last;
      there = j.there;
      on = λ rest m h.
          let fewer : suc n + m - 1 ≡ n + m = omega arith in
          ends_within-command t (suc n + m) x y (list ++ rest) w (omega arith) is
          ∙ (λ i. ends_within t (fewer i) (made.is (list ++ rest) i))
          ∙ ap (λ (l : List (Option ℕ)). ends_within t (n + m) (made.first ∷ l)) (sym (append_assoc made.others list rest))
          ∙ j.on rest m h;
    }

leads : (t : Tfm) → all_commands_fit t ≡ true → all_remainders_fit t ≡ true → (n : ℕ) → Prior t n → (x : Option ℕ) (list : List (Option ℕ)) → AllThere t (x ∷ list)
    → ends_within t n (x ∷ list) ≡ true → Leads t n x list
leads t fit remainders n prior x [] there e = record { last = x; there = there.0; on = λ rest m h. ends_more t m n (x ∷ rest) h }
leads t fit remainders n prior x (y ∷ list) there e = by (λ e'. leads t fit remainders n prior y list there.1 e') (ligature_of t x y) refl
  where
    by : (ends_within t n (y ∷ list) ≡ true → Leads t n y list) → (o : Option Word) → ligature_of t x y ≡ o → Leads t n x (y ∷ list)
    by others None is =
        let k = others (sym (ends_within-pass t n x y list is) ∙ e) in
        record { last = k.last; there = k.there; on = λ rest m h. ends_within-pass t (n + m) x y (list ++ rest) is ∙ k.on rest m h }
    by others (Some w) is = leads-command t fit remainders n prior x y list there e w is

runs : (t : Tfm) → all_commands_fit t ≡ true → all_remainders_fit t ≡ true → (n : ℕ) → (x : Option ℕ) (list : List (Option ℕ)) → AllThere t (x ∷ list)
    → ends_within t n (x ∷ list) ≡ true → Leads t n x list
unfolding Prior
runs t fit remainders zero = leads t fit remainders zero tt
runs t fit remainders (suc n) = leads t fit remainders (suc n) (runs t fit remainders n)

-- the number of a piece among all of them
number_of : (m : Metrics) → IsSound m → (x : Option ℕ) → is_piece m.file x ≡ true → (j : ℕ) × (j < 257) × (piece_of j ≡ x)
unfolding codes_are_bytes
number_of m sound None there = (256, omega arith, refl)
number_of m sound (Some code) there =
    let listed = and_parts (leb m.file.lengths.first code && leb code m.file.lengths.last) (ltb 0 (width_index (info_of m.file code))) there in
    let high : code ≤ m.file.lengths.last = leb-true code m.file.lengths.last (and_parts (leb m.file.lengths.first code) (leb code m.file.lengths.last) listed.0).1 in
    let byte : m.file.lengths.last ≤ 255 = leb-true m.file.lengths.last 255 (and_parts (leb m.file.lengths.first (m.file.lengths.last + 1)) (leb m.file.lengths.last 255) sound.codes).1 in
    (code, omega arith, ap (λ (b : Bool). cond b (Some code) None) (lt-ltb code 256 (omega arith)))

-- each two pieces that are there end
pair_ends_at : (m : Metrics) → IsSound m → (x y : Option ℕ) → is_piece m.file x ≡ true → is_piece m.file y ≡ true → ends_within m.file 1000 (x ∷ y ∷ []) ≡ true
unfolding all_pairs_end all_pairs_end_after pair_ends
pair_ends_at m sound x y hx hy =
    let j = number_of m sound x hx in
    let k = number_of m sound y hy in
    let row = every-at 257 j.0 (all_pairs_end_after m.file) sound.pairs j.1 in
    let pair = every-at 257 k.0 (pair_ends m.file j.0) row k.1 in
    let both : (is_piece m.file (piece_of j.0) && is_piece m.file (piece_of k.0)) ≡ true =
    and_from (is_piece m.file (piece_of j.0)) (is_piece m.file (piece_of k.0)) (ap (is_piece m.file) j.2 ∙ hx) (ap (is_piece m.file) k.2 ∙ hy) in
    (λ i. ends_within m.file 1000 (sym j.2 i ∷ sym k.2 i ∷ []))
    ∙ sym (ap (λ (b : Bool). cond b (ends_within m.file 1000 (piece_of j.0 ∷ piece_of k.0 ∷ [])) true) both)
    ∙ pair

-- a word ends, each of its pieces after the first taking at most a thousand commands
pub word_ends : (m : Metrics) → IsSound m → (x : Option ℕ) (list : List (Option ℕ)) → AllThere m.file (x ∷ list) → ends_within m.file (1000 * length list) (x ∷ list) ≡ true
word_ends m sound x [] there = ends_within-one m.file (1000 * 0) x
word_ends m sound x (y ∷ list) there =
    let k = runs m.file sound.commands sound.remainders 1000 x (y ∷ []) (there.0, (there.1.0, tt)) (pair_ends_at m sound x y there.0 there.1.0) in
    let rest = word_ends m sound k.last list (k.there, there.1.1) in
    let sum : 1000 * length (y ∷ list) ≡ 1000 + 1000 * length list = omega arith in
    ap (λ (n : ℕ). ends_within m.file n (x ∷ y ∷ list)) sum ∙ k.on list (1000 * length list) rest
