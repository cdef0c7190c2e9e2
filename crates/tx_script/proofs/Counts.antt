-- Reading how many changes a batch has.
use Rattle.std.proofs.Common.{◌≡◌, ℕ, zero, suc, ◌+◌, ◌-◌, ◌*◌, ◌^◌, ◌<◌, ◌≤◌, Bool, true, false, cond, List, [], ◌∷◌, ◌++◌, length, get_or, refl, sym, ap, subst, ◌∙◌, append_assoc, arith, true≢false}
use Rattle.std.specs.Prelude.{Option, Some, None, nat_le, option_map}
use Rattle.std.specs.Fmt.{decimal}
use Rattle.std.proofs.lemmas.Bool.{leb-true, le-leb, and_parts, and_from}
use Rattle.std.proofs.lemmas.Fmt.{decimal_digit, decimal_nonempty, decimal_injective, first_decimal}
use Rattle.std.proofs.lemmas.List.{append-nil}
use Rattle.tx_script.specs.declared.error.Rule.TheVariants.{Count}
use Rattle.tx_script.specs.Text.{counted, greatest, is_count}
use Rattle.tx_script.specs.Reading.{count_at, further_count, if_count, whole_number, with_byte}
use Rattle.tx_script.proofs.Digits.{none_or_some, among, front_below, Good, shown, goes, gone}
use Rattle.tx_script.proofs.Forms.{Reads}
use Rattle.tx_script.proofs.Scans.{Follows, scan_reads, some_is, some_or_none}

abbrev pub IsCount : ℕ → Type 0
IsCount n = (1 ≤ n) × (n ≤ 100)

count_is : (n : ℕ) → is_count n ≡ true → IsCount n
count_is n e = let both = and_parts (nat_le 1 n) (nat_le n 100) e in (leb-true 1 n both.0, leb-true n 100 both.1)

is_count_from : (n : ℕ) → IsCount n → is_count n ≡ true
is_count_from n h = and_from (nat_le 1 n) (nat_le n 100) (le-leb 1 n h.0) (le-leb n 100 h.1)

-- digits that begin those of a number are those of one that isn't greater, and isn't 0 where that isn't
pub front_least : (v x : ℕ) (more : List ℕ) → v ≤ greatest → x ≤ greatest → decimal v ≡ decimal x ++ more → x ≤ v
front_least v x [] hv hx e =
    let same : v ≡ x = decimal_injective v x (omega arith) (omega arith) (e ∙ append-nil (decimal x)) in
    omega arith
front_least v x (d ∷ more) hv hx e =
    let digit = among v hv (decimal x) d more e in
    let below : 10 * x + (d - 48) ≤ v = front_below v x d more hv hx digit e in
    omega arith

front_some : (v x : ℕ) (more : List ℕ) → 1 ≤ v → v ≤ greatest → decimal v ≡ decimal x ++ more → 1 ≤ x
front_some v zero more some hv e =
    let first : 48 < get_or (decimal v) 0 0 = first_decimal v (omega arith) (omega arith) in
    let same : get_or (decimal v) 0 0 ≡ 48 = ap (λ (x : List ℕ). get_or x 0 0) (e ∙ ap (λ (x : List ℕ). x ++ more) (decimal_digit 0 (omega arith))) in
    absurd (omega arith)
front_some v (suc x) more some hv e = omega arith

-- what is known of the number so far
abbrev Counts : Option ℕ → Type 0
Counts None = Unit {0}
Counts (Some v) = IsCount v

is_good : (s : Option ℕ) → Counts s → Good s
unfolding Good
is_good None counts = tt
is_good (Some v) counts = let most : v ≤ 100 = counts.1 in omega arith

goes_on : (s : Option ℕ) (c : ℕ) (s' : Option ℕ) → Counts s → further_count s c ≡ Some s' → Counts s' × (shown s' ≡ shown s ++ c ∷ [])
goes_on s c s' good e = by (with_byte s c) refl e
  where
    within : (x : ℕ) → with_byte s c ≡ Some x → (b : Bool) → is_count x ≡ b → option_map Some (cond b (Some x) None) ≡ Some s' → Counts s' × (shown s' ≡ shown s ++ c ∷ [])
    within x is true counts e =
        let k = goes s c (Some x) (is_good s good) (ap (λ (o : Option ℕ). option_map Some o) is) in
        subst (λ (z : Option ℕ). Counts z × (shown z ≡ shown s ++ c ∷ [])) (some_is (Some x) s' e) (count_is x counts, k.1)
    within x is false counts e = absurd (some_or_none s' e)

    by : (o : Option ℕ) → with_byte s c ≡ o → option_map Some (if_count o) ≡ Some s' → Counts s' × (shown s' ≡ shown s ++ c ∷ [])
    by None is e = absurd (some_or_none s' e)
    by (Some x) is e = within x is (is_count x) refl e

stops : (s : Option ℕ) (c v : ℕ) (more : List ℕ) → Counts s → further_count s c ≡ None → IsCount v → decimal v ≡ shown s ++ c ∷ more → ⊥
unfolding Good shown
stops s c v more good e fits eq = by (with_byte s c) refl e
  where
    least : 1 ≤ v
    least = fits.0

    most : v ≤ 100
    most = fits.1

    small : v ≤ greatest
    small = let few : v ≤ 100 = most in omega arith

    -- a number that is too great, or 0, begins no count
    past : (x : ℕ) → with_byte s c ≡ Some x → is_count x ≡ false → ⊥
    past x is counts =
        let k = goes s c (Some x) (is_good s good) (ap (λ (o : Option ℕ). option_map Some o) is) in
        let front : decimal v ≡ decimal x ++ more = eq ∙ sym (append_assoc (shown s) (c ∷ []) more) ∙ ap (λ (y : List ℕ). y ++ more) (sym k.1) in
        let fewer : x ≤ v = front_least v x more small k.0 front in
        let some : 1 ≤ x = front_some v x more least small front in
        true≢false (sym (is_count_from x (some, (let few : v ≤ 100 = most in omega arith))) ∙ counts)

    within : (x : ℕ) → with_byte s c ≡ Some x → (b : Bool) → is_count x ≡ b → option_map Some (cond b (Some x) None) ≡ None → ⊥
    within x is true counts e = none_or_some (Some x) e
    within x is false counts e = past x is counts

    by : (o : Option ℕ) → with_byte s c ≡ o → option_map Some (if_count o) ≡ None → ⊥
    by None is e = gone s c v more (is_good s good) (ap (λ (o : Option ℕ). option_map Some o) is) small eq
    by (Some x) is e = within x is (is_count x) refl e

follows : Follows 10 whole_number further_count IsCount decimal Counts shown
unfolding shown
follows = record {
  gives = gives_;
  given = given_;
  goes = goes_on;
  gone = stops;
  ahead = ahead_;
  apart = λ v front more fits e. let most : v ≤ 100 = fits.1 in let digit = among v (omega arith) front 10 more e in omega (arith, digit.0);
}
  where
    gives_ : (s : Option ℕ) (v : ℕ) → Counts s → s ≡ Some v → IsCount v × (decimal v ≡ shown s)
    gives_ None v good e = absurd (some_or_none v e)
    gives_ (Some w) v good e = let same = some_is w v e in (subst IsCount same good, ap decimal (sym same))

    given_ : (s : Option ℕ) (v : ℕ) → Counts s → IsCount v → decimal v ≡ shown s → s ≡ Some v
    given_ None v good fits e = let most : v ≤ 100 = fits.1 in let long = decimal_nonempty v (omega arith) in absurd (omega (arith, ap length e))
    given_ (Some w) v good fits e =
        let most : v ≤ 100 = fits.1 in
        let most_w : w ≤ 100 = good.1 in
        ap (λ (x : ℕ). Some x) (sym (decimal_injective v w (omega arith) (omega arith) e))

    ahead_ : (s : Option ℕ) → Counts s → (v : ℕ) × (more : List ℕ) × IsCount v × (decimal v ≡ shown s ++ more)
    ahead_ None good = (1, decimal 1, (omega arith, omega arith), refl)
    ahead_ (Some v) good = (v, [], good, sym (append-nil (decimal v)))

pub count_reads : (bytes : List ℕ) → Reads IsCount (λ n. counted n ∷ []) bytes (count_at bytes)
unfolding count_at shown
count_reads bytes = scan_reads Count 10 whole_number further_count IsCount decimal Counts shown follows None tt refl bytes
