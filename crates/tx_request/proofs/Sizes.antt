-- Reading how many bytes are put in, and the number of a page.
use Rattle.std.proofs.Common.{◌≡◌, ℕ, ◌≤◌, Bool, true, false, cond, List, [], ◌∷◌, ◌++◌, length, refl, sym, ap, subst, ◌∙◌, append_assoc, arith, true≢false}
use Rattle.std.specs.Prelude.{Option, Some, None, nat_le, option_map}
use Rattle.std.specs.Fmt.{decimal}
use Rattle.std.proofs.lemmas.Bool.{leb-true, le-leb}
use Rattle.std.proofs.lemmas.Fmt.{decimal_nonempty, decimal_injective}
use Rattle.std.proofs.lemmas.List.{append-nil}
use Rattle.tx_script.specs.declared.error.Rule.TheVariants.{Number, Page}
use Rattle.tx_script.specs.Text.{greatest, number}
use Rattle.tx_script.specs.Reading.{further_number, whole_number, with_byte}
use Rattle.tx_script.proofs.Counts.{front_least}
use Rattle.tx_script.proofs.Digits.{none_or_some, among, follows, Good, shown, goes, gone}
use Rattle.tx_script.proofs.Forms.{Reads}
use Rattle.tx_script.proofs.Scans.{Follows, scan_reads, some_is, some_or_none}
use Rattle.tx_request.specs.Reading.{further_size, if_fitting, page_at, size_at}
use Rattle.tx_request.specs.Requests.{most_bytes, paged}

-- what is known of the number so far
Sizes : Option ℕ → Type 0
Sizes None = Unit {0}
Sizes (Some v) = v ≤ most_bytes

is_good : (s : Option ℕ) → Sizes s → Good s
unfolding Good Sizes
is_good None fits = tt
is_good (Some v) fits = omega arith

goes_on : (s : Option ℕ) (c : ℕ) (s' : Option ℕ) → Sizes s → further_size s c ≡ Some s' → Sizes s' × (shown s' ≡ shown s ++ c ∷ [])
unfolding Sizes
goes_on s c s' good e = by (with_byte s c) refl e
  where
    within : (x : ℕ) → with_byte s c ≡ Some x → (b : Bool) → nat_le x most_bytes ≡ b → option_map Some (cond b (Some x) None) ≡ Some s' → Sizes s' × (shown s' ≡ shown s ++ c ∷ [])
    within x is true fits e =
        let k = goes s c (Some x) (is_good s good) (ap (λ (o : Option ℕ). option_map Some o) is) in
        subst (λ (z : Option ℕ). Sizes z × (shown z ≡ shown s ++ c ∷ [])) (some_is (Some x) s' e) (leb-true x most_bytes fits, k.1)
    within x is false fits e = absurd (some_or_none s' e)

    by : (o : Option ℕ) → with_byte s c ≡ o → option_map Some (if_fitting o) ≡ Some s' → Sizes s' × (shown s' ≡ shown s ++ c ∷ [])
    by None is e = absurd (some_or_none s' e)
    by (Some x) is e = within x is (nat_le x most_bytes) refl e

stops : (s : Option ℕ) (c v : ℕ) (more : List ℕ) → Sizes s → further_size s c ≡ None → v ≤ most_bytes → decimal v ≡ shown s ++ c ∷ more → ⊥
unfolding Good shown
stops s c v more good e fits eq = by (with_byte s c) refl e
  where
    small : v ≤ greatest
    small = omega arith

    -- a number that is too great begins no smaller one
    past : (x : ℕ) → with_byte s c ≡ Some x → nat_le x most_bytes ≡ false → ⊥
    past x is great =
        let k = goes s c (Some x) (is_good s good) (ap (λ (o : Option ℕ). option_map Some o) is) in
        let front : decimal v ≡ decimal x ++ more = eq ∙ sym (append_assoc (shown s) (c ∷ []) more) ∙ ap (λ (y : List ℕ). y ++ more) (sym k.1) in
        let fewer : x ≤ v = front_least v x more small k.0 front in
        true≢false (sym (le-leb x most_bytes (omega arith)) ∙ great)

    within : (x : ℕ) → with_byte s c ≡ Some x → (b : Bool) → nat_le x most_bytes ≡ b → option_map Some (cond b (Some x) None) ≡ None → ⊥
    within x is true great e = none_or_some (Some x) e
    within x is false great e = past x is great

    by : (o : Option ℕ) → with_byte s c ≡ o → option_map Some (if_fitting o) ≡ None → ⊥
    by None is e = gone s c v more (is_good s good) (ap (λ (o : Option ℕ). option_map Some o) is) small eq
    by (Some x) is e = within x is (nat_le x most_bytes) refl e

size_follows : Follows 32 whole_number further_size (λ n. n ≤ most_bytes) decimal Sizes shown
unfolding shown Sizes
size_follows = record {
  gives = gives_;
  given = given_;
  goes = goes_on;
  gone = stops;
  ahead = ahead_;
  apart = λ v front more fits e. let digit = among v (omega arith) front 32 more e in omega (arith, digit.0);
}
  where
    gives_ : (s : Option ℕ) (v : ℕ) → Sizes s → s ≡ Some v → (v ≤ most_bytes) × (decimal v ≡ shown s)
    gives_ None v good e = absurd (some_or_none v e)
    gives_ (Some w) v good e = let same = some_is w v e in (omega (arith, same), ap decimal (sym same))

    given_ : (s : Option ℕ) (v : ℕ) → Sizes s → v ≤ most_bytes → decimal v ≡ shown s → s ≡ Some v
    given_ None v good fits e = let long = decimal_nonempty v (omega arith) in absurd (omega (arith, ap length e))
    given_ (Some w) v good fits e = ap (λ (x : ℕ). Some x) (sym (decimal_injective v w (omega arith) (omega arith) e))

    ahead_ : (s : Option ℕ) → Sizes s → (v : ℕ) × (more : List ℕ) × (v ≤ most_bytes) × (decimal v ≡ shown s ++ more)
    ahead_ None good = (0, decimal 0, omega arith, refl)
    ahead_ (Some v) good = (v, [], good, sym (append-nil (decimal v)))

pub size_reads : (bytes : List ℕ) → Reads (λ n. n ≤ most_bytes) (λ n. number n ∷ []) bytes (size_at bytes)
unfolding size_at shown Sizes
size_reads bytes = scan_reads Number 32 whole_number further_size (λ n. n ≤ most_bytes) decimal Sizes shown size_follows None tt refl bytes

pub page_reads : (bytes : List ℕ) → Reads (λ n. n ≤ greatest) (λ n. paged n ∷ []) bytes (page_at bytes)
unfolding page_at shown Good
page_reads bytes = scan_reads Page 10 whole_number further_number (λ n. n ≤ greatest) decimal Good shown (follows 10 (omega arith)) None tt refl bytes
