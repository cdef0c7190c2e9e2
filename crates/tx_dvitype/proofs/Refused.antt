-- A refusal depends on the bytes up to the one that is refused.
use Rattle.std.proofs.Common.{◌≡◌, ℕ, zero, suc, ◌+◌, ◌<◌, ◌≤◌, Bool, true, false, cond, List, [], ◌∷◌, length, take, get_or, drop, Option, Some, None, Result, Ok, Err, ap, ◌∙◌, arith}
use Rattle.tx_dvitype.specs.declared.reader.ReadPage.{ReadPage}
use Rattle.tx_dvitype.specs.declared.reader.Reader.{Reader}
use Rattle.tx_dvitype.specs.Files.{Broken, taken, is_done, stopped, going_on, rest_read, at_start, dvi_file}

abbrev pub Read : Type 0
Read = Result (List ReadPage) Broken

abbrev pub place_or : ℕ → Read → ℕ
place_or place (Ok pages) = place
place_or place (Err broken) = broken.place

-- nothing is refused before the byte that comes next
later : (place : ℕ) (r : Reader) (bytes : List ℕ) (broken : Broken) → rest_read place r bytes ≡ Err broken → place ≤ broken.place
later place r [] broken e = by (is_done r) e
  where
    by : (b : Bool) → cond {A = Read} b (Ok r.pages) (Err (stopped place r)) ≡ Err broken → place ≤ broken.place
    by true f = let same : place ≡ broken.place = ap (place_or place) f in omega (arith, same)
    by false f = let same : place ≡ broken.place = ap (place_or place) f in omega (arith, same)
later place r (byte ∷ bytes) broken e = by (λ next f. later (place + 1) next bytes broken f) (taken place r byte) e
  where
    by : ((next : Reader) → rest_read (place + 1) next bytes ≡ Err broken → place + 1 ≤ broken.place)
        → (o : Option Reader) → going_on place r o (λ next. rest_read (place + 1) next bytes) ≡ Err broken → place ≤ broken.place
    by others None f = let same : place ≡ broken.place = ap (place_or place) f in omega (arith, same)
    by others (Some next) f = let more = others next f in omega (arith, more)

refused-on : (place : ℕ) (r : Reader) (bytes others : List ℕ) (broken : Broken) (left : ℕ) → rest_read place r bytes ≡ Err broken → broken.place ≡ place + left → left < length bytes → take (suc left) others ≡ take (suc left) bytes
    → rest_read place r others ≡ Err broken
refused-on place r [] others broken left e at less same = absurd (omega (arith, less))
refused-on place r (byte ∷ bytes) [] broken left e at less same = absurd (let none : 0 ≡ suc (length (take left bytes)) = ap length same in omega (arith, none))
refused-on place r (byte ∷ bytes) (other ∷ others) broken left e at less same =
    let first : other ≡ byte = ap (λ (xs : List ℕ). get_or xs 0 0) same in
    let behind : take left others ≡ take left bytes = ap (λ (xs : List ℕ). drop 1 xs) same in
    ap (λ b. rest_read place r (b ∷ others)) first
    ∙ by left at less behind (λ more next f there fits alike. refused-on (place + 1) next bytes others broken more f there fits alike) (taken place r byte) e
  where
    by : (n : ℕ) → broken.place ≡ place + n → n < suc (length bytes) → take n others ≡ take n bytes
        → ((more : ℕ) (next : Reader) → rest_read (place + 1) next bytes ≡ Err broken → broken.place ≡ (place + 1) + more → more < length bytes → take (suc more) others ≡ take (suc more) bytes → rest_read (place + 1) next others ≡ Err broken)
        → (o : Option Reader) → going_on place r o (λ next. rest_read (place + 1) next bytes) ≡ Err broken → going_on place r o (λ next. rest_read (place + 1) next others) ≡ Err broken
    by zero there fits alike go None f = f
    by (suc n) there fits alike go None f = f
    by zero there fits alike go (Some next) f = let past = later (place + 1) next bytes broken f in absurd (omega (arith, there, past))
    by (suc n) there fits alike go (Some next) f = go n next f (omega (arith, there)) (omega (arith, fits)) alike

pub refused-so : (bytes others : List ℕ) (broken : Broken) → dvi_file bytes ≡ Err broken → broken.place < length bytes → take (suc broken.place) others ≡ take (suc broken.place) bytes → dvi_file others ≡ Err broken
refused-so bytes others broken e less same = refused-on 0 at_start bytes others broken broken.place e (omega arith) less same
