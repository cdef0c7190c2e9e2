-- States of the reader of a file, and what it reads of a number.
use Rattle.std.proofs.Common.{◌≡◌, ℕ, ◌+◌, ◌*◌, ◌^◌, ◌<◌, ◌≤◌, ◌==◌, ◌&&◌, nat_lt, nat_le, Bool, true, false, cond, ℤ, pos, negsuc, List, [], ◌∷◌, ◌++◌, length, get_or, Some, ap, ◌∙◌, arith, w32, FitsSigned, to_z-of_z}
use Rattle.std.proofs.lemmas.Bool.{lt-ltb, le-ltb, eq-eqb, ne_eqb}
use Rattle.std.proofs.lemmas.Int.{ints}
use Rattle.std.specs.Int.{cast_signed, cast_unsigned}
use Rattle.byteorder.specs.Endian.{big_number}
use Rattle.byteorder.specs.Numbers.{big_number-reads_back}
use Rattle.tx_dvitype.specs.declared.error.DviRule.TheVariants as element
use Rattle.tx_dvitype.specs.declared.reader.ReadPage.{ReadPage}
use Rattle.tx_dvitype.specs.declared.reader.Reader.{Reader}
use Rattle.tx_dvi.specs.Dvi.{four_bytes}
use Rattle.tx_dvitype.specs.Files.{stands_at, preamble_start, is_mag, may_begin_preamble, taken, going_on, rest_read, at_start}
use Rattle.tx_dvi.specs.Meaning.{Reader as PageReader, page_start}

-- a byte that is taken
pub take-one : (place : ℕ) (r next : Reader) (byte : ℕ) (rest : List ℕ) → taken place r byte ≡ Some next → rest_read place r (byte ∷ rest) ≡ rest_read (place + 1) next rest
take-one place r next byte rest is = ap (λ o. going_on place r o (λ n. rest_read (place + 1) n rest)) is

abbrev pub corner : PageReader
corner = page_start []

abbrev pub at_pages : ℕ → Reader
at_pages mag = record at_start { element = element.Page; mag = mag }

-- behind \mag a byte may be anything
pub may-anything : (b : List ℕ) (byte : ℕ) → 14 ≤ length b → may_begin_preamble b byte ≡ true
may-anything b byte long =
    let one : nat_lt (length b) 12 ≡ false = le-ltb (length b) 12 (omega (arith, long)) in
    let two : (length b == 12) ≡ false = ne_eqb (length b) 12 (λ e. omega (arith, long, e)) in
    let three : (length b == 13) ≡ false = ne_eqb (length b) 13 (λ e. omega (arith, long, e)) in
    λ i. cond {A = Bool} (one i) (stands_at preamble_start (length b) byte) (cond {A = Bool} (two i) (nat_le byte 128) (cond {A = Bool} (three i) (is_mag (256 * get_or b 12 0 + byte)) true))

-- where a page may begin, and behind the bop of one
abbrev pub at_page : ℕ → List ℕ → List ℤ → PageReader → List (List ℕ) → List ReadPage → List ℕ → Reader
at_page mag pointer counts page definitions pages begun = record {
  element = element.Page;
  mag = mag;
  pointer = pointer;
  counts = counts;
  page = record page { begun = begun };
  definitions = definitions;
  pages = pages;
  expected = [];
}

abbrev pub in_page : ℕ → List ℕ → List ℤ → PageReader → List (List ℕ) → List ReadPage → Reader
in_page mag pointer counts page definitions pages = record {
  element = element.Command;
  mag = mag;
  pointer = pointer;
  counts = counts;
  page = page;
  definitions = definitions;
  pages = pages;
  expected = [];
}

pub stands-there : (xs : List ℕ) (k byte : ℕ) → k < length xs → byte ≡ get_or xs k 0 → stands_at xs k byte ≡ true
stands-there xs k byte less is = λ i. lt-ltb k (length xs) less i && eq-eqb byte (get_or xs k 0) is i

count-bound : (z : ℤ) → FitsSigned w32 z → cast_unsigned w32 z < 256 ^ 4
count-bound (pos n) fits = omega (arith, fits, ints)
count-bound (negsuc n) fits = omega (arith, ints)

pub count-back : (z : ℤ) (rest : List ℕ) → FitsSigned w32 z → cast_signed w32 (big_number 4 (four_bytes z ++ rest)) ≡ z
unfolding four_bytes
count-back z rest fits = ap (cast_signed w32) (big_number-reads_back 4 (cast_unsigned w32 z) rest (count-bound z fits)) ∙ to_z-of_z fits
