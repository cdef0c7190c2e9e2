-- A byte of a page is taken by the reader of a file as by that of a page, and eop ends the page.
use Rattle.std.proofs.Common.{◌≡◌, ℕ, ◌==◌, ◌&&◌, Bool, true, false, cond, List, [], ◌∷◌, ◌++◌, length, get_or, drop, Option, Some, None, refl, sym, ap, ◌∙◌, arith}
use Rattle.std.proofs.lemmas.Bool.{eqb-true}
use Rattle.tx_dvitype.specs.declared.error.DviRule.{DviRule}
use Rattle.tx_dvitype.specs.declared.error.DviRule.TheVariants.{Command}
use Rattle.tx_dvitype.specs.declared.reader.Reader.{Reader}
use Rattle.tx_dvitype.specs.Files.{taken, taken_by, command_taken, with_definition, with_page, behind_eop}
use Rattle.tx_dvi.specs.Meaning.{Reader as PageReader}
use Rattle.tx_dvitype.specs.Partial.{may_begin, wanted, gathered, is_level, read_within}

abbrev some_or : {A : Type 0} → A → Option A → A
some_or d None = d
some_or d (Some x) = x

pub some-of : {A : Type 0} {x y : A} → Some x ≡ Some y → x ≡ y
some-of {x = x} e = ap (some_or x) e

both : (a b : Bool) → (a && b) ≡ true → (a ≡ true) × (b ≡ true)
both true true e = (refl, refl)
both true false e = absurd (let no : false ≡ true = e in cc)
both false b e = absurd (let no : false ≡ true = e in cc)

pub no-bytes : (bytes : List ℕ) → length bytes ≡ 0 → bytes ≡ []
no-bytes [] e = refl
no-bytes (byte ∷ bytes) e = absurd (omega (arith, e))

-- no command begins as eop does
eop-none : (r : PageReader) (byte : ℕ) → (length r.begun == 0 && byte == 140) ≡ true → read_within r byte ≡ None
unfolding read_within may_begin
eop-none r byte is =
    let parts = both (length r.begun == 0) (byte == 140) is in
    let none : r.begun ≡ [] = no-bytes r.begun (eqb-true _ _ parts.0) in
    let same : byte ≡ 140 = eqb-true _ _ parts.1 in
    λ i. cond {A = Option PageReader} (may_begin (get_or (none i ++ same i ∷ []) 0 0) (drop 1 (none i ++ same i ∷ [])) (record r { begun = none i ++ same i ∷ [] }))
    (gathered (wanted (r.begun ++ byte ∷ [])) (r.begun ++ byte ∷ []) r) None

-- a byte of a command, by the reader of the file
abbrev pub next-reader : Reader → ℕ → PageReader → Reader
next-reader r byte x = record r { page = x; definitions = with_definition (r.page.begun ++ byte ∷ []) r.definitions }

command-goes : (r : Reader) (x : PageReader) (byte : ℕ) → read_within r.page byte ≡ Some x → command_taken r byte ≡ Some (next-reader r byte x)
unfolding command_taken
command-goes r x byte is = by (length r.page.begun == 0 && byte == 140) refl
  where
    by : (b : Bool) → (length r.page.begun == 0 && byte == 140) ≡ b
        → cond {A = Option Reader} b (cond {A = Option Reader} (is_level r.page) (Some (behind_eop r)) None) (with_page (r.page.begun ++ byte ∷ []) r (read_within r.page byte)) ≡ Some (next-reader r byte x)
    by true e = absurd (let no : None ≡ Some x = sym (eop-none r.page byte e) ∙ is in cc)
    by false e = ap (with_page (r.page.begun ++ byte ∷ []) r) is

pub byte-goes : (place : ℕ) (r : Reader) (x : PageReader) (byte : ℕ) → r.element ≡ Command → read_within r.page byte ≡ Some x → taken place r byte ≡ Some (next-reader r byte x)
unfolding taken
byte-goes place r x byte element is = ap (λ (e : DviRule). taken_by e place r byte) element ∙ command-goes r x byte is

-- eop, behind commands that are whole and popped what they pushed
pub eop-goes : (place : ℕ) (r : Reader) → r.element ≡ Command → length r.page.begun ≡ 0 → length r.page.stack ≡ 0 → taken place r 140 ≡ Some (behind_eop r)
unfolding taken command_taken
eop-goes place r element whole level =
    ap (λ (e : DviRule). taken_by e place r 140) element
    ∙ (λ i. cond {A = Option Reader} (whole i == 0 && true) (cond {A = Option Reader} (level i == 0) (Some (behind_eop r)) None) (with_page (r.page.begun ++ 140 ∷ []) r (read_within r.page 140)))
