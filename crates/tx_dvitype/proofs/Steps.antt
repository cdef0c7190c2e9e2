-- Bytes that the reader of a file takes one after the other, each at an element of the rule that stands beside it.
use Rattle.std.proofs.Common.{◌≡◌, ℕ, suc, ◌+◌, ◌<◌, List, [], ◌∷◌, ◌++◌, length, replicate, Some, refl, sym, ap, ◌∙◌, subst, arith, add-zero, append_assoc}
use Rattle.std.specs.List.{slice_get}
use Rattle.std.proofs.lemmas.List.{length_push}
use Rattle.tx_dvitype.specs.declared.error.DviRule.{DviRule}
use Rattle.tx_dvitype.specs.declared.reader.Reader.{Reader}
use Rattle.tx_dvitype.specs.Files.{taken, rest_read}
use Rattle.tx_dvitype.proofs.ReadEnd.{at_byte}
use Rattle.tx_dvitype.proofs.ReadFront.{take-one}
use Rattle.tx_dvitype.proofs.ReadPages.{some-of}

abbrev pub Steps : ℕ → Reader → List ℕ → List DviRule → Reader → Type 0
Steps place r [] rules end = (rules ≡ []) × (r ≡ end)
Steps place r (byte ∷ bytes) [] end = ⊥
Steps place r (byte ∷ bytes) (rule ∷ rules) end = (next : Reader) × (r.element ≡ rule) × (taken place r byte ≡ Some next) × Steps (place + 1) next bytes rules end

-- of one element
abbrev pub Within : DviRule → ℕ → Reader → List ℕ → Reader → Type 0
Within rule place r bytes end = Steps place r bytes (replicate (length bytes) rule) end

-- one behind the other
pub steps-append : (place : ℕ) (r middle end : Reader) (xs ys : List ℕ) (rs ss : List DviRule) → Steps place r xs rs middle → Steps (place + length xs) middle ys ss end → Steps place r (xs ++ ys) (rs ++ ss) end
steps-append place r middle end [] ys rs ss first later =
    subst (λ (s : Reader). Steps place s ys (rs ++ ss) end) (sym first.1)
    (subst (λ (t : List DviRule). Steps place middle ys (t ++ ss) end) (sym first.0)
    (subst (λ (n : ℕ). Steps n middle ys ss end) (add-zero place) later))
steps-append place r middle end (x ∷ xs) ys [] ss first later = absurd first
steps-append place r middle end (x ∷ xs) ys (rule ∷ rs) ss first later =
    let count : place + suc (length xs) ≡ (place + 1) + length xs = omega arith in
    (first.0, first.1, first.2, steps-append (place + 1) first.0 middle end xs ys rs ss first.3 (subst (λ (n : ℕ). Steps n middle ys ss end) count later))

pub one-step : (place : ℕ) (r next : Reader) (byte : ℕ) (rule : DviRule) → r.element ≡ rule → taken place r byte ≡ Some next → Within rule place r (byte ∷ []) next
one-step place r next byte rule at is = (next, at, is, (refl, refl))

pub two-steps : (place : ℕ) (r middle end : Reader) (xs ys : List ℕ) (rule : DviRule) → Within rule place r xs middle → Within rule (place + length xs) middle ys end → Within rule place r (xs ++ ys) end
two-steps place r middle end xs ys rule first later =
    subst (λ (t : List DviRule). Steps place r (xs ++ ys) t end) (same xs) (steps-append place r middle end xs ys (replicate (length xs) rule) (replicate (length ys) rule) first later)
  where
    same : (zs : List ℕ) → replicate (length zs) rule ++ replicate (length ys) rule ≡ replicate (length (zs ++ ys)) rule
    same [] = refl
    same (z ∷ zs) = ap (λ (t : List DviRule). rule ∷ t) (same zs)

-- what is read of them
pub steps-read : (place : ℕ) (r end : Reader) (bytes rest : List ℕ) (rules : List DviRule) → Steps place r bytes rules end → rest_read place r (bytes ++ rest) ≡ rest_read (place + length bytes) end rest
steps-read place r end [] rest rules steps = λ i. rest_read (sym (add-zero place) i) (steps.1 i) rest
steps-read place r end (byte ∷ bytes) rest [] steps = absurd steps
steps-read place r end (byte ∷ bytes) rest (rule ∷ rules) steps =
    let count : (place + 1) + length bytes ≡ place + suc (length bytes) = omega arith in
    take-one place r steps.0 byte (bytes ++ rest) steps.2 ∙ steps-read (place + 1) steps.0 end bytes rest rules steps.3 ∙ ap (λ n. rest_read n end rest) count

-- where the reader is behind bytes, all of which it takes
abbrev pub Reaches : ℕ → Reader → List ℕ → Reader → Type 0
Reaches place r [] end = r ≡ end
Reaches place r (byte ∷ bytes) end = (next : Reader) × (taken place r byte ≡ Some next) × Reaches (place + 1) next bytes end

-- it is in one place
pub same-end : (place : ℕ) (r end there : Reader) (bytes : List ℕ) (rules : List DviRule) → Steps place r bytes rules end → Reaches place r bytes there → end ≡ there
same-end place r end there [] rules steps reached = sym steps.1 ∙ reached
same-end place r end there (byte ∷ bytes) [] steps reached = absurd steps
same-end place r end there (byte ∷ bytes) (rule ∷ rules) steps reached =
    let same : steps.0 ≡ reached.0 = some-of (sym steps.2 ∙ reached.1) in
    same-end (place + 1) steps.0 end there bytes rules steps.3 (subst (λ (s : Reader). Reaches (place + 1) s bytes there) (sym same) reached.2)

-- the rule of the byte that comes next there
pub rule-there : (place : ℕ) (r end there : Reader) (front more : List ℕ) (next : ℕ) (bytes : List ℕ) (rules : List DviRule) → Steps place r bytes rules end → bytes ≡ front ++ next ∷ more → Reaches place r front there
    → slice_get rules (length front) ≡ Some there.element
rule-there place r end there [] more next [] rules steps is same = absurd (let no : 0 ≡ suc (length more) = ap length is in omega (arith, no))
rule-there place r end there [] more next (byte ∷ bytes) [] steps is same = absurd steps
rule-there place r end there [] more next (byte ∷ bytes) (rule ∷ rules) steps is same = λ i. Some ((sym steps.1 ∙ ap (λ (s : Reader). s.element) same) i)
rule-there place r end there (b ∷ front) more next [] rules steps is reached = absurd (let no : 0 ≡ suc (length (front ++ next ∷ more)) = ap length is in omega (arith, no))
rule-there place r end there (b ∷ front) more next (byte ∷ bytes) [] steps is reached = absurd steps
rule-there place r end there (b ∷ front) more next (byte ∷ bytes) (rule ∷ rules) steps is reached =
    let first : byte ≡ b = ap (λ (xs : List ℕ). head_of xs) is in
    let others : bytes ≡ front ++ next ∷ more = ap (λ (xs : List ℕ). tail_of xs) is in
    let same : steps.0 ≡ reached.0 = some-of (sym steps.2 ∙ ap (λ (n : ℕ). taken place r n) first ∙ reached.1) in
    rule-there (place + 1) steps.0 end there front more next bytes rules steps.3 others (subst (λ (s : Reader). Reaches (place + 1) s front there) (sym same) reached.2)
  where
    head_of : List ℕ → ℕ
    head_of [] = 0
    head_of (x ∷ xs) = x

    tail_of : List ℕ → List ℕ
    tail_of [] = []
    tail_of (x ∷ xs) = xs

-- An element whose bytes are gathered until all are there.
module _ (rule : DviRule) (r end : Reader) (all : List ℕ) (start : ℕ) where
  abbrev pub gathered_to : List ℕ → List ℕ → Reader
  gathered_to [] done = end
  gathered_to (byte ∷ text) done = at_byte r done

  pub gathers : r.element ≡ rule → ((done text : List ℕ) (byte : ℕ) → done ++ byte ∷ text ≡ all → taken (start + length done) (at_byte r done) byte ≡ Some (gathered_to text (done ++ byte ∷ [])))
      → (done text : List ℕ) → done ++ text ≡ all → 0 < length text → Within rule (start + length done) (at_byte r done) text end
  gathers at goes done [] is some = absurd (omega (arith, some))
  gathers at goes done (byte ∷ []) is some = one-step (start + length done) (at_byte r done) end byte rule at (goes done [] byte is)
  gathers at goes done (byte ∷ second ∷ text) is some =
      let long : length (done ++ byte ∷ []) ≡ length done + 1 = length_push done byte in
      let count : start + length (done ++ byte ∷ []) ≡ (start + length done) + 1 = omega (arith, long) in (
        at_byte r (done ++ byte ∷ []),
        at,
        goes done (second ∷ text) byte is,
        subst (λ (n : ℕ). Within rule n (at_byte r (done ++ byte ∷ [])) (second ∷ text) end) count
            (gathers at goes (done ++ byte ∷ []) (second ∷ text) (append_assoc done (byte ∷ []) (second ∷ text) ∙ is) (omega arith)),
      )
