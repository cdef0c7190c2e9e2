-- The laws of `characters`: its steps are never too few, so the first character decides the rest.
use Rattle.std.proofs.Common.{◌≡◌, ℕ, zero, suc, ◌+◌, ◌≤◌, Bool, true, false, cond, ◌&&◌, Option, Some, None, List, [], ◌∷◌, length, refl, ap, sym, ◌∙◌, arith}
use Rattle.tx_char.specs.declared.category.Cat.{Cat}
use Rattle.tx_lex.specs.Notation.{Seen, denoted, reduction, is_hex_digit}
use Rattle.tx_lex.specs.Characters.{characters, characters_by, characters_from}

shorter-of : (t : Bool) (x y : Seen) (n : ℕ) → length x.rest ≤ n → length y.rest ≤ n → length (cond t x y).rest ≤ n
shorter-of true x y n p q = p
shorter-of false x y n p q = q

-- what `^^` stands for leaves no more than what follows it
length-denoted : (c : ℕ) (rest : List ℕ) → length (denoted c rest).rest ≤ length rest
length-denoted c [] = omega arith
length-denoted c (d ∷ rest) = shorter-of (is_hex_digit c && is_hex_digit d) _ _ _ (omega arith) (omega arith)

taken : (t : Bool) (x y : Seen) → cond t (Some x) None ≡ Some y → x ≡ y
taken true x y h = cc
taken false x y h = cc

-- a notation takes two characters at least besides its first
pub length-reduction : (codes : List Cat) (c : ℕ) (rest : List ℕ) (seen : Seen) → reduction codes c rest ≡ Some seen → length seen.rest + 2 ≤ length rest
length-reduction codes c [] seen h = cc
length-reduction codes c (b ∷ []) seen h = cc
length-reduction codes c (b ∷ d ∷ rest) seen h =
    let e : denoted d rest ≡ seen = taken _ _ _ h in
    let l : length (denoted d rest).rest ≤ length rest = length-denoted d rest in
    let l' : length seen.rest ≤ length rest = rw (sym e) l in
    omega arith

characters_by-nil : (n : ℕ) (codes : List Cat) → characters_by n codes [] ≡ []
characters_by-nil zero codes = refl
characters_by-nil (suc n) codes = refl

-- two ways of reading others that agree where they are asked
characters_from-same : (f g : List ℕ → List Seen) (c : ℕ) (rest : List ℕ) (r : Option Seen) → f rest ≡ g rest → ((seen : Seen) → r ≡ Some seen → f (seen.code ∷ seen.rest) ≡ g (seen.code ∷ seen.rest)) → characters_from f c rest r ≡ characters_from g c rest r
characters_from-same f g c rest None plain notation = ap (λ xs. record { code = c; rest = rest } ∷ xs) plain
characters_from-same f g c rest (Some seen) plain notation = notation seen refl

-- any number of steps is enough that is not below the line's length
characters_by-enough : (m n : ℕ) (codes : List Cat) (line : List ℕ) → length line ≤ m → length line ≤ n → characters_by m codes line ≡ characters_by n codes line
characters_by-enough zero n codes [] p q = sym (characters_by-nil n codes)
characters_by-enough zero n codes (c ∷ rest) p q = absurd (omega arith)
characters_by-enough (suc m) n codes [] p q = sym (characters_by-nil n codes)
characters_by-enough (suc m) zero codes (c ∷ rest) p q = absurd (omega arith)
characters_by-enough (suc m) (suc n) codes (c ∷ rest) p q =
    characters_from-same (characters_by m codes) (characters_by n codes) c rest (reduction codes c rest)
    (characters_by-enough m n codes rest (omega arith) (omega arith))
    (λ seen h. let l : length seen.rest + 2 ≤ length rest = length-reduction codes c rest seen h in
    characters_by-enough m n codes (seen.code ∷ seen.rest) (omega arith) (omega arith))

pub characters-nil : (codes : List Cat) → characters codes [] ≡ []
unfolding characters
characters-nil codes = refl

-- a character that begins no notation is the first one
pub characters-plain : (codes : List Cat) (c : ℕ) (rest : List ℕ) → reduction codes c rest ≡ None → characters codes (c ∷ rest) ≡ record { code = c; rest = rest } ∷ characters codes rest
unfolding characters
characters-plain codes c rest h = ap (characters_from (characters_by (length rest) codes) c rest) h

-- a notation is read as the character for which it stands
pub characters-reduced : (codes : List Cat) (c : ℕ) (rest : List ℕ) (seen : Seen) → reduction codes c rest ≡ Some seen → characters codes (c ∷ rest) ≡ characters codes (seen.code ∷ seen.rest)
unfolding characters
characters-reduced codes c rest seen h =
    let l : length seen.rest + 2 ≤ length rest = length-reduction codes c rest seen h in
    ap (characters_from (characters_by (length rest) codes) c rest) h
    ∙ characters_by-enough (length rest) (length (seen.code ∷ seen.rest)) codes (seen.code ∷ seen.rest) (omega arith) (omega arith)
