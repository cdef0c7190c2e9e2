-- Tokens are the same exactly where they are equal.
use Rattle.std.specs.Prelude.{codes}
use Rattle.std.proofs.Common.{◌≡◌, ℕ, Bool, true, false, ◌&&◌, List, [], ◌∷◌, refl, ap, sym, ◌∙◌, ◌⊎◌, inl, inr, if◌then◌else◌, ◌==◌, IsTrue, length}
use Rattle.std.proofs.lemmas.Bool.Decides.{eqb_tells}
use Rattle.tx_char.specs.declared.category.Cat.{Cat}
use Rattle.tx_char.specs.declared.category.Cat.TheVariants.{Escape, BeginGroup, EndGroup, MathShift, AlignmentTab, EndOfLine, Parameter, Superscript, Subscript, Ignored, Space, Letter, Other, Active, Comment, Invalid}
use Rattle.tx_char.specs.declared.tokens.Token.{Token}
use Rattle.tx_char.specs.declared.tokens.Token.TheVariants.{Character, Name, FrozenRelax, FontIdentifier}
use Rattle.tx_char.specs.Category.{number_of}
use Rattle.tx_macro.specs.Tokens.{is_par, same_bytes, same_token}

-- a test, and what it tells
abbrev pub Tells : Bool → Type 0 → Type 0
Tells test p = ((test ≡ true) × p) ⊎ ((test ≡ false) × (p → ⊥))

-- the category of a number
abbrev numbered : ℕ → Cat
numbered n =
    if n == 0 then Escape else
    if n == 1 then BeginGroup else
    if n == 2 then EndGroup else
    if n == 3 then MathShift else
    if n == 4 then AlignmentTab else
    if n == 5 then EndOfLine else
    if n == 6 then Parameter else
    if n == 7 then Superscript else
    if n == 8 then Subscript else
    if n == 9 then Ignored else
    if n == 10 then Space else
    if n == 11 then Letter else
    if n == 12 then Other else
    if n == 13 then Active else
    if n == 14 then Comment else
    Invalid

numbered-number_of : (kind : Cat) → numbered (number_of kind) ≡ kind
numbered-number_of Escape = refl
numbered-number_of BeginGroup = refl
numbered-number_of EndGroup = refl
numbered-number_of MathShift = refl
numbered-number_of AlignmentTab = refl
numbered-number_of EndOfLine = refl
numbered-number_of Parameter = refl
numbered-number_of Superscript = refl
numbered-number_of Subscript = refl
numbered-number_of Ignored = refl
numbered-number_of Space = refl
numbered-number_of Letter = refl
numbered-number_of Other = refl
numbered-number_of Active = refl
numbered-number_of Comment = refl
numbered-number_of Invalid = refl

both-true : (a b : Bool) → a ≡ true → b ≡ true → (a && b) ≡ true
both-true a b p q = ap (λ t. t && b) p ∙ q

first-false : (a b : Bool) → a ≡ false → (a && b) ≡ false
first-false a b p = ap (λ t. t && b) p

second-false : (a b : Bool) → a ≡ true → b ≡ false → (a && b) ≡ false
second-false a b p q = ap (λ t. t && b) p ∙ q

bytes-tell : (xs ys : List ℕ) → Tells (same_bytes xs ys) (xs ≡ ys)
bytes-tell [] [] = inl (refl, refl)
bytes-tell [] (y ∷ ys) = inr (refl, (λ h. cc))
bytes-tell (x ∷ xs) [] = inr (refl, (λ h. cc))
bytes-tell (x ∷ xs) (y ∷ ys) = elim (eqb_tells x y) [
  | inl p ↦ elim (bytes-tell xs ys) [
    | inl q ↦ inl (both-true _ _ p.0 q.0, cc (p.1, q.1))
    | inr q ↦ inr (second-false _ _ p.0 q.0, (λ h. q.1 (cc h)))
  ]
  | inr p ↦ inr (first-false _ _ p.0, (λ h. p.1 (cc h)))
]

-- what the test of two tokens tells
pub token-tells : (a b : Token) → Tells (same_token a b) (a ≡ b)
token-tells (Character x k) (Character y l) = elim (eqb_tells x y) [
  | inl p ↦ elim (eqb_tells (number_of k) (number_of l)) [
    | inl q ↦
        let e : k ≡ l = sym (numbered-number_of k) ∙ ap numbered q.1 ∙ numbered-number_of l in
        inl (both-true _ _ p.0 q.0, cc (p.1, e))
    | inr q ↦ inr (second-false _ _ p.0 q.0, (λ h. q.1 (let e : k ≡ l = cc h in ap number_of e)))
  ]
  | inr p ↦ inr (first-false _ _ p.0, (λ h. p.1 (cc h)))
]
token-tells (Character x k) (Name n) = inr (refl, (λ h. cc))
token-tells (Name n) (Character x k) = inr (refl, (λ h. cc))
token-tells (Character x k) FrozenRelax = inr (refl, (λ h. cc))
token-tells FrozenRelax (Character x k) = inr (refl, (λ h. cc))
token-tells (Name n) FrozenRelax = inr (refl, (λ h. cc))
token-tells FrozenRelax (Name n) = inr (refl, (λ h. cc))
token-tells FrozenRelax FrozenRelax = inl (refl, refl)
token-tells (Character x k) (FontIdentifier m) = inr (refl, (λ h. cc))
token-tells (FontIdentifier m) (Character x k) = inr (refl, (λ h. cc))
token-tells (Name n) (FontIdentifier m) = inr (refl, (λ h. cc))
token-tells (FontIdentifier m) (Name n) = inr (refl, (λ h. cc))
token-tells FrozenRelax (FontIdentifier m) = inr (refl, (λ h. cc))
token-tells (FontIdentifier m) FrozenRelax = inr (refl, (λ h. cc))
token-tells (FontIdentifier m) (FontIdentifier n) = elim (eqb_tells m n) [
  | inl p ↦ inl (p.0, ap FontIdentifier p.1)
  | inr p ↦ inr (p.0, (λ h. p.1 (cc h)))
]
token-tells (Name n) (Name m) = elim (bytes-tell n m) [
  | inl p ↦ inl (p.0, ap Name p.1)
  | inr p ↦ inr (p.0, (λ h. p.1 (cc h)))
]

-- a token is the same as itself
pub token-same : (a : Token) → same_token a a ≡ true
token-same a = elim (token-tells a a) [ inl p ↦ p.0 | inr p ↦ absurd (p.1 refl) ]

-- what doesn't hold doesn't
pub never : {b : Bool} → b ≡ false → IsTrue b → ⊥
never f t = cc

-- a name of another length isn't \par
pub not-par : (t : Token) (name seen : List ℕ) → t ≡ Name name → seen ≡ name → (length seen ≡ 3 → ⊥) → false ≡ is_par t
not-par t name seen is same other = elim (bytes-tell name (codes "par")) [
  | inl p ↦ absurd (other (ap length (same ∙ p.1)))
  | inr p ↦ sym (ap is_par is ∙ p.0)
]
