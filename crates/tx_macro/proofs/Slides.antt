-- Why a token that doesn't agree lets as many tokens go as the table says (Knuth, Morris and Pratt).
use Rattle.std.proofs.Common.{◌≡◌, ℕ, zero, suc, ◌+◌, ◌-◌, ◌≤◌, ◌<◌, max, Bool, true, false, cond, ◌&&◌, List, [], ◌∷◌, ◌++◌, length, take, drop, refl, ap, sym, subst, ◌∙◌, arith, ◌==◌, ◌⊎◌, inl, inr}
use Rattle.std.proofs.lemmas.List.{append_assoc, append-nil, length-append}
use Rattle.std.proofs.lemmas.Bool.Decides.{eqb_tells}
use Rattle.tx_toklist.specs.Macros.{is_begin, is_end}
use Rattle.tx_char.specs.declared.tokens.Token.{Token}
use Rattle.tx_seen.specs.declared.error.TexError.TheVariants.{ParagraphInArgument, GroupEndInArgument}
use Rattle.tx_macro.specs.Arguments.{Unfinished, Argument, Broken, common, delimited, is_refused, level, without_braces}
use Rattle.tx_macro.specs.Agreement.{is_beginning, agreement}
use Rattle.tx_macro.proofs.Same.{token-tells, token-same}

-- a beginning of a delimiter is its first tokens
pub beginning-take : (w d : List Token) → is_beginning w d ≡ true → w ≡ take (length w) d
beginning-take [] d h = refl
beginning-take (x ∷ w) [] h = cc
beginning-take (x ∷ w) (y ∷ d) h = elim (token-tells y x) [
  | inl p ↦
      let r : is_beginning w d ≡ true = sym (ap (λ b. cond b (is_beginning w d) false) p.0) ∙ h in
      let e : w ≡ take (length w) d = beginning-take w d r in
      cc (p.1, e)
  | inr p ↦ absurd (let r : false ≡ true = sym (ap (λ b. cond b (is_beginning w d) false) p.0) ∙ h in cc)
]

pub beginning-length : (w d : List Token) → is_beginning w d ≡ true → length w ≤ length d
beginning-length [] d h = omega arith
beginning-length (x ∷ w) [] h = cc
beginning-length (x ∷ w) (y ∷ d) h = elim (token-tells y x) [
  | inl p ↦
      let r : is_beginning w d ≡ true = sym (ap (λ b. cond b (is_beginning w d) false) p.0) ∙ h in
      let e : length w ≤ length d = beginning-length w d r in
      omega arith
  | inr p ↦ absurd (let r : false ≡ true = sym (ap (λ b. cond b (is_beginning w d) false) p.0) ∙ h in cc)
]

-- a list that is no beginning of a delimiter agrees with it in fewer tokens
pub common-short : (w d ys : List Token) → is_beginning w d ≡ false → common d (w ++ ys) < length w
common-short [] d ys h = cc
common-short (x ∷ w) [] ys h = omega arith
common-short (x ∷ w) (y ∷ d) ys h = elim (token-tells y x) [
  | inl p ↦
      let r : is_beginning w d ≡ false = sym (ap (λ b. cond b (is_beginning w d) false) p.0) ∙ h in
      let e : common d (w ++ ys) < length w = common-short w d ys r in
      let f : common (y ∷ d) ((x ∷ w) ++ ys) ≡ suc (common d (w ++ ys)) = ap (λ b. cond b (suc (common d (w ++ ys))) 0) p.0 in
      omega arith
  | inr p ↦
      let f : common (y ∷ d) ((x ∷ w) ++ ys) ≡ 0 = ap (λ b. cond b (suc (common d (w ++ ys))) 0) p.0 in
      omega arith
]

-- the first tokens of a delimiter agree with it, and what stands behind them is compared with what is left of it
pub common-take : (k : ℕ) (d ys : List Token) → k ≤ length d → common d (take k d ++ ys) ≡ k + common (drop k d) ys
common-take zero d ys h = omega arith
common-take (suc k) [] ys h = absurd (omega arith)
common-take (suc k) (y ∷ d) ys h =
    let e : common d (take k d ++ ys) ≡ k + common (drop k d) ys = common-take k d ys (omega arith) in
    let f : common (y ∷ d) (take (suc k) (y ∷ d) ++ ys) ≡ suc (common d (take k d ++ ys)) = ap (λ b. cond b (suc (common d (take k d ++ ys))) 0) (token-same y) in
    omega arith

-- the first tokens are a beginning
pub take-beginning : (k : ℕ) (d : List Token) → k ≤ length d → is_beginning (take k d) d ≡ true
take-beginning zero d h = refl
take-beginning (suc k) [] h = absurd (omega arith)
take-beginning (suc k) (y ∷ d) h = ap (λ b. cond b (is_beginning (take k d) d) false) (token-same y) ∙ take-beginning k d (omega arith)

-- a beginning agrees as a whole
pub agreement-beginning : (d w : List Token) → is_beginning w d ≡ true → agreement d w ≡ length w
agreement-beginning d [] h = refl
agreement-beginning d (x ∷ w) h = ap (λ b. cond b (length (x ∷ w)) (agreement d w)) h

-- else its first token is let go
pub agreement-other : (d w : List Token) (x : Token) → is_beginning (x ∷ w) d ≡ false → agreement d (x ∷ w) ≡ agreement d w
agreement-other d w x h = ap (λ b. cond b (length (x ∷ w)) (agreement d w)) h

-- a list that is longer than a beginning is none if that isn't
pub longer-no-beginning : (w ys d : List Token) → is_beginning w d ≡ false → is_beginning (w ++ ys) d ≡ false
longer-no-beginning [] ys d h = cc
longer-no-beginning (x ∷ w) ys [] h = refl
longer-no-beginning (x ∷ w) ys (y ∷ d) h = elim (token-tells y x) [
  | inl p ↦
      let r : is_beginning w d ≡ false = sym (ap (λ b. cond b (is_beginning w d) false) p.0) ∙ h in
      ap (λ b. cond b (is_beginning (w ++ ys) d) false) p.0 ∙ longer-no-beginning w ys d r
  | inr p ↦ ap (λ b. cond b (is_beginning (w ++ ys) d) false) p.0
]

pub bool-cases : (b : Bool) → (b ≡ true) ⊎ (b ≡ false)
bool-cases true = inl refl
bool-cases false = inr refl

-- what agrees once a token is met depends only on what agreed before it
pub agreement-push : (d w : List Token) (t : Token) → agreement d (w ++ t ∷ []) ≡ agreement d (take (agreement d w) d ++ t ∷ [])
agreement-push d [] t = refl
agreement-push d (x ∷ w) t = elim (bool-cases (is_beginning (x ∷ w) d)) [
  | inl h ↦
      let e : x ∷ w ≡ take (length (x ∷ w)) d = beginning-take (x ∷ w) d h in
      let a : agreement d (x ∷ w) ≡ length (x ∷ w) = agreement-beginning d (x ∷ w) h in
      ap (λ u. agreement d (u ++ t ∷ [])) (e ∙ ap (λ n. take n d) (sym a))
  | inr h ↦
      agreement-other d (w ++ t ∷ []) x (longer-no-beginning (x ∷ w) (t ∷ []) d h)
      ∙ agreement-push d w t
      ∙ ap (λ n. agreement d (take n d ++ t ∷ [])) (sym (agreement-other d w x h))
]

pub agreement-le : (d w : List Token) → agreement d w ≤ length w
agreement-le d [] = omega arith
agreement-le d (x ∷ w) = elim (bool-cases (is_beginning (x ∷ w) d)) [
  | inl h ↦ let e : agreement d (x ∷ w) ≡ length (x ∷ w) = agreement-beginning d (x ∷ w) h in omega arith
  | inr h ↦ let e : agreement d (x ∷ w) ≡ agreement d w = agreement-other d w x h in let l : agreement d w ≤ length w = agreement-le d w in omega arith
]

-- no token begins or ends a group
abbrev pub AllPlain : List Token → Type 0
AllPlain [] = Unit {0}
AllPlain (x ∷ w) = (is_end x ≡ false) × ((is_begin x ≡ false) × AllPlain w)

-- a token outside of groups, at which no delimiter stands and nothing is refused, belongs to the argument
step-on : (long : Bool) (d front : List Token) (a : ℕ) (x : Token) (rest : List Token) → (common d (x ∷ rest) == length d) ≡ false → (common d (x ∷ rest) == length (x ∷ rest)) ≡ false → (is_refused long x && (max a (common d (x ∷ rest)) == 0)) ≡ false → is_end x ≡ false → is_begin x ≡ false → delimited long d front a 0 (x ∷ rest) ≡ delimited long d (front ++ x ∷ []) (max a (common d (x ∷ rest)) - 1) 0 rest
step-on long d front a x rest h1 h2 h3 h4 h5 =
    ap (λ b. cond b (Argument (without_braces front) (drop (length d) (x ∷ rest))) (cond (common d (x ∷ rest) == length (x ∷ rest)) Unfinished (cond (is_refused long x && (max a (common d (x ∷ rest)) == 0)) (Broken ParagraphInArgument) (cond (is_end x) (Broken GroupEndInArgument) (delimited long d (front ++ x ∷ []) (max a (common d (x ∷ rest)) - 1) (level 0 x) rest))))) h1
    ∙ ap (λ b. cond b Unfinished (cond (is_refused long x && (max a (common d (x ∷ rest)) == 0)) (Broken ParagraphInArgument) (cond (is_end x) (Broken GroupEndInArgument) (delimited long d (front ++ x ∷ []) (max a (common d (x ∷ rest)) - 1) (level 0 x) rest)))) h2
    ∙ ap (λ b. cond b (Broken ParagraphInArgument) (cond (is_end x) (Broken GroupEndInArgument) (delimited long d (front ++ x ∷ []) (max a (common d (x ∷ rest)) - 1) (level 0 x) rest))) h3
    ∙ ap (λ b. cond b (Broken GroupEndInArgument) (delimited long d (front ++ x ∷ []) (max a (common d (x ∷ rest)) - 1) (level 0 x) rest)) h4
    ∙ ap (λ n. delimited long d (front ++ x ∷ []) (max a (common d (x ∷ rest)) - 1) n rest)
    (ap (λ b. cond b 1 (cond (is_end x) (0 - 1) 0)) h5 ∙ ap (λ b. cond b (0 - 1) 0) h4)

pub unlike : (a b : ℕ) → (a ≡ b → ⊥) → (a == b) ≡ false
unlike a b h = elim (eqb_tells a b) [ inl p ↦ absurd (h p.1) | inr p ↦ p.0 ]

and-no : (a b : Bool) → b ≡ false → (a && b) ≡ false
and-no true b h = h
and-no false b h = refl

-- the tokens that agreed, up to the first place from which they agree with the next one as well, belong to the argument
pub slide : (long : Bool) (d front w : List Token) (t : Token) (more : List Token) (c : ℕ) → length w < length d → AllPlain w → c ≡ agreement d (w ++ t ∷ []) - 1 → delimited long d front (length w) 0 (w ++ t ∷ more) ≡ delimited long d (front ++ take (length w - c) w) c 0 (drop (length w - c) w ++ t ∷ more)
slide long d front [] t more c short plain is =
    let l : agreement d (t ∷ []) ≤ 1 = agreement-le d (t ∷ []) in
    let z : c ≡ 0 = omega arith in
    let n : 0 - c ≡ 0 = omega arith in
    ap (λ f. delimited long d f 0 0 (t ∷ more)) (sym (append-nil front))
    ∙ ap (λ m. delimited long d (front ++ take m []) 0 0 (drop m [] ++ t ∷ more)) (sym n)
    ∙ ap (λ m. delimited long d (front ++ take (0 - c) []) m 0 (drop (0 - c) [] ++ t ∷ more)) (sym z)
slide long d front (x ∷ w) t more c short plain is = elim (bool-cases (is_beginning (x ∷ (w ++ t ∷ [])) d)) [
  | inl h ↦
      let e : agreement d (x ∷ (w ++ t ∷ [])) ≡ length (x ∷ (w ++ t ∷ [])) = agreement-beginning d (x ∷ (w ++ t ∷ [])) h in
      let l : length (w ++ t ∷ []) ≡ length w + 1 = length-append w (t ∷ []) in
      let z : c ≡ length (x ∷ w) = omega arith in
      let n : length (x ∷ w) - c ≡ 0 = omega arith in
      ap (λ f. delimited long d f (length (x ∷ w)) 0 ((x ∷ w) ++ t ∷ more)) (sym (append-nil front))
      ∙ ap (λ m. delimited long d (front ++ take m (x ∷ w)) (length (x ∷ w)) 0 (drop m (x ∷ w) ++ t ∷ more)) (sym n)
      ∙ ap (λ m. delimited long d (front ++ take (length (x ∷ w) - c) (x ∷ w)) m 0 (drop (length (x ∷ w) - c) (x ∷ w) ++ t ∷ more)) (sym z)
  | inr h ↦
      let l : length (w ++ t ∷ []) ≡ length w + 1 = length-append w (t ∷ []) in
      let assoc : (w ++ t ∷ []) ++ more ≡ w ++ t ∷ more = append_assoc w (t ∷ []) more in
      let less : common d (x ∷ ((w ++ t ∷ []) ++ more)) < length (x ∷ (w ++ t ∷ [])) = common-short (x ∷ (w ++ t ∷ [])) d more h in
      let less' : common d (x ∷ (w ++ t ∷ more)) < length w + 2 = let P : List Token → Type 0 = λ u. common d (x ∷ u) < length w + 2 in subst P assoc (omega arith) in
      let e : agreement d (x ∷ (w ++ t ∷ [])) ≡ agreement d (w ++ t ∷ []) = agreement-other d (w ++ t ∷ []) x h in
      let le : agreement d (w ++ t ∷ []) ≤ length (w ++ t ∷ []) = agreement-le d (w ++ t ∷ []) in
      let z : c ≡ agreement d (w ++ t ∷ []) - 1 = omega arith in
      let long_rest : length (x ∷ (w ++ t ∷ more)) ≡ length w + length more + 2 = let q : length (w ++ t ∷ more) ≡ length w + length (t ∷ more) = length-append w (t ∷ more) in omega arith in
      let s : max (length (x ∷ w)) (common d (x ∷ (w ++ t ∷ more))) ≡ length w + 1 = omega arith in
      let n : length (x ∷ w) - c ≡ suc (length w - c) = omega arith in
      step-on long d front (length (x ∷ w)) x (w ++ t ∷ more) (unlike (common d (x ∷ (w ++ t ∷ more))) (length d) (λ (q : common d (x ∷ (w ++ t ∷ more)) ≡ length d). omega arith)) (unlike (common d (x ∷ (w ++ t ∷ more))) (length (x ∷ (w ++ t ∷ more))) (λ (q : common d (x ∷ (w ++ t ∷ more)) ≡ length (x ∷ (w ++ t ∷ more))). omega arith)) (and-no (is_refused long x) (max (length (x ∷ w)) (common d (x ∷ (w ++ t ∷ more))) == 0) (unlike (max (length (x ∷ w)) (common d (x ∷ (w ++ t ∷ more)))) 0 (λ (q : max (length (x ∷ w)) (common d (x ∷ (w ++ t ∷ more))) ≡ 0). omega arith))) plain.0 plain.1.0
      ∙ ap (λ m. delimited long d (front ++ x ∷ []) m 0 (w ++ t ∷ more)) (let q : max (length (x ∷ w)) (common d (x ∷ (w ++ t ∷ more))) - 1 ≡ length w = omega arith in q)
      ∙ slide long d (front ++ x ∷ []) w t more c (omega arith) plain.1.1 z
      ∙ ap (λ f. delimited long d f c 0 (drop (length w - c) w ++ t ∷ more)) (append_assoc front (x ∷ []) (take (length w - c) w))
      ∙ ap (λ m. delimited long d (front ++ take m (x ∷ w)) c 0 (drop m (x ∷ w) ++ t ∷ more)) (sym n)
]
