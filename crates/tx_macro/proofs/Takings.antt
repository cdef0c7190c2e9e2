-- A token of a delimited argument outside of groups.
use Rattle.std.proofs.Common.{◌≡◌, ◌≢◌, ℕ, zero, suc, ◌+◌, ◌-◌, ◌≤◌, ◌<◌, max, not, Bool, true, false, cond, ◌&&◌, ◌==◌, List, [], ◌∷◌, ◌++◌, length, take, drop, refl, ap, sym, ◌∙◌, arith, inl, inr, IsTrue}
use Rattle.std.proofs.lemmas.List.{append_assoc, length-append, length-take-le, take_all, take-append-drop, drop-append-le, take-append-le}
use Rattle.std.proofs.Math.Seq.{take-append-add, drop-append-add, drop-append_seam}
use Rattle.std.proofs.lemmas.Bool.Decides.{eqb_tells}
use Rattle.tx_char.specs.declared.tokens.Token.{Token}
use Rattle.tx_toklist.specs.Macros.{is_begin, is_end, is_delimiter}
use Rattle.tx_seen.specs.declared.error.TexError.TheVariants.{ParagraphInArgument, GroupEndInArgument}
use Rattle.tx_macro.specs.Arguments.{Unfinished, Argument, Broken, common, delimited, is_refused, level, without_braces}
use Rattle.tx_macro.specs.Agreement.{is_beginning, agreement}
use Rattle.tx_macro.proofs.Same.{token-same}
use Rattle.tx_macro.proofs.Slides.{AllPlain, beginning-length, beginning-take, agreement-beginning, agreement-other, agreement-le, bool-cases, common-short, common-take, slide}

and-parts : (a b : Bool) → (a && b) ≡ true → (a ≡ true) × (b ≡ true)
and-parts true b h = (refl, h)
and-parts false b h = absurd (let r : false ≡ true = h in cc)

not-true : (a : Bool) → not a ≡ true → a ≡ false
not-true true h = absurd (let r : false ≡ true = h in cc)
not-true false h = refl

-- of a delimiter only the last token may begin a group, and none ends one
pub plain-take : (k : ℕ) (d : List Token) → k < length d → IsTrue (is_delimiter d) → AllPlain (take k d)
plain-take zero d h is = record {}
plain-take (suc k) [] h is = absurd (omega arith)
plain-take (suc k) (t ∷ []) h is = absurd (omega arith)
plain-take (suc k) (t ∷ u ∷ d) h is =
    let p : (not (is_end t) ≡ true) × ((not (is_begin t) && is_delimiter (u ∷ d)) ≡ true) = and-parts (not (is_end t)) (not (is_begin t) && is_delimiter (u ∷ d)) is in
    let q : (not (is_begin t) ≡ true) × (is_delimiter (u ∷ d) ≡ true) = and-parts (not (is_begin t)) (is_delimiter (u ∷ d)) p.1 in
    (not-true (is_end t) p.0, (not-true (is_begin t) q.0, plain-take k (u ∷ d) (omega arith) q.1))

-- a delimiter agrees with itself as a whole
pub common-whole : (d more : List Token) → common d (d ++ more) ≡ length d
common-whole [] more = refl
common-whole (y ∷ d) more = ap (λ b. cond b (suc (common d (d ++ more))) 0) (token-same y) ∙ ap suc (common-whole d more)

pub eqb-same : (a b : ℕ) → a ≡ b → (a == b) ≡ true
eqb-same a b h = elim (eqb_tells a b) [ inl p ↦ p.0 | inr p ↦ absurd (p.1 h) ]

-- what agrees as a whole is a beginning
whole-beginning : (d w : List Token) → agreement d w ≡ length w → is_beginning w d ≡ true
whole-beginning d [] h = refl
whole-beginning d (x ∷ w) h = elim (bool-cases (is_beginning (x ∷ w) d)) [
  | inl p ↦ p
  | inr p ↦
      let e : agreement d (x ∷ w) ≡ agreement d w = agreement-other d w x p in
      let l : agreement d w ≤ length w = agreement-le d w in
      absurd (omega arith)
]

pub agreement-within : (d w : List Token) → agreement d w ≤ length d
agreement-within d [] = omega arith
agreement-within d (x ∷ w) = elim (bool-cases (is_beginning (x ∷ w) d)) [
  | inl p ↦
      let e : agreement d (x ∷ w) ≡ length (x ∷ w) = agreement-beginning d (x ∷ w) p in
      let l : length (x ∷ w) ≤ length d = beginning-length (x ∷ w) d p in
      omega arith
  | inr p ↦
      let e : agreement d (x ∷ w) ≡ agreement d w = agreement-other d w x p in
      let l : agreement d w ≤ length d = agreement-within d w in
      omega arith
]

-- the last tokens of a list agree no further than the list does
agreement-last : (d w u : List Token) → agreement d u ≤ agreement d (w ++ u)
agreement-last d [] u = omega arith
agreement-last d (x ∷ w) u = elim (bool-cases (is_beginning (x ∷ (w ++ u)) d)) [
  | inl p ↦
      let e : agreement d (x ∷ (w ++ u)) ≡ length (x ∷ (w ++ u)) = agreement-beginning d (x ∷ (w ++ u)) p in
      let l : agreement d u ≤ length u = agreement-le d u in
      omega (arith, length-append w u)
  | inr p ↦
      let e : agreement d (x ∷ (w ++ u)) ≡ agreement d (w ++ u) = agreement-other d (w ++ u) x p in
      let l : agreement d u ≤ agreement d (w ++ u) = agreement-last d w u in
      omega arith
]

-- the tokens that agree are the first ones of the delimiter
agreement-is : (d u : List Token) → drop (length u - agreement d u) u ≡ take (agreement d u) d
agreement-is d [] = refl
agreement-is d (x ∷ u) = elim (bool-cases (is_beginning (x ∷ u) d)) [
  | inl p ↦
      let e : agreement d (x ∷ u) ≡ length (x ∷ u) = agreement-beginning d (x ∷ u) p in
      let z : length (x ∷ u) - agreement d (x ∷ u) ≡ 0 = omega arith in
      ap (λ n. drop n (x ∷ u)) z ∙ beginning-take (x ∷ u) d p ∙ ap (λ n. take n d) (sym e)
  | inr p ↦
      let e : agreement d (x ∷ u) ≡ agreement d u = agreement-other d u x p in
      let l : agreement d u ≤ length u = agreement-le d u in
      let z : length (x ∷ u) - agreement d (x ∷ u) ≡ suc (length u - agreement d u) = omega arith in
      ap (λ n. drop n (x ∷ u)) z ∙ agreement-is d u ∙ ap (λ n. take n d) (sym e)
]

-- the delimiter stands here
pub at-delimiter : (long : Bool) (d front : List Token) (a : ℕ) (more : List Token) → 0 < length d → delimited long d front a 0 (d ++ more) ≡ Argument (without_braces front) more
at-delimiter long [] front a more some = absurd (omega arith)
at-delimiter long (y ∷ d) front a more some =
    let t : (common (y ∷ d) (y ∷ (d ++ more)) == length (y ∷ d)) ≡ true = eqb-same (common (y ∷ d) (y ∷ (d ++ more))) (length (y ∷ d)) (common-whole (y ∷ d) more) in
    ap (λ b. cond b (Argument (without_braces front) (drop (length (y ∷ d)) (y ∷ (d ++ more)))) (cond (common (y ∷ d) (y ∷ (d ++ more)) == length (y ∷ (d ++ more))) Unfinished (cond (is_refused long y && (max a (common (y ∷ d) (y ∷ (d ++ more))) == 0)) (Broken ParagraphInArgument) (cond (is_end y) (Broken GroupEndInArgument) (delimited long (y ∷ d) (front ++ y ∷ []) (max a (common (y ∷ d) (y ∷ (d ++ more))) - 1) (level 0 y) (d ++ more)))))) t
    ∙ ap (Argument (without_braces front)) (drop-append_seam d more)

-- the token is the last one of the delimiter
pub taking-whole : (long : Bool) (d front : List Token) (a : ℕ) (t : Token) (more : List Token) → a < length d → agreement d (take a d ++ t ∷ []) ≡ length d → delimited long d front a 0 (take a d ++ t ∷ more) ≡ Argument (without_braces front) more
taking-whole long d front a t more fewer whole =
    let l : length (take a d) ≡ a = length-take-le a d (omega arith) in
    let m : length (take a d ++ t ∷ []) ≡ length (take a d) + length (t ∷ []) = length-append (take a d) (t ∷ []) in
    let w : agreement d (take a d ++ t ∷ []) ≤ length (take a d ++ t ∷ []) = agreement-le d (take a d ++ t ∷ []) in
    let n : length (take a d ++ t ∷ []) ≡ length d = omega arith in
    let b : is_beginning (take a d ++ t ∷ []) d ≡ true = whole-beginning d (take a d ++ t ∷ []) (whole ∙ sym n) in
    let e : take a d ++ t ∷ [] ≡ d = beginning-take (take a d ++ t ∷ []) d b ∙ ap (λ k. take k d) n ∙ take_all (length d) d (omega arith) in
    ap (delimited long d front a 0) (sym (append_assoc (take a d) (t ∷ []) more) ∙ ap (λ u. u ++ more) e)
    ∙ at-delimiter long d front a more (omega arith)

-- nothing agrees with the token
pub taking-none : (long : Bool) (d front : List Token) (a : ℕ) (t : Token) (more : List Token) → a < length d → IsTrue (is_delimiter d) → agreement d (take a d ++ t ∷ []) ≡ 0 → delimited long d front a 0 (take a d ++ t ∷ more) ≡ delimited long d (front ++ take a d) 0 0 (t ∷ more)
taking-none long d front a t more fewer is none =
    let l : length (take a d) ≡ a = length-take-le a d (omega arith) in
    let all : length (take a d) - 0 ≡ length (take a d) = omega arith in
    ap (λ n. delimited long d front n 0 (take a d ++ t ∷ more)) (sym l)
    ∙ slide long d front (take a d) t more 0 (omega arith) (plain-take a d fewer is) (omega arith)
    ∙ ap (λ n. delimited long d (front ++ take n (take a d)) 0 0 (drop n (take a d) ++ t ∷ more)) all
    ∙ ap (λ u. delimited long d (front ++ u) 0 0 (drop (length (take a d)) (take a d) ++ t ∷ more)) (take_all (length (take a d)) (take a d) (omega arith))
    ∙ ap (λ u. delimited long d (front ++ take a d) 0 0 (u ++ t ∷ more)) (drop-all (take a d))
  where
    drop-all : (xs : List Token) → drop (length xs) xs ≡ []
    drop-all [] = refl
    drop-all (x ∷ xs) = drop-all xs

pub none-common : (d w : List Token) (t : Token) (more : List Token) → agreement d (w ++ t ∷ []) ≡ 0 → common d (t ∷ more) ≡ 0
none-common d w t more none = elim (bool-cases (is_beginning (t ∷ []) d)) [
  | inl p ↦
      let e : agreement d (t ∷ []) ≡ 1 = agreement-beginning d (t ∷ []) p in
      let l : agreement d (t ∷ []) ≤ agreement d (w ++ t ∷ []) = agreement-last d w (t ∷ []) in
      absurd (omega arith)
  | inr p ↦ let l : common d (t ∷ more) < 1 = common-short (t ∷ []) d more p in omega arith
]

-- tokens that agree with a delimiter are known to
known-again : (long : Bool) (d front : List Token) (c n : ℕ) (more : List Token) → c ≤ n → n ≤ length d → delimited long d front c 0 (take n d ++ more) ≡ delimited long d front n 0 (take n d ++ more)
known-again long d front c zero more h k = let z : c ≡ 0 = omega arith in ap (λ m. delimited long d front m 0 more) z
known-again long [] front c (suc n) more h k = absurd (omega arith)
known-again long (y ∷ d) front c (suc n) more h k =
    let e : common (y ∷ d) (take (suc n) (y ∷ d) ++ more) ≡ suc n + common (drop (suc n) (y ∷ d)) more = common-take (suc n) (y ∷ d) more k in
    let s : max c (common (y ∷ d) (y ∷ (take n d ++ more))) ≡ max (suc n) (common (y ∷ d) (y ∷ (take n d ++ more))) = omega arith in
    let rest = take n d ++ more in
    ap (λ m. cond (common (y ∷ d) (y ∷ rest) == length (y ∷ d)) (Argument (without_braces front) (drop (length (y ∷ d)) (y ∷ rest))) (cond (common (y ∷ d) (y ∷ rest) == length (y ∷ rest)) Unfinished (cond (is_refused long y && (m == 0)) (Broken ParagraphInArgument) (cond (is_end y) (Broken GroupEndInArgument) (delimited long (y ∷ d) (front ++ y ∷ []) (m - 1) (level 0 y) rest))))) s

-- some of the last tokens agree: what is before them belongs to the argument
pub taking-some : (long : Bool) (d front : List Token) (a n : ℕ) (t : Token) (more : List Token) → a < length d → IsTrue (is_delimiter d) → n ≡ agreement d (take a d ++ t ∷ []) → n ≢ 0 → delimited long d front a 0 (take a d ++ t ∷ more) ≡ delimited long d (take (length ((front ++ take a d) ++ t ∷ []) - n) ((front ++ take a d) ++ t ∷ [])) n 0 (take n d ++ more)
taking-some long d front a n t more fewer is agreed some =
    let w = take a d in
    let l : length w ≡ a = length-take-le a d (omega arith) in
    let m : length (w ++ t ∷ []) ≡ length w + length (t ∷ []) = length-append w (t ∷ []) in
    let k : agreement d (w ++ t ∷ []) ≤ length (w ++ t ∷ []) = agreement-le d (w ++ t ∷ []) in
    let p : agreement d (w ++ t ∷ []) ≤ length d = agreement-within d (w ++ t ∷ []) in
    let c : length w - (n - 1) ≡ length (w ++ t ∷ []) - n = omega arith in
    let short : length w - (n - 1) ≤ length w = omega arith in
    let last : drop (length w - (n - 1)) w ++ t ∷ [] ≡ take n d = sym (drop-append-le (length w - (n - 1)) w (t ∷ []) short) ∙ ap (λ j. drop j (w ++ t ∷ [])) c ∙ ap (λ j. drop (length (w ++ t ∷ []) - j) (w ++ t ∷ [])) agreed ∙ agreement-is d (w ++ t ∷ []) ∙ ap (λ j. take j d) (sym agreed) in
    let before : front ++ take (length w - (n - 1)) w ≡ take (length ((front ++ w) ++ t ∷ []) - n) ((front ++ w) ++ t ∷ []) = before-last front w t n (length w - (n - 1)) short c (omega arith) in
    ap (λ j. delimited long d front j 0 (w ++ t ∷ more)) (sym l)
    ∙ slide long d front w t more (n - 1) (omega arith) (plain-take a d fewer is) (ap (λ j. j - 1) agreed)
    ∙ ap (delimited long d (front ++ take (length w - (n - 1)) w) (n - 1) 0) (sym (append_assoc (drop (length w - (n - 1)) w) (t ∷ []) more) ∙ ap (λ u. u ++ more) last)
    ∙ known-again long d (front ++ take (length w - (n - 1)) w) (n - 1) n more (omega arith) (omega arith)
    ∙ ap (λ u. delimited long d u n 0 (take n d ++ more)) before
  where
    before-last : (front w : List Token) (t : Token) (n k : ℕ) → k ≤ length w → k ≡ length (w ++ t ∷ []) - n → n ≤ length (w ++ t ∷ []) → front ++ take k w ≡ take (length ((front ++ w) ++ t ∷ []) - n) ((front ++ w) ++ t ∷ [])
    before-last front w t n k short is fits =
        let e : (front ++ w) ++ t ∷ [] ≡ front ++ (w ++ t ∷ []) = append_assoc front w (t ∷ []) in
        let l : length (front ++ (w ++ t ∷ [])) ≡ length front + length (w ++ t ∷ []) = length-append front (w ++ t ∷ []) in
        let j : length (front ++ (w ++ t ∷ [])) - n ≡ length front + k = omega arith in
        sym (ap (λ u. take (length u - n) u) e
        ∙ ap (λ i. take i (front ++ (w ++ t ∷ []))) j
        ∙ take-append-add front (w ++ t ∷ []) k
        ∙ ap (λ u. front ++ u) (take-append-le k w (t ∷ []) short))

-- the last tokens that agree are the first ones of the delimiter
pub taking-agrees : (d front : List Token) (a n : ℕ) (t : Token) → n ≡ agreement d (take a d ++ t ∷ []) → (front ++ take a d) ++ t ∷ [] ≡ take (length ((front ++ take a d) ++ t ∷ []) - n) ((front ++ take a d) ++ t ∷ []) ++ take n d
taking-agrees d front a n t agreed =
    let u = take a d ++ t ∷ [] in
    let whole = (front ++ take a d) ++ t ∷ [] in
    let e : whole ≡ front ++ u = append_assoc front (take a d) (t ∷ []) in
    let l : length (front ++ u) ≡ length front + length u = length-append front u in
    let k : agreement d u ≤ length u = agreement-le d u in
    let j : length (front ++ u) - n ≡ length front + (length u - agreement d u) = omega arith in
    let last : drop (length whole - n) whole ≡ take n d =
    ap (λ v. drop (length v - n) v) e ∙ ap (λ i. drop i (front ++ u)) j ∙ drop-append-add front u (length u - agreement d u) ∙ agreement-is d u ∙ ap (λ i. take i d) (sym agreed) in
    sym (take-append-drop (length whole - n) whole) ∙ ap (λ v. take (length whole - n) whole ++ v) last
