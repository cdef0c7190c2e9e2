-- The table of a delimiter.
use Rattle.std.proofs.Common.{◌≡◌, ℕ, ◌+◌, ◌-◌, ◌≤◌, ◌<◌, true, false, List, [], ◌∷◌, ◌++◌, length, take, drop, get_or, slice_index, refl, ap, sym, subst, ◌∙◌, arith, inl, inr}
use Rattle.std.proofs.lemmas.List.{length-append, length-take, length-take-le, length-drop, take_more, drop-append-le, same_from_push, get_or_append_left, get_or_push}
use Rattle.std.proofs.lemmas.Bool.Decides.{leb_tells}
use Rattle.tx_char.specs.declared.tokens.Token.{Token}
use Rattle.tx_macro.specs.Agreement.{is_beginning, agreement, IsTable}
use Rattle.tx_macro.proofs.Slides.{beginning-take, take-beginning, agreement-beginning, agreement-other, agreement-push, agreement-le, bool-cases}

-- where the next token agrees, one more does
pub agreed-one : (d : List Token) (j : ℕ) (x t : Token) → j < length d → x ≡ get_or d j x → x ≡ t → agreement d (take j d ++ t ∷ []) ≡ j + 1
agreed-one d j x t short is same =
    let e : take (j + 1) d ≡ take j d ++ t ∷ [] = take_more d j x short ∙ ap (λ u. take j d ++ u ∷ []) (sym is ∙ same) in
    let b : is_beginning (take j d ++ t ∷ []) d ≡ true = subst (λ u. is_beginning u d ≡ true) e (take-beginning (j + 1) d (omega arith)) in
    let l : length (take j d) ≡ j = length-take-le j d (omega arith) in
    let m : length (take j d ++ t ∷ []) ≡ length (take j d) + length (t ∷ []) = length-append (take j d) (t ∷ []) in
    agreement-beginning d (take j d ++ t ∷ []) b ∙ (let q : length (take j d ++ t ∷ []) ≡ j + 1 = omega arith in q)

not-beginning : (d : List Token) (j : ℕ) (x t : Token) → j < length d → x ≡ get_or d j x → (x ≡ t → ⊥) → is_beginning (take j d ++ t ∷ []) d ≡ false
not-beginning d j x t short is other = elim (bool-cases (is_beginning (take j d ++ t ∷ []) d)) [
  | inl h ↦
      let l : length (take j d) ≡ j = length-take-le j d (omega arith) in
      let m : length (take j d ++ t ∷ []) ≡ length (take j d) + length (t ∷ []) = length-append (take j d) (t ∷ []) in
      let n : length (take j d ++ t ∷ []) ≡ j + 1 = omega arith in
      let e : take j d ++ t ∷ [] ≡ take j d ++ x ∷ [] = beginning-take (take j d ++ t ∷ []) d h ∙ ap (λ k. take k d) n ∙ take_more d j x short ∙ ap (λ u. take j d ++ u ∷ []) (sym is) in
      let s : (take j d ≡ take j d) × (t ≡ x) = same_from_push (take j d) (take j d) t x e in
      absurd (other (sym s.1))
  | inr h ↦ h
]

-- where it doesn't, nothing agrees if nothing did before
pub agreed-none : (d : List Token) (j : ℕ) (x t : Token) → j ≡ 0 → j < length d → x ≡ get_or d j x → (x ≡ t → ⊥) → agreement d (take j d ++ t ∷ []) ≡ 0
agreed-none d j x t z short is other =
    let P : ℕ → Type 0 = λ k. is_beginning (take k d ++ t ∷ []) d ≡ false in
    ap (λ k. agreement d (take k d ++ t ∷ [])) z ∙ agreement-other d [] t (subst P z (not-beginning d j x t short is other))

first-of : (w : List Token) → 0 < length w → (y : Token) × (w ≡ y ∷ drop 1 w)
first-of [] h = absurd (omega arith)
first-of (y ∷ w) h = (y, refl)

-- and else as much as the border of what did
pub agreed-border : (d : List Token) (borders : List ℕ) (count j : ℕ) (x t : Token) → IsTable d borders count → j ≤ count → 0 < j → j < length d → x ≡ get_or d j x → (x ≡ t → ⊥) → agreement d (take (slice_index borders j) d ++ t ∷ []) ≡ agreement d (take j d ++ t ∷ [])
agreed-border d borders count j x t table within some short is other =
    let l : length (take j d) ≡ j = length-take-le j d (omega arith) in
    let f : (y : Token) × (take j d ≡ y ∷ drop 1 (take j d)) = first-of (take j d) (omega arith) in
    let n : is_beginning (take j d ++ t ∷ []) d ≡ false = not-beginning d j x t short is other in
    let n' : is_beginning (f.0 ∷ (drop 1 (take j d) ++ t ∷ [])) d ≡ false = subst (λ u. is_beginning (u ++ t ∷ []) d ≡ false) f.1 n in
    ap (λ k. agreement d (take k d ++ t ∷ [])) (table.border j within)
    ∙ sym (agreement-push d (drop 1 (take j d)) t)
    ∙ sym (agreement-other d (drop 1 (take j d) ++ t ∷ []) f.0 n')
    ∙ ap (λ u. agreement d (u ++ t ∷ [])) (sym f.1)

pub border-smaller : (d : List Token) (borders : List ℕ) (count j : ℕ) → IsTable d borders count → j ≤ count → 0 < j → slice_index borders j < j
border-smaller d borders count j table within some =
    let e : slice_index borders j ≡ agreement d (drop 1 (take j d)) = table.border j within in
    let l : agreement d (drop 1 (take j d)) ≤ length (drop 1 (take j d)) = agreement-le d (drop 1 (take j d)) in
    omega (arith, length-drop 1 (take j d), length-take j d)

-- the table of fewer tokens
pub table-fewer : (d : List Token) (borders : List ℕ) (count fewer : ℕ) → IsTable d borders count → fewer ≤ count → IsTable d borders fewer
table-fewer d borders count fewer table h = record { long = let l : count < length borders = table.long in omega arith; border = λ k m. table.border k (omega arith) }

-- the border of one more token
pub border-more : (d : List Token) (k border next : ℕ) (x : Token) → k < length d → 0 < k → x ≡ get_or d k x → border ≡ agreement d (drop 1 (take k d)) → next ≡ agreement d (take border d ++ x ∷ []) → next ≡ agreement d (drop 1 (take (k + 1) d))
border-more d k border next x short some is b n =
    let l : length (take k d) ≡ k = length-take-le k d (omega arith) in
    let e : take (k + 1) d ≡ take k d ++ x ∷ [] = take_more d k x short ∙ ap (λ u. take k d ++ u ∷ []) (sym is) in
    n ∙ ap (λ m. agreement d (take m d ++ x ∷ [])) b ∙ sym (agreement-push d (drop 1 (take k d)) x)
    ∙ ap (agreement d) (sym (drop-append-le 1 (take k d) (x ∷ []) (omega arith)) ∙ ap (drop 1) (sym e))

pub table-push : (d : List Token) (borders : List ℕ) (k border : ℕ) → IsTable d borders k → length borders ≡ k + 1 → border ≡ agreement d (drop 1 (take (k + 1) d)) → IsTable d (borders ++ border ∷ []) (k + 1)
table-push d borders k border table long is =
    let l : length (borders ++ border ∷ []) ≡ length borders + length (border ∷ []) = length-append borders (border ∷ []) in
    record {
      long = omega arith;
      border = λ j h. elim (leb_tells j k) [
        | inl p ↦ get_or_append_left borders (border ∷ []) 0 j (let q : j ≤ k = p.1 in omega arith) ∙ table.border j p.1
        | inr p ↦
            let e : j ≡ k + 1 = let q : k < j = p.1 in omega arith in
            get_or_push borders border 0 j (omega arith) ∙ is ∙ ap (λ m. agreement d (drop 1 (take m d))) (sym e)
      ];
    }

pub table-begin : (d : List Token) → IsTable d (0 ∷ []) 0
table-begin d = record { long = omega arith; border = λ k h. let e : k ≡ 0 = omega arith in ap (λ m. slice_index (0 ∷ []) m) e ∙ ap (λ m. agreement d (drop 1 (take m d))) (sym e) }

pub border-within : (d : List Token) (k border : ℕ) → border ≡ agreement d (drop 1 (take k d)) → border ≤ k - 1
border-within d k border e =
    let l : agreement d (drop 1 (take k d)) ≤ length (drop 1 (take k d)) = agreement-le d (drop 1 (take k d)) in
    omega (arith, length-drop 1 (take k d), length-take k d)
