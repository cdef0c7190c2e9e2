-- Each page begins with a letter.
use Rattle.std.proofs.Common.{◌≡◌, ℕ, zero, suc, ◌+◌, ◌<◌, List, [], ◌∷◌, ◌++◌, length, refl, sym, ap, ◌∙◌, subst, inl, inr, arith, append_assoc}
use Rattle.std.specs.Prelude.{codes, slice_get, Some}
use Rattle.tx_gen.specs.Draws.{next, drawn, times}
use Rattle.tx_gen.specs.Book.{letter, letter_text, word, spaced_word, line, page, opening, begun, book_of, page_start}
use Rattle.tx_gen.specs.Edits.{IsLetter, IsLetterAt}
use Rattle.tx_gen.proofs.Times.{Continues, times-continues}

one_of_two : (n : ℕ) → n < 2 → IsLetter (97 + n)
one_of_two zero less = inl refl
one_of_two (suc zero) less = inr refl
one_of_two (suc (suc n)) less = absurd (omega arith)

pub letter-is : (state : ℕ) → IsLetter (letter state)
letter-is state = let less : drawn 2 state < 2 = omega arith in one_of_two (drawn 2 state) less

pub record Begins (text : List ℕ) : Type 0 where
  pub first : ℕ
  pub rest : List ℕ
  pub is_letter : IsLetter first
  pub are : text ≡ first ∷ rest

begins-append : {text : List ℕ} (more : List ℕ) → Begins text → Begins (text ++ more)
begins-append more b = record { first = b.first; rest = b.rest ++ more; is_letter = b.is_letter; are = ap (λ (t : List ℕ). t ++ more) b.are }

begins-times : (making : ℕ → List ℕ × ℕ) → ((state : ℕ) → Begins (making state).0) → (count state : ℕ) → Begins (times (suc count) making state).0
unfolding times
begins-times making each zero state = each state
begins-times making each (suc count) state = begins-append (making (times (suc count) making state).1).0 (begins-times making each count state)

letter-begins : (state : ℕ) → Begins (letter_text state).0
letter-begins state = record { first = letter state; rest = []; is_letter = letter-is state; are = refl }

word-begins : (state : ℕ) → Begins (word state).0
unfolding word
word-begins state =
    let one_up : suc (drawn 6 state) ≡ 1 + drawn 6 state = omega arith in
    subst (λ n. Begins (times n letter_text (next state)).0) one_up (begins-times letter_text letter-begins (drawn 6 state) (next state))

line-begins : (state : ℕ) → Begins (line state).0
unfolding line
line-begins state = begins-append (codes "\n") (begins-append (times 9 spaced_word (word state).1).0 (word-begins state))

page-begins : (state : ℕ) → Begins (page state).0
unfolding page
page-begins state = begins-append (codes "\n\\vfill\\penalty-10000\n") (begins-times line line-begins 5 state)

-- what stands behind a front
at-end : (front : List ℕ) (first : ℕ) (rest : List ℕ) → slice_get (front ++ first ∷ rest) (length front) ≡ Some first
at-end [] first rest = refl
at-end (x ∷ front) first rest = at-end front first rest

regroup : (a b : List ℕ) (x : ℕ) (c d e : List ℕ) → (a ++ (b ++ ((x ∷ c) ++ d))) ++ e ≡ (a ++ b) ++ x ∷ ((c ++ d) ++ e)
regroup a b x c d e =
    append_assoc a (b ++ x ∷ (c ++ d)) e ∙ ap (λ (t : List ℕ). a ++ t) (append_assoc b (x ∷ (c ++ d)) e) ∙ sym (append_assoc a b (x ∷ ((c ++ d) ++ e)))

there : (text : List ℕ) (place first : ℕ) → slice_get text place ≡ Some first → IsLetter first → IsLetterAt text place
there text place first is (inl a) = inl (is ∙ ap Some a)
there text place first is (inr b) = inr (is ∙ ap Some b)

-- a letter stands where a page begins
pub letter-starts : (seed pages number : ℕ) → number < pages → IsLetterAt (book_of seed pages) (page_start seed number)
letter-starts seed pages number less =
    let front : List ℕ × ℕ = times number page seed in
    let goes : Continues front.0 (page front.1).0 (times pages page seed).0 = times-continues page number pages seed less in
    let begins : Begins (page front.1).0 = page-begins front.1 in
    let are : book_of seed pages ≡ begun seed number ++ begins.first ∷ ((begins.rest ++ goes.behind) ++ codes "\\end\n") =
    ap (λ (t : List ℕ). (opening ++ t) ++ codes "\\end\n") (goes.are ∙ ap (λ (t : List ℕ). front.0 ++ (t ++ goes.behind)) begins.are)
    ∙ regroup opening front.0 begins.first begins.rest goes.behind (codes "\\end\n") in
    there (book_of seed pages) (page_start seed number) begins.first
    (ap (λ (t : List ℕ). slice_get t (page_start seed number)) are ∙ at-end (begun seed number) begins.first ((begins.rest ++ goes.behind) ++ codes "\\end\n"))
    begins.is_letter
