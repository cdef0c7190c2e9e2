-- The places at which pages begin.
use Rattle.std.proofs.Common.{◌≡◌, ℕ, zero, suc, ◌+◌, ◌<◌, [], ◌∷◌, ◌++◌, length, refl, ap, ◌∙◌, inl, inr, arith, length-append}
use Rattle.std.specs.Prelude.{slice_index}
use Rattle.std.proofs.lemmas.Bool.{cases_lt}
use Rattle.std.proofs.lemmas.List.{get_or_append_left, get_or_push}
use Rattle.tx_gen.specs.Book.{page_start, page_starts}

pub starts-more : (seed pages : ℕ) → page_starts seed (pages + 1) ≡ page_starts seed pages ++ page_start seed pages ∷ []
starts-more seed pages =
    let one_up : pages + 1 ≡ suc pages = omega arith in
    ap (page_starts seed) one_up

pub length-starts : (seed pages : ℕ) → length (page_starts seed pages) ≡ pages
length-starts seed zero = refl
length-starts seed (suc pages) =
    let before : length (page_starts seed pages) ≡ pages = length-starts seed pages in
    omega (arith, before, length-append (page_starts seed pages) (page_start seed pages ∷ []))

pub start-at : (seed pages number : ℕ) → number < pages → slice_index (page_starts seed pages) number ≡ page_start seed number
start-at seed zero number less = absurd (omega arith)
start-at seed (suc pages) number less =
    elim (cases_lt number pages) [
      | inl before ↦
          let within : number < length (page_starts seed pages) = omega (arith, length-starts seed pages) in
          get_or_append_left (page_starts seed pages) (page_start seed pages ∷ []) 0 number within ∙ start-at seed pages number before
      | inr past ↦
          let same : pages ≡ number = omega arith in
          get_or_push (page_starts seed pages) (page_start seed pages) 0 number (length-starts seed pages ∙ same) ∙ ap (page_start seed) same
    ]
