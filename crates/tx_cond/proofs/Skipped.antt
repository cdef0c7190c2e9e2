-- One more item behind items that are skipped.
use Rattle.std.proofs.Common.{◌≡◌, ℕ, zero, suc, ◌+◌, ◌==◌, Bool, true, false, cond, List, [], ◌∷◌, ◌++◌, refl, sym, ◌∙◌, ap, arith, append_assoc, append-nil, zero-add}
use Rattle.std.specs.Prelude.{count_by}
use Rattle.std.proofs.lemmas.List.Sums.{sum_by-append}
use Rattle.tx_seen.specs.declared.error.TexError.TheVariants.{IncompleteConditional}
use Rattle.tx_seen.specs.declared.fed.Want.TheVariants.{Raw}
use Rattle.tx_seen.specs.declared.fed.Fed.{Fed}
use Rattle.tx_seen.specs.declared.fed.Fed.TheVariants.{More, Need, Done, Wrong}
use Rattle.tx_prim.specs.declared.expandable.CondWord.{CondWord}
use Rattle.tx_cond.specs.declared.types.SkipItem.{SkipItem}
use Rattle.tx_cond.specs.declared.types.SkipItem.TheVariants.{If, Word, Other, Outer, EndOfFile}
use Rattle.tx_prim.specs.declared.expandable.CondWord.TheVariants.{Else, Or, Fi}
use Rattle.tx_cond.specs.Skipping.{begins, ends, depth, passing, answer, or_else, first_answer, skip, HasSkipped, IsSkip}

-- where more is wanted, it is wanted as it stands
abbrev IsRaw : Fed CondWord → Type 0
IsRaw (More want) = want ≡ Raw
IsRaw (Need kind) = Unit {0}
IsRaw (Done word back) = Unit {0}
IsRaw (Wrong error) = Unit {0}

word-raw : (word : CondWord) (b : Bool) → IsRaw (cond b (Done word 0) (More Raw))
word-raw word true = tt {0}
word-raw word false = refl

answer-raw : (before : List SkipItem) (item : SkipItem) → IsRaw (answer before item)
answer-raw before If = refl
answer-raw before (Word word) = word-raw word (depth before == 0)
answer-raw before Other = refl
answer-raw before Outer = tt {0}
answer-raw before EndOfFile = tt {0}

or_else-more : (a : Fed CondWord) → IsRaw a → or_else a (More Raw) ≡ a
or_else-more (More want) h = rw h refl
or_else-more (Need kind) h = refl
or_else-more (Done word back) h = refl
or_else-more (Wrong error) h = refl

first-push-by : (before : List SkipItem) (x : SkipItem) (xs : List SkipItem) (item : SkipItem) (a : Fed CondWord) → answer before x ≡ a → or_else a (first_answer (before ++ x ∷ []) xs) ≡ More Raw → (first_answer (before ++ x ∷ []) xs ≡ More Raw → first_answer (before ++ x ∷ []) (xs ++ item ∷ []) ≡ answer ((before ++ x ∷ []) ++ xs) item) → or_else a (first_answer (before ++ x ∷ []) (xs ++ item ∷ [])) ≡ answer (before ++ x ∷ xs) item
first-push-by before x xs item (More want) is h later = later h ∙ ap (λ (taken : List SkipItem). answer taken item) (append_assoc before (x ∷ []) xs)
first-push-by before x xs item (Need kind) is h later = cc
first-push-by before x xs item (Done word back) is h later = cc
first-push-by before x xs item (Wrong error) is h later = cc

first-push : (before items : List SkipItem) (item : SkipItem) → first_answer before items ≡ More Raw → first_answer before (items ++ item ∷ []) ≡ answer (before ++ items) item
first-push before [] item h = or_else-more (answer before item) (answer-raw before item) ∙ ap (λ (taken : List SkipItem). answer taken item) (sym (append-nil before))
first-push before (x ∷ xs) item h = first-push-by before x xs item (answer before x) refl h (first-push (before ++ x ∷ []) xs item)

skip-push : (taken : List SkipItem) (item : SkipItem) → skip taken ≡ More Raw → skip (taken ++ item ∷ []) ≡ answer taken item
skip-push taken item h = first-push [] taken item h

count-push : (p : SkipItem → Bool) (taken : List SkipItem) (item : SkipItem) → count_by p (taken ++ item ∷ []) ≡ count_by p taken + cond (p item) 1 0
count-push p taken item = sum_by-append (λ x. cond (p x) 1 0) taken (item ∷ []) ∙ ap (λ n. count_by p taken + n) (zero-add (cond (p item) 1 0))

-- what the next item is to skipping
answer-is : (taken : List SkipItem) (item : SkipItem) (a : Fed CondWord) → skip taken ≡ More Raw → answer taken item ≡ a → skip (taken ++ item ∷ []) ≡ a
answer-is taken item a h is = skip-push taken item h ∙ is

-- a word within a conditional of the skipped text
answer-inside : (inside : ℕ) (taken : List SkipItem) (word : CondWord) → HasSkipped (suc inside) taken → answer taken (Word word) ≡ More Raw
answer-inside inside taken word h = rw (let e : (depth taken == 0) ≡ false = grind (arith, h.counted) in e) refl

-- a word that belongs to no conditional of the skipped text
answer-outside : (taken : List SkipItem) (word : CondWord) → HasSkipped 0 taken → answer taken (Word word) ≡ Done word 0
answer-outside taken word h = rw (let e : (depth taken == 0) ≡ true = grind (arith, h.counted) in e) refl

-- the next item is skipped too
skips-on : (inside next : ℕ) (taken : List SkipItem) (item : SkipItem) → HasSkipped inside taken → answer taken item ≡ More Raw → inside + cond (begins item) 1 0 ≡ next + cond (ends item) 1 0 → HasSkipped next (taken ++ item ∷ [])
skips-on inside next taken item h more e = record {
  skipped = skip-push taken item h.skipped ∙ more;
  counted = omega (arith, count-push begins taken item, count-push ends taken item, h.counted);
}

-- by the count of open conditionals
pub counts : (inside : ℕ) (taken : List SkipItem) (item : SkipItem) → HasSkipped inside taken → IsSkip (passing inside item) (taken ++ item ∷ [])
counts inside taken If h = skips-on inside (suc inside) taken If h refl (omega arith)
counts zero taken (Word word) h = answer-is taken (Word word) (Done word 0) h.skipped (answer-outside taken word h)
counts (suc inside) taken (Word Fi) h = skips-on (suc inside) inside taken (Word Fi) h (answer-inside inside taken Fi h) (omega arith)
counts (suc inside) taken (Word Else) h = skips-on (suc inside) (suc inside) taken (Word Else) h (answer-inside inside taken Else h) refl
counts (suc inside) taken (Word Or) h = skips-on (suc inside) (suc inside) taken (Word Or) h (answer-inside inside taken Or h) refl
counts inside taken Other h = skips-on inside inside taken Other h refl refl
counts inside taken Outer h = answer-is taken Outer (Wrong IncompleteConditional) h.skipped refl
counts inside taken EndOfFile h = answer-is taken EndOfFile (Wrong IncompleteConditional) h.skipped refl
