-- The list that \mathchoice takes, and the entries of lists.
use Rattle.std.proofs.Common.{◌≡◌, ◌≤◌, ◌<◌, ◌+◌, ℕ, Bool, true, false, List, ◌++◌, length, drop, get_or, ◌∙◌, refl, ap, arith, subst, sym, append_assoc, append-nil}
use Rattle.std.proofs.lemmas.List.{at_drop_all}
use Rattle.std.specs.Prelude.{◌/◌, ◌==◌, if◌then◌else◌}
use Rattle.tx_mlist.specs.declared.noad.Choice.{Choice}
use Rattle.tx_mlist.specs.declared.noad.Noad.{Noad}
use Rattle.tx_mlist.specs.Counts.{count_of}
use Rattle.tx_mlist.specs.Items.{MathItem, gathered}
use Rattle.tx_mlist.specs.Noads.{math_of, mlist_of}
use Rattle.tx_mlist.proofs.Measures.{choice_measure, list_measure}
use Rattle.tx_math.specs.Entries.{Entry, Laid, chosen, laid, laid_behind, laid_item}
use Rattle.tx_math.proofs.First.{front}

by_tests : {A B : Type 0} (f : A → B) (p q r : Bool) (a b c d : A)
    → f (if p then a else if q then b else if r then c else d) ≡ (if p then f a else if q then f b else if r then f c else f d)
by_tests f true q r a b c d = refl
by_tests f false true r a b c d = refl
by_tests f false false true a b c d = refl
by_tests f false false false a b c d = refl

-- what is made of the list that is taken is taken of what is made of each
pub chosen_of : {A B : Type 0} (f : A → B) (style : ℕ) (a b c d : A) → f (chosen style a b c d) ≡ chosen style (f a) (f b) (f c) (f d)
chosen_of f style a b c d = by_tests f (style / 2 == 0) (style / 2 == 1) (style / 2 == 2) a b c d

pub laid_chosen : (style : ℕ) (a b c d : List MathItem)
    → laid style (gathered (chosen style a b c d)) ≡ chosen style (laid style (gathered a)) (laid style (gathered b)) (laid style (gathered c)) (laid style (gathered d))
laid_chosen style a b c d = chosen_of (λ list. laid style (gathered list)) style a b c d

-- it counts no more than all four
most : (p q r : Bool) (a b c d : ℕ) → (if p then a else if q then b else if r then c else d) ≤ a + b + c + d
most true q r a b c d = omega arith
most false true r a b c d = omega arith
most false false true a b c d = omega arith
most false false false a b c d = omega arith

counted : (style : ℕ) (a b c d : List MathItem)
    → count_of (gathered (chosen style a b c d)) ≤ count_of (gathered a) + count_of (gathered b) + count_of (gathered c) + count_of (gathered d)
counted style a b c d =
    subst (λ n. n ≤ count_of (gathered a) + count_of (gathered b) + count_of (gathered c) + count_of (gathered d))
    (sym (chosen_of (λ list. count_of (gathered list)) style a b c d))
    (most (style / 2 == 0) (style / 2 == 1) (style / 2 == 2) (count_of (gathered a)) (count_of (gathered b)) (count_of (gathered c)) (count_of (gathered d)))

-- from a choice to the list that is taken
pub chosen_falls : (style : ℕ) (c : Choice) (xs : List Noad) → mlist_of xs ≡ chosen style c.display c.text c.script c.script_script → list_measure xs < choice_measure c
chosen_falls style c xs is = rw is (omega (arith, counted style c.display c.text c.script c.script_script))

-- entries behind others are behind both
regrouped : (entries more : List Entry) (rest : Laid) → laid_behind entries (laid_behind more rest) ≡ laid_behind (entries ++ more) rest
regrouped entries more rest = ap (λ (list : List Entry). (list, rest.1)) (sym (append_assoc entries more rest.0))

-- an item more, and none more
pub laid_more : (list : List Noad) (at : ℕ) (x : Noad) (entries entries' : List Entry) (style style' : ℕ) → at < length list → x ≡ get_or list at x
    → entries' ≡ entries ++ (laid_item style (math_of x)).0 → style' ≡ (laid_item style (math_of x)).1
    → laid_behind entries (laid style (gathered (mlist_of (drop at list)))) ≡ laid_behind entries' (laid style' (gathered (mlist_of (drop (at + 1) list))))
laid_more list at x entries entries' style style' below is entries_is style_is =
    let rest = gathered (mlist_of (drop (at + 1) list)) in
    ap (λ (l : List Noad). laid_behind entries (laid style (gathered (mlist_of l)))) (front list at x below is)
    ∙ regrouped entries (laid_item style (math_of x)).0 (laid (laid_item style (math_of x)).1 rest)
    ∙ ap (λ (l : List Entry). laid_behind l (laid (laid_item style (math_of x)).1 rest)) (sym entries_is)
    ∙ ap (λ (n : ℕ). laid_behind entries' (laid n rest)) (sym style_is)

pub laid_over : (list : List Noad) (at : ℕ) (entries : List Entry) (style : ℕ) → length list ≤ at
    → laid_behind entries (laid style (gathered (mlist_of (drop at list)))) ≡ (entries, style)
laid_over list at entries style over =
    at_drop_all (λ (l : List Noad). laid_behind entries (laid style (gathered (mlist_of l)))) list at over
    ∙ ap (λ (l : List Entry). (l, style)) (append-nil entries)
