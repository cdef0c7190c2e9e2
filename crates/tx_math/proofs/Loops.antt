-- One turn more of what the definitions do by recursion.
use Rattle.std.proofs.Common.{◌≡◌, ◌<◌, ◌-◌, ℕ, zero, suc, Bool, false, List, [], ◌∷◌, ◌++◌, Ok, ◌∙◌, refl, ap, sym, append_assoc, arith}
use Rattle.tx_mlist.specs.declared.kinds.AtomKind.{AtomKind}
use Rattle.tx_mlist.specs.Items.{MathItem, gathered, listed}
use Rattle.tx_mlist.proofs.Equal.{list-back}
use Rattle.tx_math.specs.Composing.{composed_within, step}
use Rattle.tx_math.specs.Converting.{IsStep}
use Rattle.tx_math.specs.Entries.{Entry, entries_of}
use Rattle.tx_math.specs.Formula.{converted, list_in}
use Rattle.tx_math.specs.Parameters.{Math}

-- a step, and so many less
composed_more : (n : ℕ) (m : Math) (before : AtomKind) (e : Entry) (rest : List Entry) → 0 < n
    → composed_within n m before (e ∷ rest) ≡ (step m before e rest).done ++ composed_within (n - 1) m (step m before e rest).before (step m before e rest).rest
unfolding composed_within
composed_more zero m before e rest h = absurd (omega arith)
composed_more (suc n) m before e rest h =
    ap (λ k. (step m before e rest).done ++ composed_within k m (step m before e rest).before (step m before e rest).rest) (omega arith)

pub composed_step : (n : ℕ) (m : Math) (before before' : AtomKind) (e : Entry) (rest rest' done done' : List Entry) → 0 < n
    → IsStep (step m before e rest) before' done done' rest'
    → done ++ composed_within n m before (e ∷ rest) ≡ done' ++ composed_within (n - 1) m before' rest'
composed_step n m before before' e rest rest' done done' more is =
    let made = step m before e rest in
    ap (λ (list : List Entry). done ++ list) (composed_more n m before e rest more)
    ∙ sym (append_assoc done made.done (composed_within (n - 1) m made.before made.rest))
    ∙ ap (λ (list : List Entry). list ++ composed_within (n - 1) m made.before made.rest) (sym is.done_is)
    ∙ ap (λ (kind : AtomKind). done' ++ composed_within (n - 1) m kind made.rest) (sym is.before_is)
    ∙ ap (λ (list : List Entry). done' ++ composed_within (n - 1) m before' list) (sym is.rest_is)

-- no step at nothing, nor where none is left
pub composed_none : (n : ℕ) (m : Math) (before : AtomKind) → composed_within n m before [] ≡ []
unfolding composed_within
composed_none zero m before = refl
composed_none (suc n) m before = refl

pub composed_over : (n : ℕ) (m : Math) (before : AtomKind) (entries : List Entry) → n ≡ 0 → composed_within n m before entries ≡ entries
unfolding composed_within
composed_over zero m before entries h = refl
composed_over (suc n) m before entries h = absurd (omega arith)

-- a list, where levels are left, and where none is
pub list_more : (n : ℕ) (m : Math) (penalties : Bool) (style : ℕ) (list : List MathItem) (told : List ℕ) → 0 < n
    → list_in n m penalties style list told ≡ converted (list_in (n - 1) m false) m style penalties (entries_of style (gathered list)) told
unfolding list_in
list_more zero m penalties style list told h = absurd (omega arith)
list_more (suc n) m penalties style list told h =
    ap (λ k. converted (list_in k m false) m style penalties (entries_of style (gathered list)) told) (omega arith)

pub list_none : (n : ℕ) (m : Math) (penalties : Bool) (style : ℕ) (list : List MathItem) (told : List ℕ) → n ≡ 0 → list_in n m penalties style list told ≡ Ok ([], told)
unfolding list_in
list_none zero m penalties style list told h = refl
list_none (suc n) m penalties style list told h = absurd (omega arith)

-- the items of a part are the list that they were made of
pub listed_back : (list : List MathItem) → listed (gathered list) ≡ list
listed_back list = list-back list
