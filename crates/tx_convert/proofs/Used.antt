-- The size behind a font's name.
use Rattle.std.proofs.Common.{◌≡◌, ◌==◌, ◌++◌, ℕ, ℤ, pos, Bool, false, List, [], Result, OnOk, ap, sym, subst, ◌∙◌, append_assoc, ne_eqb}
use Rattle.std.specs.Prelude.{codes, if◌then◌else◌}
use Rattle.tx_num.specs.Decimals.{scaled_text_of}
use Rattle.tx_tfm.specs.declared.metrics.Metrics.{Metrics}
use Rattle.tx_tfm.specs.Format.{design_size_of}
use Rattle.tx_convert.specs.Fonts.{at_size, size_behind}

-- it stands there if it isn't the design size
used-otherwise : (m : Metrics) → (pos m.size ≡ pos (design_size_of m.file) → ⊥) → size_behind m ≡ at_size (pos m.size)
used-otherwise m other =
    let differ : (m.size == design_size_of m.file) ≡ false = ne_eqb m.size (design_size_of m.file) (λ same. other (ap pos same)) in
    ap (λ (b : Bool). if b then [] else at_size (pos m.size)) differ

pub size-put : {A E : Type 0} (m : Metrics) (size used design : ℤ) (before after : List ℕ) (answer : Result A E) → size ≡ pos m.size → used ≡ size → design ≡ pos (design_size_of m.file) → (size ≡ design → ⊥) → OnOk answer (after ≡ before ++ at_size used) → OnOk answer (after ≡ before ++ size_behind m)
size-put m size used design before after answer is passed told other put =
    subst (λ (behind : List ℕ). OnOk answer (after ≡ before ++ behind)) (sym (used-otherwise m (λ same. other (is ∙ (same ∙ sym told)))))
    (subst (λ (s : ℤ). OnOk answer (after ≡ before ++ at_size s)) (passed ∙ is) put)

-- its three parts are put behind a text in turn
regrouped : (before at points unit : List ℕ) → ((before ++ at) ++ points) ++ unit ≡ before ++ (at ++ (points ++ unit))
regrouped before at points unit = simp append_assoc

pub points-put : {A E : Type 0} (size : ℤ) (before first second last points : List ℕ) (answer : Result A E) → first ≡ before ++ codes " at " → second ≡ first ++ points → points ≡ scaled_text_of size → OnOk answer (last ≡ second ++ codes "pt") → OnOk answer (last ≡ before ++ at_size size)
points-put size before first second last points answer one two text put =
    let all : second ++ codes "pt" ≡ before ++ (codes " at " ++ (points ++ codes "pt")) =
    ap (λ (xs : List ℕ). xs ++ codes "pt") (two ∙ ap (λ (xs : List ℕ). xs ++ points) one) ∙ regrouped before (codes " at ") points (codes "pt") in
    let whole : second ++ codes "pt" ≡ before ++ at_size size = all ∙ ap (λ (xs : List ℕ). before ++ (codes " at " ++ (xs ++ codes "pt"))) text in
    subst (λ (behind : List ℕ). OnOk answer (last ≡ behind)) whole put
