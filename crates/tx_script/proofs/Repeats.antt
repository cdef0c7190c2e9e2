-- Reading so many values, one after the other.
use Rattle.std.proofs.Common.{◌≡◌, ℕ, zero, suc, List, [], ◌∷◌, ◌++◌, length, refl, sym, ap, subst, ◌∙◌, arith}
use Rattle.std.specs.Prelude.{Result, Ok, Err}
use Rattle.std.specs.List.{flat_map, AllByRecursion}
use Rattle.tx_script.specs.declared.error.Broken.{Broken}
use Rattle.tx_script.specs.declared.error.Rule.{Rule}
use Rattle.tx_script.specs.Text.{bytes_of}
use Rattle.tx_script.specs.Reading.{Read, ◌>>=◌}
use Rattle.tx_script.proofs.Forms.{Reads, after, mapped, ok_is, ok_or_err}

-- one step of reading and then others
pub bind_assoc : {A B C : Type 0} (r : Result A Broken) (f : A → Result B Broken) (g : B → Result C Broken) → (r >>= f) >>= g ≡ r >>= (λ x. f x >>= g)
bind_assoc (Ok x) f g = refl
bind_assoc (Err e) f g = refl

-- so many values that fit
abbrev pub AllSo : {V : Type 0} → (V → Type 0) → ℕ → List V → Type 0
AllSo F n vs = AllByRecursion F vs × (length vs ≡ n)

-- a first one and others
record OneAnd {V : Type 0} (F : V → Type 0) (n : ℕ) (both : V × List V) : Type 0 where
  one : F both.0
  others : AllSo F n both.1

record Behind {V : Type 0} (F : V → Type 0) (n : ℕ) (v : V) (both : V × List V) : Type 0 where
  first : both.0 ≡ v
  others : AllSo F n both.1

parted : {V : Type 0} (F : V → Type 0) (n : ℕ) (vs : List V) → AllSo F (suc n) vs → (both : V × List V) × OneAnd F n both × (vs ≡ both.0 ∷ both.1)
parted F n [] h = absurd (omega (arith, h.1))
parted F n (v ∷ vs) h = ((v, vs), record { one = h.0.0; others = (h.0.1, omega (arith, h.1)) }, refl)

-- as many of one value
pub many : {V : Type 0} (F : V → Type 0) (n : ℕ) (v : V) → F v → (vs : List V) × AllSo F n vs
many F zero v h = ([], (tt, refl))
many F (suc n) v h = let k = many F n v h in (v ∷ k.0, ((h, k.1.0), ap suc k.1.1))

none_is : {V : Type 0} (vs : List V) → length vs ≡ 0 → vs ≡ []
none_is [] e = refl
none_is (v ∷ vs) e = absurd (omega arith)

-- reading so many is reading one and then the others
abbrev pub several : {V : Type 0} → (List ℕ → Read V) → (ℕ → List ℕ → Read (List V)) → ℕ → List ℕ → Read (List V)
several one all n bytes = one bytes >>= λ v. all n v.1 >>= λ vs. Ok (v.0 ∷ vs.0, vs.1)

abbrev with_first : {V : Type 0} → V → List V × List ℕ → Read (V × List V)
with_first v vs = Ok ((v, vs.0), vs.1)

abbrev as_list : {V : Type 0} → (V × List V) × List ℕ → Read (List V)
as_list x = Ok (x.0.0 ∷ x.0.1, x.1)

abbrev one_and : {V : Type 0} → (List ℕ → Read V) → (ℕ → List ℕ → Read (List V)) → ℕ → List ℕ → Read (V × List V)
one_and one all n bytes = one bytes >>= λ v. all n v.1 >>= with_first v.0

joined : {V : Type 0} (one : List ℕ → Read V) (all : ℕ → List ℕ → Read (List V)) (n : ℕ) (bytes : List ℕ) → (one_and one all n bytes >>= as_list) ≡ several one all n bytes
joined one all n bytes =
    bind_assoc (one bytes) (λ v. all n v.1 >>= with_first v.0) as_list
    ∙ (λ i. one bytes >>= λ v. bind_assoc (all n v.1) (with_first v.0) as_list i)

none_read : {V : Type 0} (F : V → Type 0) (p : V → List (Rule × List ℕ)) (bytes : List ℕ) → Reads (AllSo F 0) (λ vs. flat_map p vs) bytes (Ok ([], bytes))
none_read {V} F p bytes = record {
  takes = λ v rest e.
      let same = ok_is {A = List V × List ℕ} ([], bytes) (v, rest) e in
      subst (λ (z : List V × List ℕ). AllSo F 0 z.0 × (bytes ≡ bytes_of (flat_map p z.0) ++ z.1)) same ((tt, refl), refl);
  again = λ v rest fits e.
      let none : v ≡ [] = none_is v fits.1 in
      λ i. Ok (sym none i, (e ∙ ap (λ (z : List V). bytes_of (flat_map p z) ++ rest) none) i);
  breaks = λ b e. absurd (ok_or_err {A = List V × List ℕ} ([], bytes) b e);
}

pub repeated : {V : Type 0} (F : V → Type 0) (p : V → List (Rule × List ℕ)) (one : List ℕ → Read V) (all : ℕ → List ℕ → Read (List V))
    → ((bytes : List ℕ) → all zero bytes ≡ Ok ([], bytes)) → ((n : ℕ) (bytes : List ℕ) → all (suc n) bytes ≡ several one all n bytes)
    → ((bytes : List ℕ) → Reads F p bytes (one bytes))
    → (n : ℕ) (bytes : List ℕ) → Reads (AllSo F n) (λ vs. flat_map p vs) bytes (all n bytes)
repeated {V} F p one all none more reads zero bytes = subst (λ (r : Read (List V)). Reads (AllSo F 0) (λ vs. flat_map p vs) bytes r) (sym (none bytes)) (none_read F p bytes)
repeated {V} F p one all none more reads (suc n) bytes =
    subst (λ (r : Read (List V)). Reads (AllSo F (suc n)) (λ vs. flat_map p vs) bytes r) (joined one all n bytes ∙ sym (more n bytes))
    (mapped (OneAnd F n) (λ both. p both.0 ++ flat_map p both.1) (AllSo F (suc n)) (λ vs. flat_map p vs) (λ both. both.0 ∷ both.1)
    (λ both h. ((h.one, h.others.0), ap suc h.others.1))
    (λ vs h. parted F n vs h)
    (λ both. refl)
    bytes (one_and one all n bytes)
    (after F p (Behind F n) (λ both. flat_map p both.1) (OneAnd F n) (λ both. both.0)
    (λ both h. (h.one, record { first = refl; others = h.others }))
    (λ v both hv h. (record { one = subst F (sym h.first) hv; others = h.others }, h.first))
    (λ v hv. let k = many F n v hv in ((v, k.0), record { first = refl; others = k.1 }))
    one reads
    (λ v. all n v.1 >>= λ vs. Ok ((v.0, vs.0), vs.1))
    (λ v rest hv. mapped (AllSo F n) (λ vs. flat_map p vs) (Behind F n v) (λ both. flat_map p both.1) (λ vs. (v, vs))
    (λ vs h. record { first = refl; others = h })
    (λ both h. (both.1, h.others, λ i. (h.first i, both.1)))
    (λ vs. refl)
    rest (all n rest) (repeated F p one all none more reads n rest))
    bytes))
