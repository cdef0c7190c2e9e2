-- Whether two values of plain data are equal.
use Rattle.std.specs.Prelude.{◌≡◌, ℕ, Bool, true, false, ◌&&◌, ◌==◌, refl}
use Rattle.std.specs.Coded.{Coded}
use Rattle.std.proofs.Common.{sym, ap, ◌∙◌, true≢false, nat_eq}
use Rattle.std.proofs.lemmas.Bool.{eqb-true, eq-eqb}
use base.Stored.{Gv, gnil, gnum, gcons}

-- codes are trees of numbers
abbrev pub same_code : Gv → Gv → Bool
same_code gnil gnil = true
same_code (gnum a) (gnum b) = nat_eq a b
same_code (gcons a b) (gcons c d) = same_code a c && same_code b d
same_code _ _ = false

-- values are equal where their codes are
abbrev pub same_by : {A : Type 0} → Coded A → A → A → Bool
same_by coded a b = same_code (coded.code a) (coded.code b)

both : (a b : Bool) → (a && b) ≡ true → (a ≡ true) × (b ≡ true)
both true b h = (refl, h)
both false b h = absurd (true≢false (sym h))

equal_codes : (a b : Gv) → same_code a b ≡ true → a ≡ b
equal_codes gnil gnil is = refl
equal_codes gnil (gnum b) is = absurd (true≢false (sym is))
equal_codes gnil (gcons c d) is = absurd (true≢false (sym is))
equal_codes (gnum a) gnil is = absurd (true≢false (sym is))
equal_codes (gnum a) (gnum b) is = ap gnum (eqb-true a b is)
equal_codes (gnum a) (gcons c d) is = absurd (true≢false (sym is))
equal_codes (gcons a b) gnil is = absurd (true≢false (sym is))
equal_codes (gcons a b) (gnum c) is = absurd (true≢false (sym is))
equal_codes (gcons a b) (gcons c d) is = let parts = both (same_code a c) (same_code b d) is in λ i. gcons (equal_codes a c parts.0 i) (equal_codes b d parts.1 i)

same_itself : (a : Gv) → same_code a a ≡ true
same_itself gnil = refl
same_itself (gnum a) = eq-eqb a a refl
same_itself (gcons a b) = λ i. same_itself a i && same_itself b i

pub same-tells : {A : Type 0} (coded : Coded A) (a b : A) → (same_by coded a b ≡ true → a ≡ b) × (a ≡ b → same_by coded a b ≡ true)
same-tells coded a b = (
  λ is. coded.inj a b (equal_codes (coded.code a) (coded.code b) is),
  λ is. ap (λ x. same_code (coded.code a) (coded.code x)) (sym is) ∙ same_itself (coded.code a),
)
