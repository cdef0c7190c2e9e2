-- Reading a given text.
use Rattle.std.proofs.Common.{◌≡◌, ℕ, ◌<◌, Bool, true, false, cond, eqb, List, [], ◌∷◌, ◌++◌, length, refl, sym, ap, ◌∙◌, arith}
use Rattle.std.specs.Prelude.{Result, Ok, Err}
use Rattle.std.proofs.lemmas.Bool.{eqb-true, eqb-false, eq-eqb}
use Rattle.tx_script.specs.declared.error.Broken.{Broken}
use Rattle.tx_script.specs.declared.error.Rule.{Rule}
use Rattle.tx_script.specs.Reading.{◌>>=◌, literal_at, stopped}
use Rattle.tx_script.proofs.Forms.{Reads, of_element, done, failed, ok_is, err_is, ok_or_err}

-- nothing is left, and the text isn't at its end
pub literal_at-end : (rule : Rule) (wanted rest : List ℕ) → 0 < length wanted → length rest < 1 → literal_at rule wanted rest ≡ stopped rule rest
literal_at-end rule [] rest h e = absurd (omega arith)
literal_at-end rule (w ∷ wanted) [] h e = refl
literal_at-end rule (w ∷ wanted) (b ∷ rest) h e = absurd (omega arith)

pub literal_takes : (rule : Rule) (wanted bytes rest : List ℕ) → literal_at rule wanted bytes ≡ done rest → bytes ≡ wanted ++ rest
literal_takes rule [] bytes rest e = ok_is bytes rest e
literal_takes rule (w ∷ wanted) [] rest e = absurd (ok_or_err rest _ (sym e))
literal_takes rule (w ∷ wanted) (b ∷ bytes) rest e = by (literal_takes rule wanted bytes rest) (eqb b w) refl e
  where
    by : (literal_at rule wanted bytes ≡ done rest → bytes ≡ wanted ++ rest) → (t : Bool) → eqb b w ≡ t → cond t (literal_at rule wanted bytes) (stopped rule (b ∷ bytes)) ≡ done rest → b ∷ bytes ≡ w ∷ wanted ++ rest
    by others true is e = let tail = others e in cc (eqb-true b w is)
    by others false is e = absurd (ok_or_err rest _ (sym e))

pub literal_again : (rule : Rule) (wanted bytes rest : List ℕ) → bytes ≡ wanted ++ rest → literal_at rule wanted bytes ≡ done rest
literal_again rule [] bytes rest e = ap (λ (x : List ℕ). done x) e
literal_again rule (w ∷ wanted) [] rest e = absurd cc
literal_again rule (w ∷ wanted) (b ∷ bytes) rest e =
    let same : b ≡ w = cc in
    let tail : bytes ≡ wanted ++ rest = cc in
    rw (eq-eqb b w same) (literal_again rule wanted bytes rest tail)

-- where a given text isn't there
pub record Differs (rule : Rule) (wanted bytes : List ℕ) (b : Broken) : Type 0 where
  pub read : List ℕ
  pub rest : List ℕ
  pub split : bytes ≡ read ++ rest
  pub left : length rest ≡ b.left
  pub rule_is : b.rule ≡ rule
  pub more : List ℕ
  pub begins : wanted ≡ read ++ more
  pub none : (c : ℕ) (after others : List ℕ) → rest ≡ c ∷ others → wanted ≡ read ++ c ∷ after → ⊥

pub literal_breaks : (rule : Rule) (wanted bytes : List ℕ) (b : Broken) → literal_at rule wanted bytes ≡ failed b → Differs rule wanted bytes b
literal_breaks rule [] bytes b e = absurd (ok_or_err bytes b e)
literal_breaks rule (w ∷ wanted) [] b e =
    let is = err_is {A = List ℕ} (record { left = 0; rule = rule }) b e in
    record {
      read = [];
      rest = [];
      split = refl;
      left = ap (λ (x : Broken). x.left) is;
      rule_is = ap (λ (x : Broken). x.rule) (sym is);
      more = w ∷ wanted;
      begins = refl;
      none = λ c after others is_ eq. absurd cc;
    }
literal_breaks rule (w ∷ wanted) (a ∷ bytes) b e = by (literal_breaks rule wanted bytes b) (eqb a w) refl e
  where
    by : (literal_at rule wanted bytes ≡ failed b → Differs rule wanted bytes b) → (t : Bool) → eqb a w ≡ t → cond t (literal_at rule wanted bytes) (stopped rule (a ∷ bytes)) ≡ failed b → Differs rule (w ∷ wanted) (a ∷ bytes) b
    by others true is e =
        let k = others e in
        let same : a ≡ w = eqb-true a w is in
        record {
          read = a ∷ k.read;
          rest = k.rest;
          split = ap (λ (x : List ℕ). a ∷ x) k.split;
          left = k.left;
          rule_is = k.rule_is;
          more = k.more;
          begins = (λ i. sym same i ∷ k.begins i);
          none = λ c after others is_ eq. k.none c after others is_ cc;
        }
    by others false is e =
        let stop = err_is {A = List ℕ} (record { left = length (a ∷ bytes); rule = rule }) b e in
        record {
          read = [];
          rest = a ∷ bytes;
          split = refl;
          left = ap (λ (x : Broken). x.left) stop;
          rule_is = ap (λ (x : Broken). x.rule) (sym stop);
          more = w ∷ wanted;
          begins = refl;
          none = λ c after others is_ eq. eqb-false a w is cc;
        }

-- a value that a given text stands for
pub literal_reads : {V : Type 0} (v0 : V) (rule : Rule) (wanted bytes : List ℕ)
    → Reads (λ v. v ≡ v0) (λ v. (rule, wanted) ∷ []) bytes (literal_at rule wanted bytes >>= λ rest. Ok (v0, rest))
literal_reads {V} v0 rule wanted bytes = go (literal_at rule wanted bytes) refl
  where
    go : (x : Result (List ℕ) Broken) → literal_at rule wanted bytes ≡ x → Reads (λ v. v ≡ v0) (λ v. (rule, wanted) ∷ []) bytes (x >>= λ rest. Ok (v0, rest))
    go (Ok x) e = of_element (λ v. v ≡ v0) (λ v. wanted) rule bytes (Ok (v0, x))
        (λ v rest h.
        let same = ok_is {A = V × List ℕ} (v0, x) (v, rest) h in
        (ap (λ (z : V × List ℕ). z.0) (sym same), literal_takes rule wanted bytes x e ∙ ap (λ (z : V × List ℕ). wanted ++ z.1) same))
        (λ v rest fits h.
        let same = ok_is x rest (sym e ∙ literal_again rule wanted bytes rest h) in
        λ i. Ok (sym fits i, same i))
        (λ b h. absurd (ok_or_err {A = V × List ℕ} (v0, x) b h))
    go (Err d) e = of_element (λ v. v ≡ v0) (λ v. wanted) rule bytes (Err d)
        (λ v rest h. absurd (ok_or_err {A = V × List ℕ} (v, rest) d (sym h)))
        (λ v rest fits h. absurd (ok_or_err rest d (sym (literal_again rule wanted bytes rest h) ∙ e)))
        (λ b h.
        let k = literal_breaks rule wanted bytes b (e ∙ ap (λ (z : Broken). failed {A = List ℕ} z) (err_is {A = V × List ℕ} d b h)) in
        record {
          read = k.read;
          rest = k.rest;
          split = k.split;
          left = k.left;
          rule_is = k.rule_is;
          whose = v0;
          more = k.more;
          fits = refl;
          begins = k.begins;
          none = λ v c after others fits is eq. k.none c after others is eq;
        })
