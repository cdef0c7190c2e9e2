-- Reading by a form: what is read has the form, what has the form is read, and where reading ends nothing of the form goes on.
use Rattle.std.proofs.Common.{◌≡◌, ℕ, suc, ◌+◌, List, [], ◌∷◌, ◌++◌, length, refl, sym, ap, subst, ◌∙◌, append_assoc, arith, inl, inr}
use Rattle.std.specs.Prelude.{Some, Result, Ok, Err, replicate, slice_get}
use Rattle.std.proofs.lemmas.List.{append-nil, length-append}
use Rattle.tx_script.specs.declared.error.Broken.{Broken}
use Rattle.tx_script.specs.declared.error.Rule.{Rule}
use Rattle.tx_script.specs.Text.{bytes_of, rules_of}
use Rattle.tx_script.specs.Reading.{Read, ◌>>=◌}
use Rattle.tx_script.proofs.Parts.{two_fronts, slice_get-append_left, slice_get-append_right, slice_get-replicate, bytes_of-append, rules_of-append, length-rules_of}

-- reading ended there: some value's bytes begin with those before, none goes on with the next one, and what would have
-- to come belongs to an element of the rule
pub record Breaks {V : Type 0} (F : V → Type 0) (p : V → List (Rule × List ℕ)) (bytes : List ℕ) (b : Broken) : Type 0 where
  pub read : List ℕ
  pub rest : List ℕ
  pub split : bytes ≡ read ++ rest
  pub left : length rest ≡ b.left
  pub whose : V
  pub more : List ℕ
  pub fits : F whose
  pub begins : bytes_of (p whose) ≡ read ++ more
  pub next : (v : V) (c : ℕ) (after : List ℕ) → F v → bytes_of (p v) ≡ read ++ c ∷ after → slice_get (rules_of (p v)) (length read) ≡ Some b.rule
  pub none : (v : V) (c : ℕ) (after others : List ℕ) → F v → rest ≡ c ∷ others → bytes_of (p v) ≡ read ++ c ∷ after → ⊥

-- what reading a value that fits gives at the front of bytes
pub record Reads {V : Type 0} (F : V → Type 0) (p : V → List (Rule × List ℕ)) (bytes : List ℕ) (r : Read V) : Type 0 where
  pub takes : (v : V) (rest : List ℕ) → r ≡ Ok (v, rest) → F v × (bytes ≡ bytes_of (p v) ++ rest)
  pub again : (v : V) (rest : List ℕ) → F v → bytes ≡ bytes_of (p v) ++ rest → r ≡ Ok (v, rest)
  pub breaks : (b : Broken) → r ≡ Err b → Breaks F p bytes b

abbrev pub done : {A : Type 0} → A → Result A Broken
done x = Ok x

abbrev pub failed : {A : Type 0} → Broken → Result A Broken
failed b = Err b

pub ok_is : {A : Type 0} (x y : A) → done x ≡ done y → x ≡ y
ok_is x y e = cc

pub err_is : {A : Type 0} (d b : Broken) → failed {A = A} d ≡ failed {A = A} b → d ≡ b
err_is d b e = cc

pub ok_or_err : {A : Type 0} (x : A) (b : Broken) → done x ≡ failed {A = A} b → ⊥
ok_or_err x b e = cc

-- two values that are read at one front are one
pub one_value : {V : Type 0} (F : V → Type 0) (p : V → List (Rule × List ℕ)) (r : List ℕ → Read V)
    → ((bytes : List ℕ) → Reads F p bytes (r bytes)) → (v w : V) (x y : List ℕ) → F v → F w
    → bytes_of (p v) ++ x ≡ bytes_of (p w) ++ y → (v ≡ w) × (x ≡ y)
one_value {V} F p r reads v w x y fv fw e =
    let first : r (bytes_of (p v) ++ x) ≡ Ok (v, x) = (reads (bytes_of (p v) ++ x)).again v x fv refl in
    let second : r (bytes_of (p v) ++ x) ≡ Ok (w, y) = (reads (bytes_of (p v) ++ x)).again w y fw e in
    let same : (v, x) ≡ (w, y) = ok_is {A = V × List ℕ} (v, x) (w, y) (sym first ∙ second) in
    (ap (λ (z : V × List ℕ). z.0) same, ap (λ (z : V × List ℕ). z.1) same)

-- one value and then, as it says, the rest of a greater one
pub after : {V U : Type 0} (F1 : V → Type 0) (p1 : V → List (Rule × List ℕ)) (F2 : V → U → Type 0) (p2 : U → List (Rule × List ℕ))
    (F : U → Type 0) (part : U → V)
    → ((u : U) → F u → F1 (part u) × F2 (part u) u)
    → ((v : V) (u : U) → F1 v → F2 v u → F u × (part u ≡ v))
    → ((v : V) → F1 v → (u : U) × F2 v u)
    → (r : List ℕ → Read V) → ((bytes : List ℕ) → Reads F1 p1 bytes (r bytes))
    → (f : V × List ℕ → Read U) → ((v : V) (rest : List ℕ) → F1 v → Reads (F2 v) p2 rest (f (v, rest)))
    → (bytes : List ℕ) → Reads F (λ u. p1 (part u) ++ p2 u) bytes (r bytes >>= f)
after {V} {U} F1 p1 F2 p2 F part to from some r first f others bytes = go (r bytes) refl
  where
    p : U → List (Rule × List ℕ)
    p u = p1 (part u) ++ p2 u

    front : V → List ℕ
    front v = bytes_of (p1 v)

    whole : (u : U) → bytes_of (p u) ≡ front (part u) ++ bytes_of (p2 u)
    whole u = bytes_of-append (p1 (part u)) (p2 u)

    -- the place of a byte behind the first part, among the rules
    behind : (u : U) (read : List ℕ) (rule : Rule) → slice_get (rules_of (p2 u)) (length read) ≡ Some rule → slice_get (rules_of (p u)) (length (front (part u) ++ read)) ≡ Some rule
    behind u read rule e =
        ap (λ (xs : List Rule). slice_get xs (length (front (part u) ++ read))) (rules_of-append (p1 (part u)) (p2 u))
        ∙ ap (λ (n : ℕ). slice_get (rules_of (p1 (part u)) ++ rules_of (p2 u)) n) (length-append (front (part u)) read ∙ ap (λ (n : ℕ). n + length read) (sym (length-rules_of (p1 (part u)))))
        ∙ slice_get-append_right (rules_of (p1 (part u))) (rules_of (p2 u)) (length read)
        ∙ e

    before : (u : U) (read : List ℕ) (rule : Rule) → slice_get (rules_of (p1 (part u))) (length read) ≡ Some rule → slice_get (rules_of (p u)) (length read) ≡ Some rule
    before u read rule e =
        ap (λ (xs : List Rule). slice_get xs (length read)) (rules_of-append (p1 (part u)) (p2 u))
        ∙ slice_get-append_left (rules_of (p1 (part u))) (rules_of (p2 u)) (length read) rule e

    -- a value whose first part is read at the front: what comes then is its second part
    second : (v : V) (u : U) (x : List ℕ) → F1 v → F u → bytes_of (p u) ≡ front v ++ x → (part u ≡ v) × (F2 v u × (bytes_of (p2 u) ≡ x))
    second v u x fv fu e =
        let parts = to u fu in
        let same = one_value F1 p1 r first (part u) v (bytes_of (p2 u)) x parts.0 fv (sym (whole u) ∙ e) in
        (same.0, (subst (λ (w : V). F2 w u) same.0 parts.1, same.1))

    go : (x : Read V) → r bytes ≡ x → Reads F (λ u. p1 (part u) ++ p2 u) bytes (x >>= f)
    go (Ok x) e =
        let t = (first bytes).takes x.0 x.1 e in
        let reads = others x.0 x.1 t.0 in
        record {
          takes = λ u rest h.
              let s = reads.takes u rest h in
              let j = from x.0 u t.0 s.0 in
              (j.0, t.1 ∙ (λ i. front (sym j.1 i) ++ s.1 i) ∙ sym (append_assoc (front (part u)) (bytes_of (p2 u)) rest) ∙ ap (λ (y : List ℕ). y ++ rest) (sym (whole u)));
          again = λ u rest fu h.
              let parts = to u fu in
              let split : bytes ≡ front (part u) ++ (bytes_of (p2 u) ++ rest) = h ∙ ap (λ (y : List ℕ). y ++ rest) (whole u) ∙ append_assoc (front (part u)) (bytes_of (p2 u)) rest in
              let read = (first bytes).again (part u) (bytes_of (p2 u) ++ rest) parts.0 split in
              let same = ok_is {A = V × List ℕ} x (part u, bytes_of (p2 u) ++ rest) (sym e ∙ read) in
              ap f same ∙ (others (part u) (bytes_of (p2 u) ++ rest) parts.0).again u rest parts.1 refl;
          breaks = λ b h.
              let d = reads.breaks b h in
              let j = from x.0 d.whose t.0 d.fits in
              record {
                read = front x.0 ++ d.read;
                rest = d.rest;
                split = t.1 ∙ ap (λ (y : List ℕ). front x.0 ++ y) d.split ∙ sym (append_assoc (front x.0) d.read d.rest);
                left = d.left;
                whose = d.whose;
                more = d.more;
                fits = j.0;
                begins = whole d.whose ∙ (λ i. front (j.1 i) ++ d.begins i) ∙ sym (append_assoc (front x.0) d.read d.more);
                next = λ u c others_ fu eq.
                    let s = second x.0 u (d.read ++ c ∷ others_) t.0 fu (eq ∙ append_assoc (front x.0) d.read (c ∷ others_)) in
                    subst (λ (v : V). slice_get (rules_of (p u)) (length (front v ++ d.read)) ≡ Some b.rule) s.0 (behind u d.read b.rule (d.next u c others_ s.1.0 s.1.1));
                none = λ u c others_ rest' fu is eq.
                    let s = second x.0 u (d.read ++ c ∷ others_) t.0 fu (eq ∙ append_assoc (front x.0) d.read (c ∷ others_)) in
                    d.none u c others_ rest' s.1.0 is s.1.1;
              };
        }
    go (Err d) e =
        -- the first part of no value is read
        let unread : (u : U) (x : List ℕ) → F u → bytes ≡ front (part u) ++ x → ⊥ = λ u x fu h. ok_or_err {A = V × List ℕ} (part u, x) d (sym ((first bytes).again (part u) x (to u fu).0 h) ∙ e) in
        record {
          takes = λ u rest h. absurd (ok_or_err {A = U × List ℕ} (u, rest) d (sym h));
          again = λ u rest fu h. absurd (unread u (bytes_of (p2 u) ++ rest) fu (h ∙ ap (λ (y : List ℕ). y ++ rest) (whole u) ∙ append_assoc (front (part u)) (bytes_of (p2 u)) rest));
          breaks = λ b h.
              let k = (first bytes).breaks b (e ∙ ap (λ (z : Broken). failed {A = V × List ℕ} z) (err_is {A = U × List ℕ} d b h)) in
              let u0 = some k.whose k.fits in
              let j = from k.whose u0.0 k.fits u0.1 in
              record {
                read = k.read;
                rest = k.rest;
                split = k.split;
                left = k.left;
                whose = u0.0;
                more = k.more ++ bytes_of (p2 u0.0);
                fits = j.0;
                begins = whole u0.0 ∙ ap (λ (v : V). front v ++ bytes_of (p2 u0.0)) j.1 ∙ ap (λ (y : List ℕ). y ++ bytes_of (p2 u0.0)) k.begins ∙ append_assoc k.read k.more (bytes_of (p2 u0.0));
                next = λ u c others_ fu eq.
                    elim (two_fronts (front (part u)) (bytes_of (p2 u)) k.read c others_ (sym (whole u) ∙ eq)) [
                      | inl w ↦ before u k.read b.rule (k.next (part u) c w.0 (to u fu).0 w.1)
                      | inr w ↦ absurd (unread u (w.0 ++ k.rest) fu (k.split ∙ ap (λ (y : List ℕ). y ++ k.rest) w.1 ∙ append_assoc (front (part u)) w.0 k.rest))
                    ];
                none = λ u c others_ rest' fu is eq.
                    elim (two_fronts (front (part u)) (bytes_of (p2 u)) k.read c others_ (sym (whole u) ∙ eq)) [
                      | inl w ↦ k.none (part u) c w.0 rest' (to u fu).0 is w.1
                      | inr w ↦ absurd (unread u (w.0 ++ k.rest) fu (k.split ∙ ap (λ (y : List ℕ). y ++ k.rest) w.1 ∙ append_assoc (front (part u)) w.0 k.rest))
                    ];
              };
        }

-- reading ended within one element
pub record Stops {V : Type 0} (F : V → Type 0) (t : V → List ℕ) (bytes : List ℕ) (rule : Rule) (b : Broken) : Type 0 where
  pub read : List ℕ
  pub rest : List ℕ
  pub split : bytes ≡ read ++ rest
  pub left : length rest ≡ b.left
  pub rule_is : b.rule ≡ rule
  pub whose : V
  pub more : List ℕ
  pub fits : F whose
  pub begins : t whose ≡ read ++ more
  pub none : (v : V) (c : ℕ) (after others : List ℕ) → F v → rest ≡ c ∷ others → t v ≡ read ++ c ∷ after → ⊥

-- a value of one element
pub of_element : {V : Type 0} (F : V → Type 0) (t : V → List ℕ) (rule : Rule) (bytes : List ℕ) (r : Read V)
    → ((v : V) (rest : List ℕ) → r ≡ Ok (v, rest) → F v × (bytes ≡ t v ++ rest))
    → ((v : V) (rest : List ℕ) → F v → bytes ≡ t v ++ rest → r ≡ Ok (v, rest))
    → ((b : Broken) → r ≡ Err b → Stops F t bytes rule b)
    → Reads F (λ v. (rule, t v) ∷ []) bytes r
of_element {V} F t rule bytes r takes again stops = record {
  takes = λ v rest e. let k = takes v rest e in (k.0, k.1 ∙ ap (λ (y : List ℕ). y ++ rest) (sym (append-nil (t v))));
  again = λ v rest fits e. again v rest fits (e ∙ ap (λ (y : List ℕ). y ++ rest) (append-nil (t v)));
  breaks = λ b e.
      let k = stops b e in
      record {
        read = k.read;
        rest = k.rest;
        split = k.split;
        left = k.left;
        whose = k.whose;
        more = k.more;
        fits = k.fits;
        begins = append-nil (t k.whose) ∙ k.begins;
        next = λ v c after_ fits eq.
            let long : length (t v) ≡ length k.read + suc (length after_) = ap length (sym (append-nil (t v)) ∙ eq) ∙ length-append k.read (c ∷ after_) in
            slice_get-append_left (replicate (length (t v)) rule) [] (length k.read) b.rule
            (slice_get-replicate (length (t v)) rule (length k.read) (omega arith) ∙ ap (λ (x : Rule). Some x) (sym k.rule_is));
        none = λ v c after_ others fits is eq. k.none v c after_ others fits is (sym (append-nil (t v)) ∙ eq);
      };
}

-- what is shown of a value from its form alone is shown of it from any other form with the same values
pub refit : {V : Type 0} (F G : V → Type 0) (p : V → List (Rule × List ℕ)) (bytes : List ℕ) (r : Read V)
    → ((v : V) → F v → G v) → ((v : V) → G v → F v) → Reads F p bytes r → Reads G p bytes r
refit {V} F G p bytes r to from reads = record {
  takes = λ v rest e. let k = reads.takes v rest e in (to v k.0, k.1);
  again = λ v rest fits e. reads.again v rest (from v fits) e;
  breaks = λ b e.
      let k = reads.breaks b e in
      record {
        read = k.read;
        rest = k.rest;
        split = k.split;
        left = k.left;
        whose = k.whose;
        more = k.more;
        fits = to k.whose k.fits;
        begins = k.begins;
        next = λ v c after_ fits eq. k.next v c after_ (from v fits) eq;
        none = λ v c after_ others fits is eq. k.none v c after_ others (from v fits) is eq;
      };
}

-- the same elements by another name
pub renamed : {V : Type 0} (F : V → Type 0) (p q : V → List (Rule × List ℕ)) (bytes : List ℕ) (r : Read V) → ((v : V) → p v ≡ q v) → Reads F p bytes r → Reads F q bytes r
renamed {V} F p q bytes r e reads = subst (λ (x : V → List (Rule × List ℕ)). Reads F x bytes r) (λ i v. e v i) reads

-- a value that stands for the one that is read
pub mapped : {V U : Type 0} (F : V → Type 0) (p : V → List (Rule × List ℕ)) (G : U → Type 0) (q : U → List (Rule × List ℕ)) (f : V → U)
    → ((v : V) → F v → G (f v)) → ((u : U) → G u → (v : V) × F v × (u ≡ f v)) → ((v : V) → q (f v) ≡ p v)
    → (bytes : List ℕ) (r : Read V) → Reads F p bytes r → Reads G q bytes (r >>= λ x. Ok (f x.0, x.1))
mapped {V} {U} F p G q f to from same bytes r reads = go r reads
  where
    text : (v : V) → bytes_of (q (f v)) ≡ bytes_of (p v)
    text v = ap bytes_of (same v)

    go : (x : Read V) → Reads F p bytes x → Reads G q bytes (x >>= λ y. Ok (f y.0, y.1))
    go (Ok x) reads = record {
      takes = λ u rest e.
          let is = ok_is {A = U × List ℕ} (f x.0, x.1) (u, rest) e in
          let k = reads.takes x.0 x.1 refl in
          subst (λ (z : U × List ℕ). G z.0 × (bytes ≡ bytes_of (q z.0) ++ z.1)) is (to x.0 k.0, k.1 ∙ ap (λ (y : List ℕ). y ++ x.1) (sym (text x.0)));
      again = λ u rest gu e.
          let v = from u gu in
          let k = ok_is {A = V × List ℕ} x (v.0, rest) (reads.again v.0 rest v.1 (e ∙ ap (λ (z : U). bytes_of (q z) ++ rest) v.2 ∙ ap (λ (y : List ℕ). y ++ rest) (text v.0))) in
          (λ i. Ok (f (k i).0, (k i).1)) ∙ (λ i. Ok (sym v.2 i, rest));
      breaks = λ b e. absurd (ok_or_err {A = U × List ℕ} (f x.0, x.1) b e);
    }
    go (Err d) reads = record {
      takes = λ u rest e. absurd (ok_or_err {A = U × List ℕ} (u, rest) d (sym e));
      again = λ u rest gu e.
          let v = from u gu in
          absurd (ok_or_err {A = V × List ℕ} (v.0, rest) d (sym (reads.again v.0 rest v.1 (e ∙ ap (λ (z : U). bytes_of (q z) ++ rest) v.2 ∙ ap (λ (y : List ℕ). y ++ rest) (text v.0)))));
      breaks = λ b e.
          let k = reads.breaks b (ap (λ (z : Broken). failed {A = V × List ℕ} z) (err_is {A = U × List ℕ} d b e)) in
          record {
            read = k.read;
            rest = k.rest;
            split = k.split;
            left = k.left;
            whose = f k.whose;
            more = k.more;
            fits = to k.whose k.fits;
            begins = text k.whose ∙ k.begins;
            next = λ u c others gu eq.
                let v = from u gu in
                let is = k.next v.0 c others v.1 (sym (text v.0) ∙ ap (λ (z : U). bytes_of (q z)) (sym v.2) ∙ eq) in
                ap (λ (z : U). slice_get (rules_of (q z)) (length k.read)) v.2 ∙ ap (λ (z : List (Rule × List ℕ)). slice_get (rules_of z) (length k.read)) (same v.0) ∙ is;
            none = λ u c others rest' gu is eq.
                let v = from u gu in
                k.none v.0 c others rest' v.1 is (sym (text v.0) ∙ ap (λ (z : U). bytes_of (q z)) (sym v.2) ∙ eq);
          };
    }
