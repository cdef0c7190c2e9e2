-- Reading byte by byte up to a last one.
use Rattle.std.proofs.Common.{◌≡◌, ℕ, suc, ◌+◌, Bool, true, false, cond, eqb, List, [], ◌∷◌, ◌++◌, length, refl, sym, ap, subst, ◌∙◌, append_assoc, arith, ◌⊎◌, inl, inr}
use Rattle.std.specs.Prelude.{Option, Some, None, Ok}
use Rattle.std.proofs.lemmas.Bool.{eqb-true, eqb-false}
use Rattle.std.proofs.lemmas.List.{append-nil, length-append, append_cancel_left}
use Rattle.tx_script.specs.declared.error.Broken.{Broken}
use Rattle.tx_script.specs.declared.error.Rule.{Rule}
use Rattle.tx_script.specs.Reading.{Read, scan, stopped}
use Rattle.tx_script.proofs.Parts.{two_fronts}
use Rattle.tx_script.proofs.Forms.{Reads, Stops, of_element, done, failed, ok_is, err_is, ok_or_err}

-- what is known of the bytes so far decides how a value's text t v goes on, and the last byte is in no such text
pub record Follows {S V : Type 0} (last : ℕ) (give : S → Option V) (go : S → ℕ → Option S) (F : V → Type 0) (t : V → List ℕ) (Good : S → Type 0) (shown : S → List ℕ) : Type 0 where
  pub gives : (s : S) (v : V) → Good s → give s ≡ Some v → F v × (t v ≡ shown s)
  pub given : (s : S) (v : V) → Good s → F v → t v ≡ shown s → give s ≡ Some v
  pub goes : (s : S) (c : ℕ) (s' : S) → Good s → go s c ≡ Some s' → Good s' × (shown s' ≡ shown s ++ c ∷ [])
  pub gone : (s : S) (c : ℕ) (v : V) (more : List ℕ) → Good s → go s c ≡ None → F v → t v ≡ shown s ++ c ∷ more → ⊥
  pub ahead : (s : S) → Good s → (v : V) × (more : List ℕ) × F v × (t v ≡ shown s ++ more)
  pub apart : (v : V) (front more : List ℕ) → F v → t v ≡ front ++ last ∷ more → ⊥

pub some_or_none : {A : Type 0} (x : A) → None ≡ Some x → ⊥
some_or_none x e = cc

pub some_is : {A : Type 0} (x y : A) → Some x ≡ Some y → x ≡ y
some_is x y e = cc

-- the four ways on, with what is read by each
data Turn {S V : Type 0} (rule : Rule) (last : ℕ) (give : S → Option V) (go : S → ℕ → Option S) (s : S) (c : ℕ) (bytes : List ℕ) : Read V → Type 0 where
  Ends : (v : V) → c ≡ last → give s ≡ Some v → Turn rule last give go s c bytes (Ok (v, bytes))
  Early : c ≡ last → give s ≡ None → Turn rule last give go s c bytes (stopped rule (c ∷ bytes))
  Goes : (s' : S) → (c ≡ last → ⊥) → go s c ≡ Some s' → Turn rule last give go s c bytes (scan rule last give go s' bytes)
  Fails : (c ≡ last → ⊥) → go s c ≡ None → Turn rule last give go s c bytes (stopped rule (c ∷ bytes))

turn_of : {S V : Type 0} (rule : Rule) (last : ℕ) (give : S → Option V) (go : S → ℕ → Option S) (s : S) (c : ℕ) (bytes : List ℕ)
    → Turn rule last give go s c bytes (scan rule last give go s (c ∷ bytes))
turn_of {S} {V} rule last give go s c bytes = at_byte (eqb c last) refl
  where
    at_end : c ≡ last → (o : Option V) → give s ≡ o
        → Turn rule last give go s c bytes (elim o [ None ↦ stopped rule (c ∷ bytes) | Some value ↦ Ok (value, bytes) ])
    at_end is None e = Early is e
    at_end is (Some v) e = Ends v is e

    further : (c ≡ last → ⊥) → (o : Option S) → go s c ≡ o
        → Turn rule last give go s c bytes (elim o [ None ↦ stopped rule (c ∷ bytes) | Some next ↦ scan rule last give go next bytes ])
    further is None e = Fails is e
    further is (Some s') e = Goes s' is e

    at_byte : (b : Bool) → eqb c last ≡ b
        → Turn rule last give go s c bytes (cond b (elim (give s) [ None ↦ stopped rule (c ∷ bytes) | Some value ↦ Ok (value, bytes) ])
        (elim (go s c) [ None ↦ stopped rule (c ∷ bytes) | Some next ↦ scan rule last give go next bytes ]))
    at_byte true e = at_end (eqb-true c last e) (give s) refl
    at_byte false e = further (eqb-false c last e) (go s c) refl

-- the text of a value with the last byte
abbrev whole : {V : Type 0} → ℕ → (V → List ℕ) → V → List ℕ
whole last t v = t v ++ last ∷ []

regroup : (a : List ℕ) (x : ℕ) (b : List ℕ) → (a ++ x ∷ []) ++ b ≡ a ++ x ∷ b
regroup a x b = append_assoc a (x ∷ []) b

-- a text without the last byte, and with it, parted in another way
cut : (a front : List ℕ) (last c : ℕ) (after : List ℕ) → a ++ last ∷ [] ≡ front ++ c ∷ after
    → ((m : List ℕ) × (a ≡ front ++ c ∷ m)) ⊎ ((a ≡ front) × (last ≡ c))
cut a front last c after e =
    elim (two_fronts a (last ∷ []) front c after e) [
      | inl f ↦ inl f
      | inr f ↦ inr (ended f.0 f.1)
    ]
  where
    ended : (m : List ℕ) → front ≡ a ++ m → (a ≡ front) × (last ≡ c)
    ended m is =
        let rest : last ∷ [] ≡ m ++ c ∷ after = append_cancel_left a (last ∷ []) (m ++ c ∷ after) (e ∙ ap (λ (x : List ℕ). x ++ c ∷ after) is ∙ append_assoc a m (c ∷ after)) in
        alone m is rest
      where
        alone : (m : List ℕ) → front ≡ a ++ m → last ∷ [] ≡ m ++ c ∷ after → (a ≡ front) × (last ≡ c)
        alone [] is rest = (sym (append-nil a) ∙ sym is, cc)
        alone (x ∷ m) is rest =
            let long : 1 ≡ suc (length m + suc (length after)) = ap length rest ∙ ap suc (length-append m (c ∷ after)) in
            absurd (omega arith)

-- the same for a text behind which more stands
cut_more : (a front : List ℕ) (last : ℕ) (rest : List ℕ) (c : ℕ) (after : List ℕ) → front ++ c ∷ after ≡ a ++ last ∷ rest
    → ((m : List ℕ) × (front ≡ a ++ last ∷ m)) ⊎ (((m : List ℕ) × (a ≡ front ++ c ∷ m) × (after ≡ m ++ last ∷ rest)) ⊎ ((a ≡ front) × (last ≡ c) × (after ≡ rest)))
cut_more a front last rest c after e =
    elim (two_fronts front (c ∷ after) a last rest e) [
      | inl f ↦ inl f
      | inr f ↦ inr (behind f.0 f.1)
    ]
  where
    alone : (m : List ℕ) → a ≡ front ++ m → c ∷ after ≡ m ++ last ∷ rest
        → ((m : List ℕ) × (a ≡ front ++ c ∷ m) × (after ≡ m ++ last ∷ rest)) ⊎ ((a ≡ front) × (last ≡ c) × (after ≡ rest))
    alone [] is eq = inr (is ∙ append-nil front, cc, cc)
    alone (x ∷ m) is eq =
        let same : x ≡ c = cc in
        let tail : after ≡ m ++ last ∷ rest = cc in
        inl (m, is ∙ ap (λ (y : ℕ). front ++ y ∷ m) same, tail)

    behind : (m : List ℕ) → a ≡ front ++ m
        → ((m : List ℕ) × (a ≡ front ++ c ∷ m) × (after ≡ m ++ last ∷ rest)) ⊎ ((a ≡ front) × (last ≡ c) × (after ≡ rest))
    behind m is = alone m is (append_cancel_left front (c ∷ after) (m ++ last ∷ rest) (e ∙ ap (λ (x : List ℕ). x ++ last ∷ rest) is ∙ append_assoc front m (last ∷ rest)))

-- the bytes so far hold no last byte
no_last : {S V : Type 0} (last : ℕ) (give : S → Option V) (go : S → ℕ → Option S) (F : V → Type 0) (t : V → List ℕ) (Good : S → Type 0) (shown : S → List ℕ)
    → Follows last give go F t Good shown → (s : S) → Good s → (front more : List ℕ) → shown s ≡ front ++ last ∷ more → ⊥
no_last last give go F t Good shown f s good front more e =
    let k = f.ahead s good in
    f.apart k.0 front (more ++ k.1) k.2 (k.3 ∙ ap (λ (x : List ℕ). x ++ k.1) e ∙ append_assoc front (last ∷ more) k.1)

pub scan_takes : {S V : Type 0} (rule : Rule) (last : ℕ) (give : S → Option V) (go : S → ℕ → Option S) (F : V → Type 0) (t : V → List ℕ) (Good : S → Type 0) (shown : S → List ℕ)
    → Follows last give go F t Good shown → (bytes : List ℕ) (s : S) → Good s → (v : V) (rest : List ℕ)
    → scan rule last give go s bytes ≡ done (v, rest) → F v × (shown s ++ bytes ≡ whole last t v ++ rest)
scan_takes {S} {V} rule last give go F t Good shown f [] s good v rest e = absurd (ok_or_err {A = V × List ℕ} (v, rest) _ (sym e))
scan_takes {S} {V} rule last give go F t Good shown f (c ∷ bytes) s good v rest e =
    by (λ s' good' e'. scan_takes rule last give go F t Good shown f bytes s' good' v rest e') _ (turn_of rule last give go s c bytes) e
  where
    by : ((s' : S) → Good s' → scan rule last give go s' bytes ≡ done (v, rest) → F v × (shown s' ++ bytes ≡ whole last t v ++ rest))
        → (r : Read V) → Turn rule last give go s c bytes r → r ≡ done (v, rest) → F v × (shown s ++ c ∷ bytes ≡ whole last t v ++ rest)
    by others r (Ends w is gave) e =
        let same = ok_is {A = V × List ℕ} (w, bytes) (v, rest) e in
        let k = f.gives s w good gave in
        subst (λ (z : V × List ℕ). F z.0 × (shown s ++ c ∷ bytes ≡ whole last t z.0 ++ z.1)) same
        (k.0, (λ i. sym k.1 i ++ is i ∷ bytes) ∙ sym (regroup (t w) last bytes))
    by others r (Early is none) e = absurd (ok_or_err {A = V × List ℕ} (v, rest) _ (sym e))
    by others r (Goes s' is goes) e =
        let k = f.goes s c s' good goes in
        let j = others s' k.0 e in
        (j.0, sym (ap (λ (x : List ℕ). x ++ bytes) k.1 ∙ regroup (shown s) c bytes) ∙ j.1)
    by others r (Fails is gone) e = absurd (ok_or_err {A = V × List ℕ} (v, rest) _ (sym e))

pub scan_again : {S V : Type 0} (rule : Rule) (last : ℕ) (give : S → Option V) (go : S → ℕ → Option S) (F : V → Type 0) (t : V → List ℕ) (Good : S → Type 0) (shown : S → List ℕ)
    → Follows last give go F t Good shown → (bytes : List ℕ) (s : S) → Good s → (v : V) (rest : List ℕ)
    → F v → shown s ++ bytes ≡ t v ++ last ∷ rest → scan rule last give go s bytes ≡ done (v, rest)
scan_again rule last give go F t Good shown f [] s good v rest fits e =
    absurd (no_last last give go F t Good shown f s good (t v) rest (sym (append-nil (shown s)) ∙ e))
scan_again {S} {V} rule last give go F t Good shown f (c ∷ bytes) s good v rest fits e =
    by (λ s' good' e'. scan_again rule last give go F t Good shown f bytes s' good' v rest fits e') _ (turn_of rule last give go s c bytes) (cut_more (t v) (shown s) last rest c bytes e)
  where
    by : ((s' : S) → Good s' → shown s' ++ bytes ≡ t v ++ last ∷ rest → scan rule last give go s' bytes ≡ done (v, rest))
        → (r : Read V) → Turn rule last give go s c bytes r
        → ((m : List ℕ) × (shown s ≡ t v ++ last ∷ m)) ⊎ (((m : List ℕ) × (t v ≡ shown s ++ c ∷ m) × (bytes ≡ m ++ last ∷ rest)) ⊎ ((t v ≡ shown s) × (last ≡ c) × (bytes ≡ rest)))
        → r ≡ done (v, rest)
    by others r turn (inl past) = absurd (no_last last give go F t Good shown f s good (t v) past.0 past.1)
    by others r (Ends w is gave) (inr (inl far)) = absurd (f.apart v (shown s) far.0 fits (far.1 ∙ ap (λ (x : ℕ). shown s ++ x ∷ far.0) is))
    by others r (Ends w is gave) (inr (inr at)) =
        let same = some_is w v (sym gave ∙ f.given s v good fits at.0) in
        λ i. Ok (same i, at.2 i)
    by others r (Early is none) (inr (inl far)) = absurd (f.apart v (shown s) far.0 fits (far.1 ∙ ap (λ (x : ℕ). shown s ++ x ∷ far.0) is))
    by others r (Early is none) (inr (inr at)) = absurd (some_or_none v (sym none ∙ f.given s v good fits at.0))
    by others r (Goes s' is goes) (inr (inl far)) =
        let k = f.goes s c s' good goes in
        others s' k.0 (ap (λ (x : List ℕ). x ++ bytes) k.1 ∙ regroup (shown s) c bytes ∙ e)
    by others r (Goes s' is goes) (inr (inr at)) = absurd (is (sym at.1))
    by others r (Fails is gone) (inr (inl far)) = absurd (f.gone s c v far.0 good gone fits far.1)
    by others r (Fails is gone) (inr (inr at)) = absurd (is (sym at.1))

pub scan_stops : {S V : Type 0} (rule : Rule) (last : ℕ) (give : S → Option V) (go : S → ℕ → Option S) (F : V → Type 0) (t : V → List ℕ) (Good : S → Type 0) (shown : S → List ℕ)
    → Follows last give go F t Good shown → (bytes : List ℕ) (s : S) → Good s → (b : Broken)
    → scan rule last give go s bytes ≡ failed b → Stops F (whole last t) (shown s ++ bytes) rule b
scan_stops {S} {V} rule last give go F t Good shown f [] s good b e =
    let is = err_is {A = V × List ℕ} (record { left = 0; rule = rule }) b e in
    let k = f.ahead s good in
    record {
      read = shown s ++ [];
      rest = [];
      split = sym (append-nil (shown s ++ []));
      left = ap (λ (x : Broken). x.left) is;
      rule_is = ap (λ (x : Broken). x.rule) (sym is);
      whose = k.0;
      more = k.1 ++ last ∷ [];
      fits = k.2;
      begins = ap (λ (x : List ℕ). x ++ last ∷ []) (k.3 ∙ ap (λ (x : List ℕ). x ++ k.1) (sym (append-nil (shown s)))) ∙ append_assoc (shown s ++ []) k.1 (last ∷ []);
      none = λ v c after others fits is_ eq. absurd cc;
    }
scan_stops {S} {V} rule last give go F t Good shown f (c ∷ bytes) s good b e =
    by (λ s' good' e'. scan_stops rule last give go F t Good shown f bytes s' good' b e') _ (turn_of rule last give go s c bytes) e
  where
    -- reading ended before this byte, where no text goes on with it
    here : stopped {A = V × List ℕ} rule (c ∷ bytes) ≡ failed b → ((v : V) (after : List ℕ) → F v → whole last t v ≡ shown s ++ c ∷ after → ⊥)
        → Stops F (whole last t) (shown s ++ c ∷ bytes) rule b
    here e none =
        let is = err_is {A = V × List ℕ} (record { left = length (c ∷ bytes); rule = rule }) b e in
        let k = f.ahead s good in
        record {
          read = shown s;
          rest = c ∷ bytes;
          split = refl;
          left = ap (λ (x : Broken). x.left) is;
          rule_is = ap (λ (x : Broken). x.rule) (sym is);
          whose = k.0;
          more = k.1 ++ last ∷ [];
          fits = k.2;
          begins = ap (λ (x : List ℕ). x ++ last ∷ []) k.3 ∙ append_assoc (shown s) k.1 (last ∷ []);
          none = λ v c' after others fits is_ eq.
              let same : c' ≡ c = cc in
              none v after fits (eq ∙ ap (λ (x : ℕ). shown s ++ x ∷ after) same);
        }

    by : ((s' : S) → Good s' → scan rule last give go s' bytes ≡ failed b → Stops F (whole last t) (shown s' ++ bytes) rule b)
        → (r : Read V) → Turn rule last give go s c bytes r → r ≡ failed b → Stops F (whole last t) (shown s ++ c ∷ bytes) rule b
    by others r (Ends w is gave) e = absurd (ok_or_err {A = V × List ℕ} (w, bytes) b e)
    by others r (Early is none) e = here e (λ v after fits eq.
        elim (cut (t v) (shown s) last c after eq) [
          | inl m ↦ f.apart v (shown s) m.0 fits (m.1 ∙ ap (λ (x : ℕ). shown s ++ x ∷ m.0) is)
          | inr at ↦ some_or_none v (sym none ∙ f.given s v good fits at.0)
        ])
    by others r (Goes s' is goes) e =
        let k = f.goes s c s' good goes in
        subst (λ (x : List ℕ). Stops F (whole last t) x rule b) (ap (λ (x : List ℕ). x ++ bytes) k.1 ∙ regroup (shown s) c bytes) (others s' k.0 e)
    by others r (Fails is gone) e = here e (λ v after fits eq.
        elim (cut (t v) (shown s) last c after eq) [
          | inl m ↦ f.gone s c v m.0 good gone fits m.1
          | inr at ↦ is (sym at.1)
        ])

pub scan_reads : {S V : Type 0} (rule : Rule) (last : ℕ) (give : S → Option V) (go : S → ℕ → Option S) (F : V → Type 0) (t : V → List ℕ) (Good : S → Type 0) (shown : S → List ℕ)
    → Follows last give go F t Good shown → (s : S) → Good s → shown s ≡ [] → (bytes : List ℕ)
    → Reads F (λ v. (rule, t v ++ last ∷ []) ∷ []) bytes (scan rule last give go s bytes)
scan_reads {S} {V} rule last give go F t Good shown f s good none bytes =
    let start : shown s ++ bytes ≡ bytes = ap (λ (x : List ℕ). x ++ bytes) none in
    of_element F (whole last t) rule bytes (scan rule last give go s bytes)
    (λ v rest e. let k = scan_takes rule last give go F t Good shown f bytes s good v rest e in (k.0, sym start ∙ k.1))
    (λ v rest fits e. scan_again rule last give go F t Good shown f bytes s good v rest fits (start ∙ e ∙ regroup (t v) last rest))
    (λ b e. subst (λ (x : List ℕ). Stops F (whole last t) x rule b) start (scan_stops rule last give go F t Good shown f bytes s good b e))
