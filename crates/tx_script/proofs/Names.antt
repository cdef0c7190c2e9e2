-- Reading a name, and bytes of a given number.
use Rattle.std.proofs.Common.{◌≡◌, ℕ, ◌+◌, ◌-◌, ◌<◌, ◌≤◌, Bool, true, false, cond, ltb, List, [], ◌∷◌, ◌++◌, length, take, drop, refl, sym, ap, subst, ◌∙◌, arith}
use Rattle.std.specs.Prelude.{Some, None, Ok, IsTrue, ◌&&◌, nat_le, replicate}
use Rattle.std.specs.List.{list_all}
use Rattle.std.proofs.lemmas.Bool.{ltb-true, lt-ltb, leb-true, leb-false, le-leb, and_parts, and_from, true≢false}
use Rattle.std.proofs.lemmas.List.{append-nil, length-append, length-take, length-replicate, take-append-drop, take_at, drop_at}
use Rattle.std.proofs.lemmas.List.Folds.{list_all-append}
use Rattle.tx_files.specs.Names.{is_name, is_visible}
use Rattle.tx_script.specs.declared.error.Broken.{Broken}
use Rattle.tx_script.specs.declared.error.Rule.TheVariants.{Name, Put}
use Rattle.tx_script.specs.Text.{named}
use Rattle.tx_script.specs.Reading.{name_at, put_at, stopped, whole_name, with_letter}
use Rattle.tx_script.proofs.Forms.{Reads, of_element, ok_is, err_is, ok_or_err}
use Rattle.tx_script.proofs.Scans.{Follows, scan_reads, some_is, some_or_none}

none_or_some : {A : Type 0} (x : A) → Some x ≡ None → ⊥
none_or_some x e = cc

-- the front of a name
Good : List ℕ → Type 0
Good front = (list_all is_visible front ≡ true) × (length front ≤ 255)

pub name_is : (name : List ℕ) → is_name name ≡ true → (0 < length name) × (length name ≤ 255) × (list_all is_visible name ≡ true)
name_is name e =
    let both = and_parts (nat_le 1 (length name) && nat_le (length name) 255) (list_all is_visible name) e in
    let bounds = and_parts (nat_le 1 (length name)) (nat_le (length name) 255) both.0 in
    let low : 1 ≤ length name = leb-true 1 (length name) bounds.0 in
    (omega arith, leb-true (length name) 255 bounds.1, both.1)

is_name_from : (name : List ℕ) → 0 < length name → length name ≤ 255 → list_all is_visible name ≡ true → is_name name ≡ true
is_name_from name low high visible =
    and_from (nat_le 1 (length name) && nat_le (length name) 255) (list_all is_visible name)
    (and_from (nat_le 1 (length name)) (nat_le (length name) 255) (le-leb 1 (length name) (omega arith)) (le-leb (length name) 255 high)) visible

-- the parts of a list of visible characters
visible_parts : (a : List ℕ) (c : ℕ) (b : List ℕ) → list_all is_visible (a ++ c ∷ b) ≡ true → (list_all is_visible a ≡ true) × (is_visible c ≡ true)
visible_parts a c b e =
    let both = and_parts (list_all is_visible a) (list_all is_visible (c ∷ b)) (sym (list_all-append is_visible a (c ∷ b)) ∙ e) in
    (both.0, (and_parts (is_visible c) (list_all is_visible b) both.1).0)

goes : (s : List ℕ) (c : ℕ) (s' : List ℕ) → Good s → with_letter s c ≡ Some s' → Good s' × (s' ≡ s ++ c ∷ [])
unfolding Good
goes s c s' good e = by (ltb (length s) 255 && is_visible c) refl e
  where
    by : (b : Bool) → (ltb (length s) 255 && is_visible c) ≡ b → cond b (Some (s ++ c ∷ [])) None ≡ Some s' → Good s' × (s' ≡ s ++ c ∷ [])
    by true is e =
        let parts = and_parts (ltb (length s) 255) (is_visible c) is in
        let short : length s < 255 = ltb-true (length s) 255 parts.0 in
        let same = some_is (s ++ c ∷ []) s' e in
        subst (λ (z : List ℕ). Good z × (z ≡ s ++ c ∷ [])) same (
          (
            list_all-append is_visible s (c ∷ []) ∙ and_from (list_all is_visible s) (list_all is_visible (c ∷ [])) good.0 (and_from (is_visible c) true parts.1 refl),
            omega (arith, length-append s (c ∷ [])),
          ),
          refl,
        )
    by false is e = absurd (some_or_none s' e)

gone : (s : List ℕ) (c : ℕ) (v more : List ℕ) → Good s → with_letter s c ≡ None → IsTrue (is_name v) → v ≡ s ++ c ∷ more → ⊥
gone s c v more good e fits eq =
    let k = name_is v fits in
    let short : length s < 255 = omega (arith, k.1, ap length eq, length-append s (c ∷ more)) in
    let visible = visible_parts s c more (ap (λ (x : List ℕ). list_all is_visible x) (sym eq) ∙ k.2) in
    none_or_some (s ++ c ∷ []) (sym (ap (λ (b : Bool). cond b (Some (s ++ c ∷ [])) None) (and_from (ltb (length s) 255) (is_visible c) (lt-ltb (length s) 255 short) visible.1)) ∙ e)

follows : Follows 10 whole_name with_letter (λ name. IsTrue (is_name name)) (λ name. name) Good (λ front. front)
unfolding Good
follows = record {
  gives = λ s v good e. gives_ s v (is_name s) refl e;
  given = λ s v good fits e. ap (λ (b : Bool). cond b (Some s) None) (ap is_name (sym e) ∙ fits) ∙ ap (λ (x : List ℕ). Some x) (sym e);
  goes = goes;
  gone = gone;
  ahead = ahead_;
  apart = λ v front more fits e. true≢false (sym (visible_parts front 10 more (ap (λ (x : List ℕ). list_all is_visible x) (sym e) ∙ (name_is v fits).2)).1);
}
  where
    gives_ : (s v : List ℕ) → (b : Bool) → is_name s ≡ b → cond b (Some s) None ≡ Some v → IsTrue (is_name v) × (v ≡ s)
    gives_ s v true is e = let same = some_is s v e in (ap is_name (sym same) ∙ is, sym same)
    gives_ s v false is e = absurd (some_or_none v e)

    ahead_ : (s : List ℕ) → Good s → (v : List ℕ) × (more : List ℕ) × IsTrue (is_name v) × (v ≡ s ++ more)
    ahead_ [] good = (97 ∷ [], 97 ∷ [], refl, refl)
    ahead_ (x ∷ s) good = (x ∷ s, [], is_name_from (x ∷ s) (omega arith) good.1 good.0, sym (append-nil (x ∷ s)))

-- no LF stands in a name
pub unbroken : (name front more : List ℕ) → IsTrue (is_name name) → name ≡ front ++ 10 ∷ more → ⊥
unbroken name front more fits e = follows.apart name front more fits e

pub name_reads : (bytes : List ℕ) → Reads (λ name. IsTrue (is_name name)) (λ name. named name ∷ []) bytes (name_at bytes)
unfolding name_at Good
name_reads bytes = scan_reads Name 10 whole_name with_letter (λ name. IsTrue (is_name name)) (λ name. name) Good (λ front. front) follows [] (refl, omega arith) refl bytes

pub put_reads : (size : ℕ) (bytes : List ℕ) → Reads (λ put. length put ≡ size) (λ put. (Put, put) ∷ []) bytes (put_at size bytes)
unfolding put_at
put_reads size bytes = by (nat_le size (length bytes)) refl
  where
    by : (b : Bool) → nat_le size (length bytes) ≡ b → Reads (λ put. length put ≡ size) (λ put. (Put, put) ∷ []) bytes (cond b (Ok (take size bytes, drop size bytes)) (stopped Put []))
    by true is =
        let long : size ≤ length bytes = leb-true size (length bytes) is in
        of_element (λ put. length put ≡ size) (λ put. put) Put bytes (Ok (take size bytes, drop size bytes))
        (λ v rest e.
        let same = ok_is {A = List ℕ × List ℕ} (take size bytes, drop size bytes) (v, rest) e in
        (ap (λ (z : List ℕ × List ℕ). length z.0) (sym same) ∙ omega (arith, length-take size bytes), sym (take-append-drop size bytes) ∙ ap (λ (z : List ℕ × List ℕ). z.0 ++ z.1) same))
        (λ v rest fits e. λ i. Ok ((ap (λ (x : List ℕ). take size x) e ∙ take_at v rest size fits) i, (ap (λ (x : List ℕ). drop size x) e ∙ drop_at v rest size fits) i))
        (λ b e. absurd (ok_or_err {A = List ℕ × List ℕ} (take size bytes, drop size bytes) b e))
    by false is =
        let short : length bytes < size = leb-false size (length bytes) is in
        of_element (λ put. length put ≡ size) (λ put. put) Put bytes (stopped Put [])
        (λ v rest e. absurd (ok_or_err {A = List ℕ × List ℕ} (v, rest) _ (sym e)))
        (λ v rest fits e. absurd (omega (arith, ap length e, length-append v rest)))
        (λ b e.
        let stop = err_is {A = List ℕ × List ℕ} (record { left = 0; rule = Put }) b e in
        record {
          read = bytes;
          rest = [];
          split = sym (append-nil bytes);
          left = ap (λ (x : Broken). x.left) stop;
          rule_is = ap (λ (x : Broken). x.rule) (sym stop);
          whose = bytes ++ replicate (size - length bytes) 0;
          more = replicate (size - length bytes) 0;
          fits = length-append bytes (replicate (size - length bytes) 0) ∙ ap (λ (n : ℕ). length bytes + n) (length-replicate (size - length bytes) 0) ∙ omega arith;
          begins = refl;
          none = λ v c after others fits is_ eq. absurd cc;
        })
