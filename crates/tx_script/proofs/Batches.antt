-- The changes of a batch that were read so far, and those that are left, are all of them.
use Rattle.std.proofs.Common.{◌≡◌, ℕ, zero, suc, ◌+◌, ◌-◌, ◌<◌, ◌≤◌, List, [], ◌∷◌, ◌++◌, refl, sym, ap, subst, ◌∙◌, append-nil, append_assoc, arith}
use Rattle.std.specs.Prelude.{Result, Ok, Err}
use Rattle.std.specs.Result.{IsErrAnd}
use Rattle.tx_files.specs.declared.edit.Change.{Change}
use Rattle.tx_script.specs.declared.error.Broken.{Broken}
use Rattle.tx_script.specs.declared.error.Fault.{Fault}
use Rattle.tx_script.specs.declared.error.Fault.TheVariants as faults
use Rattle.tx_script.specs.Reading.{Read, ◌>>=◌, Fails, Gives, change_at, changes_at}

-- with these in front
abbrev pub behind : List Change → Read (List Change) → Read (List Change)
behind done r = r >>= λ changes. Ok (done ++ changes.0, changes.1)

-- so many are left
pub record Reading (left : ℕ) (rest : List ℕ) (done : List Change) (count : ℕ) (bytes : List ℕ) : Type 0 where
  pub whole : behind done (changes_at left rest) ≡ changes_at count bytes

pub reading-begun : (count : ℕ) (bytes : List ℕ) (done : List Change) → done ≡ [] → Reading (count - 0) bytes done count bytes
reading-begun count bytes done is =
    let all : count - 0 ≡ count = omega arith in
    record { whole = (λ i. behind (is i) (changes_at (all i) bytes)) ∙ same (changes_at count bytes) }
  where
    same : (r : Read (List Change)) → behind [] r ≡ r
    same (Ok x) = refl
    same (Err b) = refl

module _ {left : ℕ} {rest : List ℕ} {done : List Change} {count : ℕ} {bytes : List ℕ} (so_far : Reading left rest done count bytes) where
  -- a change is read
  module _ (fewer : ℕ) (more : left ≡ suc fewer) where
    pub reading-on : {c : Change} {next : List ℕ} {done' : List Change} → change_at rest ≡ Ok (c, next) → done' ≡ done ++ c ∷ [] → Reading fewer next done' count bytes
    unfolding changes_at
    reading-on {c = c} {next = next} {done' = done'} is more_done = record {
      whole = ap (λ (d : List Change). behind d (changes_at fewer next)) more_done
          ∙ moved (changes_at fewer next)
          ∙ sym (ap (λ (r : Read Change). behind done (r >>= λ it. changes_at fewer it.1 >>= λ changes. Ok (it.0 ∷ changes.0, changes.1))) is)
          ∙ sym (ap (λ n. behind done (changes_at n rest)) more)
          ∙ so_far.whole;
    }
      where
        moved : (r : Read (List Change)) → behind (done ++ c ∷ []) r ≡ behind done (r >>= λ changes. Ok (c ∷ changes.0, changes.1))
        moved (Ok x) = λ i. Ok (append_assoc done (c ∷ []) x.0 i, x.1)
        moved (Err b) = refl

    -- a change isn't read
    broken : (b : Broken) → change_at rest ≡ Err b → changes_at count bytes ≡ Err b
    unfolding changes_at
    broken b is =
        sym so_far.whole ∙ ap (λ n. behind done (changes_at n rest)) more
        ∙ ap (λ (r : Read Change). behind done (r >>= λ it. changes_at fewer it.1 >>= λ changes. Ok (it.0 ∷ changes.0, changes.1))) is

    fails : (fault : Fault) → Fails fault (change_at rest) → Fails fault (changes_at count bytes)
    fails (faults.Broken b) is = broken b is
    fails faults.OutOfMemory is = tt

    pub reading-fails : {X : Type 0} (view : X → List Change × List ℕ) (r : Result X Fault) (fault : Fault) → IsErrAnd r (λ x. x ≡ fault) → Fails fault (change_at rest) → Gives view r (changes_at count bytes)
    reading-fails view (Ok x) fault same is = absurd same
    reading-fails view (Err e) fault same is = subst (λ (f : Fault). Fails f (changes_at count bytes)) (sym same) (fails fault is)

  -- all are read
  pub reading-over : left ≡ 0 → changes_at count bytes ≡ Ok (done, rest)
  unfolding changes_at
  reading-over none = sym so_far.whole ∙ ap (λ n. behind done (changes_at n rest)) none ∙ (λ i. Ok (append-nil done i, rest))
