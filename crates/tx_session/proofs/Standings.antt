-- Where a document stands, changes lead to the files that they make, of whatever run they are made.
use Rattle.std.proofs.Common.{◌≡◌, ℕ, ◌^◌, Bool, true, false, cond, ◌&&◌, nat_lt, List, [], ◌∷◌, ◌++◌, refl, sym, ap, ◌∙◌}
use Rattle.std.proofs.lemmas.Bool.{and_parts, lt-ltb, ltb-true}
use Rattle.tx_bytes.specs.Files.{Files}
use Rattle.tx_files.specs.Changes.{name_of, fits, changed, all_fit, all_changed, AreSmall}
use Rattle.tx_files.specs.Edits.{length_of}
use Rattle.tx_files.specs.declared.edit.Change.{Change}
use Rattle.tx_machine.specs.declared.types.End.{End as RunEnd}
use Rattle.tx_machine.specs.declared.types.End.TheVariants.{End, Error, Budget, PageLimit}
use Rattle.tx_machine.specs.Machine.{Formatter}
use Rattle.tx_session.specs.Cut.{are_small}
use Rattle.tx_session.specs.Held.{with_files, changed_session, after_all}
use Rattle.tx_session.specs.Report.{report, work}
use Rattle.tx_session.specs.Standing.{Standing, now, settled, is_whole, is_cut, keeps, kept, made_of, next_standing, report_since, work_since, turns_since}

-- two lists of changes, one after the other
pub all_changed-append : (files : Files) (first second : List Change) → all_changed files (first ++ second) ≡ all_changed (all_changed files first) second
all_changed-append files [] second = refl
all_changed-append files (c ∷ first) second = all_changed-append (changed files c) first second

and-assoc : (a b c : Bool) → ((a && b) && c) ≡ (a && (b && c))
and-assoc true b c = refl
and-assoc false b c = refl

pub all_fit-append : (files : Files) (first second : List Change) → all_fit files (first ++ second) ≡ (all_fit files first && all_fit (all_changed files first) second)
all_fit-append files [] second = refl
all_fit-append files (c ∷ first) second =
    ap (λ b. fits files c && b) (all_fit-append (changed files c) first second) ∙ sym (and-assoc (fits files c) (all_fit (changed files c) first) (all_fit (all_changed (changed files c) first) second))

pub are_small-append : (files : Files) (first second : List Change) → are_small files (first ++ second) ≡ (are_small files first && are_small (all_changed files first) second)
are_small-append files [] second = refl
are_small-append files (c ∷ first) second =
    let fits_memory : Bool = nat_lt (length_of (changed files c) (name_of c)) (2 ^ 64) in
    ap (λ b. fits_memory && b) (are_small-append (changed files c) first second) ∙ sym (and-assoc fits_memory (are_small (changed files c) first) (are_small (all_changed (changed files c) first) second))

pub both-true : (a b : Bool) → a ≡ true → b ≡ true → (a && b) ≡ true
both-true a b first second = ap (λ x. x && b) first ∙ second

pub small-tells : (files : Files) (changes : List Change) → are_small files changes ≡ true → AreSmall files changes
small-tells files [] is = tt
small-tells files (c ∷ changes) is =
    let parts = and_parts (nat_lt (length_of (changed files c) (name_of c)) (2 ^ 64)) (are_small (changed files c) changes) is in
    (ltb-true (length_of (changed files c) (name_of c)) (2 ^ 64) parts.0, small-tells (changed files c) changes parts.1)

pub small-told : (files : Files) (changes : List Change) → AreSmall files changes → are_small files changes ≡ true
small-told files [] are = refl
small-told files (c ∷ changes) are =
    both-true (nat_lt (length_of (changed files c) (name_of c)) (2 ^ 64)) (are_small (changed files c) changes) (lt-ltb (length_of (changed files c) (name_of c)) (2 ^ 64) are.0) (small-told (changed files c) changes are.1)

-- a run that ended by the end of its text wasn't cut off
pub whole-not-cut : (end : RunEnd) (b : Bool) → (is_whole end && is_cut end && b) ≡ false
whole-not-cut End b = refl
whole-not-cut (Error code name line) b = refl
whole-not-cut Budget b = refl
whole-not-cut PageLimit b = refl

-- changes are put behind those before them
pub now-since : (t : Standing) (changes : List Change) → now (record t { since = t.since ++ changes }) ≡ changed_session (now t) changes
now-since t changes = ap (with_files t.base) (all_changed-append t.base.files t.since changes)

module _ {S : Type 0} (m : Formatter S) (most : ℕ) where
  -- the document is the same, whether an earlier run is kept or not
  pub now-kept : (t : Standing) → now (kept m most t) ≡ now t
  now-kept t = by (keeps m most t)
    where
      by : (e : Bool) → now (cond e t (settled (now t))) ≡ now t
      by true = refl
      by false = refl

  pub now-made_of : (t : Standing) (changes : List Change) → now (made_of m most t changes) ≡ changed_session (now t) changes
  now-made_of t [] = refl
  now-made_of t (c ∷ changes) = now-kept (record t { since = t.since ++ c ∷ changes }) ∙ now-since t (c ∷ changes)

  pub now-next_standing : (t : Standing) (changes : List Change) → now (next_standing m most t changes) ≡ after_all (now t) changes
  now-next_standing t changes = by (all_fit (now t).files changes)
    where
      by : (e : Bool) → now (cond e (made_of m most t changes) t) ≡ with_files (now t) (cond e (all_changed (now t).files changes) (now t).files)
      by true = now-made_of t changes
      by false = refl

  -- some changes, at least one
  module _ (t : Standing) where
    abbrev next : List Change → Standing
    next changes = record t { since = t.since ++ changes }

    pub made-kept : (changes : List Change) → (changes ≡ [] → ⊥) → keeps m most (record t { since = t.since ++ changes }) ≡ true → made_of m most t changes ≡ record t { since = t.since ++ changes }
    made-kept [] some is = absurd (some refl)
    made-kept (c ∷ changes) some is = ap (λ b. cond b (next (c ∷ changes)) (settled (now (next (c ∷ changes))))) is

    pub made-settled : (changes : List Change) → (changes ≡ [] → ⊥) → keeps m most (record t { since = t.since ++ changes }) ≡ false → made_of m most t changes ≡ settled (now (record t { since = t.since ++ changes }))
    made-settled [] some is = absurd (some refl)
    made-settled (c ∷ changes) some is = ap (λ b. cond b (next (c ∷ changes)) (settled (now (next (c ∷ changes))))) is

    pub report-made : (changes : List Change) → (changes ≡ [] → ⊥) → report_since m t changes ≡ report m t.base (t.since ++ changes)
    report-made [] some = absurd (some refl)
    report-made (c ∷ changes) some = refl

    pub work-made : (changes : List Change) → (changes ≡ [] → ⊥) → work_since m t changes ≡ work m t.base (t.since ++ changes)
    work-made [] some = absurd (some refl)
    work-made (c ∷ changes) some = refl

    pub turns-made : (changes : List Change) → all_fit (now t).files changes ≡ true → turns_since m t changes ≡ work_since m t changes
    turns-made changes fit = ap (λ b. cond b (work_since m t changes) 0) fit
