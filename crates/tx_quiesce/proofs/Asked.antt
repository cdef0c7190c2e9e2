-- What the reads of some turns say was asked for, their notes do.
use Rattle.std.proofs.Common.{◌≡◌, ℕ, Bool, true, false, cond, ◌||◌, List, [], ◌∷◌, ◌++◌, Option, Some, None, refl, sym, ap, ◌∙◌, subst}
use Rattle.std.specs.Ordering.{nat_cmp, eq_by_cmp}
use Rattle.std.specs.Cmp.Lexicographic.{slice_cmp, nat_list_cmp_total, bytes_decides}
use Rattle.std.specs.FinMap.{get, get-insert, empty}
use Rattle.std.proofs.lemmas.Map.Text.{is_eq-slice_cmp}
use Rattle.tx_files.specs.declared.reads.FileReads.{FileReads}
use Rattle.tx_files.specs.declared.reads.Note.{Note}
use Rattle.tx_files.specs.declared.reads.Sight.{Sight}
use Rattle.tx_files.specs.Reads.{Reads, is_asked, seen_more, noted, noting, reads_of, was_asked, asks_for}

-- each file that the notes show to be asked for is one of these
abbrev pub AreAsked : (List ℕ → Type 0) → List Note → Type 0
AreAsked A [] = Unit {0}
AreAsked A (note ∷ log) = (is_asked note.sight ≡ true → A note.name) × AreAsked A log

module _ (A : List ℕ → Type 0) where
  pub asked-front : (log later : List Note) → AreAsked A (log ++ later) → AreAsked A log
  asked-front [] later asked = tt
  asked-front (note ∷ log) later asked = (asked.0, asked-front log later asked.1)

  pub asked-back : (log later : List Note) → AreAsked A (log ++ later) → AreAsked A later
  asked-back [] later asked = asked
  asked-back (note ∷ log) later asked = asked-back log later asked.1

pub or-left : (a b : Bool) → a ≡ true → (a || b) ≡ true
or-left true b is = refl
or-left false b is = absurd (let no : false ≡ true = is in cc)

pub or-right : (a b : Bool) → b ≡ true → (a || b) ≡ true
or-right true b is = refl
or-right false b is = is

asked_more : (held : Option FileReads) (sight : Sight) → was_asked held ≡ true → was_asked (Some (seen_more held sight)) ≡ true
asked_more None sight is = absurd (let no : false ≡ true = is in cc)
asked_more (Some reads) sight is = or-left reads.asked _ is

asked_now : (held : Option FileReads) (sight : Sight) → is_asked sight ≡ true → was_asked (Some (seen_more held sight)) ≡ true
asked_now None sight is = is
asked_now (Some reads) sight is = or-right reads.asked _ is

still_asked : (reads : Reads) (note : Note) (name : List ℕ) → asks_for reads name ≡ true → asks_for (noted reads note) name ≡ true
still_asked reads note name is = ap was_asked (get-insert nat_list_cmp_total reads note.name (seen_more (get reads note.name) note.sight) name) ∙ by (eq_by_cmp (slice_cmp nat_cmp) name note.name) refl
  where
    by : (b : Bool) → eq_by_cmp (slice_cmp nat_cmp) name note.name ≡ b → was_asked (cond b (Some (seen_more (get reads note.name) note.sight)) (get reads name)) ≡ true
    by true e =
        let same : name ≡ note.name = (bytes_decides name note.name).0 (sym (is_eq-slice_cmp name note.name) ∙ e) in
        asked_more (get reads note.name) note.sight (subst (λ a. asks_for reads a ≡ true) same is)
    by false e = is

first_asked : (reads : Reads) (note : Note) → is_asked note.sight ≡ true → asks_for (noted reads note) note.name ≡ true
first_asked reads note is =
    ap was_asked (get-insert nat_list_cmp_total reads note.name (seen_more (get reads note.name) note.sight) note.name
    ∙ ap (λ b. cond b (Some (seen_more (get reads note.name) note.sight)) (get reads note.name)) (is_eq-slice_cmp note.name note.name ∙ (bytes_decides note.name note.name).1 refl))
    ∙ asked_now (get reads note.name) note.sight is

asked_noting : (reads : Reads) (log : List Note) (name : List ℕ) → asks_for reads name ≡ true → asks_for (noting reads log) name ≡ true
asked_noting reads [] name is = is
asked_noting reads (note ∷ log) name is = asked_noting (noted reads note) log name (still_asked reads note name is)

asked_log : (A : List ℕ → Type 0) (reads : Reads) (log : List Note) → ((name : List ℕ) → asks_for (noting reads log) name ≡ true → A name) → AreAsked A log
asked_log A reads [] only = tt
asked_log A reads (note ∷ log) only =
    (λ is. only note.name (asked_noting (noted reads note) log note.name (first_asked reads note is)), asked_log A (noted reads note) log only)

pub asked-log : (A : List ℕ → Type 0) (log : List Note) → ((name : List ℕ) → asks_for (reads_of log) name ≡ true → A name) → AreAsked A log
asked-log A log only = asked_log A empty log only
