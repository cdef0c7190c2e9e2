-- What the loops keep.
use Rattle.std.proofs.Common.{◌≡◌, ℕ, ◌+◌, ◌-◌, ◌≤◌, Bool, true, false, cond, None, List, [], ◌∷◌, ◌++◌, append_assoc, append-nil, map, take, drop, length, ap, sym, ◌∙◌, arith}
use Rattle.std.proofs.lemmas.List.{drop-drop, drop_all, length-drop, take_rest}
use Rattle.std.proofs.lemmas.List.Sums.{take_while-cons}
use Rattle.tx_char.specs.declared.category.Cat.{Cat}
use Rattle.tx_char.specs.Category.{category}
use Rattle.tx_lex.specs.declared.types.Character.{Character}
use Rattle.tx_lex.specs.declared.types.ReadState.{ReadState}
use Rattle.tx_lex.specs.Characters.{characters}
use Rattle.tx_lex.specs.Notation.{Seen, reduction}
use Rattle.std.specs.Prelude.{take_while}
use Rattle.tx_char.specs.declared.tokens.Token.TheVariants.{Name}
use Rattle.tx_lex.specs.declared.types.ReadState.TheVariants.{S}
use Rattle.tx_lex.specs.Reading.{Read, behind_letters, is_dropped, is_letter, kept, letters, name_reading, skip_while, unread, word_reading}
use Rattle.tx_lex.specs.Steps.{IsDenoted, IsReadFrom, IsKeptFrom, seen_at}
use Rattle.tx_lex.proofs.CharacterLaws.{characters-nil, characters-plain, characters-reduced}

-- the notations that begin with a code before a place stand for this character
pub record Reducing (codes : List Cat) (line : List ℕ) (code next : ℕ) (now : Character) : Type 0 where
  pub same : characters codes (code ∷ drop next line) ≡ characters codes (now.code ∷ drop now.next line)
  pub within : now.next ≤ length line
  pub onward : next ≤ now.next
  pub plain : now.next ≡ next → now.code ≡ code

-- the slice of a line from a place on
abbrev sliced : List ℕ → ℕ → List ℕ
sliced line place = take (length line - place) (drop place line)

pub reducing-on : {codes : List Cat} {line : List ℕ} {code next : ℕ} {now inner : Character} → Reducing codes line code next now → IsDenoted codes now.code (sliced line now.next) inner → Reducing codes line code next (record { code = inner.code; next = now.next + inner.next })
reducing-on {codes} {line} {code} {next} {now} {inner} r d =
    let behind : List ℕ = sliced line now.next in
    let is : behind ≡ drop now.next line = take_rest line now.next in
    let whole : length behind ≡ length line - now.next = ap length is ∙ length-drop now.next line in
    let w : inner.next ≤ length behind = d.within in
    let v : now.next ≤ length line = r.within in
    let o : next ≤ now.next = r.onward in
    let t : 2 ≤ inner.next = d.takes in
    let rest : drop inner.next behind ≡ drop (now.next + inner.next) line = ap (drop inner.next) is ∙ drop-drop inner.next now.next line in
    record {
      same = r.same ∙ ap (λ xs. characters codes (now.code ∷ xs)) (sym is)
          ∙ characters-reduced codes now.code behind _ d.stands_for
          ∙ ap (λ xs. characters codes (inner.code ∷ xs)) rest;
      within = omega arith;
      onward = omega arith;
      plain = λ h. absurd (omega arith);
    }

pub reducing-over : {codes : List Cat} {line : List ℕ} {code next : ℕ} {now : Character} → Reducing codes line code next now → reduction codes now.code (sliced line now.next) ≡ None → IsReadFrom codes (code ∷ drop next line) line now
reducing-over {codes} {line} {code} {next} {now} r none = record {
  first = r.same ∙ characters-plain codes now.code (drop now.next line) (ap (reduction codes now.code) (sym (take_rest line now.next)) ∙ none);
  within = r.within;
}

-- whether reading drops this character
abbrev pub drops : List Cat → ReadState → Seen → Bool
drops codes state seen = is_dropped state (category codes seen.code)

-- the kept characters of a line are those from this one on
pub record Skipping (codes : List Cat) (state : ReadState) (line bytes : List ℕ) (now : Character) : Type 0 where
  pub same : kept codes state line ≡ skip_while (drops codes state) (seen_at bytes now ∷ characters codes (drop now.next bytes))
  pub within : now.next ≤ length bytes

pub skipping-begin : {codes : List Cat} (state : ReadState) {line bytes : List ℕ} {now : Character} → IsReadFrom codes line bytes now → Skipping codes state line bytes now
skipping-begin {codes} state r = record { same = ap (skip_while (drops codes state)) r.first; within = r.within }

pub skip_while-dropped : {X : Type 0} (p : X → Bool) (x : X) (xs : List X) → p x ≡ true → skip_while p (x ∷ xs) ≡ skip_while p xs
skip_while-dropped p x xs h = ap (λ t. cond t (skip_while p xs) (x ∷ xs)) h

pub skip_while-kept : {X : Type 0} (p : X → Bool) (x : X) (xs : List X) → p x ≡ false → skip_while p (x ∷ xs) ≡ x ∷ xs
skip_while-kept p x xs h = ap (λ t. cond t (skip_while p xs) (x ∷ xs)) h

pub skipping-on : {codes : List Cat} {state : ReadState} {line bytes : List ℕ} {now found : Character} → Skipping codes state line bytes now → is_dropped state (category codes now.code) ≡ true → IsReadFrom codes (drop now.next bytes) bytes found → Skipping codes state line bytes found
skipping-on {codes} {state} {line} {bytes} {now} {found} s dropped r = record {
  same = s.same ∙ skip_while-dropped (drops codes state) (seen_at bytes now) (characters codes (drop now.next bytes)) dropped
      ∙ ap (skip_while (drops codes state)) r.first;
  within = r.within;
}

pub skipping-over : {codes : List Cat} {state : ReadState} {line bytes : List ℕ} {now : Character} → Skipping codes state line bytes now → is_dropped state (category codes now.code) ≡ false → IsKeptFrom codes state line bytes now
skipping-over {codes} {state} {line} {bytes} {now} s stays = record {
  first = s.same ∙ skip_while-kept (drops codes state) (seen_at bytes now) (characters codes (drop now.next bytes)) stays;
  within = s.within;
}

pub skipping-nothing : {codes : List Cat} {state : ReadState} {line bytes : List ℕ} {now : Character} → Skipping codes state line bytes now → is_dropped state (category codes now.code) ≡ true → length bytes ≤ now.next → kept codes state line ≡ []
skipping-nothing {codes} {state} {line} {bytes} {now} s dropped past =
    s.same ∙ skip_while-dropped (drops codes state) (seen_at bytes now) (characters codes (drop now.next bytes)) dropped
    ∙ ap (λ rest. skip_while (drops codes state) (characters codes rest)) (drop_all now.next bytes past)
    ∙ ap (skip_while (drops codes state)) (characters-nil codes)

pub kept-nothing : (codes : List Cat) (state : ReadState) {line : List ℕ} → line ≡ [] → kept codes state line ≡ []
kept-nothing codes state {line} h = ap (kept codes state) h ∙ ap (skip_while (drops codes state)) (characters-nil codes)

-- the letters from the beginning on are those of this name and then those from this place on
pub record Spelling (codes : List Cat) (line : List ℕ) (begin : ℕ) (name : List ℕ) (place : ℕ) : Type 0 where
  pub spelled : letters codes (characters codes (drop begin line)) ≡ name ++ letters codes (characters codes (drop place line))
  pub behind : behind_letters codes (characters codes (drop begin line)) ≡ behind_letters codes (characters codes (drop place line))

pub letters-more : (codes : List Cat) (seen : Seen) (more : List Seen) → is_letter (category codes seen.code) ≡ true → letters codes (seen ∷ more) ≡ seen.code ∷ letters codes more
letters-more codes seen more h =
    let tested : Seen → Bool = λ s. is_letter (category codes s.code) in
    ap (map (λ s. s.code)) (take_while-cons tested seen more ∙ ap (λ t. cond t (seen ∷ take_while tested more) []) h)

pub letters-over : (codes : List Cat) (seen : Seen) (more : List Seen) → is_letter (category codes seen.code) ≡ false → letters codes (seen ∷ more) ≡ []
letters-over codes seen more h =
    let tested : Seen → Bool = λ s. is_letter (category codes s.code) in
    ap (map (λ s. s.code)) (take_while-cons tested seen more ∙ ap (λ t. cond t (seen ∷ take_while tested more) []) h)

pub spelling-on : {codes : List Cat} {line : List ℕ} {begin : ℕ} {name : List ℕ} {place : ℕ} {found : Character} → Spelling codes line begin name place → IsReadFrom codes (drop place line) line found → is_letter (category codes found.code) ≡ true → Spelling codes line begin (name ++ found.code ∷ []) found.next
spelling-on {codes} {line} {begin} {name} {place} {found} s r letter =
    let more : List Seen = characters codes (drop found.next line) in
    record {
      spelled = s.spelled ∙ ap (λ seen. name ++ letters codes seen) r.first
          ∙ ap (λ xs. name ++ xs) (letters-more codes (seen_at line found) more letter)
          ∙ sym (append_assoc name (found.code ∷ []) (letters codes more));
      behind = s.behind ∙ ap (behind_letters codes) r.first
          ∙ ap unread (skip_while-dropped (λ seen. is_letter (category codes seen.code)) (seen_at line found) more letter);
    }

-- at the line's end the name is whole
pub spelling-end : {codes : List Cat} {line : List ℕ} {begin : ℕ} {name : List ℕ} {place : ℕ} → Spelling codes line begin name place → length line ≤ place → Read (Name name) (drop (length line) line) S ≡ word_reading codes (characters codes (drop begin line))
spelling-end {codes} {line} {begin} {name} {place} s past =
    let is : characters codes (drop place line) ≡ [] = ap (characters codes) (drop_all place line past) ∙ characters-nil codes in
    let spelled : letters codes (characters codes (drop begin line)) ≡ name = s.spelled ∙ ap (λ seen. name ++ letters codes seen) is ∙ append-nil name in
    let behind : behind_letters codes (characters codes (drop begin line)) ≡ [] = s.behind ∙ ap (behind_letters codes) is in
    let none : drop (length line) line ≡ [] = drop_all (length line) line (omega arith) in
    cc

-- at the line's end the name is empty
pub reading-no_name : (codes : List Cat) (state : ReadState) (line : List ℕ) (place : ℕ) → length line ≤ place → Read (Name []) (drop (length line) line) state ≡ name_reading codes state (characters codes (drop place line))
reading-no_name codes state line place past =
    ap (λ rest. Read (Name []) rest state) (drop_all (length line) line (omega arith))
    ∙ sym (ap (λ rest. name_reading codes state (characters codes rest)) (drop_all place line past) ∙ ap (name_reading codes state) (characters-nil codes))
