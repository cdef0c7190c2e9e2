-- A line with its LF that ends within the front of a file is the same line whatever follows the front.
use Rattle.std.proofs.Common.{◌≡◌, ℕ, suc, ◌+◌, ◌-◌, ◌<◌, ◌≤◌, Bool, true, false, cond, not, List, [], ◌∷◌, ◌++◌, length, take, drop, slice_range, position, Option, Some, None, refl, sym, ap, ◌∙◌, arith, nat_le, nat_lt, length-append, length-drop, true≢false}
use Rattle.std.specs.List.{prefix_len, position_or_len}
use Rattle.std.proofs.lemmas.Bool.{lt-ltb, leb-true}
use Rattle.std.proofs.lemmas.List.{drop-append-le, take-append-le}
use Rattle.tx_files.specs.declared.line.NextLine.TheVariants.{Line, End}
use Rattle.tx_files.specs.Lines.{is_line_feed, line_ending, next_line_at}

-- where the elements that pass end within the front, what follows it doesn't matter
front_len : (q : ℕ → Bool) (front rest other : List ℕ) → prefix_len q (front ++ rest) < length front → prefix_len q (front ++ other) ≡ prefix_len q (front ++ rest)
front_len q [] rest other h = absurd (omega arith)
front_len q (x ∷ front) rest other h = by (q x) h (front_len q front rest other)
  where
    by : (b : Bool) → cond b (1 + prefix_len q (front ++ rest)) 0 < suc (length front)
        → (prefix_len q (front ++ rest) < length front → prefix_len q (front ++ other) ≡ prefix_len q (front ++ rest))
        → cond b (1 + prefix_len q (front ++ other)) 0 ≡ cond b (1 + prefix_len q (front ++ rest)) 0
    by true h there = ap (λ n. 1 + n) (there (omega arith))
    by false h there = refl

is_found : (b : Bool) (n at : ℕ) → cond b (Some n) None ≡ Some at → n ≡ at
is_found true n at h = cc
is_found false n at h = cc

position_in_front : (p : ℕ → Bool) (front rest other : List ℕ) (at : ℕ) → position p (front ++ rest) ≡ Some at → at < length front → position p (front ++ other) ≡ Some at
position_in_front p front rest other at found within =
    let is : position_or_len p (front ++ rest) ≡ at = is_found (nat_lt (position_or_len p (front ++ rest)) (length (front ++ rest))) _ at found in
    let same : position_or_len p (front ++ other) ≡ at = front_len (λ x. not (p x)) front rest other (rw is within) ∙ is in
    let below : position_or_len p (front ++ other) < length (front ++ other) = rw (same, length-append front other) (omega arith) in
    ap (λ b. cond b (Some (position_or_len p (front ++ other))) None) (lt-ltb _ _ below) ∙ ap Some same

-- what is known of a line with its LF
record IsLine (bytes : List ℕ) (from end : ℕ) : Type 0 where
  pub at : ℕ
  pub found : position is_line_feed (drop from bytes) ≡ Some at
  pub end_is : from + at + 1 ≡ end

is_line : (bytes : List ℕ) (from end : ℕ) → next_line_at bytes from ≡ Line end true → IsLine bytes from end
is_line bytes from end h = by (nat_le (length bytes) from) h
  where
    by_place : (found : Option ℕ) → position is_line_feed (drop from bytes) ≡ found → line_ending from (length bytes) found ≡ Line end true → IsLine bytes from end
    by_place (Some at) e is = record { at = at; found = e; end_is = cc }
    by_place None e is = absurd (true≢false (sym (let has : Line (length bytes) false ≡ Line end true = is in cc)))

    by : (b : Bool) → cond b End (line_ending from (length bytes) (position is_line_feed (drop from bytes))) ≡ Line end true → IsLine bytes from end
    by true is = absurd (let none : End ≡ Line end true = is in cc)
    by false is = by_place (position is_line_feed (drop from bytes)) refl is

not_past : (bytes : List ℕ) (from : ℕ) → from < length bytes → nat_le (length bytes) from ≡ false
not_past bytes from h = by (nat_le (length bytes) from) refl
  where
    by : (b : Bool) → nat_le (length bytes) from ≡ b → nat_le (length bytes) from ≡ false
    by true e = absurd (let past : length bytes ≤ from = leb-true _ _ e in omega arith)
    by false e = e

-- the line, and its bytes
pub record SameLine (before after : List ℕ) (from end : ℕ) : Type 0 where
  pub line : next_line_at after from ≡ Line end true
  pub bytes : slice_range after from end ≡ slice_range before from end

pub line_in_front : (front rest other : List ℕ) (from end : ℕ) → next_line_at (front ++ rest) from ≡ Line end true → end ≤ length front → SameLine (front ++ rest) (front ++ other) from end
line_in_front front rest other from end h within =
    let is : IsLine (front ++ rest) from end = is_line (front ++ rest) from end h in
    let ends : from + is.at + 1 ≡ end = is.end_is in
    let begins : from ≤ length front = omega arith in
    let left : length (drop from front) ≡ length front - from = length-drop from front in
    let here : drop from (front ++ rest) ≡ drop from front ++ rest = drop-append-le from front rest begins in
    let there : drop from (front ++ other) ≡ drop from front ++ other = drop-append-le from front other begins in
    let below : is.at < length (drop from front) = omega arith in
    let found : position is_line_feed (drop from (front ++ other)) ≡ Some is.at =
    ap (position is_line_feed) there ∙ position_in_front is_line_feed (drop from front) rest other is.at (sym (ap (position is_line_feed) here) ∙ is.found) below in
    let inside : from < length (front ++ other) = rw (length-append front other) (omega arith) in
    let fits : end - from ≤ length (drop from front) = omega arith in
    record {
      line = ap (λ b. cond b End (line_ending from (length (front ++ other)) (position is_line_feed (drop from (front ++ other))))) (not_past (front ++ other) from inside)
          ∙ ap (line_ending from (length (front ++ other))) found ∙ ap (λ n. Line n true) ends;
      bytes = ap (take (end - from)) there ∙ take-append-le (end - from) (drop from front) other fits
          ∙ sym (ap (take (end - from)) here ∙ take-append-le (end - from) (drop from front) rest fits);
    }
