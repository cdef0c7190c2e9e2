-- A line that was read of some bytes is read as these bytes are.
use Rattle.std.proofs.Common.{◌≡◌, ℕ, zero, suc, ◌+◌, ◌<◌, ◌≤◌, min, Bool, true, false, cond, eqb, List, [], ◌∷◌, ◌++◌, length, take, drop, refl, sym, ap, subst, ◌∙◌, append_assoc, arith, ◌⊎◌, inl, inr, true≢false}
use Rattle.std.specs.Prelude.{Some, Ok, Err, slice_get}
use Rattle.std.proofs.lemmas.List.{append-nil, length-append, length-take}
use Rattle.tx_io.specs.Inlet.{behind_line, line_len, line_of}
use Rattle.tx_script.specs.declared.error.Broken.{Broken}
use Rattle.tx_script.specs.declared.error.Rule.{Rule}
use Rattle.tx_script.specs.Text.{bytes_of, rules_of}
use Rattle.tx_script.specs.Reading.{Read}
use Rattle.tx_script.proofs.Forms.{Breaks, Reads, failed, ok_or_err}
use Rattle.tx_script.proofs.Parts.{two_fronts}
use Rattle.tx_request.specs.Streaming.{is_whole, most_line, IsPlain, StopsAt}
use Rattle.tx_request.proofs.Lines.{behind_line-first, behind_line-plain, ending, line_len-first, line_len-plain, plain_back, plain_front, some_line_len, Ending, Ended, IsLine, Open}

-- a list parted in two ways: where the first parts are of one length, and where one is longer
pub same_front : (a b x y : List ℕ) → a ++ x ≡ b ++ y → length a ≡ length b → (a ≡ b) × (x ≡ y)
same_front [] [] x y e long = (refl, e)
same_front [] (c ∷ b) x y e long = absurd (omega arith)
same_front (c ∷ a) [] x y e long = absurd (omega arith)
same_front (c ∷ a) (d ∷ b) x y e long =
    let head : c ≡ d = cc in
    let tail : a ++ x ≡ b ++ y = cc in
    let k = same_front a b x y tail (omega arith) in
    ((λ i. head i ∷ k.0 i), k.1)

longer_front : (a b x y : List ℕ) → a ++ x ≡ b ++ y → length a < length b → (c : ℕ) × (m : List ℕ) × (b ≡ a ++ c ∷ m) × (x ≡ c ∷ m ++ y)
longer_front [] [] x y e long = absurd (omega arith)
longer_front [] (d ∷ b) x y e long = (d, b, refl, e)
longer_front (c ∷ a) [] x y e long = absurd (omega arith)
longer_front (c ∷ a) (d ∷ b) x y e long =
    let head : d ≡ c = cc in
    let tail : a ++ x ≡ b ++ y = cc in
    let k = longer_front a b x y tail (omega arith) in
    (k.0, k.1, (λ i. head i ∷ k.2 i), k.3)

module _ {V : Type 0} (F : V → Type 0) (p : V → List (Rule × List ℕ)) where
  -- reading ends at one place
  no_later : (bytes : List ℕ) (b d : Broken) (one : Breaks F p bytes b) (other : Breaks F p bytes d) → length one.read < length other.read → ⊥
  no_later bytes b d one other shorter =
      let k = longer_front one.read other.read one.rest other.rest (sym one.split ∙ other.split) shorter in
      one.none other.whose k.0 (k.1 ++ other.more) (k.1 ++ other.rest) other.fits k.3
      (other.begins ∙ ap (λ (x : List ℕ). x ++ other.more) k.2 ∙ append_assoc one.read (k.0 ∷ k.1) other.more)

  one_break : (bytes : List ℕ) (b d : Broken) → Breaks F p bytes b → Breaks F p bytes d → ((v : V) (x : List ℕ) → F v → bytes ≡ bytes_of (p v) ++ x → ⊥) → b ≡ d
  one_break bytes b d one other unread = λ i. record { left = left i; rule = rule i }
    where
      same_length : length one.read ≡ length other.read
      same_length =
          let not_shorter = no_later bytes b d one other in
          let not_longer = no_later bytes d b other one in
          omega arith

      same : (one.read ≡ other.read) × (one.rest ≡ other.rest)
      same = same_front one.read other.read one.rest other.rest (sym one.split ∙ other.split) same_length

      left : b.left ≡ d.left
      left = sym one.left ∙ ap length same.1 ∙ other.left

      some_is : (x y : Rule) → Some x ≡ Some y → x ≡ y
      some_is x y e = cc

      by : (more : List ℕ) → one.more ≡ more → b.rule ≡ d.rule
      by [] is = absurd (unread one.whose one.rest one.fits (one.split ∙ ap (λ (x : List ℕ). x ++ one.rest) (sym (one.begins ∙ ap (λ (x : List ℕ). one.read ++ x) is ∙ append-nil one.read))))
      by (c ∷ m) is =
          let goes : bytes_of (p one.whose) ≡ one.read ++ c ∷ m = one.begins ∙ ap (λ (x : List ℕ). one.read ++ x) is in
          let here = one.next one.whose c m one.fits goes in
          let there = other.next one.whose c m one.fits (goes ∙ ap (λ (x : List ℕ). x ++ c ∷ m) same.0) in
          some_is b.rule d.rule (sym here ∙ ap (λ (n : ℕ). slice_get (rules_of (p one.whose)) n) same_length ∙ there)

      rule : b.rule ≡ d.rule
      rule = by one.more refl

  broken : (bytes : List ℕ) (r : Read V) → Reads F p bytes r → (b : Broken) → Breaks F p bytes b → ((v : V) (x : List ℕ) → F v → bytes ≡ bytes_of (p v) ++ x → ⊥) → r ≡ Err b
  broken bytes (Ok x) reads b breaks unread = let k = reads.takes x.0 x.1 refl in absurd (unread x.0 x.1 k.0 k.1)
  broken bytes (Err d) reads b breaks unread = ap (λ (z : Broken). failed {A = V × List ℕ} z) (one_break bytes d b (reads.breaks d refl) breaks unread)

-- the front of some bytes that is their first line, or as much of it as a line may have
pub record IsCut (line bytes after : List ℕ) : Type 0 where
  pub split : bytes ≡ line ++ after
  pub within : length line ≤ line_len bytes
  pub whole : length line < most_line → length line ≡ line_len bytes

take_parts : (m n : ℕ) (bytes : List ℕ) → bytes ≡ take m (take n bytes) ++ drop (length (take m (take n bytes))) bytes
take_parts zero n bytes = refl
take_parts (suc m) zero bytes = refl
take_parts (suc m) (suc n) [] = refl
take_parts (suc m) (suc n) (c ∷ bytes) = ap (λ (x : List ℕ). c ∷ x) (take_parts m n bytes)

line_len-within : (bytes : List ℕ) → line_len bytes ≤ length bytes
line_len-within [] = omega arith
line_len-within (c ∷ bytes) = by (eqb c 10) (line_len-within bytes)
  where
    by : (b : Bool) → line_len bytes ≤ length bytes → cond b 1 (suc (line_len bytes)) ≤ suc (length bytes)
    by true others = omega arith
    by false others = omega arith

pub cut_of : (line bytes : List ℕ) → line ≡ take most_line (line_of bytes) → IsCut line bytes (drop (length line) bytes)
cut_of line bytes e = record {
  split = take_parts most_line (line_len bytes) bytes ∙ (λ i. sym e i ++ drop (length (sym e i)) bytes);
  within = omega (arith, sizes);
  whole = λ short. let within = line_len-within bytes in omega (arith, sizes);
}
  where
    sizes : length line ≡ min most_line (min (line_len bytes) (length bytes))
    sizes = ap length e ∙ length-take most_line (take (line_len bytes) bytes) ∙ ap (λ (n : ℕ). min most_line n) (length-take (line_len bytes) bytes)

pub none_is : (bytes : List ℕ) → length bytes ≡ 0 → bytes ≡ []
none_is [] e = refl
none_is (c ∷ bytes) e = absurd (omega arith)

no_line : (bytes : List ℕ) → line_len bytes ≡ 0 → bytes ≡ []
no_line [] e = refl
no_line (c ∷ bytes) e = let some = some_line_len c bytes in absurd (omega arith)

-- where a line isn't read, all of the bytes aren't
pub record IsStop {V : Type 0} (r : List ℕ → Read V) (line bytes after : List ℕ) (b : Broken) : Type 0 where
  pub there : Broken
  pub broken : r bytes ≡ Err there
  pub stops : StopsAt bytes b.rule (is_whole line) there after

-- reading values that are lines, of bytes of which the first line, or a part of it, is known
module _ {V : Type 0} (F : V → Type 0) (p : V → List (Rule × List ℕ)) (r : List ℕ → Read V) (reads : (bytes : List ℕ) → Reads F p bytes (r bytes))
    (lines : (v : V) → F v → IsLine most_line (bytes_of (p v))) (line bytes after : List ℕ) (cut : IsCut line bytes after) where
  pub cut_ok : (v : V) (rest : List ℕ) → r line ≡ Ok (v, rest) → r bytes ≡ Ok (v, after)
  cut_ok v rest e =
      let t = (reads line).takes v rest e in
      let l = lines v t.0 in
      let line_is : line ≡ l.front ++ 10 ∷ rest = t.1 ∙ ap (λ (x : List ℕ). x ++ rest) l.text_is ∙ append_assoc l.front (10 ∷ []) rest in
      let bytes_is : bytes ≡ l.front ++ 10 ∷ (rest ++ after) = cut.split ∙ ap (λ (x : List ℕ). x ++ after) line_is ∙ append_assoc l.front (10 ∷ rest) after in
      let one : line_len bytes ≡ length l.front + 1 = ap line_len bytes_is ∙ line_len-first l.front (rest ++ after) l.plain in
      let long : length line ≡ length l.front + suc (length rest) = ap length line_is ∙ length-append l.front (10 ∷ rest) in
      let within : length line ≤ line_len bytes = cut.within in
      let none : rest ≡ [] = none_is rest (omega arith) in
      (reads bytes).again v after t.0 (cut.split ∙ ap (λ (x : List ℕ). x ++ after) (t.1 ∙ ap (λ (x : List ℕ). bytes_of (p v) ++ x) none ∙ append-nil (bytes_of (p v))))

  pub cut_err : (b : Broken) → r line ≡ Err b → IsStop r line bytes after b
  cut_err b e = by d.rest refl
    where
      d : Breaks F p line b
      d = (reads line).breaks b e

      unread_line : (v : V) (x : List ℕ) → F v → line ≡ bytes_of (p v) ++ x → ⊥
      unread_line v x fits h = ok_or_err {A = V × List ℕ} (v, x) b (sym ((reads line).again v x fits h) ∙ e)

      -- what is read before there is a front of a line, without its LF
      l : IsLine most_line (bytes_of (p d.whose))
      l = lines d.whose d.fits

      front : (more : List ℕ) → d.more ≡ more → IsPlain d.read × (length d.read < most_line)
      front [] is = absurd (unread_line d.whose d.rest d.fits (d.split ∙ ap (λ (x : List ℕ). x ++ d.rest) (sym (d.begins ∙ ap (λ (x : List ℕ). d.read ++ x) is ∙ append-nil d.read))))
      front (c ∷ m) is =
          let goes : l.front ++ 10 ∷ [] ≡ d.read ++ c ∷ m = sym l.text_is ∙ d.begins ∙ ap (λ (x : List ℕ). d.read ++ x) is in
          let sizes : length l.front + 1 ≡ length d.read + suc (length m) = sym (length-append l.front (10 ∷ [])) ∙ ap length goes ∙ length-append d.read (c ∷ m) in
          let whole : length (bytes_of (p d.whose)) ≡ length l.front + 1 = ap length l.text_is ∙ length-append l.front (10 ∷ []) in
          let short : length (bytes_of (p d.whose)) ≤ most_line = l.short in
          (plain_part m sizes (two_fronts l.front (10 ∷ []) d.read c m goes), omega arith)
        where
          plain_part : (m : List ℕ) → length l.front + 1 ≡ length d.read + suc (length m)
              → ((k : List ℕ) × (l.front ≡ d.read ++ c ∷ k)) ⊎ ((k : List ℕ) × (d.read ≡ l.front ++ k)) → IsPlain d.read
          plain_part m sizes (inl k) = plain_front d.read (c ∷ k.0) (subst IsPlain k.1 l.plain)
          plain_part m sizes (inr k) =
              let long : length d.read ≡ length l.front + length k.0 = ap length k.1 ∙ length-append l.front k.0 in
              let none : k.0 ≡ [] = none_is k.0 (omega arith) in
              subst IsPlain (sym (k.1 ∙ ap (λ (x : List ℕ). l.front ++ x) none ∙ append-nil l.front)) l.plain

      plain : IsPlain d.read
      plain = (front d.more refl).0

      short : length d.read < most_line
      short = (front d.more refl).1

      ends : Ending line
      ends = ending line after (subst (λ (x : List ℕ). length line ≤ line_len x) cut.split cut.within)

      bytes_are : bytes ≡ d.read ++ (d.rest ++ after)
      bytes_are = cut.split ∙ ap (λ (x : List ℕ). x ++ after) d.split ∙ append_assoc d.read d.rest after

      rest_is : Ending line → cond (is_whole line) after (behind_line after) ≡ behind_line (d.rest ++ after)
      rest_is (Open plain_line not) =
          (λ i. cond (not i) after (behind_line after))
          ∙ sym (behind_line-plain line after plain_line)
          ∙ ap behind_line (sym cut.split ∙ bytes_are)
          ∙ behind_line-plain d.read (d.rest ++ after) plain
      rest_is (Ended first plain_first is whole) =
          (λ i. cond (whole i) after (behind_line after))
          ∙ sym (behind_line-first first after plain_first)
          ∙ ap behind_line (sym (append_assoc first (10 ∷ []) after) ∙ ap (λ (x : List ℕ). x ++ after) (sym is) ∙ sym cut.split ∙ bytes_are)
          ∙ behind_line-plain d.read (d.rest ++ after) plain

      unended : Ending line → is_whole line ≡ false → after ≡ [] → IsPlain (d.rest ++ after)
      unended (Open plain_line not) lacks none =
          subst (λ (x : List ℕ). IsPlain (d.rest ++ x)) (sym none) (subst IsPlain (sym (append-nil d.rest)) (plain_back d.read d.rest (subst IsPlain d.split plain_line)))
      unended (Ended first plain_first is whole) not none = absurd (true≢false (sym whole ∙ not))

      by : (rest : List ℕ) → d.rest ≡ rest → IsStop r line bytes after b
      by [] none =
          let all : line ≡ d.read = d.split ∙ ap (λ (x : List ℕ). d.read ++ x) none ∙ append-nil d.read in
          let plain_line : IsPlain line = subst IsPlain (sym all) plain in
          let brief : length line < most_line = subst (λ (x : List ℕ). length x < most_line) (sym all) short in
          let whole : length line ≡ line_len bytes = cut.whole brief in
          let sizes : line_len bytes ≡ length line + line_len after = ap line_len cut.split ∙ line_len-plain line after plain_line in
          let over : after ≡ [] = no_line after (omega arith) in
          let same : line ≡ bytes = sym (cut.split ∙ ap (λ (x : List ℕ). line ++ x) over ∙ append-nil line) in
          record {
            there = b;
            broken = ap r (sym same) ∙ e;
            stops = record {
              rule_is = refl;
              read = d.read;
              unread = d.rest ++ after;
              split = bytes_are;
              left = ap (λ (x : List ℕ). length (d.rest ++ x)) over ∙ ap length (append-nil d.rest) ∙ d.left;
              rest_is = rest_is ends;
              unended = unended ends;
              taken = line;
              are = cut.split;
            };
          }
      by (c ∷ others) is = record {
        there = there;
        broken = broken F p bytes (r bytes) (reads bytes) there breaks unread;
        stops = record {
          rule_is = refl;
          read = d.read;
          unread = d.rest ++ after;
          split = bytes_are;
          left = refl;
          rest_is = rest_is ends;
          unended = unended ends;
          taken = line;
          are = cut.split;
        };
      }
        where
          there : Broken
          there = record { left = length (d.rest ++ after); rule = b.rule }

          next_is : (x : ℕ) (xs : List ℕ) → d.rest ++ after ≡ x ∷ xs → c ≡ x
          next_is x xs e = let both : c ∷ (others ++ after) ≡ x ∷ xs = ap (λ (y : List ℕ). y ++ after) (sym is) ∙ e in cc

          breaks : Breaks F p bytes there
          breaks = record {
            read = d.read;
            rest = d.rest ++ after;
            split = bytes_are;
            left = refl;
            whose = d.whose;
            more = d.more;
            fits = d.fits;
            begins = d.begins;
            next = d.next;
            none = λ v x m others' fits at eq. d.none v c m others fits is (eq ∙ ap (λ (y : ℕ). d.read ++ y ∷ m) (sym (next_is x others' at)));
          }

          unread : (v : V) (x : List ℕ) → F v → bytes ≡ bytes_of (p v) ++ x → ⊥
          unread v x fits h =
              elim (two_fronts (bytes_of (p v)) x d.read c (others ++ after) (sym h ∙ bytes_are ∙ ap (λ (y : List ℕ). d.read ++ (y ++ after)) is)) [
                | inl m ↦ d.none v c m.0 others fits is m.1
                | inr m ↦ unread_line v (m.0 ++ d.rest) fits (d.split ∙ ap (λ (y : List ℕ). y ++ d.rest) m.1 ∙ append_assoc (bytes_of (p v)) m.0 d.rest)
              ]
