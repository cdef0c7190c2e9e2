-- Lines: up to the first LF and with it. The lines with which requests begin are such, and not long.
use Rattle.std.proofs.Common.{◌≡◌, ℕ, zero, suc, ◌+◌, ◌-◌, ◌<◌, ◌≤◌, Bool, true, false, cond, eqb, List, [], ◌∷◌, ◌++◌, length, drop, get_or, refl, sym, ap, ◌∙◌, append_assoc, arith}
use Rattle.std.specs.Prelude.{IsTrue, codes}
use Rattle.std.specs.Fmt.{decimal}
use Rattle.std.proofs.lemmas.Bool.{eqb-true, eqb-false}
use Rattle.std.proofs.lemmas.Fmt.{length-decimal-le}
use Rattle.std.proofs.lemmas.List.{append-nil, length-append, get_or_at}
use Rattle.tx_files.specs.Names.{is_name}
use Rattle.tx_io.specs.Inlet.{behind_line, line_len}
use Rattle.tx_script.specs.declared.error.Rule.{Rule}
use Rattle.tx_script.specs.declared.error.Rule.TheVariants.{Word}
use Rattle.tx_script.specs.Text.{bytes_of, counted, greatest, named, number}
use Rattle.tx_script.proofs.Digits.{among}
use Rattle.tx_script.proofs.Names.{name_is, unbroken}
use Rattle.tx_request.specs.declared.head.EditLine.{EditLine}
use Rattle.tx_request.specs.declared.head.ChangeLine.{ChangeLine}
use Rattle.tx_request.specs.declared.head.ChangeLine.TheVariants as lines
use Rattle.tx_request.specs.declared.head.Head.{Head}
use Rattle.tx_request.specs.declared.head.Head.TheVariants as heads
use Rattle.tx_request.specs.Requests.{paged}
use Rattle.tx_request.specs.Streaming.{is_whole, most_line, IsPlain}
use Rattle.tx_request.proofs.Heads.{change_line_elements, head_elements, line_elements, IsChangeLine, IsEditLine, IsHead}

-- bytes without LF
pub plain-append : (a b : List ℕ) → IsPlain a → IsPlain b → IsPlain (a ++ b)
plain-append [] b ha hb = hb
plain-append (c ∷ a) b ha hb = (ha.0, plain-append a b ha.1 hb)

pub plain_front : (a b : List ℕ) → IsPlain (a ++ b) → IsPlain a
plain_front [] b h = tt
plain_front (c ∷ a) b h = (h.0, plain_front a b h.1)

pub plain_back : (a b : List ℕ) → IsPlain (a ++ b) → IsPlain b
plain_back [] b h = h
plain_back (c ∷ a) b h = plain_back a b h.1

pub plain_drop : (n : ℕ) (bytes : List ℕ) → IsPlain bytes → IsPlain (drop n bytes)
plain_drop zero bytes h = h
plain_drop (suc n) [] h = tt
plain_drop (suc n) (c ∷ bytes) h = plain_drop n bytes h.1

plain_from : (bytes : List ℕ) → ((front more : List ℕ) → bytes ≡ front ++ 10 ∷ more → ⊥) → IsPlain bytes
plain_from [] none = tt
plain_from (c ∷ bytes) none = (
  λ is. none [] bytes (ap (λ (x : ℕ). x ∷ bytes) is),
  plain_from bytes (λ front more e. none (c ∷ front) more (ap (λ (x : List ℕ). c ∷ x) e)),
)

plain_at : (bytes : List ℕ) (k : ℕ) → IsPlain bytes → get_or bytes k 0 ≡ 10 → ⊥
plain_at [] k h e = omega (arith, e)
plain_at (c ∷ bytes) zero h e = h.0 e
plain_at (c ∷ bytes) (suc k) h e = plain_at bytes k h.1 e

-- bytes have no LF, or a first one
pub data Parted (bytes : List ℕ) : Type 0 where
  Plain : IsPlain bytes → Parted bytes
  First : (front rest : List ℕ) → IsPlain front → bytes ≡ front ++ 10 ∷ rest → Parted bytes

pub parted : (bytes : List ℕ) → Parted bytes
parted [] = Plain tt
parted (c ∷ bytes) = by (eqb c 10) refl (parted bytes)
  where
    further : (c ≡ 10 → ⊥) → Parted bytes → Parted (c ∷ bytes)
    further is (Plain plain) = Plain (is, plain)
    further is (First front rest plain e) = First (c ∷ front) rest (is, plain) (ap (λ (x : List ℕ). c ∷ x) e)

    by : (b : Bool) → eqb c 10 ≡ b → Parted bytes → Parted (c ∷ bytes)
    by true is others = First [] bytes tt (ap (λ (x : ℕ). x ∷ bytes) (eqb-true c 10 is))
    by false is others = further (eqb-false c 10 is) others

-- how long the first line is
line_len-next : (c : ℕ) (bytes : List ℕ) → (c ≡ 10 → ⊥) → line_len (c ∷ bytes) ≡ suc (line_len bytes)
line_len-next c bytes is = by (eqb c 10) refl
  where
    by : (b : Bool) → eqb c 10 ≡ b → cond b 1 (suc (line_len bytes)) ≡ suc (line_len bytes)
    by true e = absurd (is (eqb-true c 10 e))
    by false e = refl

pub line_len-plain : (front rest : List ℕ) → IsPlain front → line_len (front ++ rest) ≡ length front + line_len rest
line_len-plain [] rest h = omega arith
line_len-plain (c ∷ front) rest h = let e = line_len-plain front rest h.1 in line_len-next c (front ++ rest) h.0 ∙ omega (arith, e)

pub line_len-first : (front rest : List ℕ) → IsPlain front → line_len (front ++ 10 ∷ rest) ≡ length front + 1
line_len-first front rest h = line_len-plain front (10 ∷ rest) h

pub some_line_len : (c : ℕ) (bytes : List ℕ) → 0 < line_len (c ∷ bytes)
some_line_len c bytes = by (eqb c 10)
  where
    by : (b : Bool) → 0 < cond b 1 (suc (line_len bytes))
    by true = omega arith
    by false = omega arith

-- what follows it
pub drop_past : (a b : List ℕ) (n : ℕ) → drop (length a + n) (a ++ b) ≡ drop n b
drop_past [] b n = let e : 0 + n ≡ n = omega arith in ap (λ (k : ℕ). drop k b) e
drop_past (c ∷ a) b n = let e : suc (length a) + n ≡ suc (length a + n) = omega arith in ap (λ (k : ℕ). drop k (c ∷ a ++ b)) e ∙ drop_past a b n

pub behind_line-plain : (front rest : List ℕ) → IsPlain front → behind_line (front ++ rest) ≡ behind_line rest
behind_line-plain front rest h = ap (λ (n : ℕ). drop n (front ++ rest)) (line_len-plain front rest h) ∙ drop_past front rest (line_len rest)

pub behind_line-first : (front rest : List ℕ) → IsPlain front → behind_line (front ++ 10 ∷ rest) ≡ rest
behind_line-first front rest h = behind_line-plain front (10 ∷ rest) h

pub none_behind : (bytes : List ℕ) → IsPlain bytes → behind_line bytes ≡ []
none_behind bytes h = ap behind_line (sym (append-nil bytes)) ∙ behind_line-plain bytes [] h

-- The front of some bytes that isn't longer than their first line: without LF, or ended by it.
pub data Ending (line : List ℕ) : Type 0 where
  Open : IsPlain line → is_whole line ≡ false → Ending line
  Ended : (front : List ℕ) → IsPlain front → line ≡ front ++ 10 ∷ [] → is_whole line ≡ true → Ending line

not_ten : (n : ℕ) → (n ≡ 10 → ⊥) → eqb n 10 ≡ false
not_ten n is = by (eqb n 10) refl
  where
    by : (b : Bool) → eqb n 10 ≡ b → b ≡ false
    by true e = absurd (is (eqb-true n 10 e))
    by false e = refl

pub ending : (line after : List ℕ) → length line ≤ line_len (line ++ after) → Ending line
ending line after within = by (parted line)
  where
    by : Parted line → Ending line
    by (Plain plain) = Open plain (not_ten (get_or line (length line - 1) 0) (plain_at line (length line - 1) plain))
    by (First front rest plain e) = last rest e
      where
        last : (rest : List ℕ) → line ≡ front ++ 10 ∷ rest → Ending line
        last [] e =
            let long : length line - 1 ≡ length front = omega (arith, ap length e, length-append front (10 ∷ [])) in
            let at : get_or line (length line - 1) 0 ≡ 10 = (λ i. get_or (e i) (long i) 0) ∙ get_or_at front 10 [] 0 (length front) refl in
            Ended front plain e (ap (λ (n : ℕ). eqb n 10) at)
        last (c ∷ rest) e =
            let long : length line ≡ length front + suc (suc (length rest)) = ap length e ∙ length-append front (10 ∷ c ∷ rest) in
            let one : line_len (line ++ after) ≡ length front + 1 = ap (λ (x : List ℕ). line_len (x ++ after)) e ∙ ap line_len (append_assoc front (10 ∷ c ∷ rest) after) ∙ line_len-first front (c ∷ rest ++ after) plain in
            absurd (omega arith)

-- bytes that are one line, of so many bytes at most
pub record IsLine (most : ℕ) (text : List ℕ) : Type 0 where
  pub front : List ℕ
  pub plain : IsPlain front
  pub text_is : text ≡ front ++ 10 ∷ []
  pub short : length text ≤ most

behind : (a text : List ℕ) (j k : ℕ) → IsPlain a → length a ≤ j → IsLine k text → IsLine (j + k) (a ++ text)
behind a text j k plain short line = record {
  front = a ++ line.front;
  plain = plain-append a line.front plain line.plain;
  text_is = ap (λ (x : List ℕ). a ++ x) line.text_is ∙ sym (append_assoc a line.front (10 ∷ []));
  short = omega (arith, length-append a text, line.short);
}

closed : (a : List ℕ) (j : ℕ) → IsPlain a → length a ≤ j → IsLine (j + 1) ((a ++ 10 ∷ []) ++ [])
closed a j plain short = record {
  front = a;
  plain = plain;
  text_is = append-nil (a ++ 10 ∷ []);
  short = omega (arith, ap length (append-nil (a ++ 10 ∷ [])), length-append a (10 ∷ []));
}

within : (j k : ℕ) (text : List ℕ) → j ≤ k → IsLine j text → IsLine k text
within j k text below line = record { front = line.front; plain = line.plain; text_is = line.text_is; short = omega (arith, line.short) }

-- elements
plain_digits : (n : ℕ) → n ≤ greatest → IsPlain (decimal n)
plain_digits n h = plain_from (decimal n) (λ front more e. let digit = among n h front 10 more e in omega (arith, digit.0))

few_digits : (n : ℕ) → n ≤ greatest → length (decimal n) ≤ 10
few_digits n h = length-decimal-le 10 n (omega arith) (omega arith) (omega arith)

plain_number : (n : ℕ) → n ≤ greatest → IsPlain (decimal n ++ 32 ∷ [])
plain_number n h = plain-append (decimal n) (32 ∷ []) (plain_digits n h) (λ e. omega (arith, e), tt)

numbered : (n k : ℕ) (others : List (Rule × List ℕ)) → n ≤ greatest → IsLine k (bytes_of others) → IsLine (11 + k) (bytes_of (number n ∷ others))
numbered n k others h line =
    behind (decimal n ++ 32 ∷ []) (bytes_of others) 11 k (plain_number n h) (omega (arith, few_digits n h, length-append (decimal n) (32 ∷ []))) line

named_line : (name : List ℕ) → IsTrue (is_name name) → IsLine 256 (bytes_of (named name ∷ []))
named_line name h = closed name 255 (plain_from name (λ front more e. unbroken name front more h e)) (name_is name h).1

digits_line : (n : ℕ) → n ≤ greatest → IsLine 11 ((decimal n ++ 10 ∷ []) ++ [])
digits_line n h = closed (decimal n) 10 (plain_digits n h) (few_digits n h)

-- a word
plain_test : List ℕ → Bool
plain_test [] = true
plain_test (c ∷ bytes) = cond (eqb c 10) false (plain_test bytes)

plain_by : (bytes : List ℕ) → plain_test bytes ≡ true → IsPlain bytes
unfolding plain_test
plain_by [] e = tt
plain_by (c ∷ bytes) e = by (plain_by bytes) (eqb c 10) refl e
  where
    by : (plain_test bytes ≡ true → IsPlain bytes) → (b : Bool) → eqb c 10 ≡ b → cond b false (plain_test bytes) ≡ true → IsPlain (c ∷ bytes)
    by others true is e = absurd cc
    by others false is e = (eqb-false c 10 is, others e)

worded : (word : List ℕ) (k : ℕ) (others : List (Rule × List ℕ)) → plain_test word ≡ true → length word ≤ 7 → IsLine k (bytes_of others) → IsLine (7 + k) (bytes_of ((Word, word) ∷ others))
worded word k others plain short line = behind word (bytes_of others) 7 k (plain_by word plain) short line

edit_line : (l : EditLine) → IsEditLine l → IsLine 289 (bytes_of (line_elements l))
edit_line l h =
    let sized = numbered l.size 256 (named l.name ∷ []) (omega (arith, h.size)) (named_line l.name h.is_named) in
    numbered l.place 278 (number l.removed ∷ number l.size ∷ named l.name ∷ []) h.place (numbered l.removed 267 (number l.size ∷ named l.name ∷ []) h.removed sized)

pub change_line_is : (l : ChangeLine) → IsChangeLine l → IsLine most_line (bytes_of (change_line_elements l))
unfolding plain_test
change_line_is (lines.Edit l) h = within 296 most_line _ (omega arith) (worded (codes "edit ") 289 (line_elements l) refl (omega arith) (edit_line l h))
change_line_is (lines.Remove name) h = within 263 most_line _ (omega arith) (worded (codes "remove ") 256 (named name ∷ []) refl (omega arith) (named_line name h))

pub head_is : (h : Head) → IsHead h → IsLine most_line (bytes_of (head_elements h))
unfolding plain_test
head_is (heads.Change (lines.Edit l)) h = within 296 most_line _ (omega arith) (worded (codes "edit ") 289 (line_elements l) refl (omega arith) (edit_line l h))
head_is (heads.Change (lines.Remove name)) h = within 263 most_line _ (omega arith) (worded (codes "remove ") 256 (named name ∷ []) refl (omega arith) (named_line name h))
head_is (heads.Batch n) h = within 18 most_line _ (omega arith) (worded (codes "batch ") 11 (counted n ∷ []) refl (omega arith) (digits_line n (omega (arith, h.1))))
head_is (heads.Save name) h = within 263 most_line _ (omega arith) (worded (codes "save ") 256 (named name ∷ []) refl (omega arith) (named_line name h))
head_is (heads.Locate at) h =
    within 274 most_line _ (omega arith) (worded (codes "locate ") 267 (number at.place ∷ named at.name ∷ []) refl (omega arith) (numbered at.place 256 (named at.name ∷ []) h.place (named_line at.name h.is_named)))
head_is (heads.File size name) h =
    within 274 most_line _ (omega arith) (worded (codes "file ") 267 (number size ∷ named name ∷ []) refl (omega arith) (numbered size 256 (named name ∷ []) (omega (arith, h.0)) (named_line name h.1)))
head_is (heads.Page k) h = within 18 most_line _ (omega arith) (worded (codes "page ") 11 (paged k ∷ []) refl (omega arith) (digits_line k h))
head_is heads.Log h = record { front = codes "log"; plain = plain_by (codes "log") refl; text_is = refl; short = omega arith }
head_is (heads.LogOf k) h = within 18 most_line _ (omega arith) (worded (codes "log ") 11 (paged k ∷ []) refl (omega arith) (digits_line k h))
