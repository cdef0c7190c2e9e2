-- The elements of a file are read, one after the other.
use Rattle.std.proofs.Common.{◌≡◌, ℕ, zero, suc, ◌+◌, ◌-◌, ◌*◌, ◌/◌, ◌%◌, ◌^◌, ◌<◌, ◌≤◌, ◌==◌, ◌&&◌, ◌||◌, ◌⊎◌, nat_le, nat_lt, Bool, true, false, cond, ℤ, List, [], ◌∷◌, ◌++◌, length, get_or, drop, Some, refl, sym, ap, ◌∙◌, subst, inl, inr, arith, length-append, append_assoc, w32}
use Rattle.std.proofs.lemmas.Bool.{and_from, and_left, and_right, cases_eq, cases_lt, eq-eqb, le-leb, le-ltb, lt-leb, lt-ltb, ne_eqb, or_left, or_right}
use Rattle.std.proofs.lemmas.List.{drop-append-le, drop-drop, get_or_append_left, get_or-append_right, get_or_at, length-drop, length_push}
use Rattle.std.specs.Int.{cast_signed}
use Rattle.byteorder.specs.Endian.{big_number}
use Rattle.tx_dvitype.specs.declared.error.DviRule.TheVariants as element
use Rattle.tx_dvitype.specs.declared.reader.Reader.{Reader}
use Rattle.tx_dvi.specs.Dvi.{four_bytes}
use Rattle.tx_dvitype.specs.Files.{stands_at, preamble_start, is_mag, may_begin_preamble, is_preamble, behind_preamble, past_preamble, may_begin_page, may_begin_post, counts_in, behind_bop, past_bop, may_stand, behind_postamble, past_postamble, taken, at_start}
use Rattle.tx_dvitype.specs.Grammar.{FileText, numbers_in, preamble_bytes}
use Rattle.tx_dvitype.proofs.Ends.{end-takes, post-takes, bop-takes, preamble-takes}
use Rattle.tx_dvitype.proofs.ReadEnd.{at_byte}
use Rattle.tx_dvitype.proofs.ReadFront.{at_pages, may-anything, stands-there}
use Rattle.tx_dvitype.proofs.Spelling.{from-front}
use Rattle.tx_dvitype.proofs.Steps.{Within, gathers, gathered_to}

-- a byte in the midst of others
pub byte-there : (done text all : List ℕ) (byte : ℕ) → done ++ byte ∷ text ≡ all → byte ≡ get_or all (length done) 0
byte-there done text all byte e = sym (get_or_at done byte text 0 (length done) refl) ∙ ap (λ (xs : List ℕ). get_or xs (length done) 0) e

pub count-there : (done text all : List ℕ) (byte : ℕ) → done ++ byte ∷ text ≡ all → length all ≡ length done + suc (length text)
count-there done text all byte e = ap (λ (xs : List ℕ). length xs) (sym e) ∙ length-append done (byte ∷ text)

front-there : (xs text all : List ℕ) (k : ℕ) → xs ++ text ≡ all → k < length xs → get_or xs k 0 ≡ get_or all k 0
front-there xs text all k e less = sym (get_or_append_left xs text 0 k less) ∙ ap (λ (ys : List ℕ). get_or ys k 0) e

-- the preamble
module _ (hi lo : ℕ) (c : List ℕ) (high : hi ≤ 128) (mag_is : is_mag (256 * hi + lo) ≡ true) where
  abbrev all_pre : List ℕ
  all_pre = preamble_start ++ hi ∷ lo ∷ length c ∷ c

  preamble-may : (done text : List ℕ) (byte : ℕ) → done ++ byte ∷ text ≡ all_pre → may_begin_preamble done byte ≡ true
  preamble-may done text byte e = elim (cases_lt (length done) 12) [
    | inl few ↦ (let is : byte ≡ get_or preamble_start (length done) 0 = byte-there done text all_pre byte e ∙ get_or_append_left preamble_start (hi ∷ lo ∷ length c ∷ c) 0 (length done) few in
        λ i. cond {A = Bool} (lt-ltb (length done) 12 few i) (stands-there preamble_start (length done) byte few is i) (cond {A = Bool} (length done == 12) (nat_le byte 128) (cond {A = Bool} (length done == 13) (is_mag (256 * get_or done 12 0 + byte)) true)))
    | inr many ↦ elim (cases_eq (length done) 12) [
      | inl at ↦ (let is : byte ≡ hi = byte-there done text all_pre byte e ∙ ap (λ n. get_or all_pre n 0) at in
          λ i. cond {A = Bool} (le-ltb (length done) 12 many i) (stands_at preamble_start (length done) byte) (cond {A = Bool} (eq-eqb (length done) 12 at i) (le-leb byte 128 (omega (arith, is, high)) i) (cond {A = Bool} (length done == 13) (is_mag (256 * get_or done 12 0 + byte)) true)))
      | inr no12 ↦ elim (cases_eq (length done) 13) [
        | inl at ↦ (let is : byte ≡ lo = byte-there done text all_pre byte e ∙ ap (λ n. get_or all_pre n 0) at in
            let first : get_or done 12 0 ≡ hi = front-there done (byte ∷ text) all_pre 12 e (omega (arith, at)) in
            λ i. cond {A = Bool} (le-ltb (length done) 12 many i) (stands_at preamble_start (length done) byte) (cond {A = Bool} (ne_eqb (length done) 12 no12 i) (nat_le byte 128) (cond {A = Bool} (eq-eqb (length done) 13 at i) (((λ j. is_mag (256 * first j + is j)) ∙ mag_is) i) true)))
        | inr no13 ↦ may-anything done byte (omega (arith, many, no12, no13))
      ]
    ]
  ]

  preamble-part : (xs : List ℕ) (text : List ℕ) → 0 < length text → xs ++ text ≡ all_pre → is_preamble xs ≡ false
  preamble-part xs text some e =
      let long : length all_pre ≡ length xs + length text = ap (λ (ys : List ℕ). length ys) (sym e) ∙ length-append xs text in
      elim (cases_lt 14 (length xs)) [
        | inl past ↦ (let k : get_or xs 14 0 ≡ length c = front-there xs text all_pre 14 e past in and_right (nat_lt 14 (length xs)) (length xs == 15 + get_or xs 14 0) (ne_eqb (length xs) (15 + get_or xs 14 0) (λ q. omega (arith, long, some, k, q))))
        | inr fits ↦ and_left (nat_lt 14 (length xs)) (length xs == 15 + get_or xs 14 0) (le-ltb 14 (length xs) fits)
      ]

  preamble-whole : is_preamble all_pre ≡ true
  preamble-whole = and_from (nat_lt 14 (length all_pre)) (length all_pre == 15 + length c) (lt-ltb 14 (length all_pre) (omega arith)) (eq-eqb (length all_pre) (15 + length c) (omega arith))

  preamble-goes-on : (done text : List ℕ) (byte : ℕ) → done ++ byte ∷ text ≡ all_pre → taken (0 + length done) (at_byte at_start done) byte ≡ Some (gathered_to element.Preamble at_start (at_pages (256 * hi + lo)) all_pre 0 text (done ++ byte ∷ []))
  preamble-goes-on done [] byte e =
      preamble-takes (0 + length done) (at_byte at_start done) byte refl (preamble-may done [] byte e)
      ∙ (λ i. Some (past_preamble (at_byte at_start (e i))))
      ∙ (λ i. Some (cond {A = Reader} (preamble-whole i) (behind_preamble (at_byte at_start all_pre)) (at_byte at_start all_pre)))
  preamble-goes-on done (b ∷ text) byte e =
      preamble-takes (0 + length done) (at_byte at_start done) byte refl (preamble-may done (b ∷ text) byte e)
      ∙ (λ i. Some (cond {A = Reader} (preamble-part (done ++ byte ∷ []) (b ∷ text) (omega arith) (append_assoc done (byte ∷ []) (b ∷ text) ∙ e) i) (behind_preamble (at_byte at_start (done ++ byte ∷ []))) (at_byte at_start (done ++ byte ∷ []))))

  pub start-within : Within element.Preamble 0 at_start all_pre (at_pages (256 * hi + lo))
  start-within = gathers element.Preamble at_start (at_pages (256 * hi + lo)) all_pre 0 refl preamble-goes-on [] all_pre refl (omega arith)

pub preamble-is : (file : FileText) → file.mag ≤ 32768 → preamble_bytes file ≡ preamble_start ++ file.mag / 256 % 256 ∷ file.mag % 256 ∷ length file.comment ∷ file.comment
unfolding four_bytes
preamble-is file most =
    let zero3 : file.mag / 256 ^ 3 % 256 ≡ 0 = omega (arith, most) in
    let zero2 : file.mag / 256 ^ 2 % 256 ≡ 0 = omega (arith, most) in
    λ i. 247 ∷ 2 ∷ 1 ∷ 131 ∷ 146 ∷ 192 ∷ 28 ∷ 59 ∷ 0 ∷ 0 ∷ zero3 i ∷ zero2 i ∷ file.mag / 256 % 256 ∷ file.mag % 256 ∷ length file.comment ∷ file.comment

pub preamble-within : (file : FileText) → 1 ≤ file.mag → file.mag ≤ 32768 → Within element.Preamble 0 at_start (preamble_bytes file) (at_pages file.mag)
preamble-within file least most =
    let hi : ℕ = file.mag / 256 % 256 in
    let lo : ℕ = file.mag % 256 in
    let same : 256 * hi + lo ≡ file.mag = omega (arith, most) in
    subst (λ (bytes : List ℕ). Within element.Preamble 0 at_start bytes (at_pages file.mag)) (sym (preamble-is file most))
    (subst (λ (mag : ℕ). Within element.Preamble 0 at_start (preamble_start ++ hi ∷ lo ∷ length file.comment ∷ file.comment) (at_pages mag)) same
    (start-within hi lo file.comment (omega (arith, most)) (λ i. le-leb 1 (256 * hi + lo) (omega (arith, same, least)) i && le-leb (256 * hi + lo) 32768 (omega (arith, same, most)) i)))

-- the numbers of a bop
numbers-front : (n : ℕ) (xs ys : List ℕ) → 4 * n ≤ length xs → numbers_in n (xs ++ ys) ≡ numbers_in n xs
numbers-front zero xs ys fits = refl
numbers-front (suc n) xs ys fits =
    let behind : drop 4 (xs ++ ys) ≡ drop 4 xs ++ ys = drop-append-le 4 xs ys (omega (arith, fits)) in
    let left : length (drop 4 xs) ≡ length xs - 4 = length-drop 4 xs in
    λ i. cast_signed w32 (from-front 4 0 xs ys (omega (arith, fits)) i) ∷ ((λ j. numbers_in n (behind j)) ∙ numbers-front n (drop 4 xs) ys (omega (arith, fits, left))) i

abbrev num : List ℕ → ℤ
num xs = cast_signed w32 (big_number 4 xs)

counts-nested : (b : ℕ) (zs : List ℕ) → counts_in (b ∷ zs) ≡ numbers_in 10 zs
unfolding counts_in
counts-nested b zs =
    let e2 : drop 8 zs ≡ drop 4 (drop 4 zs) = sym (drop-drop 4 4 zs) in
    let e3 : drop 12 zs ≡ drop 4 (drop 4 (drop 4 zs)) = sym (drop-drop 4 8 zs) ∙ ap (drop 4) e2 in
    let e4 : drop 16 zs ≡ drop 4 (drop 4 (drop 4 (drop 4 zs))) = sym (drop-drop 4 12 zs) ∙ ap (drop 4) e3 in
    let e5 : drop 20 zs ≡ drop 4 (drop 4 (drop 4 (drop 4 (drop 4 zs)))) = sym (drop-drop 4 16 zs) ∙ ap (drop 4) e4 in
    let e6 : drop 24 zs ≡ drop 4 (drop 4 (drop 4 (drop 4 (drop 4 (drop 4 zs))))) = sym (drop-drop 4 20 zs) ∙ ap (drop 4) e5 in
    let e7 : drop 28 zs ≡ drop 4 (drop 4 (drop 4 (drop 4 (drop 4 (drop 4 (drop 4 zs)))))) = sym (drop-drop 4 24 zs) ∙ ap (drop 4) e6 in
    let e8 : drop 32 zs ≡ drop 4 (drop 4 (drop 4 (drop 4 (drop 4 (drop 4 (drop 4 (drop 4 zs))))))) = sym (drop-drop 4 28 zs) ∙ ap (drop 4) e7 in
    let e9 : drop 36 zs ≡ drop 4 (drop 4 (drop 4 (drop 4 (drop 4 (drop 4 (drop 4 (drop 4 (drop 4 zs)))))))) = sym (drop-drop 4 32 zs) ∙ ap (drop 4) e8 in
    λ i. num zs ∷ num (drop 4 zs) ∷ num (e2 i) ∷ num (e3 i) ∷ num (e4 i) ∷ num (e5 i) ∷ num (e6 i) ∷ num (e7 i) ∷ num (e8 i) ∷ num (e9 i) ∷ []

pub counts-are : (b : ℕ) (numbers pointer : List ℕ) → length numbers ≡ 40 → counts_in (b ∷ numbers ++ pointer) ≡ numbers_in 10 numbers
counts-are b numbers pointer ten = counts-nested b (numbers ++ pointer) ∙ numbers-front 10 numbers pointer (omega (arith, ten))

-- bop
module _ (r : Reader) (numbers : List ℕ) (start : ℕ) (at : r.element ≡ element.Page) (ten : length numbers ≡ 40) (four : length r.pointer ≡ 4) where
  abbrev all_bop : List ℕ
  all_bop = 139 ∷ numbers ++ r.pointer

  long-bop : length all_bop ≡ 45
  long-bop = let all = length-append numbers r.pointer in omega (arith, all, ten, four)

  bop-no-post : (done text : List ℕ) (byte : ℕ) → done ++ byte ∷ text ≡ all_bop → may_begin_post (at_byte r done) byte ≡ false
  bop-no-post [] text byte e = let first : byte ≡ 139 = ap (λ (xs : List ℕ). get_or xs 0 0) e in and_left (byte == 248) (nat_lt 0 (length r.pages)) (ap (λ n. n == 248) first)
  bop-no-post (x ∷ done) text byte e = and_left (length (x ∷ done) == 0) (byte == 248 && nat_lt 0 (length r.pages)) (ne_eqb (length (x ∷ done)) 0 (λ q. omega (arith, q)))

  bop-may : (done text : List ℕ) (byte : ℕ) → done ++ byte ∷ text ≡ all_bop → may_begin_page (at_byte r done) byte ≡ true
  bop-may [] text byte e = let first : byte ≡ 139 = ap (λ (xs : List ℕ). get_or xs 0 0) e in ap (λ n. n == 139) first
  bop-may (x ∷ done) text byte e =
      let some : (length (x ∷ done) == 0) ≡ false = ne_eqb (length (x ∷ done)) 0 (λ q. omega (arith, q)) in
      elim (cases_lt 40 (length (x ∷ done))) [
        | inl past ↦ (let is : byte ≡ get_or r.pointer (length (x ∷ done) - 41) 0 = byte-there (x ∷ done) text all_bop byte e ∙ get_or-append_right (139 ∷ numbers) r.pointer 41 (length (x ∷ done)) 0 (omega (arith, ten)) past in
            let long = count-there (x ∷ done) text all_bop byte e in
            let there : stands_at r.pointer (length (x ∷ done) - 41) byte ≡ true = stands-there r.pointer (length (x ∷ done) - 41) byte (omega (arith, long, long-bop, past, four)) is in
            λ i. cond {A = Bool} (some i) (byte == 139) (cond {A = Bool} (lt-leb (length (x ∷ done)) 40 past i) true (there i)))
        | inr fits ↦ λ i. cond {A = Bool} (some i) (byte == 139) (cond {A = Bool} (le-leb (length (x ∷ done)) 40 fits i) true (stands_at r.pointer (length (x ∷ done) - 41) byte))
      ]

  bop-goes-on : (done text : List ℕ) (byte : ℕ) → done ++ byte ∷ text ≡ all_bop → taken (start + length done) (at_byte r done) byte ≡ Some (gathered_to element.Page r (behind_bop (start + 44) (at_byte r all_bop)) all_bop start text (done ++ byte ∷ []))
  bop-goes-on done [] byte e =
      let long = count-there done [] all_bop byte e in
      let place : start + length done ≡ start + 44 = omega (arith, long, long-bop) in
      bop-takes (start + length done) (at_byte r done) byte at (bop-no-post done [] byte e) (bop-may done [] byte e)
      ∙ (λ i. Some (past_bop (place i) (at_byte r (e i))))
      ∙ (λ i. Some (cond {A = Reader} (eq-eqb (length all_bop) 45 long-bop i) (behind_bop (start + 44) (at_byte r all_bop)) (at_byte r all_bop)))
  bop-goes-on done (b ∷ text) byte e =
      let long = count-there done (b ∷ text) all_bop byte e in
      let one = length_push done byte in
      bop-takes (start + length done) (at_byte r done) byte at (bop-no-post done (b ∷ text) byte e) (bop-may done (b ∷ text) byte e)
      ∙ (λ i. Some (cond {A = Reader} (ne_eqb (length (done ++ byte ∷ [])) 45 (λ q. omega (arith, long, long-bop, one, q)) i) (behind_bop (start + length done) (at_byte r (done ++ byte ∷ []))) (at_byte r (done ++ byte ∷ []))))

  pub bop-within : Within element.Page start (at_byte r []) all_bop (behind_bop (start + 44) (at_byte r all_bop))
  bop-within =
      subst (λ (n : ℕ). Within element.Page n (at_byte r []) all_bop (behind_bop (start + 44) (at_byte r all_bop))) (let n : start + 0 ≡ start = omega arith in n)
      (gathers element.Page r (behind_bop (start + 44) (at_byte r all_bop)) all_bop start at bop-goes-on [] all_bop refl (omega (arith, long-bop)))

-- the postamble, whose greatest sizes and depth may be anything
module _ (r : Reader) (start : ℕ) (front sizes zeros back : List ℕ) (at : r.element ≡ element.Postamble) (expected : r.expected ≡ front ++ (zeros ++ back)) (long17 : length front ≡ 17) (ten : length sizes ≡ 10) (none : length zeros ≡ 10) where
  abbrev all_post : List ℕ
  all_post = front ++ (sizes ++ back)

  long-post : length all_post ≡ 27 + length back
  long-post = let one = length-append front (sizes ++ back) in let two = length-append sizes back in omega (arith, one, two, long17, ten)

  long-expected : length r.expected ≡ 27 + length back
  long-expected = let is = ap (λ (xs : List ℕ). length xs) expected in let one = length-append front (zeros ++ back) in let two = length-append zeros back in omega (arith, is, one, two, long17, none)

  same-byte : (k : ℕ) → (k < 17) ⊎ (27 ≤ k) → get_or all_post k 0 ≡ get_or r.expected k 0
  same-byte k (inl low) = get_or_append_left front (sizes ++ back) 0 k (omega (arith, low, long17)) ∙ sym (get_or_append_left front (zeros ++ back) 0 k (omega (arith, low, long17))) ∙ ap (λ (xs : List ℕ). get_or xs k 0) (sym expected)
  same-byte k (inr past) =
      get_or-append_right front (sizes ++ back) 17 k 0 long17 (omega (arith, past)) ∙ get_or-append_right sizes back 10 (k - 17) 0 ten (omega (arith, past))
      ∙ sym (get_or-append_right zeros back 10 (k - 17) 0 none (omega (arith, past))) ∙ sym (get_or-append_right front (zeros ++ back) 17 k 0 long17 (omega (arith, past))) ∙ ap (λ (xs : List ℕ). get_or xs k 0) (sym expected)

  post-may : (done text : List ℕ) (byte : ℕ) → done ++ byte ∷ text ≡ all_post → (may_stand (at_byte r done) || stands_at r.expected (length done) byte) ≡ true
  post-may done text byte e =
      let long = count-there done text all_post byte e in
      let is : byte ≡ get_or all_post (length done) 0 = byte-there done text all_post byte e in
      elim (cases_lt (length done) 17) [
        | inl low ↦ or_right (may_stand (at_byte r done)) (stands_at r.expected (length done) byte) (stands-there r.expected (length done) byte (omega (arith, long, long-post, long-expected)) (is ∙ same-byte (length done) (inl low)))
        | inr more ↦ elim (cases_lt (length done) 27) [
          | inl within ↦ or_left (may_stand (at_byte r done)) (stands_at r.expected (length done) byte) (and_from (nat_le 17 (length done)) (nat_lt (length done) 27) (le-leb 17 (length done) more) (lt-ltb (length done) 27 within))
          | inr past ↦ or_right (may_stand (at_byte r done)) (stands_at r.expected (length done) byte) (stands-there r.expected (length done) byte (omega (arith, long, long-post, long-expected)) (is ∙ same-byte (length done) (inr past)))
        ]
      ]

  abbrev post_end : Reader
  post_end = behind_postamble (start + (26 + length back)) (at_byte r all_post)

  post-goes-on : (done text : List ℕ) (byte : ℕ) → done ++ byte ∷ text ≡ all_post → taken (start + length done) (at_byte r done) byte ≡ Some (gathered_to element.Postamble r post_end all_post start text (done ++ byte ∷ []))
  post-goes-on done [] byte e =
      let long = count-there done [] all_post byte e in
      let place : start + length done ≡ start + (26 + length back) = omega (arith, long, long-post) in
      let same : length all_post ≡ length r.expected = long-post ∙ sym long-expected in
      post-takes (start + length done) (at_byte r done) byte at (post-may done [] byte e)
      ∙ (λ i. Some (past_postamble (place i) (at_byte r (e i))))
      ∙ (λ i. Some (cond {A = Reader} (eq-eqb (length all_post) (length r.expected) same i) post_end (at_byte r all_post)))
  post-goes-on done (b ∷ text) byte e =
      let long = count-there done (b ∷ text) all_post byte e in
      let one = length_push done byte in
      post-takes (start + length done) (at_byte r done) byte at (post-may done (b ∷ text) byte e)
      ∙ (λ i. Some (cond {A = Reader} (ne_eqb (length (done ++ byte ∷ [])) (length r.expected) (λ q. omega (arith, long, long-post, long-expected, one, q)) i) (behind_postamble (start + length done) (at_byte r (done ++ byte ∷ []))) (at_byte r (done ++ byte ∷ []))))

  -- from its second byte on
  pub post-within : (first : ℕ) (text : List ℕ) → first ∷ text ≡ all_post → Within element.Postamble (start + 1) (at_byte r (first ∷ [])) text post_end
  post-within first text e =
      let long : suc (length text) ≡ length all_post = ap (λ (xs : List ℕ). length xs) e in
      gathers element.Postamble r post_end all_post start at post-goes-on (first ∷ []) text e (omega (arith, long, long-post))

-- what stands behind it
module _ (r : Reader) (start : ℕ) (all : List ℕ) (at : r.element ≡ element.End) (expected : r.expected ≡ all) (some : 0 < length all) where
  end-goes-on : (done text : List ℕ) (byte : ℕ) → done ++ byte ∷ text ≡ all → taken (start + length done) (at_byte r done) byte ≡ Some (gathered_to element.End r (at_byte r all) all start text (done ++ byte ∷ []))
  end-goes-on done text byte e =
      let long = count-there done text all byte e in
      let same : length r.expected ≡ length all = ap (λ (xs : List ℕ). length xs) expected in
      let is : byte ≡ get_or r.expected (length done) 0 = byte-there done text all byte e ∙ ap (λ (xs : List ℕ). get_or xs (length done) 0) (sym expected) in
      end-takes (start + length done) (at_byte r done) byte at (stands-there r.expected (length done) byte (omega (arith, long, same)) is)
      ∙ by text e
    where
      by : (rest : List ℕ) → done ++ byte ∷ rest ≡ all → Some (at_byte r (done ++ byte ∷ [])) ≡ Some (gathered_to element.End r (at_byte r all) all start rest (done ++ byte ∷ []))
      by [] f = λ i. Some (at_byte r (f i))
      by (b ∷ rest) f = refl

  pub end-within : Within element.End start (at_byte r []) all (at_byte r all)
  end-within =
      subst (λ (n : ℕ). Within element.End n (at_byte r []) all (at_byte r all)) (let n : start + 0 ≡ start = omega arith in n)
      (gathers element.End r (at_byte r all) all start at end-goes-on [] all refl some)
