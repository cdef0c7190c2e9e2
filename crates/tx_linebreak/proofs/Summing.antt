-- Totals of lists, piece by piece.
use Rattle.std.proofs.Common.{◌≡◌, ℕ, suc, ◌+◌, ◌*◌, ◌-◌, ◌<◌, ◌≤◌, ◌^◌, Bool, true, false, cond, ℤ, pos, ◌+ℤ◌, ◌-ℤ◌, unsigned_abs, List, [], ◌∷◌, ◌++◌, length, take, drop, get_or, refl, sym, ap, subst, ◌∙◌, arith}
use Rattle.std.proofs.Common.{to_z, of_z}
use Rattle.std.proofs.lemmas.Int.{ints, to_z-of_z, fits_signed_from_abs}
use Rattle.std.proofs.lemmas.List.{take_more}
use Rattle.std.proofs.Math.ListN.{get_or-append}
use Rattle.std.proofs.Math.Seq.{get_or-append_seam}
use Rattle.std.proofs.Common.{inl, inr, length-append}
use Rattle.std.proofs.lemmas.Bool.{cases_lt}
use Rattle.std.proofs.Common.{min}
use Rattle.std.specs.Prelude.{int_lt, slice_range}
use Rattle.std.proofs.Math.Seq.{take-add}
use mir.Syntax.{w128}
use Rattle.tx_linebreak.specs.declared.line.Candidate.{Candidate}
use Rattle.tx_linebreak.specs.declared.piece.Piece.{Piece}
use Rattle.tx_linebreak.specs.declared.totals.Totals.{Totals}
use Rattle.tx_linebreak.specs.Lines.{Attempt, background, begin_width, end_width, first_place, fit_of, line_fit, line_totals, line_width, shrunk, stretched}
use Rattle.tx_linebreak.specs.Trials.{totals_until}
use Rattle.tx_linebreak.specs.Totals.{IsWithin, both, less, piece_totals, rigid, totals_of}

-- the sums up to a place
pub record AreSumsTo (place : ℕ) (sums : List Totals) (total : Totals) (pieces : List Piece) : Type 0 where
  pub length_is : length sums ≡ suc place
  pub total_is : total ≡ totals_of (take place pieces)
  pub total_in : IsWithin (place * 2 ^ 31) total
  pub sums_are : (k : ℕ) (d : Totals) → k ≤ place → get_or sums k d ≡ totals_of (take k pieces)
  pub small : (k : ℕ) (d : Totals) → k ≤ place → IsWithin (2 ^ 94) (get_or sums k d)

-- a number that went into 128 bits and came back
pub back : (z e : ℤ) → unsigned_abs z ≤ 2 ^ 121 → z ≡ e → to_z w128 (of_z w128 z) ≡ e
back z e h is = to_z-of_z w128 z (fits_signed_from_abs w128 z (omega arith)) ∙ is

abbrev pub through : ℤ → ℤ
through z = to_z w128 (of_z w128 z)

pub sum_back : (r a b : ℤ) → unsigned_abs r ≤ 2 ^ 121 → r ≡ through a +ℤ through b → unsigned_abs a ≤ 2 ^ 120 → unsigned_abs b ≤ 2 ^ 120 → through r ≡ a +ℤ b
sum_back r a b small is h k = back r (a +ℤ b) small (is ∙ rw (back a a (omega arith) refl, back b b (omega arith) refl) refl)

pub difference_back : (r a b : ℤ) → unsigned_abs r ≤ 2 ^ 121 → r ≡ through a -ℤ through b → unsigned_abs a ≤ 2 ^ 120 → unsigned_abs b ≤ 2 ^ 120 → through r ≡ a -ℤ b
difference_back r a b small is h k = back r (a -ℤ b) small (is ∙ rw (back a a (omega arith) refl, back b b (omega arith) refl) refl)

-- one more summand
pub added : (s x y : ℤ) → s ≡ x → unsigned_abs x ≤ 2 ^ 120 → unsigned_abs y ≤ 2 ^ 120 → through s +ℤ through y ≡ x +ℤ y
added s x y e h k = ap (λ (z : ℤ). through z +ℤ through y) e ∙ rw (back x x (omega arith) refl, back y y (omega arith) refl) refl

plus_assoc : (a b c : ℤ) → (a +ℤ b) +ℤ c ≡ a +ℤ (b +ℤ c)
plus_assoc a b c = omega (arith, ints)

plus_zero : (a : ℤ) → a +ℤ pos 0 ≡ a
plus_zero a = omega (arith, ints)

zero_plus : (a : ℤ) → pos 0 +ℤ a ≡ a
zero_plus a = omega (arith, ints)

plus_less : (a b : ℤ) → (a +ℤ b) -ℤ a ≡ b
plus_less a b = omega (arith, ints)

abs_plus : (a b : ℤ) (m n : ℕ) → unsigned_abs a ≤ m → unsigned_abs b ≤ n → unsigned_abs (a +ℤ b) ≤ m + n
abs_plus a b m n h k = omega (arith, ints)

pub both_assoc : (a b c : Totals) → both (both a b) c ≡ both a (both b c)
both_assoc a b c = λ i. record {
  width = plus_assoc a.width b.width c.width i;
  stretch = plus_assoc a.stretch b.stretch c.stretch i;
  fil = plus_assoc a.fil b.fil c.fil i;
  fill = plus_assoc a.fill b.fill c.fill i;
  filll = plus_assoc a.filll b.filll c.filll i;
  shrink = plus_assoc a.shrink b.shrink c.shrink i;
}

pub both_none : (a : Totals) → both a (rigid (pos 0)) ≡ a
both_none a = λ i. record {
  width = plus_zero a.width i;
  stretch = plus_zero a.stretch i;
  fil = plus_zero a.fil i;
  fill = plus_zero a.fill i;
  filll = plus_zero a.filll i;
  shrink = plus_zero a.shrink i;
}

-- a width that can't move, added
pub widened : (a : Totals) (z w : ℤ) → z ≡ a.width +ℤ w → record a { width = z } ≡ both a (rigid w)
widened a z w is = λ i. record {
  width = is i;
  stretch = sym (plus_zero a.stretch) i;
  fil = sym (plus_zero a.fil) i;
  fill = sym (plus_zero a.fill) i;
  filll = sym (plus_zero a.filll) i;
  shrink = sym (plus_zero a.shrink) i;
}

pub none_both : (a : Totals) → both (rigid (pos 0)) a ≡ a
none_both a = λ i. record {
  width = zero_plus a.width i;
  stretch = zero_plus a.stretch i;
  fil = zero_plus a.fil i;
  fill = zero_plus a.fill i;
  filll = zero_plus a.filll i;
  shrink = zero_plus a.shrink i;
}

pub less_both : (a b : Totals) → less (both a b) a ≡ b
less_both a b = λ i. record {
  width = plus_less a.width b.width i;
  stretch = plus_less a.stretch b.stretch i;
  fil = plus_less a.fil b.fil i;
  fill = plus_less a.fill b.fill i;
  filll = plus_less a.filll b.filll i;
  shrink = plus_less a.shrink b.shrink i;
}

pub within_both : (a b : Totals) (m n : ℕ) → IsWithin m a → IsWithin n b → IsWithin (m + n) (both a b)
within_both a b m n h k = record {
  width_in = abs_plus a.width b.width m n h.width_in k.width_in;
  stretch_in = abs_plus a.stretch b.stretch m n h.stretch_in k.stretch_in;
  fil_in = abs_plus a.fil b.fil m n h.fil_in k.fil_in;
  fill_in = abs_plus a.fill b.fill m n h.fill_in k.fill_in;
  filll_in = abs_plus a.filll b.filll m n h.filll_in k.filll_in;
  shrink_in = abs_plus a.shrink b.shrink m n h.shrink_in k.shrink_in;
}

pub within_more : (a : Totals) (m n : ℕ) → m ≤ n → IsWithin m a → IsWithin n a
within_more a m n le h = record {
  width_in = let x = h.width_in in omega arith;
  stretch_in = let x = h.stretch_in in omega arith;
  fil_in = let x = h.fil_in in omega arith;
  fill_in = let x = h.fill_in in omega arith;
  filll_in = let x = h.filll_in in omega arith;
  shrink_in = let x = h.shrink_in in omega arith;
}

pub totals_of-append : (xs ys : List Piece) → totals_of (xs ++ ys) ≡ both (totals_of xs) (totals_of ys)
totals_of-append [] ys = sym (none_both (totals_of ys))
totals_of-append (x ∷ xs) ys = ap (both (piece_totals x)) (totals_of-append xs ys) ∙ sym (both_assoc (piece_totals x) (totals_of xs) (totals_of ys))

totals_of-take : (pieces : List Piece) (place : ℕ) (piece : Piece) → place < length pieces → piece ≡ get_or pieces place piece → totals_of (take (place + 1) pieces) ≡ both (totals_of (take place pieces)) (piece_totals piece)
totals_of-take pieces place piece h is =
    ap totals_of (take_more pieces place piece h)
    ∙ totals_of-append (take place pieces) (get_or pieces place piece ∷ [])
    ∙ ap (both (totals_of (take place pieces))) (both_none (piece_totals (get_or pieces place piece)) ∙ ap piece_totals (sym is))

pub sums-on : (place : ℕ) (sums more : List Totals) (total new : Totals) (pieces : List Piece) (piece : Piece) → AreSumsTo place sums total pieces → place < length pieces → place + 1 ≤ 2 ^ 63 → piece ≡ get_or pieces place piece → IsWithin (2 ^ 31) (piece_totals piece) → new ≡ both total (piece_totals piece) → more ≡ sums ++ new ∷ [] → AreSumsTo (place + 1) more new pieces
sums-on place sums more total new pieces piece s below few is small made pushed = record {
  length_is = ap length pushed ∙ length-append sums (new ∷ []) ∙ (let l = s.length_is in omega arith);
  total_is = whole;
  total_in = within;
  sums_are = λ k d h. ap (λ (list : List Totals). get_or list k d) pushed ∙ at k d h;
  small = λ k d h. subst (λ (t : Totals). IsWithin (2 ^ 94) t) (ap (λ (list : List Totals). get_or list k d) (sym pushed)) (in_at k d h);
}
  where
    whole : new ≡ totals_of (take (place + 1) pieces)
    whole = made ∙ ap (λ (t : Totals). both t (piece_totals piece)) s.total_is ∙ sym (totals_of-take pieces place piece below is)

    within : IsWithin ((place + 1) * 2 ^ 31) new
    within = subst (λ (t : Totals). IsWithin ((place + 1) * 2 ^ 31) t) (sym made) (within_more (both total (piece_totals piece)) (place * 2 ^ 31 + 2 ^ 31) ((place + 1) * 2 ^ 31) (omega arith) (within_both total (piece_totals piece) (place * 2 ^ 31) (2 ^ 31) s.total_in small))

    at : (k : ℕ) (d : Totals) → k ≤ place + 1 → get_or (sums ++ new ∷ []) k d ≡ totals_of (take k pieces)
    at k d h = elim (cases_lt k (place + 1)) [
      | inl low ↦ get_or-append sums (new ∷ []) d k (let l = s.length_is in omega arith) ∙ s.sums_are k d (omega arith)
      | inr high ↦
          let last : k ≡ length sums = let l = s.length_is in omega arith in
          let same : k ≡ place + 1 = omega arith in
          ap (λ (n : ℕ). get_or (sums ++ new ∷ []) n d) last ∙ get_or-append_seam sums new [] d ∙ whole ∙ ap (λ (n : ℕ). totals_of (take n pieces)) (sym same)
    ]

    in_at : (k : ℕ) (d : Totals) → k ≤ place + 1 → IsWithin (2 ^ 94) (get_or (sums ++ new ∷ []) k d)
    in_at k d h = elim (cases_lt k (place + 1)) [
      | inl low ↦ subst (λ (t : Totals). IsWithin (2 ^ 94) t) (sym (get_or-append sums (new ∷ []) d k (let l = s.length_is in omega arith))) (s.small k d (omega arith))
      | inr high ↦
          let last : k ≡ length sums = let l = s.length_is in omega arith in
          subst (λ (t : Totals). IsWithin (2 ^ 94) t) (sym (ap (λ (n : ℕ). get_or (sums ++ new ∷ []) n d) last ∙ get_or-append_seam sums new [] d))
          (within_more new ((place + 1) * 2 ^ 31) (2 ^ 94) (omega arith) within)
    ]

-- the totals of a part are a difference
pub part_totals : (pieces : List Piece) (first place : ℕ) → less (totals_of (take place pieces)) (totals_of (take (min first place) pieces)) ≡ totals_of (slice_range pieces first place)
part_totals pieces first place = elim (cases_lt first place) [
  | inl below ↦
      let low : min first place ≡ first = omega arith in
      let whole : first + (place - first) ≡ place = omega arith in
      ap (λ (n : ℕ). less (totals_of (take place pieces)) (totals_of (take n pieces))) low
      ∙ ap (λ (n : ℕ). less (totals_of (take n pieces)) (totals_of (take first pieces))) (sym whole)
      ∙ ap (λ (list : List Piece). less (totals_of list) (totals_of (take first pieces))) (take-add first (place - first) pieces)
      ∙ ap (λ (t : Totals). less t (totals_of (take first pieces))) (totals_of-append (take first pieces) (take (place - first) (drop first pieces)))
      ∙ less_both (totals_of (take first pieces)) (totals_of (take (place - first) (drop first pieces)))
  | inr above ↦
      let high : min first place ≡ place = omega arith in
      let none : place - first ≡ 0 = omega arith in
      ap (λ (n : ℕ). less (totals_of (take place pieces)) (totals_of (take n pieces))) high
      ∙ ap (λ (t : Totals). less t (totals_of (take place pieces))) (sym (both_none (totals_of (take place pieces))))
      ∙ less_both (totals_of (take place pieces)) (rigid (pos 0))
      ∙ ap (λ (n : ℕ). totals_of (take n (drop first pieces))) (sym none)
]

abs_less : (a b : ℤ) (m n : ℕ) → unsigned_abs a ≤ m → unsigned_abs b ≤ n → unsigned_abs (a -ℤ b) ≤ m + n
abs_less a b m n h k = omega (arith, ints)

pub within_less : (a b : Totals) (m n : ℕ) → IsWithin m a → IsWithin n b → IsWithin (m + n) (less a b)
within_less a b m n h k = record {
  width_in = abs_less a.width b.width m n h.width_in k.width_in;
  stretch_in = abs_less a.stretch b.stretch m n h.stretch_in k.stretch_in;
  fil_in = abs_less a.fil b.fil m n h.fil_in k.fil_in;
  fill_in = abs_less a.fill b.fill m n h.fill_in k.fill_in;
  filll_in = abs_less a.filll b.filll m n h.filll_in k.filll_in;
  shrink_in = abs_less a.shrink b.shrink m n h.shrink_in k.shrink_in;
}

-- a line that begins with a text, by what its other pieces have to be together
lt_moved : (x b w : ℤ) → int_lt (x +ℤ b) w ≡ int_lt x (w -ℤ b)
lt_moved x b w = by (int_lt (x +ℤ b) w) (int_lt x (w -ℤ b)) refl refl
  where
    by : (p q : Bool) → int_lt (x +ℤ b) w ≡ p → int_lt x (w -ℤ b) ≡ q → p ≡ q
    by true true e f = refl
    by true false e f = absurd (omega (arith, ints))
    by false true e f = absurd (omega (arith, ints))
    by false false e f = refl

pub fit_moved : (w b : ℤ) (t : Totals) → fit_of w (record t { width = t.width +ℤ b }) ≡ fit_of (w -ℤ b) t
fit_moved w b t =
    let short : w -ℤ (t.width +ℤ b) ≡ (w -ℤ b) -ℤ t.width = omega (arith, ints) in
    let long : (t.width +ℤ b) -ℤ w ≡ t.width -ℤ (w -ℤ b) = omega (arith, ints) in
    λ i. cond (lt_moved t.width b w i) (stretched t (short i)) (shrunk t (long i))

pub line_moved : (b e : ℤ) (around s r : Totals) → both (both around (rigid (b +ℤ e))) (less s r) ≡ record (less (both (both around (rigid e)) s) r) { width = (less (both (both around (rigid e)) s) r).width +ℤ b }
line_moved b e around s r = λ i. record {
  width = by around.width s.width r.width i;
  stretch = still around.stretch s.stretch r.stretch i;
  fil = still around.fil s.fil r.fil i;
  fill = still around.fill s.fill r.fill i;
  filll = still around.filll s.filll r.filll i;
  shrink = still around.shrink s.shrink r.shrink i;
}
  where
    by : (x y z : ℤ) → (x +ℤ (b +ℤ e)) +ℤ (y -ℤ z) ≡ (((x +ℤ e) +ℤ y) -ℤ z) +ℤ b
    by x y z = omega (arith, ints)

    still : (x y z : ℤ) → (x +ℤ pos 0) +ℤ (y -ℤ z) ≡ ((x +ℤ pos 0) +ℤ y) -ℤ z
    still x y z = omega (arith, ints)

-- how a line fits, by the totals until its end and those before its beginning
pub fits_by : (a : Attempt) (c : Candidate) (place first : ℕ) (goal : ℤ) → first ≡ min (first_place a.pieces c.place) place → goal ≡ line_width a.shape c.lines -ℤ begin_width a.pieces c.place → fit_of goal (less (totals_until a place) (totals_of (take first a.pieces))) ≡ line_fit a c place
unfolding line_fit line_totals
fits_by a c place first goal first_is goal_is =
    let b = begin_width a.pieces c.place in
    let e = end_width a.pieces place in
    let w = line_width a.shape c.lines in
    let around = background a.params a.pass in
    let s = totals_of (take place a.pieces) in
    let f = first_place a.pieces c.place in
    let r = totals_of (take (min f place) a.pieces) in
    (λ i. fit_of (goal_is i) (less (totals_until a place) (totals_of (take (first_is i) a.pieces))))
    ∙ sym (fit_moved w b (less (totals_until a place) r))
    ∙ ap (fit_of w) (sym (line_moved b e around s r))
    ∙ ap (λ (t : Totals). fit_of w (both (both around (rigid (b +ℤ e))) t)) (part_totals a.pieces f place)
