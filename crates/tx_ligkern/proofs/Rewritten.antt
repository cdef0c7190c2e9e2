-- The kinds of ligature commands, one by one.
use Rattle.std.proofs.Common.{◌≡◌, ℕ, zero, suc, ◌+◌, ◌<◌, ◌≤◌, ◌/◌, ◌%◌, true, ltb, Option, Some, List, [], ◌∷◌, ◌++◌, length, drop, map, refl, sym, subst, arith, inl, inr}
use Rattle.std.specs.Prelude.{◌&&◌, ◌||◌, ◌==◌, if◌then◌else◌}
use Rattle.std.specs.List.{AllByRecursion}
use Rattle.std.proofs.lemmas.Bool.{cases_lt}
use Rattle.std.proofs.lemmas.Bool.Decides.{nat_tests}
use Rattle.tx_tfm.specs.declared.file.Tfm.{Tfm}
use Rattle.tx_tfm.specs.declared.file.Word.{Word}
use Rattle.tx_tfm.specs.Rewriting.{kind_of, pieces_of, rewritten}
use Rattle.tx_tfm.specs.Rules.{is_piece}
use Rattle.tx_ligkern.specs.declared.piece.Piece.{Piece}
use Rattle.tx_ligkern.specs.declared.piece.Piece.TheVariants.{Ligature}
use Rattle.tx_ligkern.specs.Pieces.{code_of, originals}
use Rattle.tx_ligkern.specs.Composing.{ahead}

data Legal : ℕ → Type 0 where
  K0 : Legal 0
  K1 : Legal 1
  K2 : Legal 2
  K3 : Legal 3
  K5 : Legal 5
  K6 : Legal 6
  K7 : Legal 7
  K11 : Legal 11

abbrev kind_at : ℕ → ℕ
kind_at c = if ltb c 4 || (ltb 4 c && ltb c 8) || c == 11 then c else 0

few : (c : ℕ) → c < 12 → Legal (kind_at c)
few zero h = K0
few (suc zero) h = K1
few (suc (suc zero)) h = K2
few (suc (suc (suc zero))) h = K3
few (suc (suc (suc (suc zero)))) h = K0
few (suc (suc (suc (suc (suc zero))))) h = K5
few (suc (suc (suc (suc (suc (suc zero)))))) h = K6
few (suc (suc (suc (suc (suc (suc (suc zero))))))) h = K7
few (suc (suc (suc (suc (suc (suc (suc (suc zero)))))))) h = K0
few (suc (suc (suc (suc (suc (suc (suc (suc (suc zero))))))))) h = K0
few (suc (suc (suc (suc (suc (suc (suc (suc (suc (suc zero)))))))))) h = K0
few (suc (suc (suc (suc (suc (suc (suc (suc (suc (suc (suc zero))))))))))) h = K11
few (suc (suc (suc (suc (suc (suc (suc (suc (suc (suc (suc (suc n)))))))))))) h = absurd (omega arith)

others_are_0 : (c : ℕ) → 12 ≤ c → kind_at c ≡ 0
others_are_0 c h = grind (arith, nat_tests)

legal : (w : Word) → Legal (kind_of w)
legal w = elim (cases_lt w.c 12) [ inl small ↦ few w.c small | inr big ↦ subst Legal (sym (others_are_0 w.c big)) K0 ]

-- by kinds
rewritten_by : ℕ → ℕ → Option ℕ → Option ℕ → List (Option ℕ) → List (Option ℕ)
rewritten_by kind ligature current next rest = drop (kind / 4) (pieces_of kind ligature current next rest)

ahead_by : ℕ → ℕ → Piece → Piece → List Piece → List Piece
ahead_by kind code current next rest =
    drop (kind / 4) ((if kind / 2 % 2 == 1 then current ∷ [] else [])
    ++ Ligature code ((if kind / 2 % 2 == 1 then [] else originals current) ++ (if kind % 2 == 1 then [] else originals next))
    ∷ (if kind % 2 == 1 then next ∷ [] else []))
    ++ rest

-- the codes of what is ahead are what is rewritten
codes_by : (kind code : ℕ) (current next : Piece) (rest : List Piece) → Legal kind
    → map code_of (ahead_by kind code current next rest) ≡ rewritten_by kind code (code_of current) (code_of next) (map code_of rest)
unfolding rewritten_by ahead_by
codes_by kind code current next rest K0 = refl
codes_by kind code current next rest K1 = refl
codes_by kind code current next rest K2 = refl
codes_by kind code current next rest K3 = refl
codes_by kind code current next rest K5 = refl
codes_by kind code current next rest K6 = refl
codes_by kind code current next rest K7 = refl
codes_by kind code current next rest K11 = refl

pub map-ahead : (w : Word) (current next : Piece) (rest : List Piece) → map code_of (ahead w current next rest) ≡ rewritten w (code_of current) (code_of next) (map code_of rest)
unfolding rewritten_by ahead_by
map-ahead w current next rest = codes_by (kind_of w) w.d current next rest (legal w)

-- what comes after a command is at most three pieces and the rest
short_by : (kind code : ℕ) (current next : Piece) (rest : List Piece) → Legal kind → length (ahead_by kind code current next rest) ≤ 3 + length rest
unfolding ahead_by
short_by kind code current next rest K0 = omega arith
short_by kind code current next rest K1 = omega arith
short_by kind code current next rest K2 = omega arith
short_by kind code current next rest K3 = omega arith
short_by kind code current next rest K5 = omega arith
short_by kind code current next rest K6 = omega arith
short_by kind code current next rest K7 = omega arith
short_by kind code current next rest K11 = omega arith

pub length-ahead-le : (w : Word) (current next : Piece) (rest : List Piece) → length (ahead w current next rest) ≤ 3 + length rest
unfolding ahead_by
length-ahead-le w current next rest = short_by (kind_of w) w.d current next rest (legal w)

-- and at least one piece
some_by : (kind code : ℕ) (current next : Piece) (rest : List Piece) → Legal kind → 1 ≤ length (ahead_by kind code current next rest)
unfolding ahead_by
some_by kind code current next rest K0 = omega arith
some_by kind code current next rest K1 = omega arith
some_by kind code current next rest K2 = omega arith
some_by kind code current next rest K3 = omega arith
some_by kind code current next rest K5 = omega arith
some_by kind code current next rest K6 = omega arith
some_by kind code current next rest K7 = omega arith
some_by kind code current next rest K11 = omega arith

pub ahead-some : (w : Word) (current next : Piece) (rest : List Piece) → 1 ≤ length (ahead w current next rest)
unfolding ahead_by
ahead-some w current next rest = some_by (kind_of w) w.d current next rest (legal w)

-- what a pair is rewritten to, a first piece and others, the rest being behind it; all of them are there
pub record Rewrites (t : Tfm) (w : Word) (x y : Option ℕ) : Type 0 where
  pub first : Option ℕ
  pub others : List (Option ℕ)
  pub is : (rest : List (Option ℕ)) → rewritten w x y rest ≡ first ∷ (others ++ rest)
  pub first_there : is_piece t first ≡ true
  pub others_there : AllByRecursion (λ (z : Option ℕ). is_piece t z ≡ true) others

record RewritesBy (t : Tfm) (kind code : ℕ) (x y : Option ℕ) : Type 0 where
  first : Option ℕ
  others : List (Option ℕ)
  is : (rest : List (Option ℕ)) → rewritten_by kind code x y rest ≡ first ∷ (others ++ rest)
  first_there : is_piece t first ≡ true
  others_there : AllByRecursion (λ (z : Option ℕ). is_piece t z ≡ true) others

by_kind : (t : Tfm) (kind code : ℕ) (x y : Option ℕ) → is_piece t x ≡ true → is_piece t y ≡ true → is_piece t (Some code) ≡ true → Legal kind → RewritesBy t kind code x y
unfolding rewritten_by
by_kind t kind code x y hx hy hc K0 = record { first = Some code; others = []; is = λ rest. refl; first_there = hc; others_there = tt }
by_kind t kind code x y hx hy hc K1 = record { first = Some code; others = y ∷ []; is = λ rest. refl; first_there = hc; others_there = (hy, tt) }
by_kind t kind code x y hx hy hc K2 = record { first = x; others = Some code ∷ []; is = λ rest. refl; first_there = hx; others_there = (hc, tt) }
by_kind t kind code x y hx hy hc K3 = record { first = x; others = Some code ∷ y ∷ []; is = λ rest. refl; first_there = hx; others_there = (hc, (hy, tt)) }
by_kind t kind code x y hx hy hc K5 = record { first = y; others = []; is = λ rest. refl; first_there = hy; others_there = tt }
by_kind t kind code x y hx hy hc K6 = record { first = Some code; others = []; is = λ rest. refl; first_there = hc; others_there = tt }
by_kind t kind code x y hx hy hc K7 = record { first = Some code; others = y ∷ []; is = λ rest. refl; first_there = hc; others_there = (hy, tt) }
by_kind t kind code x y hx hy hc K11 = record { first = y; others = []; is = λ rest. refl; first_there = hy; others_there = tt }

pub rewrites : (t : Tfm) (w : Word) (x y : Option ℕ) → is_piece t x ≡ true → is_piece t y ≡ true → is_piece t (Some w.d) ≡ true → Rewrites t w x y
unfolding rewritten_by
rewrites t w x y hx hy hc =
    let k = by_kind t (kind_of w) w.d x y hx hy hc (legal w) in
    record { first = k.first; others = k.others; is = k.is; first_there = k.first_there; others_there = k.others_there }
