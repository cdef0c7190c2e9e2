-- Bytes that are whole plain commands of a page: none of them is w0 to w4, x0 to x4, y0 to y4 or z0 to z4.
use Rattle.std.proofs.Common.{◌≡◌, ◌==◌, ℕ, suc, ◌+◌, Bool, true, cond, nat_le, nat_lt, ◌||◌, List, [], ◌∷◌, ◌++◌, length, get_or, fold, Option, Some, None, ap, ◌∙◌, arith, append_assoc}
use Rattle.std.proofs.lemmas.Bool.{le-leb, lt-leb}
use Rattle.std.proofs.lemmas.List.{length-append}
use Rattle.std.proofs.lemmas.List.Sums.{fold-append}
use Rattle.tx_dvi.specs.Meaning.{operands, is_font_number}
use Rattle.tx_ship.specs.Registers.{is_right, is_down}

-- the numbers of plain commands: set_char and fnt_num, those that have bytes behind them and move nothing, movements, push and pop
abbrev pub is_longer : ℕ → Bool
is_longer opcode = opcode == 128 || (opcode == 235 || (opcode == 243 || (opcode == 132 || (opcode == 137 || (opcode == 138 || nat_le 239 opcode)))))

abbrev pub is_other : ℕ → Bool
is_other opcode = nat_lt opcode 128 || (is_font_number opcode || is_longer opcode)

abbrev pub is_plain : ℕ → Bool
is_plain opcode = is_right opcode || (is_down opcode || ((opcode == 141) || ((opcode == 142) || is_other opcode)))

-- the first bytes of a command that isn't whole, after these; None where a command isn't plain
abbrev pub scanned : Option ℕ → List ℕ → Option (List ℕ)
scanned None bytes = None
scanned (Some more) bytes = cond {A = Option (List ℕ)} (nat_le (length bytes) more) (Some bytes) (cond {A = Option (List ℕ)} (is_plain (get_or bytes 0 0)) (Some []) None)

abbrev pub scan : Option (List ℕ) → ℕ → Option (List ℕ)
scan None byte = None
scan (Some begun) byte = scanned (operands (get_or (begun ++ byte ∷ []) 0 0) (begun ++ byte ∷ [])) (begun ++ byte ∷ [])

-- whole plain commands
abbrev pub Plainly : List ℕ → Type 0
Plainly bytes = fold scan (Some []) bytes ≡ Some []

pub plainly-append : (a b : List ℕ) → Plainly a → Plainly b → Plainly (a ++ b)
plainly-append a b first rest = fold-append scan (Some []) a b ∙ ap (λ s. fold scan s b) first ∙ rest

-- the bytes of a plain command whose first ones tell how many follow
module _ (header : List ℕ) (more : ℕ) (operands_are : (bytes : List ℕ) → operands (get_or (header ++ bytes) 0 0) (header ++ bytes) ≡ Some more)
    (plain : (bytes : List ℕ) → is_plain (get_or (header ++ bytes) 0 0) ≡ true) where
  pub scan-gathered : (done text : List ℕ) → length header + (length done + length text) ≡ suc more → fold scan (scanned (Some more) (header ++ done)) text ≡ Some []
  scan-gathered done [] h =
      let long = length-append header done in
      ap (λ b. cond {A = Option (List ℕ)} b (Some (header ++ done)) (cond {A = Option (List ℕ)} (is_plain (get_or (header ++ done) 0 0)) (Some []) None)) (lt-leb (length (header ++ done)) more (omega (arith, long, h)))
      ∙ ap (λ b. cond {A = Option (List ℕ)} b (Some []) None) (plain done)
  scan-gathered done (byte ∷ text) h =
      let long = length-append header done in
      let one : length (done ++ byte ∷ []) ≡ length done + 1 = length-append done (byte ∷ []) in
      ap (λ b. fold scan (cond {A = Option (List ℕ)} b (Some (header ++ done)) (cond {A = Option (List ℕ)} (is_plain (get_or (header ++ done) 0 0)) (Some []) None)) (byte ∷ text)) (le-leb (length (header ++ done)) more (omega (arith, long, h)))
      ∙ ap (λ bytes. fold scan (scanned (operands (get_or bytes 0 0) bytes) bytes) text) (append_assoc header done (byte ∷ []))
      ∙ ap (λ o. fold scan (scanned o (header ++ (done ++ byte ∷ []))) text) (operands_are (done ++ byte ∷ []))
      ∙ scan-gathered (done ++ byte ∷ []) text (omega (arith, one, h))
