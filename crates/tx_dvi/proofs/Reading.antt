-- What the reader of a page does at the commands that a page is made of.
use Rattle.std.proofs.Common.{◌≡◌, ℕ, suc, ◌+◌, ◌-◌, ◌<◌, ◌≤◌, ◌^◌, ℤ, pos, Bool, true, false, cond, nat_le, nat_lt, ◌&&◌, List, [], ◌∷◌, ◌++◌, length, get_or, drop, take, fold, Option, Some, None, refl, sym, ap, ◌∙◌, arith, append_assoc}
use Rattle.std.proofs.lemmas.Bool.{le-leb, lt-ltb}
use Rattle.std.proofs.lemmas.Bool.Decides.{leb_tells, nat_tests}
use Rattle.std.proofs.lemmas.Int.{ints}
use Rattle.std.proofs.lemmas.List.{append-nil, length-append}
use Rattle.std.proofs.lemmas.List.Sums.{fold-append}
use Rattle.byteorder.specs.Endian.{big_number}
use Rattle.byteorder.specs.Numbers.{big_number-reads_back}
use Rattle.tx_dvi.specs.declared.font.FontDefinition.{FontDefinition}
use Rattle.tx_dvi.specs.Dvi.{four_bytes, unsigned_bytes, definition_bytes, IsDefinable}
use Rattle.tx_dvi.specs.declared.placed.Placed.{Placed}
use Rattle.tx_dvi.specs.declared.placed.Registers.{Registers}
use Rattle.tx_dvi.specs.Meaning.{Widths, ReaderFonts, Reader, operands, carried_out, when_whole, read, signed, right_by, down_by, rule_set, with_rule, with_special, character_set, set_character, is_font_number, is_known, choose, choosing, define, defining, definition_in}

-- the reader between two commands
abbrev pub reader : Registers → ReaderFonts → List Registers → List Placed → Reader
reader now fonts stack met = record { now = now; fonts = fonts; stack = stack; met = met; begun = [] }

abbrev pub run : Widths → Option Reader → List ℕ → Option Reader
run widths r bytes = fold (read widths) r bytes

pub run-append : (widths : Widths) (r : Option Reader) (xs ys : List ℕ) → run widths r (xs ++ ys) ≡ run widths (run widths r xs) ys
run-append widths r xs ys = fold-append (read widths) r xs ys

-- a number that is greater isn't at most the other
gt-leb : (m n : ℕ) → n < m → nat_le m n ≡ false
gt-leb m n past = grind (arith, leb_tells)

-- which commands are characters and fonts
pub operands-character : (code : ℕ) (bytes : List ℕ) → code < 128 → operands code bytes ≡ Some 0
operands-character code bytes h = rw (lt-ltb code 128 h) refl

carried-character : (widths : Widths) (code : ℕ) (bytes : List ℕ) (r : Reader) → code < 128 → carried_out widths code bytes r ≡ set_character widths code r.fonts.chosen r
carried-character widths code bytes r h = rw (lt-ltb code 128 h) refl

pub font-opcode : (number : ℕ) → number < 64 → is_font_number (171 + number) ≡ true
font-opcode number h = λ i. le-leb 171 (171 + number) (omega arith) i && le-leb (171 + number) 234 (omega arith) i

no-character : (number : ℕ) → nat_lt (171 + number) 128 ≡ false
no-character number = grind (arith, nat_tests)

pub operands-font : (number : ℕ) (bytes : List ℕ) → number < 64 → operands (171 + number) bytes ≡ Some 0
operands-font number bytes h = rw (no-character number, font-opcode number h) refl

carried-font : (widths : Widths) (number : ℕ) (bytes : List ℕ) (r : Reader) → number < 64 → carried_out widths (171 + number) bytes r ≡ choose number r
carried-font widths number bytes r h = rw (no-character number, font-opcode number h) (let same : (171 + number) - 171 ≡ number = omega arith in ap (λ n. choose n r) same)

module _ (widths : Widths) (now : Registers) (fonts : ReaderFonts) (stack : List Registers) (met : List Placed) where
  pub run-right1 : (z : ℤ) → run widths (Some (reader now fonts stack met)) (143 ∷ drop 3 (four_bytes z)) ≡ Some (reader (right_by (signed 1 (drop 3 (four_bytes z))) now) fonts stack met)
  unfolding four_bytes
  run-right1 z = refl

  pub run-right2 : (z : ℤ) → run widths (Some (reader now fonts stack met)) (144 ∷ drop 2 (four_bytes z)) ≡ Some (reader (right_by (signed 2 (drop 2 (four_bytes z))) now) fonts stack met)
  unfolding four_bytes
  run-right2 z = refl

  pub run-right3 : (z : ℤ) → run widths (Some (reader now fonts stack met)) (145 ∷ drop 1 (four_bytes z)) ≡ Some (reader (right_by (signed 3 (drop 1 (four_bytes z))) now) fonts stack met)
  unfolding four_bytes
  run-right3 z = refl

  pub run-right4 : (z : ℤ) → run widths (Some (reader now fonts stack met)) (146 ∷ drop 0 (four_bytes z)) ≡ Some (reader (right_by (signed 4 (drop 0 (four_bytes z))) now) fonts stack met)
  unfolding four_bytes
  run-right4 z = refl

  pub run-down1 : (z : ℤ) → run widths (Some (reader now fonts stack met)) (157 ∷ drop 3 (four_bytes z)) ≡ Some (reader (down_by (signed 1 (drop 3 (four_bytes z))) now) fonts stack met)
  unfolding four_bytes
  run-down1 z = refl

  pub run-down2 : (z : ℤ) → run widths (Some (reader now fonts stack met)) (158 ∷ drop 2 (four_bytes z)) ≡ Some (reader (down_by (signed 2 (drop 2 (four_bytes z))) now) fonts stack met)
  unfolding four_bytes
  run-down2 z = refl

  pub run-down3 : (z : ℤ) → run widths (Some (reader now fonts stack met)) (159 ∷ drop 1 (four_bytes z)) ≡ Some (reader (down_by (signed 3 (drop 1 (four_bytes z))) now) fonts stack met)
  unfolding four_bytes
  run-down3 z = refl

  pub run-down4 : (z : ℤ) → run widths (Some (reader now fonts stack met)) (160 ∷ drop 0 (four_bytes z)) ≡ Some (reader (down_by (signed 4 (drop 0 (four_bytes z))) now) fonts stack met)
  unfolding four_bytes
  run-down4 z = refl

  pub run-set_rule : (height width : ℤ) → run widths (Some (reader now fonts stack met)) (132 ∷ four_bytes height ++ four_bytes width)
      ≡ Some (rule_set (signed 4 (four_bytes height)) (signed 4 (four_bytes width)) (reader now fonts stack met))
  unfolding four_bytes
  run-set_rule height width = refl

  pub run-push : (bytes : List ℕ) → run widths (Some (reader now fonts stack met)) (141 ∷ bytes) ≡ run widths (Some (reader now fonts (now ∷ stack) met)) bytes
  run-push bytes = refl

  pub run-pop : (before : Registers) → run widths (Some (reader now fonts (before ∷ stack) met)) (142 ∷ []) ≡ Some (reader before fonts stack met)
  run-pop before = refl

  pub run-put_rule : (height width : ℤ) → run widths (Some (reader now fonts stack met)) (137 ∷ four_bytes height ++ four_bytes width)
      ≡ Some (with_rule (signed 4 (four_bytes height)) (signed 4 (four_bytes width)) (reader now fonts stack met))
  unfolding four_bytes
  run-put_rule height width = refl

  -- a reader in the midst of a command
  abbrev pub half : List ℕ → Reader
  half bytes = record { now = now; fonts = fonts; stack = stack; met = met; begun = bytes }

  -- The bytes of a command whose first ones tell how many follow are gathered until all are there.
  module _ (header : List ℕ) (more : ℕ) (told : List ℕ → Option Reader) (operands_are : (bytes : List ℕ) → operands (get_or (header ++ bytes) 0 0) (header ++ bytes) ≡ Some more)
      (tells : (bytes : List ℕ) → carried_out widths (get_or (header ++ bytes) 0 0) (drop 1 (header ++ bytes)) (reader now fonts stack met) ≡ told bytes) where
    abbrev test : List ℕ → List ℕ → Bool → Option Reader
    test old bytes b = cond b (Some (half bytes)) (carried_out widths (get_or bytes 0 0) (drop 1 bytes) (reader now fonts stack met))

    pub gathered : (old done text : List ℕ) → length header + (length done + length text) ≡ suc more
        → run widths (when_whole widths (Some more) (header ++ done) (half old)) text ≡ told (done ++ text)
    gathered old done [] h =
        ap (test old (header ++ done)) (let long = length-append header done in let past : more < length (header ++ done) = omega (arith, long, h) in gt-leb _ _ past)
        ∙ tells done ∙ ap told (sym (append-nil done))
    gathered old done (byte ∷ text) h =
        let long = length-append header done in
        let within : length (header ++ done) ≤ more = omega (arith, long, h) in
        let one : length (done ++ byte ∷ []) ≡ length done + 1 = length-append done (byte ∷ []) in
        ap (λ b. run widths (test old (header ++ done) b) (byte ∷ text)) (le-leb _ _ within)
        ∙ ap (λ bytes. run widths (when_whole widths (operands (get_or bytes 0 0) bytes) bytes (half (header ++ done))) text) (append_assoc header done (byte ∷ []))
        ∙ ap (λ o. run widths (when_whole widths o (header ++ (done ++ byte ∷ [])) (half (header ++ done))) text) (operands_are (done ++ byte ∷ []))
        ∙ gathered (header ++ done) (done ++ byte ∷ []) text (omega (arith, one, h))
        ∙ ap told (append_assoc done (byte ∷ []) text)

  abbrev noted_here : List ℕ → Option Reader
  noted_here text = Some (with_special text (reader now fonts stack met))

  pub run-xxx1 : (text : List ℕ) → length text < 256 → run widths (Some (reader now fonts stack met)) (239 ∷ length text ∷ text) ≡ Some (with_special text (reader now fonts stack met))
  run-xxx1 text h = gathered (239 ∷ length text ∷ []) (1 + big_number 1 (length text ∷ [])) noted_here
      (λ bytes. ap (λ b. Some (cond b (1 + big_number 1 (length text ∷ [])) 1)) (lt-ltb 1 (length (239 ∷ length text ∷ bytes)) (omega arith))) (λ bytes. refl) (239 ∷ []) [] text (omega arith)

  pub run-xxx4 : (text : List ℕ) → length text < 2 ^ 31 → run widths (Some (reader now fonts stack met)) (242 ∷ four_bytes (pos (length text)) ++ text) ≡ Some (with_special text (reader now fonts stack met))
  unfolding four_bytes
  run-xxx4 text h =
      let bytes : List ℕ = four_bytes (pos (length text)) in
      gathered (242 ∷ four_bytes (pos (length text))) (4 + big_number 4 (four_bytes (pos (length text)))) noted_here
      (λ bytes. ap (λ b. Some (cond b (4 + big_number 4 (four_bytes (pos (length text)))) 4)) (lt-ltb 4 (length (242 ∷ four_bytes (pos (length text)) ++ bytes)) (omega arith))) (λ bytes. refl) (242 ∷ get_or bytes 0 0 ∷ get_or bytes 1 0 ∷ get_or bytes 2 0 ∷ []) [] text
      (omega (arith, ints, h))

  -- a character, in the font that was chosen last
  pub run-set_char : (code font : ℕ) → code < 128 → fonts.chosen ≡ Some font → run widths (Some (reader now fonts stack met)) (code ∷ []) ≡ Some (character_set widths font code (reader now fonts stack met))
  run-set_char code font h is =
      let low : nat_lt code 128 ≡ true = lt-ltb code 128 h in
      let here : Reader = reader now fonts stack met in
      ap (λ o. when_whole widths o (code ∷ []) here) (operands-character code (code ∷ []) h)
      ∙ carried-character widths code [] here h ∙ ap (λ chosen. set_character widths code chosen here) is

  pub run-set1 : (code font : ℕ) → fonts.chosen ≡ Some font → run widths (Some (reader now fonts stack met)) (128 ∷ code ∷ []) ≡ Some (character_set widths font code (reader now fonts stack met))
  run-set1 code font is = ap (λ chosen. set_character widths code chosen (reader now fonts stack met)) is

  -- a font that is defined is chosen
  chosen-is : (number : ℕ) → is_known number fonts.known ≡ true → choose number (reader now fonts stack met) ≡ Some (reader now (choosing number fonts) stack met)
  chosen-is number known = ap (λ b. cond {A = Option Reader} b (Some (reader now (choosing number fonts) stack met)) None) known

  pub run-fnt_num : (number : ℕ) → number < 64 → is_known number fonts.known ≡ true → run widths (Some (reader now fonts stack met)) ((171 + number) ∷ []) ≡ Some (reader now (choosing number fonts) stack met)
  run-fnt_num number h known =
      let here : Reader = reader now fonts stack met in
      ap (λ o. when_whole widths o ((171 + number) ∷ []) here) (operands-font number ((171 + number) ∷ []) h)
      ∙ carried-font widths number [] here h ∙ chosen-is number known

  pub run-fnt1 : (number : ℕ) → is_known number fonts.known ≡ true → run widths (Some (reader now fonts stack met)) (235 ∷ number ∷ []) ≡ Some (reader now (choosing number fonts) stack met)
  run-fnt1 number known = chosen-is number known

  -- a font is defined that isn't yet
  pub run-fnt_def1 : (font : FontDefinition) → IsDefinable font → is_known font.number fonts.known ≡ false
      → run widths (Some (reader now fonts stack met)) (definition_bytes font) ≡ Some (reader now (defining font fonts) stack met)
  unfolding definition_bytes unsigned_bytes
  run-fnt_def1 font fits new =
      let here : Reader = reader now fonts stack met in
      let behind_size : List ℕ = unsigned_bytes font.design_size ++ 0 ∷ length font.name ∷ font.name in
      let behind_checksum : List ℕ = unsigned_bytes font.size ++ behind_size in
      let header : List ℕ = 243 ∷ font.number ∷ unsigned_bytes font.checksum ++ (unsigned_bytes font.size ++ (unsigned_bytes font.design_size ++ 0 ∷ length font.name ∷ [])) in
      gathered header (15 + (0 + length font.name)) (λ bytes. define (definition_in (drop 1 header ++ bytes)) here)
      (λ bytes. ap (λ b. Some (cond b (15 + (0 + length font.name)) 15)) (lt-ltb 15 (length (header ++ bytes)) (omega arith))) (λ bytes. refl) (take 15 header) [] font.name (omega arith)
      ∙ (λ i. define (record {
        number = font.number;
        checksum = big_number-reads_back 4 font.checksum behind_checksum fits.checksum i;
        size = big_number-reads_back 4 font.size behind_size fits.size i;
        design_size = big_number-reads_back 4 font.design_size (0 ∷ length font.name ∷ font.name) fits.design_size i;
        name = font.name;
      }) here)
      ∙ ap (λ b. cond {A = Option Reader} b None (Some (reader now (defining font fonts) stack met))) new
