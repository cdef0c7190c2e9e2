-- The commands of a box before their movements are written by registers are whole plain commands.
use Rattle.std.proofs.Common.{◌≡◌, ◌==◌, ℕ, zero, suc, ◌+◌, ◌<◌, ◌≤◌, ◌^◌, ℤ, pos, ◌+ℤ◌, ◌-ℤ◌, Bool, true, false, cond, min, nat_lt, ◌||◌, unsigned_abs, List, [], ◌∷◌, ◌++◌, length, drop, fold, Option, Some, None, refl, ap, ◌∙◌, arith}
use Rattle.std.proofs.lemmas.Bool.{lt-ltb, ltb-true, or_left, or_right}
use Rattle.std.proofs.lemmas.Int.{ints}
use Rattle.std.proofs.lemmas.List.{length-append}
use Rattle.std.specs.Int.{is_positive}
use Rattle.tx_node.specs.declared.head.Direction.{Direction}
use Rattle.tx_node.specs.declared.head.Direction.TheVariants.{Horizontal, Vertical}
use Rattle.tx_node.specs.declared.character.Character.{Character as CharacterItem}
use Rattle.tx_node.specs.declared.places.Copies.{Copies}
use Rattle.tx_node.specs.declared.plain.Plain.{Plain}
use Rattle.tx_node.specs.declared.plain.Plain.TheVariants.{Kern, Glue, Penalty, Character}
use Rattle.tx_node.specs.declared.plain.Shared.{Shared}
use Rattle.tx_node.specs.declared.plain.Shared.TheVariants.{Rule, Leaders, Special, Ligature, Mark}
use Rattle.tx_node.specs.Items.{Item, plain, shared, boxed, discretionary, adjustment, insertion, box_leaders, Items, none, more, PackedBox, items_of}
use Rattle.tx_node.specs.Setting.{Reach, begun}
use Rattle.tx_dvi.specs.declared.font.FontDefinition.{FontDefinition}
use Rattle.tx_dvi.specs.Dvi.{four_bytes, unsigned_bytes, definition_bytes}
use Rattle.tx_dvi.specs.Meaning.{ReaderFonts, is_known, choosing, defining, operands, special_operands, is_font_number}
use Rattle.tx_dvi.proofs.Reading.{operands-character, operands-font, font-opcode}
use Rattle.tx_tfm.specs.declared.named.NamedFont.{NamedFont}
use Rattle.tx_tfm.specs.declared.state.FontState.{FontState}
use Rattle.tx_tfm.specs.Fonts.{font_at}
use Rattle.tx_ship.specs.declared.places.Point.{Point}
use Rattle.tx_ship.specs.declared.places.Frame.{Frame}
use Rattle.tx_ship.specs.declared.places.Span.{Span}
use Rattle.tx_ship.specs.declared.places.Sides.{Sides}
use Rattle.tx_ship.specs.declared.places.Cursor.{Cursor}
use Rattle.tx_ship.specs.declared.places.CornerRule.{CornerRule}
use Rattle.tx_ship.specs.Characters.{definition_for, definition_commands, choice, is_chosen, font_commands, set_code}
use Rattle.tx_ship.specs.Standing.{next, span_of, size_of, reference, upright, shifted, rule_sides, leaders_sides, copies_from, first_copy, copy_at, frame_at, page_frame}
use Rattle.tx_ship.specs.Commands.{Pen, pen_at, is_visible, cornered, page_pen, written_of, right, down, way, rule_bytes, rule_item, rule_commands, keeping_fonts, character_item, plain_commands, shared_commands, behind_rule, special, special_item, cursor_at, framed, approach, entering, list_commands, item_commands, copied, copy_commands, copy_way}
use Rattle.tx_ship.specs.Registers.{is_right, is_down, registered, IsAsPlain}
use Rattle.tx_ship.proofs.Meanings.{IsShort, short-parts, inside-short}
use Rattle.tx_ship.proofs.Moves.{Sized, one, two, three, four, sized, moves, still}
use Rattle.tx_ship.proofs.Rewritten.{registered-means}
use Rattle.tx_ship.proofs.Scanned.{is_longer, is_other, is_plain, scanned, scan, Plainly, plainly-append, scan-gathered}
use Rattle.tx_ship.proofs.Turns.{plain-bound, no-longer}

-- movements
plain-right1 : (z : ℤ) → Plainly (143 ∷ drop 3 (four_bytes z))
unfolding four_bytes
plain-right1 z = refl

plain-right2 : (z : ℤ) → Plainly (144 ∷ drop 2 (four_bytes z))
unfolding four_bytes
plain-right2 z = refl

plain-right3 : (z : ℤ) → Plainly (145 ∷ drop 1 (four_bytes z))
unfolding four_bytes
plain-right3 z = refl

plain-right4 : (z : ℤ) → Plainly (146 ∷ drop 0 (four_bytes z))
unfolding four_bytes
plain-right4 z = refl

plain-down1 : (z : ℤ) → Plainly (157 ∷ drop 3 (four_bytes z))
unfolding four_bytes
plain-down1 z = refl

plain-down2 : (z : ℤ) → Plainly (158 ∷ drop 2 (four_bytes z))
unfolding four_bytes
plain-down2 z = refl

plain-down3 : (z : ℤ) → Plainly (159 ∷ drop 1 (four_bytes z))
unfolding four_bytes
plain-down3 z = refl

plain-down4 : (z : ℤ) → Plainly (160 ∷ drop 0 (four_bytes z))
unfolding four_bytes
plain-down4 z = refl

plain-right : (by : ℤ) → Plainly (right by)
plain-right by = cases (unsigned_abs by == 0) refl
  where
    of_size : (unsigned_abs by == 0) ≡ false → Sized by → Plainly (right by)
    of_size some (one is l) = ap (fold scan (Some [])) (moves 143 by 1 some is) ∙ plain-right1 by
    of_size some (two is l) = ap (fold scan (Some [])) (moves 143 by 2 some is) ∙ plain-right2 by
    of_size some (three is l) = ap (fold scan (Some [])) (moves 143 by 3 some is) ∙ plain-right3 by
    of_size some (four is) = ap (fold scan (Some [])) (moves 143 by 4 some is) ∙ plain-right4 by

    cases : (b : Bool) → (unsigned_abs by == 0) ≡ b → Plainly (right by)
    cases true e = ap (fold scan (Some [])) (still 143 by e)
    cases false e = of_size e (sized by)

plain-down : (by : ℤ) → Plainly (down by)
plain-down by = cases (unsigned_abs by == 0) refl
  where
    of_size : (unsigned_abs by == 0) ≡ false → Sized by → Plainly (down by)
    of_size some (one is l) = ap (fold scan (Some [])) (moves 157 by 1 some is) ∙ plain-down1 by
    of_size some (two is l) = ap (fold scan (Some [])) (moves 157 by 2 some is) ∙ plain-down2 by
    of_size some (three is l) = ap (fold scan (Some [])) (moves 157 by 3 some is) ∙ plain-down3 by
    of_size some (four is) = ap (fold scan (Some [])) (moves 157 by 4 some is) ∙ plain-down4 by

    cases : (b : Bool) → (unsigned_abs by == 0) ≡ b → Plainly (down by)
    cases true e = ap (fold scan (Some [])) (still 157 by e)
    cases false e = of_size e (sized by)

plain-way : (c to : Cursor) → Plainly (way c to)
unfolding way
plain-way c to = plainly-append (right (to.right -ℤ c.right)) (down (to.down -ℤ c.down)) (plain-right (to.right -ℤ c.right)) (plain-down (to.down -ℤ c.down))

-- rules
plain-rule : (direction : Direction) (r : CornerRule) → Plainly (rule_bytes direction r)
unfolding rule_bytes four_bytes
plain-rule Horizontal r = refl
plain-rule Vertical r = refl

plain-rule-item : (direction : Direction) (c : Cursor) (r : CornerRule) → Plainly (rule_item direction c r).0
unfolding rule_item
plain-rule-item direction c r = by (is_visible r)
  where
    by : (b : Bool) → Plainly (cond {A = List ℕ × Cursor} b (way c r.corner ++ rule_bytes direction r, behind_rule direction r) ([], c)).0
    by true = plainly-append (way c r.corner) (rule_bytes direction r) (plain-way c r.corner) (plain-rule direction r)
    by false = refl

-- specials
text-small : (text before : List ℕ) → IsShort (before ++ special text) → length text < 2 ^ 31
unfolding special
text-small text before h = by (nat_lt (length text) 256) (let l = length-append before (special text) in omega (arith, l, h))
  where
    by : (b : Bool) → length (cond {A = List ℕ} b (239 ∷ length text ∷ text) (242 ∷ four_bytes (pos (min (length text) 2147483647)) ++ text)) ≤ 1000000 → length text < 2 ^ 31
    by true k = omega (arith, k)
    by false k = let l = length-append (four_bytes (pos (min (length text) 2147483647))) text in omega (arith, l, k)

plain-xxx1 : (text : List ℕ) → Plainly (239 ∷ length text ∷ text)
plain-xxx1 text = scan-gathered (239 ∷ length text ∷ []) (special_operands 1 (239 ∷ length text ∷ []))
    (λ bytes. ap (λ b. Some (cond b (special_operands 1 (239 ∷ length text ∷ [])) 1)) (lt-ltb 1 (length (239 ∷ length text ∷ bytes)) (omega arith))) (λ bytes. refl) [] text (omega arith)

plain-xxx4 : (text : List ℕ) → length text < 2 ^ 31 → Plainly (242 ∷ four_bytes (pos (length text)) ++ text)
unfolding four_bytes
plain-xxx4 text h = scan-gathered (242 ∷ four_bytes (pos (length text))) (special_operands 4 (242 ∷ four_bytes (pos (length text))))
    (λ bytes. ap (λ b. Some (cond b (special_operands 4 (242 ∷ four_bytes (pos (length text)))) 4)) (lt-ltb 4 (length (242 ∷ four_bytes (pos (length text)) ++ bytes)) (omega arith))) (λ bytes. refl) [] text
    (omega (arith, ints, h))

plain-special : (text : List ℕ) → length text < 2 ^ 31 → Plainly (special text)
unfolding special
plain-special text short = by (nat_lt (length text) 256)
  where
    by : (b : Bool) → Plainly (cond {A = List ℕ} b (239 ∷ length text ∷ text) (242 ∷ four_bytes (pos (min (length text) 2147483647)) ++ text))
    by true = plain-xxx1 text
    by false =
        let whole : min (length text) 2147483647 ≡ length text = omega (arith, short) in
        ap (λ n. fold scan (Some []) (242 ∷ four_bytes (pos n) ++ text)) whole ∙ plain-xxx4 text short

plain-special-item : (c to : Cursor) (text : List ℕ) → IsShort (special_item c to text).0 → Plainly (special_item c to text).0
plain-special-item c to text short = plainly-append (way c to) (special text) (plain-way c to) (plain-special text (text-small text (way c to) short))

-- fonts and characters
single : (byte : ℕ) → operands byte (byte ∷ []) ≡ Some 0 → is_plain byte ≡ true → Plainly (byte ∷ [])
single byte whole plainly = ap (λ o. scanned o (byte ∷ [])) whole ∙ ap (λ b. cond {A = Option (List ℕ)} b (Some []) None) plainly

-- the number of a character or of a font is that of a plain command
plain-number : (opcode : ℕ) → is_other opcode ≡ true → is_plain opcode ≡ true
plain-number opcode h =
    let pop : (opcode == 142 || is_other opcode) ≡ true = or_right (opcode == 142) (is_other opcode) h in
    let push : (opcode == 141 || (opcode == 142 || is_other opcode)) ≡ true = or_right (opcode == 141) (opcode == 142 || is_other opcode) pop in
    or_right (is_right opcode) (is_down opcode || (opcode == 141 || (opcode == 142 || is_other opcode))) (or_right (is_down opcode) (opcode == 141 || (opcode == 142 || is_other opcode)) push)

character-number : (code : ℕ) → code < 128 → is_plain code ≡ true
character-number code h = plain-number code (or_left (nat_lt code 128) (is_font_number code || is_longer code) (lt-ltb code 128 h))

font-number : (number : ℕ) → number < 64 → is_plain (171 + number) ≡ true
font-number number h = plain-number (171 + number) (or_right (nat_lt (171 + number) 128) (is_font_number (171 + number) || is_longer (171 + number)) (or_left (is_font_number (171 + number)) (is_longer (171 + number)) (font-opcode number h)))

plain-choice : (number : ℕ) → Plainly (choice number)
unfolding choice
plain-choice number = by (nat_lt number 64) refl
  where
    by : (b : Bool) → nat_lt number 64 ≡ b → Plainly (cond {A = List ℕ} b ((171 + number) ∷ []) (235 ∷ number ∷ []))
    by true e = single (171 + number) (operands-font number ((171 + number) ∷ []) (ltb-true _ _ e)) (font-number number (ltb-true _ _ e))
    by false e = refl

plain-code : (code : ℕ) → Plainly (set_code code)
unfolding set_code
plain-code code = by (nat_lt code 128) refl
  where
    by : (b : Bool) → nat_lt code 128 ≡ b → Plainly (cond {A = List ℕ} b (code ∷ []) (128 ∷ code ∷ []))
    by true e = single code (operands-character code (code ∷ []) (ltb-true _ _ e)) (character-number code (ltb-true _ _ e))
    by false e = refl

plain-definition : (font : FontDefinition) → Plainly (definition_bytes font)
unfolding definition_bytes unsigned_bytes
plain-definition font =
    let header : List ℕ = 243 ∷ font.number ∷ unsigned_bytes font.checksum ++ (unsigned_bytes font.size ++ (unsigned_bytes font.design_size ++ 0 ∷ length font.name ∷ [])) in
    scan-gathered header (15 + (0 + length font.name)) (λ bytes. ap (λ b. Some (cond b (15 + (0 + length font.name)) 15)) (lt-ltb 15 (length (header ++ bytes)) (omega arith))) (λ bytes. refl) [] font.name (omega arith)

plain-definitions : (font : FontDefinition) (known : ReaderFonts) → Plainly (definition_commands font known).0
unfolding definition_commands
plain-definitions font known = by (is_known font.number known.known)
  where
    by : (b : Bool) → Plainly (cond {A = List ℕ × ReaderFonts} b ([], known) (definition_bytes font, defining font known)).0
    by true = refl
    by false = plain-definition font

plain-font : (font : FontDefinition) (known : ReaderFonts) → Plainly (font_commands font known).0
unfolding font_commands
plain-font font known = by (is_chosen font.number known.chosen)
  where
    by : (b : Bool) → Plainly (cond {A = List ℕ × ReaderFonts} b ([], known) ((definition_commands font known).0 ++ choice font.number, choosing font.number (definition_commands font known).1)).0
    by true = refl
    by false = plainly-append (definition_commands font known).0 (choice font.number) (plain-definitions font known) (plain-choice font.number)

plain-character : (f : Option NamedFont) (pen : Pen) (to : Cursor) (c : CharacterItem) → Plainly (character_item f pen to c).0
unfolding character_item
plain-character None pen to c = refl
plain-character (Some f) pen to c =
    plainly-append (way pen.at to ++ (font_commands (definition_for c.font f) pen.fonts).0) (set_code c.code)
    (plainly-append (way pen.at to) (font_commands (definition_for c.font f) pen.fonts).0 (plain-way pen.at to) (plain-font (definition_for c.font f) pen.fonts))
    (plain-code c.code)

-- a push and a pop
plain-framed : (bytes : List ℕ) → Plainly bytes → Plainly (framed bytes)
plain-framed [] plainly = refl
plain-framed (first ∷ others) plainly = plainly-append (first ∷ others) (142 ∷ []) plainly refl

plain-approach : (direction : Direction) (c to : Cursor) → Plainly (approach direction c to)
plain-approach Horizontal c to = refl
plain-approach Vertical c to = plain-down (to.down -ℤ c.down)

-- the way to a copy that leaders make of a box
plain-copy-way : (direction : Direction) (c to : Cursor) → Plainly (copy_way direction c to)
unfolding copy_way
plain-copy-way Horizontal c to =
    plainly-append (down (to.down -ℤ c.down)) (right (to.right -ℤ c.right)) (plain-down (to.down -ℤ c.down)) (plain-right (to.right -ℤ c.right))
plain-copy-way Vertical c to = plain-way c to

-- all copies, where the commands of the list of one of them are whole plain ones
module _ (direction : Direction) (put : Point → Pen → List ℕ × Pen) (stands : ℤ → Point) (step : ℕ)
    (each : (at : Point) (pen : Pen) → IsShort (put at pen).0 → Plainly (put at pen).0) where
  plain-copies : (left : ℕ) (from : ℤ) (pen : Pen) → IsShort (copied direction put stands step left from pen).0 → Plainly (copied direction put stands step left from pen).0
  unfolding copied
  plain-copies zero from pen short = refl
  plain-copies (suc left) from pen short =
      let to : Cursor = cursor_at (stands from) in
      let inside : List ℕ × Pen = put (stands from) (pen_at pen.fonts to) in
      let made : List ℕ × Pen = copy_commands direction pen to inside in
      let others : List ℕ × Pen = copied direction put stands step left (from +ℤ pos step) made.1 in
      let parts = short-parts made.0 others.0 short in
      let first : Plainly made.0
      = plainly-append (copy_way direction pen.at to) (framed inside.0) (plain-copy-way direction pen.at to)
      (plain-framed inside.0 (each (stands from) (pen_at pen.fonts to) (inside-short (copy_way direction pen.at to) inside.0 parts.0))) in
      plainly-append made.0 others.0 first (plain-copies left (from +ℤ pos step) made.1 parts.1)

-- small items and larger ones
plain-small : (fonts : List FontState) (frame : Frame) (span : Span) (pen : Pen) (p : Plain) → Plainly (plain_commands fonts frame span pen p).0
plain-small fonts frame span pen (Kern kind size) = refl
plain-small fonts frame span pen (Glue g) = refl
plain-small fonts frame span pen (Penalty n) = refl
plain-small fonts frame span pen (Character c) = plain-character (font_at fonts c.font) pen (cursor_at (reference frame.head.direction frame (upright span.from c.height))) c

plain-in : (frame : Frame) (span : Span) (c : Cursor) (sides : Sides) → Plainly (rule_commands frame span c sides).0
plain-in frame span c sides = plain-rule-item frame.head.direction c (cornered (reference frame.head.direction frame (upright span.from sides.height)) sides)

plain-shared : (fonts : List FontState) (frame : Frame) (span : Span) (pen : Pen) (s : Shared) → IsShort (shared_commands fonts frame span pen s).0 → Plainly (shared_commands fonts frame span pen s).0
plain-shared fonts frame span pen (Rule r) short = plain-in frame span pen.at (rule_sides frame.head.direction frame.head r)
plain-shared fonts frame span pen (Leaders l) short = by (is_positive (size_of span))
  where
    by : (b : Bool) → Plainly (cond {A = List ℕ × Pen} b (keeping_fonts pen.fonts (rule_commands frame span pen.at (leaders_sides frame.head.direction frame.head l.rule (size_of span)))) ([], pen)).0
    by true = plain-in frame span pen.at (leaders_sides frame.head.direction frame.head l.rule (size_of span))
    by false = refl
plain-shared fonts frame span pen (Special text) short =
    plain-special-item pen.at (cursor_at (reference frame.head.direction frame (upright span.from (pos 0)))) text short
plain-shared fonts frame span pen (Ligature l) short = plain-character (font_at fonts l.character.font) pen (cursor_at (reference frame.head.direction frame (upright span.from l.character.height))) l.character
plain-shared fonts frame span pen (Mark text) short = refl

mutual
  unfolding list_commands

  plain-list : (fonts : List FontState) (frame : Frame) (reach : Reach) (pen : Pen) (items : Items) → IsShort (list_commands fonts frame reach pen items).0 → Plainly (list_commands fonts frame reach pen items).0
  plain-list fonts frame reach pen none short = refl
  plain-list fonts frame reach pen (more item rest) short =
      let first : List ℕ × Pen = item_commands fonts frame (span_of frame reach item) pen item in
      let others : List ℕ × Pen = list_commands fonts frame (next frame reach item) first.1 rest in
      let parts = short-parts first.0 others.0 short in
      plainly-append first.0 others.0 (plain-item fonts frame (span_of frame reach item) pen item parts.0) (plain-list fonts frame (next frame reach item) first.1 rest parts.1)

  plain-item : (fonts : List FontState) (frame : Frame) (span : Span) (pen : Pen) (item : Item) → IsShort (item_commands fonts frame span pen item).0 → Plainly (item_commands fonts frame span pen item).0
  plain-item fonts frame span pen (plain p) short = plain-small fonts frame span pen p
  plain-item fonts frame span pen (shared s) short = plain-shared fonts frame span pen s short
  plain-item fonts frame span pen (discretionary replaced pre post) short = refl
  plain-item fonts frame span pen (adjustment inner) short = refl
  plain-item fonts frame span pen (insertion inserted inner) short = refl
  plain-item fonts frame span pen (box_leaders head repeated none) short = refl
  plain-item fonts frame span pen (box_leaders head repeated (more item rest)) short =
      let copies : Copies = copies_from frame span head.kind repeated in
      plain-copies frame.head.direction (λ at own. list_commands fonts (frame_at repeated at) begun own (more item rest)) (copy_at frame repeated) copies.step
      (λ at own short_there. plain-list fonts (frame_at repeated at) begun own (more item rest) short_there) copies.count (first_copy span copies) pen short
  plain-item fonts frame span pen (boxed shift head none) short = refl
  plain-item fonts frame span pen (boxed shift head (more item rest)) short =
      let direction : Direction = frame.head.direction in
      let to : Point = reference direction frame (shifted span.from shift head) in
      let inner : List ℕ × Pen = list_commands fonts (frame_at head to) begun (entering direction pen (cursor_at to)) (more item rest) in
      plainly-append (approach direction pen.at (cursor_at to)) (framed inner.0) (plain-approach direction pen.at (cursor_at to))
      (plain-framed inner.0 (plain-list fonts (frame_at head to) begun (entering direction pen (cursor_at to)) (more item rest) (inside-short (approach direction pen.at (cursor_at to)) inner.0 short)))

-- so a body by registers is no longer than the plain commands of its page, and means what they mean
pub page-as-plain : (fonts : List FontState) (known : List ℕ) (b : PackedBox) (hoffset voffset : ℤ) → length (registered (written_of fonts known b hoffset voffset).0) ≤ 200000
    → IsAsPlain known (written_of fonts known b hoffset voffset).0 (registered (written_of fonts known b hoffset voffset).0)
page-as-plain fonts known b hoffset voffset short =
    let plainly : Plainly (written_of fonts known b hoffset voffset).0
    = plain-list fonts (page_frame b hoffset voffset) begun (page_pen known) (items_of b.list) (plain-bound (written_of fonts known b hoffset voffset).0 short) in
    record {
      no_longer = no-longer (written_of fonts known b hoffset voffset).0;
      means = λ widths contents is. registered-means widths known (written_of fonts known b hoffset voffset).0 contents plainly is;
    }
