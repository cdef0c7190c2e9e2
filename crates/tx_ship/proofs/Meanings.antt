-- The commands of a list mean what it places.
use Rattle.std.proofs.Common.{◌≡◌, ◌==◌, ℕ, zero, suc, ◌+◌, ◌^◌, ◌<◌, ◌≤◌, ℤ, pos, ◌+ℤ◌, ◌-ℤ◌, Bool, true, false, cond, min, not, ◌&&◌, ◌||◌, nat_lt, unsigned_abs, List, [], ◌∷◌, ◌++◌, length, Option, Some, None, refl, sym, ap, ◌∙◌, arith, append_assoc}
use Rattle.std.specs.Option.{option_map_or}
use Rattle.std.specs.List.{list_any}
use Rattle.std.proofs.lemmas.List.Folds.{list_any-append}
use Rattle.std.proofs.lemmas.Bool.{ltb-true, eqb-true, eq-eqb}
use Rattle.std.proofs.lemmas.Int.{ints}
use Rattle.std.proofs.lemmas.List.{append-nil, length-append}
use Rattle.std.specs.Int.{is_positive}
use Rattle.tx_node.specs.declared.head.Direction.{Direction}
use Rattle.tx_node.specs.declared.places.Copies.{Copies}
use Rattle.tx_node.specs.declared.head.Direction.TheVariants.{Horizontal, Vertical}
use Rattle.tx_node.specs.declared.character.Character.{Character as CharacterItem}
use Rattle.tx_node.specs.declared.plain.Plain.{Plain}
use Rattle.tx_node.specs.declared.plain.Plain.TheVariants.{Kern, Glue, Penalty, Character}
use Rattle.tx_node.specs.declared.plain.Shared.{Shared}
use Rattle.tx_node.specs.declared.plain.Shared.TheVariants.{Rule, Leaders, Special, Ligature, Mark}
use Rattle.tx_node.specs.Items.{Item, plain, shared, boxed, discretionary, adjustment, insertion, box_leaders, Items, none, more, PackedBox, items_of}
use Rattle.tx_node.specs.Setting.{Reach, begun}
use Rattle.tx_dvi.specs.declared.font.FontDefinition.{FontDefinition}
use Rattle.tx_dvi.specs.Dvi.{four_bytes, definition_bytes, IsDefinable}
use Rattle.tx_dvi.specs.declared.placed.Placed.{Placed}
use Rattle.tx_dvi.specs.declared.placed.Placed.TheVariants.{Ruled}
use Rattle.tx_dvi.specs.declared.placed.Registers.{Registers}
use Rattle.tx_dvi.specs.Meaning.{Widths, ReaderFonts, Reader, right_by, down_by, character_met, rule_met, special_met, is_known, choosing, defining, all_met, page_start, meaning}
use Rattle.tx_dvi.proofs.Reading.{run, reader, run-append, run-push, run-pop, run-xxx1, run-xxx4, run-set_char, run-set1, run-fnt_num, run-fnt1, run-fnt_def1}
use Rattle.tx_tfm.specs.declared.named.NamedFont.{NamedFont}
use Rattle.tx_tfm.specs.declared.state.FontState.{FontState}
use Rattle.tx_tfm.specs.Format.{is_there}
use Rattle.tx_tfm.specs.Fonts.{font_at, character_width, AreFonts}
use Rattle.tx_tfm.proofs.Numbered.{tellable_at}
use Rattle.tx_ship.specs.declared.places.Point.{Point}
use Rattle.tx_ship.specs.declared.places.Frame.{Frame}
use Rattle.tx_ship.specs.declared.places.Span.{Span}
use Rattle.tx_ship.specs.declared.places.Sides.{Sides}
use Rattle.tx_ship.specs.declared.places.Cursor.{Cursor}
use Rattle.tx_ship.specs.declared.places.CornerRule.{CornerRule}
use Rattle.tx_ship.specs.Characters.{dvi_number, widths_of, definition_for, IsOfFont, IsPlainOfFonts, IsSharedOfFonts, AreOfFonts, IsItemOfFonts, definition_commands, choice, is_chosen, font_commands, set_code}
use Rattle.tx_ship.specs.Standing.{next, span_of, size_of, reference, upright, shifted, rule_sides, leaders_sides, copies_from, first_copy, copy_at, frame_at, page_frame}
use Rattle.tx_ship.specs.Commands.{Pen, pen_at, is_entered, is_visible, cornered, page_pen, written_of, right, down, way, rule_bytes, rule_item, rule_commands, keeping_fonts, character_item, character_commands, behind_character, plain_commands, shared_commands, behind_rule, special, special_item, cursor_at, framed, approach, approached, entering, copy_way, copy_commands, copied, list_commands, item_commands}
use Rattle.tx_ship.specs.Within.{Lies, IsReader, head_lies, rule_lies, character_lies, plain_lies, shared_lies, copies_lie, list_lies, item_lies, page_lies}
use Rattle.tx_ship.specs.Placing.{placed, placed_in, placed_character, placed_plain, placed_shared, placed_copies, placed_list, placed_item}
use Rattle.tx_ship.proofs.Steps.{both, lies-is, point-is}
use Rattle.tx_ship.proofs.Moves.{run-right, run-down, run-set, run-put}

-- the registers of a reader at a cursor, the others as they were, and that reader between two commands, which knows these fonts
abbrev pub at_cursor : Registers → Cursor → Registers
at_cursor now c = record now { h = c.right; v = c.down }

abbrev pub here : Registers → Cursor → ReaderFonts → List Registers → List Placed → Option Reader
here now c known stack met = Some (reader (at_cursor now c) known stack met)

-- commands that take a reader from one pen to another, past what it meets
abbrev pub Takes : Widths → Registers → List Registers → List Placed → Pen → Pen → List ℕ → List Placed → Type 0
Takes widths now stack met pen end bytes new = run widths (here now pen.at pen.fonts stack met) bytes ≡ here now end.at end.fonts stack (met ++ new)

-- a rule that isn't written isn't met
hidden : (h v height width : ℤ) → (is_positive width && is_positive height) ≡ false → rule_met h v height width ≡ []
hidden h v height width e = by (is_positive height) (is_positive width) e
  where
    by : (a b : Bool) → (b && a) ≡ false → cond {A = List Placed} a (cond {A = List Placed} b (Ruled (record { h = h; v = v; height = height; width = width }) ∷ []) []) [] ≡ []
    by true true f = absurd (cc)
    by true false f = refl
    by false b f = refl

-- plain commands that stand on a page: a movement by a register has a fifth of their bytes at least
abbrev pub IsShort : List ℕ → Type 0
IsShort bytes = length bytes ≤ 1000000

-- a rule as the file has it, whose sides the file can hold
record Fits (r : CornerRule) : Type 0 where
  corner : IsReader r.corner
  right : IsReader (record r.corner { right = r.corner.right +ℤ r.width })
  high : unsigned_abs r.height < 2 ^ 31
  wide : unsigned_abs r.width < 2 ^ 31

cornered-fits : (at : Point) (sides : Sides) → Lies at sides → Fits (cornered at sides)
cornered-fits at sides lies = record {
  corner = record { right = lies.left; down = lies.bottom };
  right = record { right = lies.right; down = lies.bottom };
  high = omega (arith, ints, lies.top, lies.bottom);
  wide = omega (arith, ints, lies.left, lies.right);
}

-- commands that take the reader to a cursor on the page
pub record ItemMeans (widths : Widths) (now : Registers) (stack : List Registers) (met : List Placed) (pen : Pen) (made : List ℕ × Pen) (new : List Placed) : Type 0 where
  pub takes : Takes widths now stack met pen made.1 made.0 new
  pub reads : IsReader made.1.at

module _ (widths : Widths) (now : Registers) (known : ReaderFonts) (stack : List Registers) (met : List Placed) where
  -- no command meets nothing
  still : (c : Cursor) → Takes widths now stack met (pen_at known c) (pen_at known c) [] []
  still c = ap (λ ms. here now c known stack ms) (sym (append-nil met))

  way-takes : (c to : Cursor) → IsReader c → IsReader to → run widths (here now c known stack met) (way c to) ≡ here now to known stack met
  unfolding way
  way-takes c to reads aims =
      let across : unsigned_abs (to.right -ℤ c.right) < 2 ^ 31 = omega (arith, ints, aims.right, reads.right) in
      let along : unsigned_abs (to.down -ℤ c.down) < 2 ^ 31 = omega (arith, ints, aims.down, reads.down) in
      let h_is : c.right +ℤ (to.right -ℤ c.right) ≡ to.right = omega (arith, ints) in
      let v_is : c.down +ℤ (to.down -ℤ c.down) ≡ to.down = omega (arith, ints) in
      run-append widths (here now c known stack met) (right (to.right -ℤ c.right)) (down (to.down -ℤ c.down))
      ∙ ap (λ o. run widths o (down (to.down -ℤ c.down))) (run-right widths (at_cursor now c) known stack met (to.right -ℤ c.right) across)
      ∙ run-down widths (right_by (to.right -ℤ c.right) (at_cursor now c)) known stack met (to.down -ℤ c.down) along
      ∙ (λ i. Some (reader (record now { h = h_is i; v = v_is i }) known stack met))

  bytes-take : (direction : Direction) (r : CornerRule) → Fits r
      → Takes widths now stack met (pen_at known r.corner) (pen_at known (behind_rule direction r)) (rule_bytes direction r) (rule_met r.corner.right r.corner.down r.height r.width)
  unfolding rule_bytes
  bytes-take Horizontal r fits = run-set widths (at_cursor now r.corner) known stack met r.height r.width fits.high fits.wide
  bytes-take Vertical r fits = run-put widths (at_cursor now r.corner) known stack met r.height r.width fits.high fits.wide

  behind-reads : (direction : Direction) (r : CornerRule) → Fits r → IsReader (behind_rule direction r)
  behind-reads Horizontal r fits = fits.right
  behind-reads Vertical r fits = fits.corner

  rule-means : (direction : Direction) (c : Cursor) (r : CornerRule) → Fits r → IsReader c
      → ItemMeans widths now stack met (pen_at known c) (keeping_fonts known (rule_item direction c r)) (rule_met r.corner.right r.corner.down r.height r.width)
  unfolding rule_item
  rule-means direction c r fits reads = by (is_visible r) refl
    where
      by : (b : Bool) → is_visible r ≡ b
          → ItemMeans widths now stack met (pen_at known c) (keeping_fonts known (cond {A = List ℕ × Cursor} b (way c r.corner ++ rule_bytes direction r, behind_rule direction r) ([], c)))
          (rule_met r.corner.right r.corner.down r.height r.width)
      by true e = record {
        takes = run-append widths (here now c known stack met) (way c r.corner) (rule_bytes direction r)
            ∙ ap (λ o. run widths o (rule_bytes direction r)) (way-takes c r.corner reads fits.corner) ∙ bytes-take direction r fits;
        reads = behind-reads direction r fits;
      }
      by false e = record {
        takes = still c ∙ ap (λ new. here now c known stack (met ++ new)) (sym (hidden r.corner.right r.corner.down r.height r.width e));
        reads = reads;
      }

  -- a special
  text-takes : (c : Cursor) (text : List ℕ) → length text < 2 ^ 31 → Takes widths now stack met (pen_at known c) (pen_at known c) (special text) (special_met c.right c.down text)
  unfolding special
  text-takes c text short = by (nat_lt (length text) 256) refl
    where
      by : (b : Bool) → nat_lt (length text) 256 ≡ b
          → run widths (here now c known stack met) (cond {A = List ℕ} b (239 ∷ length text ∷ text) (242 ∷ four_bytes (pos (min (length text) 2147483647)) ++ text))
          ≡ here now c known stack (met ++ special_met c.right c.down text)
      by true e = run-xxx1 widths (at_cursor now c) known stack met text (ltb-true _ _ e)
      by false e =
          let whole : min (length text) 2147483647 ≡ length text = omega (arith, short) in
          ap (λ n. run widths (here now c known stack met) (242 ∷ four_bytes (pos n) ++ text)) whole ∙ run-xxx4 widths (at_cursor now c) known stack met text short

  -- which holds its text
  text-short : (text before : List ℕ) → IsShort (before ++ special text) → length text < 2 ^ 31
  unfolding special
  text-short text before h = by (nat_lt (length text) 256) (let l = length-append before (special text) in omega (arith, l, h))
    where
      by : (b : Bool) → length (cond {A = List ℕ} b (239 ∷ length text ∷ text) (242 ∷ four_bytes (pos (min (length text) 2147483647)) ++ text)) ≤ 1000000 → length text < 2 ^ 31
      by true k = omega (arith, k)
      by false k = let l = length-append (four_bytes (pos (min (length text) 2147483647))) text in omega (arith, l, k)

  special-means : (c to : Cursor) (text : List ℕ) → IsReader c → IsReader to → IsShort (special_item c to text).0
      → ItemMeans widths now stack met (pen_at known c) (keeping_fonts known (special_item c to text)) (special_met to.right to.down text)
  special-means c to text reads aims short = record {
    takes = run-append widths (here now c known stack met) (way c to) (special text)
        ∙ ap (λ o. run widths o (special text)) (way-takes c to reads aims) ∙ text-takes to text (text-short text (way c to) short);
    reads = aims;
  }

  -- a rule of a list
  in-means : (frame : Frame) (span : Span) (c : Cursor) (sides : Sides) → rule_lies frame span sides ≡ true → IsReader c
      → ItemMeans widths now stack met (pen_at known c) (keeping_fonts known (rule_commands frame span c sides)) (placed_in frame span sides)
  in-means frame span c sides lies reads =
      let at : Point = reference frame.head.direction frame (upright span.from sides.height) in
      rule-means frame.head.direction c (cornered at sides) (cornered-fits at sides (lies-is lies)) reads

  -- to the baseline of a box
  approach-takes : (direction : Direction) (c to : Cursor) → IsReader c → IsReader to → run widths (here now c known stack met) (approach direction c to) ≡ here now (approached direction c to) known stack met
  approach-takes Horizontal c to reads aims = refl
  approach-takes Vertical c to reads aims =
      let along : unsigned_abs (to.down -ℤ c.down) < 2 ^ 31 = omega (arith, ints, aims.down, reads.down) in
      let v_is : c.down +ℤ (to.down -ℤ c.down) ≡ to.down = omega (arith, ints) in
      run-down widths (at_cursor now c) known stack met (to.down -ℤ c.down) along ∙ (λ i. Some (reader (record now { h = c.right; v = v_is i }) known stack met))

  -- to a copy of a box in leaders
  copy-way-takes : (direction : Direction) (c to : Cursor) → IsReader c → IsReader to → run widths (here now c known stack met) (copy_way direction c to) ≡ here now to known stack met
  unfolding copy_way
  copy-way-takes Horizontal c to reads aims =
      let across : unsigned_abs (to.right -ℤ c.right) < 2 ^ 31 = omega (arith, ints, aims.right, reads.right) in
      let along : unsigned_abs (to.down -ℤ c.down) < 2 ^ 31 = omega (arith, ints, aims.down, reads.down) in
      let h_is : c.right +ℤ (to.right -ℤ c.right) ≡ to.right = omega (arith, ints) in
      let v_is : c.down +ℤ (to.down -ℤ c.down) ≡ to.down = omega (arith, ints) in
      run-append widths (here now c known stack met) (down (to.down -ℤ c.down)) (right (to.right -ℤ c.right))
      ∙ ap (λ o. run widths o (right (to.right -ℤ c.right))) (run-down widths (at_cursor now c) known stack met (to.down -ℤ c.down) along)
      ∙ run-right widths (down_by (to.down -ℤ c.down) (at_cursor now c)) known stack met (to.right -ℤ c.right) across
      ∙ (λ i. Some (reader (record now { h = h_is i; v = v_is i }) known stack met))
  copy-way-takes Vertical c to reads aims = way-takes c to reads aims

  approached-reads : (direction : Direction) (c to : Cursor) → IsReader c → IsReader to → IsReader (approached direction c to)
  approached-reads Horizontal c to reads aims = reads
  approached-reads Vertical c to reads aims = record { right = reads.right; down = aims.down }

-- push, the commands of a box and pop; both are dropped where there are none
framed-takes : (widths : Widths) (n m : Registers) (k l : ReaderFonts) (stack : List Registers) (met new : List Placed) (bytes : List ℕ)
    → run widths (Some (reader n k (n ∷ stack) met)) bytes ≡ Some (reader m l (n ∷ stack) (met ++ new)) → run widths (Some (reader n k stack met)) (framed bytes) ≡ Some (reader n l stack (met ++ new))
framed-takes widths n m k l stack met new [] is = ap (λ o. Some (reader n (fonts_in o) stack (met_in o))) is
  where
    met_in : Option Reader → List Placed
    met_in None = []
    met_in (Some r) = r.met

    fonts_in : Option Reader → ReaderFonts
    fonts_in None = k
    fonts_in (Some r) = r.fonts
framed-takes widths n m k l stack met new (first ∷ others) is =
    run-push widths n k stack met ((first ∷ others) ++ 142 ∷ [])
    ∙ run-append widths (Some (reader n k (n ∷ stack) met)) (first ∷ others) (142 ∷ [])
    ∙ ap (λ o. run widths o (142 ∷ [])) is ∙ run-pop widths m l stack (met ++ new) n

-- they are no shorter than the commands of the box
framed-long : (bytes : List ℕ) → length bytes ≤ length (framed bytes)
framed-long [] = omega arith
framed-long (first ∷ others) = let l = length-append (first ∷ others) (142 ∷ []) in omega (arith, l)

-- each of two parts of what is short
pub short-parts : (a b : List ℕ) → IsShort (a ++ b) → IsShort a × IsShort b
short-parts a b h = let l = length-append a b in (omega (arith, l, h), omega (arith, l, h))

-- and of what stands framed behind something that is short
pub inside-short : (before bytes : List ℕ) → IsShort (before ++ framed bytes) → IsShort bytes
inside-short before bytes h = let p = (short-parts before (framed bytes) h).1 in let l = framed-long bytes in omega (arith, p, l)

-- what lies on the page with a box, where it has a list
pub box-inside : (frame : Frame) (items : Items) (edges : Bool) → (not (is_entered items) || (edges && list_lies frame begun items)) ≡ true → list_lies frame begun items ≡ true
unfolding list_lies
box-inside frame none edges h = refl
box-inside frame (more item rest) edges h = (both h).1

-- a character moves the reader by the width that its font gives it
width-is : (fonts : List FontState) (number code : ℕ) (width : ℤ) (f : NamedFont) → font_at fonts number ≡ Some f → width ≡ character_width fonts number code → widths_of fonts (dvi_number number) code ≡ width
width-is fonts zero code width f at is = absurd (cc)
width-is fonts (suc n) code width f at is = sym is

-- what a DVI file can hold of a font
definable : (fonts : List FontState) → AreFonts fonts → (number : ℕ) (f : NamedFont) → font_at fonts number ≡ Some f → IsDefinable (definition_for number f)
definable fonts are zero f at = absurd (cc)
definable fonts are (suc n) f at =
    let told = tellable_at fonts are (suc n) f at in
    record { number = omega (arith, told.0); checksum = told.1.checksum; size = told.1.size; design_size = told.1.design_size; name = told.1.name }

-- a font that was defined just now is known
known-now : (number : ℕ) (known : List ℕ) → is_known number (known ++ number ∷ []) ≡ true
known-now number known =
    list_any-append (λ n. n == number) known (number ∷ []) ∙ ap (λ b. list_any (λ n. n == number) known || (b || false)) (eq-eqb number number refl) ∙ or-true (list_any (λ n. n == number) known)
  where
    or-true : (b : Bool) → (b || true) ≡ true
    or-true true = refl
    or-true false = refl

module _ (widths : Widths) (now : Registers) (stack : List Registers) (met : List Placed) (c : Cursor) where
  -- a font that is known is chosen
  choice-takes : (number : ℕ) (known : ReaderFonts) → is_known number known.known ≡ true → run widths (here now c known stack met) (choice number) ≡ here now c (choosing number known) stack met
  unfolding choice
  choice-takes number known is = by (nat_lt number 64) refl
    where
      by : (b : Bool) → nat_lt number 64 ≡ b → run widths (here now c known stack met) (cond {A = List ℕ} b ((171 + number) ∷ []) (235 ∷ number ∷ [])) ≡ here now c (choosing number known) stack met
      by true e = run-fnt_num widths (at_cursor now c) known stack met number (ltb-true _ _ e) is
      by false e = run-fnt1 widths (at_cursor now c) known stack met number is

  -- a font is defined, if it isn't yet
  definition-takes : (font : FontDefinition) (known : ReaderFonts) → IsDefinable font → run widths (here now c known stack met) (definition_commands font known).0 ≡ here now c (definition_commands font known).1 stack met
  unfolding definition_commands
  definition-takes font known fits = by (is_known font.number known.known) refl
    where
      by : (b : Bool) → is_known font.number known.known ≡ b
          → run widths (here now c known stack met) (cond {A = List ℕ × ReaderFonts} b ([], known) (definition_bytes font, defining font known)).0
          ≡ here now c (cond {A = List ℕ × ReaderFonts} b ([], known) (definition_bytes font, defining font known)).1 stack met
      by true e = refl
      by false e = run-fnt_def1 widths (at_cursor now c) known stack met font fits e

  definition-known : (font : FontDefinition) (known : ReaderFonts) → is_known font.number (definition_commands font known).1.known ≡ true
  unfolding definition_commands
  definition-known font known = by (is_known font.number known.known) refl
    where
      by : (b : Bool) → is_known font.number known.known ≡ b → is_known font.number (cond {A = List ℕ × ReaderFonts} b ([], known) (definition_bytes font, defining font known)).1.known ≡ true
      by true e = e
      by false e = known-now font.number known.known

  -- the font of a character is chosen at last
  font-takes : (font : FontDefinition) (known : ReaderFonts) → IsDefinable font → run widths (here now c known stack met) (font_commands font known).0 ≡ here now c (font_commands font known).1 stack met
  unfolding font_commands
  font-takes font known fits = by (is_chosen font.number known.chosen)
    where
      by : (b : Bool)
          → run widths (here now c known stack met) (cond {A = List ℕ × ReaderFonts} b ([], known) ((definition_commands font known).0 ++ choice font.number, choosing font.number (definition_commands font known).1)).0
          ≡ here now c (cond {A = List ℕ × ReaderFonts} b ([], known) ((definition_commands font known).0 ++ choice font.number, choosing font.number (definition_commands font known).1)).1 stack met
      by true = refl
      by false =
          run-append widths (here now c known stack met) (definition_commands font known).0 (choice font.number)
          ∙ ap (λ o. run widths o (choice font.number)) (definition-takes font known fits)
          ∙ choice-takes font.number (definition_commands font known).1 (definition-known font known)

  font-chosen : (font : FontDefinition) (known : ReaderFonts) → (font_commands font known).1.chosen ≡ Some font.number
  unfolding font_commands
  font-chosen font known = by known.chosen refl (is_chosen font.number known.chosen) refl
    where
      by : (chosen : Option ℕ) → known.chosen ≡ chosen → (b : Bool) → is_chosen font.number chosen ≡ b
          → (cond {A = List ℕ × ReaderFonts} b ([], known) ((definition_commands font known).0 ++ choice font.number, choosing font.number (definition_commands font known).1)).1.chosen ≡ Some font.number
      by None is true e = absurd (cc)
      by (Some x) is true e = is ∙ ap Some (eqb-true _ _ e)
      by chosen is false e = refl

  -- a character is set in the font that is chosen
  code-takes : (number code : ℕ) (known : ReaderFonts) → known.chosen ≡ Some number
      → run widths (here now c known stack met) (set_code code) ≡ here now (record c { right = c.right +ℤ widths number code }) known stack (met ++ character_met number code c.right c.down)
  unfolding set_code
  code-takes number code known is = by (nat_lt code 128) refl
    where
      by : (b : Bool) → nat_lt code 128 ≡ b
          → run widths (here now c known stack met) (cond {A = List ℕ} b (code ∷ []) (128 ∷ code ∷ []))
          ≡ here now (record c { right = c.right +ℤ widths number code }) known stack (met ++ character_met number code c.right c.down)
      by true e = run-set_char widths (at_cursor now c) known stack met code number (ltb-true _ _ e) is
      by false e = run-set1 widths (at_cursor now c) known stack met code number is

-- one after the other
joined : (widths : Widths) (now : Registers) (stack : List Registers) (met : List Placed) (pen middle end : Pen) (bytes others : List ℕ) (new more_new : List Placed)
    → Takes widths now stack met pen middle bytes new → Takes widths now stack (met ++ new) middle end others more_new → Takes widths now stack met pen end (bytes ++ others) (new ++ more_new)
joined widths now stack met pen middle end bytes others new more_new first rest =
    run-append widths (here now pen.at pen.fonts stack met) bytes others ∙ ap (λ o. run widths o others) first ∙ rest
    ∙ ap (λ ms. here now end.at end.fonts stack ms) (append_assoc met new more_new)

-- a box that is entered, by the commands of its list
box-means : (widths : Widths) (now : Registers) (stack : List Registers) (met : List Placed) (direction : Direction) (pen : Pen) (to : Cursor) (inside : List ℕ × Pen) (new : List Placed) → IsReader pen.at → IsReader to
    → Takes widths (at_cursor now (approached direction pen.at to)) (at_cursor now (approached direction pen.at to) ∷ stack) met (entering direction pen to) inside.1 inside.0 new
    → ItemMeans widths now stack met pen (approach direction pen.at to ++ framed inside.0, record { at = approached direction pen.at to; fonts = inside.1.fonts }) new
box-means widths now stack met direction pen to inside new reads aims takes =
    let middle : Cursor = approached direction pen.at to in
    record {
      takes = run-append widths (here now pen.at pen.fonts stack met) (approach direction pen.at to) (framed inside.0)
          ∙ ap (λ o. run widths o (framed inside.0)) (approach-takes widths now pen.fonts stack met direction pen.at to reads aims)
          ∙ framed-takes widths (at_cursor now middle) (at_cursor now inside.1.at) pen.fonts inside.1.fonts stack met new inside.0 takes;
      reads = approached-reads widths now pen.fonts stack met direction pen.at to reads aims;
    }

-- copies that hold nothing
none-held : (held : Point → List Placed) (stands : ℤ → Point) (step left : ℕ) (from : ℤ) → ((at : Point) → held at ≡ []) → placed_copies held stands step left from ≡ []
unfolding placed_copies
none-held held stands step zero from none_is = refl
none-held held stands step (suc left) from none_is =
    ap (λ (first : List Placed). first ++ placed_copies held stands step left (from +ℤ pos step)) (none_is (stands from)) ∙ none-held held stands step left (from +ℤ pos step) none_is

-- a copy of a box, by the commands of its list
copy-means : (widths : Widths) (now : Registers) (stack : List Registers) (met : List Placed) (direction : Direction) (pen : Pen) (to : Cursor) (inside : List ℕ × Pen) (new : List Placed) → IsReader pen.at → IsReader to
    → Takes widths (at_cursor now to) (at_cursor now to ∷ stack) met (pen_at pen.fonts to) inside.1 inside.0 new
    → ItemMeans widths now stack met pen (copy_commands direction pen to inside) new
copy-means widths now stack met direction pen to inside new reads aims takes = record {
  takes = run-append widths (here now pen.at pen.fonts stack met) (copy_way direction pen.at to) (framed inside.0)
      ∙ ap (λ o. run widths o (framed inside.0)) (copy-way-takes widths now pen.fonts stack met direction pen.at to reads aims)
      ∙ framed-takes widths (at_cursor now to) (at_cursor now inside.1.at) pen.fonts inside.1.fonts stack met new inside.0 takes;
  reads = aims;
}

-- all copies, by what the list of one of them means with its reference point there
module _ (widths : Widths) (direction : Direction) (put : Point → Pen → List ℕ × Pen) (lies : Point → Bool) (held : Point → List Placed) (stands : ℤ → Point) (step : ℕ)
    (on_page : (at : Point) → lies at ≡ true → IsReader (cursor_at at))
    (each : (at : Point) (pen : Pen) (now : Registers) (stack : List Registers) (met : List Placed) → lies at ≡ true → IsReader pen.at → IsShort (put at pen).0
    → Takes widths now stack met pen (put at pen).1 (put at pen).0 (held at)) where
  copies-mean : (left : ℕ) (from : ℤ) (pen : Pen) (now : Registers) (stack : List Registers) (met : List Placed)
      → copies_lie lies stands step left from ≡ true → IsReader pen.at → IsShort (copied direction put stands step left from pen).0
      → ItemMeans widths now stack met pen (copied direction put stands step left from pen) (placed_copies held stands step left from)
  unfolding copied copies_lie placed_copies
  copies-mean zero from pen now stack met lie reads short = record { takes = still widths now pen.fonts stack met pen.at; reads = reads }
  copies-mean (suc left) from pen now stack met lie reads short =
      let at : Point = stands from in
      let aims : IsReader (cursor_at at) = on_page at (both lie).0 in
      let inside : List ℕ × Pen = put at (pen_at pen.fonts (cursor_at at)) in
      let made : List ℕ × Pen = copy_commands direction pen (cursor_at at) inside in
      let parts = short-parts made.0 (copied direction put stands step left (from +ℤ pos step) made.1).0 short in
      let first : ItemMeans widths now stack met pen made (held at)
      = copy-means widths now stack met direction pen (cursor_at at) inside (held at) reads aims
      (each at (pen_at pen.fonts (cursor_at at)) (at_cursor now (cursor_at at)) (at_cursor now (cursor_at at) ∷ stack) met (both lie).0 aims (inside-short (copy_way direction pen.at (cursor_at at)) inside.0 parts.0)) in
      let rest : ItemMeans widths now stack (met ++ held at) made.1 (copied direction put stands step left (from +ℤ pos step) made.1) (placed_copies held stands step left (from +ℤ pos step))
      = copies-mean left (from +ℤ pos step) made.1 now stack (met ++ held at) (both lie).1 first.reads parts.1 in
      record {
        takes = joined widths now stack met pen made.1 (copied direction put stands step left (from +ℤ pos step) made.1).1 made.0 (copied direction put stands step left (from +ℤ pos step) made.1).0
            (held at) (placed_copies held stands step left (from +ℤ pos step)) first.takes rest.takes;
        reads = rest.reads;
      }

-- what the fonts of a run give the characters of lists
module _ (fonts : List FontState) (are : AreFonts fonts) where
  abbrev wide : Widths
  wide = widths_of fonts

  character-means : (now : Registers) (stack : List Registers) (met : List Placed) (pen : Pen) (at : Cursor) (c : CharacterItem) (f : NamedFont) → font_at fonts c.font ≡ Some f → IsOfFont fonts c
      → IsReader pen.at → IsReader at → IsReader (behind_character at c)
      → ItemMeans wide now stack met pen (character_item (Some f) pen at c) (character_met (dvi_number c.font) c.code at.right at.down)
  unfolding character_item
  character-means now stack met pen at c f found of_font reads aims behind =
      let font : FontDefinition = definition_for c.font f in
      let wide_is : wide (dvi_number c.font) c.code ≡ c.width = width-is fonts c.font c.code c.width f found of_font.width_is in
      record {
        takes = run-append wide (here now pen.at pen.fonts stack met) (way pen.at at ++ (font_commands font pen.fonts).0) (set_code c.code)
            ∙ ap (λ o. run wide o (set_code c.code))
            (run-append wide (here now pen.at pen.fonts stack met) (way pen.at at) (font_commands font pen.fonts).0
            ∙ ap (λ o. run wide o (font_commands font pen.fonts).0) (way-takes wide now pen.fonts stack met pen.at at reads aims)
            ∙ font-takes wide now stack met at font pen.fonts (definable fonts are c.font f found))
            ∙ code-takes wide now stack met at (dvi_number c.font) c.code (font_commands font pen.fonts).1 (font-chosen wide now stack met at font pen.fonts)
            ∙ ap (λ width. here now (record at { right = at.right +ℤ width }) (font_commands font pen.fonts).1 stack (met ++ character_met (dvi_number c.font) c.code at.right at.down)) wide_is;
        reads = behind;
      }

  -- a character of a list
  character-in-means : (frame : Frame) (span : Span) (pen : Pen) (c : CharacterItem) (now : Registers) (stack : List Registers) (met : List Placed) → IsOfFont fonts c → character_lies frame span c ≡ true → IsReader pen.at
      → ItemMeans wide now stack met pen (character_commands fonts frame span pen c) (placed_character frame span c)
  character-in-means frame span pen c now stack met of_font lies reads = by (font_at fonts c.font) refl
    where
      at : Point
      at = reference frame.head.direction frame (upright span.from c.height)

      by : (o : Option NamedFont) → font_at fonts c.font ≡ o
          → ItemMeans wide now stack met pen (character_item o pen (cursor_at (reference frame.head.direction frame (upright span.from c.height))) c) (placed_character frame span c)
      by None e = absurd (let no : false ≡ true = sym (ap (λ o. has_by o) e) ∙ of_font.there in cc)
        where
          has_by : Option NamedFont → Bool
          has_by o = option_map_or (λ (f : NamedFont). is_there f.font.file c.code) o false
      by (Some f) e =
          let point : IsReader (cursor_at at) = point-is (both lies).1 in
          let edges = lies-is (both lies).0 in
          character-means now stack met pen (cursor_at at) c f e of_font reads point (record { right = edges.right; down = point.down })

  shared-means : (frame : Frame) (span : Span) (pen : Pen) (s : Shared) (now : Registers) (stack : List Registers) (met : List Placed) → IsSharedOfFonts fonts s → shared_lies frame span s ≡ true → IsReader pen.at
      → IsShort (shared_commands fonts frame span pen s).0 → ItemMeans wide now stack met pen (shared_commands fonts frame span pen s) (placed_shared frame span s)
  shared-means frame span pen (Rule r) now stack met of_fonts lies reads short = in-means wide now pen.fonts stack met frame span pen.at (rule_sides frame.head.direction frame.head r) lies reads
  shared-means frame span pen (Leaders l) now stack met of_fonts lies reads short = by (is_positive (size_of span)) lies
    where
      sides : Sides
      sides = leaders_sides frame.head.direction frame.head l.rule (size_of span)

      by : (b : Bool) → cond b (rule_lies frame span sides) true ≡ true
          → ItemMeans wide now stack met pen (cond {A = List ℕ × Pen} b (keeping_fonts pen.fonts (rule_commands frame span pen.at sides)) ([], pen)) (cond {A = List Placed} b (placed_in frame span sides) [])
      by true e = in-means wide now pen.fonts stack met frame span pen.at sides e reads
      by false e = record { takes = still wide now pen.fonts stack met pen.at; reads = reads }
  shared-means frame span pen (Special text) now stack met of_fonts lies reads short =
      special-means wide now pen.fonts stack met pen.at (cursor_at (reference frame.head.direction frame (upright span.from (pos 0)))) text reads (point-is lies) short
  shared-means frame span pen (Ligature l) now stack met of_fonts lies reads short = character-in-means frame span pen l.character now stack met of_fonts lies reads
  shared-means frame span pen (Mark text) now stack met of_fonts lies reads short = record { takes = still wide now pen.fonts stack met pen.at; reads = reads }

  plain-means : (frame : Frame) (span : Span) (pen : Pen) (p : Plain) (now : Registers) (stack : List Registers) (met : List Placed) → IsPlainOfFonts fonts p → plain_lies frame span p ≡ true → IsReader pen.at
      → ItemMeans wide now stack met pen (plain_commands fonts frame span pen p) (placed_plain frame span p)
  plain-means frame span pen (Kern kind size) now stack met of_fonts lies reads = record { takes = still wide now pen.fonts stack met pen.at; reads = reads }
  plain-means frame span pen (Glue g) now stack met of_fonts lies reads = record { takes = still wide now pen.fonts stack met pen.at; reads = reads }
  plain-means frame span pen (Penalty n) now stack met of_fonts lies reads = record { takes = still wide now pen.fonts stack met pen.at; reads = reads }
  plain-means frame span pen (Character c) now stack met of_fonts lies reads = character-in-means frame span pen c now stack met of_fonts lies reads

  mutual
    unfolding list_commands list_lies placed_list

    pub list-means : (frame : Frame) (reach : Reach) (pen : Pen) (items : Items) (now : Registers) (stack : List Registers) (met : List Placed)
        → AreOfFonts fonts items → list_lies frame reach items ≡ true → IsReader pen.at → IsShort (list_commands fonts frame reach pen items).0
        → Takes wide now stack met pen (list_commands fonts frame reach pen items).1 (list_commands fonts frame reach pen items).0 (placed_list frame reach items)
    list-means frame reach pen none now stack met of_fonts lies reads short = still wide now pen.fonts stack met pen.at
    list-means frame reach pen (more item rest) now stack met of_fonts lies reads short =
        let span : Span = span_of frame reach item in
        let parts = short-parts (item_commands fonts frame span pen item).0 (list_commands fonts frame (next frame reach item) (item_commands fonts frame span pen item).1 rest).0 short in
        let first : ItemMeans wide now stack met pen (item_commands fonts frame span pen item) (placed_item frame span item)
        = item-means frame span pen item now stack met of_fonts.0 (both lies).0 reads parts.0 in
        joined wide now stack met pen (item_commands fonts frame span pen item).1 (list_commands fonts frame (next frame reach item) (item_commands fonts frame span pen item).1 rest).1
        (item_commands fonts frame span pen item).0 (list_commands fonts frame (next frame reach item) (item_commands fonts frame span pen item).1 rest).0
        (placed_item frame span item) (placed_list frame (next frame reach item) rest) first.takes
        (list-means frame (next frame reach item) (item_commands fonts frame span pen item).1 rest now stack (met ++ placed_item frame span item) of_fonts.1 (both lies).1 first.reads parts.1)

    pub item-means : (frame : Frame) (span : Span) (pen : Pen) (item : Item) (now : Registers) (stack : List Registers) (met : List Placed)
        → IsItemOfFonts fonts item → item_lies frame span item ≡ true → IsReader pen.at → IsShort (item_commands fonts frame span pen item).0
        → ItemMeans wide now stack met pen (item_commands fonts frame span pen item) (placed_item frame span item)
    item-means frame span pen (plain p) now stack met of_fonts lies reads short = plain-means frame span pen p now stack met of_fonts lies reads
    item-means frame span pen (shared s) now stack met of_fonts lies reads short = shared-means frame span pen s now stack met of_fonts lies reads short
    item-means frame span pen (discretionary replaced pre post) now stack met of_fonts lies reads short = record { takes = still wide now pen.fonts stack met pen.at; reads = reads }
    item-means frame span pen (adjustment inner) now stack met of_fonts lies reads short = record { takes = still wide now pen.fonts stack met pen.at; reads = reads }
    item-means frame span pen (insertion inserted inner) now stack met of_fonts lies reads short = record { takes = still wide now pen.fonts stack met pen.at; reads = reads }
    item-means frame span pen (box_leaders head repeated none) now stack met of_fonts lies reads short =
        let copies : Copies = copies_from frame span head.kind repeated in
        let nothing : placed_item frame span (box_leaders head repeated none) ≡ []
        = none-held (λ at. placed_list (frame_at repeated at) begun none) (copy_at frame repeated) copies.step copies.count (first_copy span copies) (λ at. refl) in
        record {
          takes = still wide now pen.fonts stack met pen.at ∙ ap (λ new. here now pen.at pen.fonts stack (met ++ new)) (sym nothing);
          reads = reads;
        }
    item-means frame span pen (box_leaders head repeated (more item rest)) now stack met of_fonts lies reads short =
        let copies : Copies = copies_from frame span head.kind repeated in
        copies-mean wide frame.head.direction (λ at own. list_commands fonts (frame_at repeated at) begun own (more item rest))
        (λ at. head_lies at repeated && list_lies (frame_at repeated at) begun (more item rest)) (λ at. placed_list (frame_at repeated at) begun (more item rest)) (copy_at frame repeated) copies.step
        (λ at lie. point-is (both (both lie).0).1)
        (λ at own now_there stack_there met_there lie reads_there short_there. list-means (frame_at repeated at) begun own (more item rest) now_there stack_there met_there of_fonts (both lie).1 reads_there short_there)
        copies.count (first_copy span copies) pen now stack met lies reads short
    item-means frame span pen (boxed shift head none) now stack met of_fonts lies reads short = record { takes = still wide now pen.fonts stack met pen.at; reads = reads }
    item-means frame span pen (boxed shift head (more item rest)) now stack met of_fonts lies reads short =
        let direction : Direction = frame.head.direction in
        let at : Point = reference direction frame (shifted span.from shift head) in
        let middle : Cursor = approached direction pen.at (cursor_at at) in
        let entered : Pen = entering direction pen (cursor_at at) in
        let aims : IsReader (cursor_at at) = point-is (both (both lies).0).1 in
        let short_inside = inside-short (approach direction pen.at (cursor_at at)) (list_commands fonts (frame_at head at) begun entered (more item rest)).0 short in
        box-means wide now stack met direction pen (cursor_at at) (list_commands fonts (frame_at head at) begun entered (more item rest)) (placed_list (frame_at head at) begun (more item rest)) reads aims
        (list-means (frame_at head at) begun entered (more item rest) (at_cursor now middle) (at_cursor now middle ∷ stack) met of_fonts (both lies).1
        (approached-reads wide now pen.fonts stack met direction pen.at (cursor_at at) reads aims) short_inside)

  -- the commands of a page mean the characters, rules and specials of its box, at their places, and define its fonts
  pub page-means : (known : List ℕ) (b : PackedBox) (hoffset voffset : ℤ) → AreOfFonts fonts (items_of b.list) → page_lies b hoffset voffset ≡ true → IsShort (written_of fonts known b hoffset voffset).0
      → meaning wide known (written_of fonts known b hoffset voffset).0 ≡ Some (record { placed = placed b hoffset voffset; fonts = (written_of fonts known b hoffset voffset).1.fonts.defined })
  unfolding meaning
  page-means known b hoffset voffset of_fonts lies short =
      let frame : Frame = page_frame b hoffset voffset in
      ap all_met
      (list-means frame begun (page_pen known) (items_of b.list) (page_start known).now [] [] of_fonts (box-inside frame (items_of b.list) (head_lies frame.at b.head) lies)
      (record { right = omega arith; down = omega arith }) short)
