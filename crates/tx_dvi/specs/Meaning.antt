-- What the commands of a page mean (the DVI standard; TeX: The Program, sections 585 to 591). Places and sizes are in sp.
use Rattle.std.specs.Prelude.{ℕ, ◌+◌, ◌-◌, ◌==◌, ◌&&◌, ◌||◌, Bool, nat_lt, nat_le, ℤ, pos, ◌+ℤ◌, List, [], ◌∷◌, ◌++◌, length, get_or, drop, fold, Option, Some, None, if◌then◌else◌}
use Rattle.std.specs.Int.{is_positive}
use Rattle.std.specs.List.{list_any}
use Rattle.byteorder.specs.Endian.{big_number, twos_complement}
use Rattle.tx_dvi.specs.declared.font.FontDefinition.{FontDefinition}
use Rattle.tx_dvi.specs.declared.placed.Placed.{Placed}
use Rattle.tx_dvi.specs.declared.placed.Placed.TheVariants.{Lettered, Ruled, Noted}
use Rattle.tx_dvi.specs.declared.placed.Registers.{Registers}

-- how wide the characters of the fonts are: by the number of a font and a code
abbrev pub Widths : Type 0
Widths = ℕ → ℕ → ℤ

-- what a page brings: what its reader meets, in this order, and the fonts that it defines
pub record Contents : Type 0 where
  pub placed : List Placed
  pub fonts : List FontDefinition

-- what the reader knows of fonts: the one that was chosen last, the numbers of all that are defined, and the definitions of this
-- page
pub record ReaderFonts : Type 0 where
  pub chosen : Option ℕ
  pub known : List ℕ
  pub defined : List FontDefinition

-- the reader: its registers, the fonts, the registers that were pushed, the last ones first, what it met, and the first bytes
-- of a command that isn't whole
pub record Reader : Type 0 where
  pub now : Registers
  pub fonts : ReaderFonts
  pub stack : List Registers
  pub met : List Placed
  pub begun : List ℕ

-- the number that some bytes are, the highest first, in two's complement
abbrev pub signed : ℕ → List ℕ → ℤ
signed n bytes = twos_complement n (big_number n bytes)

-- how many bytes follow the first one of a special whose length has n bytes: these, and once they are there as many more as
-- they say
abbrev pub special_operands : ℕ → List ℕ → ℕ
special_operands n bytes = if nat_lt n (length bytes) then n + big_number n (drop 1 bytes) else n

-- how many bytes follow the first one of a definition of a font: its number, three numbers of four bytes and two lengths, and
-- once these are there as many more as the two say
abbrev pub definition_operands : List ℕ → ℕ
definition_operands bytes = if nat_lt 15 (length bytes) then 15 + (get_or bytes 14 0 + get_or bytes 15 0) else 15

-- fnt_num_0 to fnt_num_63
abbrev pub is_font_number : ℕ → Bool
is_font_number opcode = nat_le 171 opcode && nat_le opcode 234

-- the movements, from right1 to z4, and how many bytes follow their first ones
abbrev pub is_movement : ℕ → Bool
is_movement opcode = nat_le 143 opcode && nat_le opcode 170

abbrev pub movement_operands : ℕ → ℕ
movement_operands opcode =
    if nat_le opcode 146 then opcode - 142
    else if nat_le opcode 151 then opcode - 147
    else if nat_le opcode 156 then opcode - 152
    else if nat_le opcode 160 then opcode - 156
    else if nat_le opcode 165 then opcode - 161
    else opcode - 166

-- how many bytes follow the first one of a command of which these bytes are there, None where it begins none of these:
-- set_char_0 to set_char_127 from 0, and set1 128; fnt_num_0 to fnt_num_63 from 171, fnt1 235 and fnt_def1 243; set_rule 132, put_rule 137, nop 138, push 141, pop 142; right1 to right4 from 143, w0 to w4 from 147, x0 to x4 from 152,
-- down1 to down4 from 157, y0 to y4 from 161, z0 to z4 from 166; xxx1 to xxx4, the specials, from 239
abbrev pub operands : ℕ → List ℕ → Option ℕ
operands opcode bytes =
    if nat_lt opcode 128 || is_font_number opcode then Some 0
    else if opcode == 128 || opcode == 235 then Some 1
    else if opcode == 243 then Some (definition_operands bytes)
    else if opcode == 132 || opcode == 137 then Some 8
    else if opcode == 138 || opcode == 141 || opcode == 142 then Some 0
    else if is_movement opcode then Some (movement_operands opcode)
    else if nat_lt opcode 239 then None
    else if nat_le opcode 242 then Some (special_operands (opcode - 238) bytes)
    else None

-- to the right and down
abbrev pub right_by : ℤ → Registers → Registers
right_by size r = record r { h = r.h +ℤ size }

abbrev pub down_by : ℤ → Registers → Registers
down_by size r = record r { v = r.v +ℤ size }

-- a movement by its number; w0, x0, y0 and z0 move as far as their register says, the others change it first
abbrev pub moved : ℕ → ℤ → Registers → Registers
moved opcode size r =
    if nat_le opcode 146 then right_by size r
    else if opcode == 147 then right_by r.w r
    else if nat_le opcode 151 then right_by size (record r { w = size })
    else if opcode == 152 then right_by r.x r
    else if nat_le opcode 156 then right_by size (record r { x = size })
    else if nat_le opcode 160 then down_by size r
    else if opcode == 161 then down_by r.y r
    else if nat_le opcode 165 then down_by size (record r { y = size })
    else if opcode == 166 then down_by r.z r
    else down_by size (record r { z = size })

-- a rule is met where both its sides are positive
abbrev pub rule_met : ℤ → ℤ → ℤ → ℤ → List Placed
rule_met h v height width =
    if is_positive height then (if is_positive width then Ruled (record { h = h; v = v; height = height; width = width }) ∷ [] else []) else []

abbrev pub special_met : ℤ → ℤ → List ℕ → List Placed
special_met h v text = Noted (record { h = h; v = v; text = text }) ∷ []

abbrev pub with_rule : ℤ → ℤ → Reader → Reader
with_rule height width r = record r { met = r.met ++ rule_met r.now.h r.now.v height width }

abbrev pub with_special : List ℕ → Reader → Reader
with_special text r = record r { met = r.met ++ special_met r.now.h r.now.v text }

abbrev pub with_registers : Registers → Reader → Reader
with_registers now r = record r { now = now }

abbrev pub with_fonts : ReaderFonts → Reader → Reader
with_fonts fonts r = record r { fonts = fonts }

-- a character is met in the font that was chosen last, and the reader moves to the right by its width; None where no font was
-- chosen
abbrev pub character_met : ℕ → ℕ → ℤ → ℤ → List Placed
character_met font code h v = Lettered (record { font = font; code = code; h = h; v = v }) ∷ []

abbrev pub with_character : ℕ → ℕ → Reader → Reader
with_character font code r = record r { met = r.met ++ character_met font code r.now.h r.now.v }

abbrev pub character_set : Widths → ℕ → ℕ → Reader → Reader
character_set widths font code r = with_registers (right_by (widths font code) r.now) (with_character font code r)

abbrev pub set_character : Widths → ℕ → Option ℕ → Reader → Option Reader
set_character widths code None r = None
set_character widths code (Some font) r = Some (character_set widths font code r)

-- whether a font is among the defined ones
abbrev pub is_known : ℕ → List ℕ → Bool
is_known number known = list_any (λ n. n == number) known

-- a font is chosen; None where it isn't defined
abbrev pub choosing : ℕ → ReaderFonts → ReaderFonts
choosing number fonts = record fonts { chosen = Some number }

abbrev pub choose : ℕ → Reader → Option Reader
choose number r = if is_known number r.fonts.known then Some (with_fonts (choosing number r.fonts) r) else None

-- the definition in the bytes behind fnt_def1; the area, if there is one, stands before the name
abbrev pub definition_in : List ℕ → FontDefinition
definition_in bytes = record {
  number = get_or bytes 0 0;
  checksum = big_number 4 (drop 1 bytes);
  size = big_number 4 (drop 5 bytes);
  design_size = big_number 4 (drop 9 bytes);
  name = drop 15 bytes;
}

-- a font is defined; None where its number is taken
abbrev pub defining : FontDefinition → ReaderFonts → ReaderFonts
defining font fonts = record fonts { known = fonts.known ++ font.number ∷ []; defined = fonts.defined ++ font ∷ [] }

abbrev pub define : FontDefinition → Reader → Option Reader
define font r = if is_known font.number r.fonts.known then None else Some (with_fonts (defining font r.fonts) r)

-- set_rule moves to the right by the rule's width, put_rule doesn't
abbrev pub rule_set : ℤ → ℤ → Reader → Reader
rule_set height width r = with_registers (right_by width r.now) (with_rule height width r)

-- pop takes back what was pushed last; None where nothing is left
abbrev pub popped : List Registers → Reader → Option Reader
popped [] r = None
popped (last ∷ others) r = Some (record r { now = last; stack = others })

-- a command with the bytes that follow its first one
abbrev pub carried_out : Widths → ℕ → List ℕ → Reader → Option Reader
carried_out widths opcode bytes r =
    if nat_lt opcode 128 then set_character widths opcode r.fonts.chosen r
    else if is_font_number opcode then choose (opcode - 171) r
    else if opcode == 128 then set_character widths (get_or bytes 0 0) r.fonts.chosen r
    else if opcode == 235 then choose (get_or bytes 0 0) r
    else if opcode == 243 then define (definition_in bytes) r
    else if opcode == 132 then Some (rule_set (signed 4 bytes) (signed 4 (drop 4 bytes)) r)
    else if opcode == 137 then Some (with_rule (signed 4 bytes) (signed 4 (drop 4 bytes)) r)
    else if opcode == 138 then Some r
    else if opcode == 141 then Some (record r { stack = r.now ∷ r.stack })
    else if opcode == 142 then popped r.stack r
    else if nat_le 239 opcode then Some (with_special (drop (opcode - 238) bytes) r)
    else if is_movement opcode then Some (with_registers (moved opcode (signed (movement_operands opcode) bytes) r.now) r)
    else None

-- the bytes of a command: it is carried out once all of them are there
abbrev pub when_whole : Widths → Option ℕ → List ℕ → Reader → Option Reader
when_whole widths None bytes r = None
when_whole widths (Some more) bytes r =
    if nat_le (length bytes) more then Some (record r { begun = bytes }) else carried_out widths (get_or bytes 0 0) (drop 1 bytes) (record r { begun = [] })

-- one byte more
abbrev pub read : Widths → Option Reader → ℕ → Option Reader
read widths None byte = None
read widths (Some r) byte = let bytes : List ℕ = r.begun ++ byte ∷ [] in when_whole widths (operands (get_or bytes 0 0) bytes) bytes r

-- what a page brings, where its last command is whole and all that was pushed is popped
abbrev pub all_met : Option Reader → Option Contents
all_met None = None
all_met (Some r) = if length r.stack + length r.begun == 0 then Some (record { placed = r.met; fonts = r.fonts.defined }) else None

-- a page begins at its left upper corner, with nothing pushed and no font chosen; those of earlier pages are defined
abbrev pub page_start : List ℕ → Reader
page_start known = record {
  now = record { h = pos 0; v = pos 0; w = pos 0; x = pos 0; y = pos 0; z = pos 0 };
  fonts = record { chosen = None; known = known; defined = [] };
  stack = [];
  met = [];
  begun = [];
}

-- What the commands of a page mean, where the characters have these widths and earlier pages define the fonts of these numbers:
-- its characters, rules and specials, in the order in which they are met, and the fonts that it defines. None where they are none
-- of the commands above, a font is used that isn't defined, or one is defined that is.
unfoldable pub meaning : Widths → List ℕ → List ℕ → Option Contents
meaning widths known body = all_met (fold (read widths) (Some (page_start known)) body)
