-- The grammar of DVI files (the DVI standard; TeX: The Program, sections 583 to 591): which bytes are a command, a page and a file, and
-- which pages a file brings. Characters have no width, since a file tells of none.
use Rattle.std.specs.Prelude.{◌≡◌, ℕ, zero, suc, ◌+◌, ◌-◌, ◌%◌, ◌^◌, ◌<◌, ◌≤◌, true, false, ℤ, unsigned_abs, List, [], ◌∷◌, ◌++◌, length, take, drop, replicate, slice_get, Option, Some, None}
use Rattle.std.specs.Int.{w32, cast_signed}
use Rattle.std.specs.List.{AllByRecursion, flat_map}
use Rattle.byteorder.specs.Endian.{big_number}
use Rattle.tx_dvitype.specs.declared.error.DviError.{DviError}
use Rattle.tx_dvitype.specs.declared.error.DviError.TheVariants.{BadDvi, OutOfMemory}
use Rattle.tx_dvitype.specs.declared.error.DviRule.{DviRule}
use Rattle.tx_dvitype.specs.declared.error.DviRule.TheVariants as element
use Rattle.tx_dvitype.specs.declared.reader.ReadPage.{ReadPage}
use Rattle.tx_dvi.specs.declared.font.FontDefinition.{FontDefinition}
use Rattle.tx_dvi.specs.declared.placed.Registers.{Registers}
use Rattle.tx_dvi.specs.Dvi.{bop, eop, pre, post, post_post, format_number, filler, units, two_bytes, unsigned_bytes, definition_bytes, definitions_below, IsDefinable}
use Rattle.tx_dvi.specs.Meaning.{Reader, signed, right_by, down_by, with_character, with_rule, with_special, with_registers, with_fonts, choosing, defining, is_known, page_start}

abbrev pub IsByte : ℕ → Type 0
IsByte n = n < 256

abbrev pub AreBytes : List ℕ → Type 0
AreBytes bytes = AllByRecursion IsByte bytes

-- The commands of a page, by their names in the standard, with what stands behind their first bytes: the code of a character, the height
-- and the width of a rule, how far to move, the number of a font, how many bytes a special has and these, the definition of a font.
pub data Command : Type 0 where
  SetChar : ℕ → Command
  Set1 : ℕ → Command
  SetRule : List ℕ → List ℕ → Command
  PutRule : List ℕ → List ℕ → Command
  Push : Command
  Pop : Command
  Right : List ℕ → Command
  W0 : Command
  W : List ℕ → Command
  X0 : Command
  X : List ℕ → Command
  Down : List ℕ → Command
  Y0 : Command
  Y : List ℕ → Command
  Z0 : Command
  Z : List ℕ → Command
  FntNum : ℕ → Command
  Fnt1 : ℕ → Command
  Xxx : List ℕ → List ℕ → Command
  FntDef1 : FontDefinition → Command

-- the bytes of a command
abbrev pub command_bytes : Command → List ℕ
command_bytes (SetChar code) = code ∷ []
command_bytes (Set1 code) = 128 ∷ code ∷ []
command_bytes (SetRule height width) = 132 ∷ height ++ width
command_bytes (PutRule height width) = 137 ∷ height ++ width
command_bytes Push = 141 ∷ []
command_bytes Pop = 142 ∷ []
command_bytes (Right size) = (142 + length size) ∷ size
command_bytes W0 = 147 ∷ []
command_bytes (W size) = (147 + length size) ∷ size
command_bytes X0 = 152 ∷ []
command_bytes (X size) = (152 + length size) ∷ size
command_bytes (Down size) = (156 + length size) ∷ size
command_bytes Y0 = 161 ∷ []
command_bytes (Y size) = (161 + length size) ∷ size
command_bytes Z0 = 166 ∷ []
command_bytes (Z size) = (166 + length size) ∷ size
command_bytes (FntNum number) = (171 + number) ∷ []
command_bytes (Fnt1 number) = 235 ∷ number ∷ []
command_bytes (Xxx size text) = (238 + length size) ∷ size ++ text
command_bytes (FntDef1 font) = definition_bytes font

-- what one to four bytes say how far to move, in two's complement
abbrev pub IsAmount : List ℕ → Type 0
IsAmount size = (1 ≤ length size) × (length size ≤ 4)

abbrev pub amount : List ℕ → ℤ
amount size = signed (length size) size

-- a font is chosen
abbrev pub HasFont : Option ℕ → Type 0
HasFont chosen = (font : ℕ) × (chosen ≡ Some font)

-- A command may stand where the reader of a page is: it has as many bytes as it says, a character stands in a font that is chosen, a font is
-- defined once and chosen after that, and only what was pushed is popped.
abbrev pub MayStand : Command → Reader → Type 0
MayStand (SetChar code) r = (code < 128) × HasFont r.fonts.chosen
MayStand (Set1 code) r = HasFont r.fonts.chosen
MayStand (SetRule height width) r = (length height ≡ 4) × (length width ≡ 4)
MayStand (PutRule height width) r = (length height ≡ 4) × (length width ≡ 4)
MayStand Push r = Unit {0}
MayStand Pop r = 0 < length r.stack
MayStand (Right size) r = IsAmount size
MayStand W0 r = Unit {0}
MayStand (W size) r = IsAmount size
MayStand X0 r = Unit {0}
MayStand (X size) r = IsAmount size
MayStand (Down size) r = IsAmount size
MayStand Y0 r = Unit {0}
MayStand (Y size) r = IsAmount size
MayStand Z0 r = Unit {0}
MayStand (Z size) r = IsAmount size
MayStand (FntNum number) r = (number < 64) × (is_known number r.fonts.known ≡ true)
MayStand (Fnt1 number) r = is_known number r.fonts.known ≡ true
MayStand (Xxx size text) r = IsAmount size × (big_number (length size) size ≡ length text)
MayStand (FntDef1 font) r = IsDefinable font × (is_known font.number r.fonts.known ≡ false)

-- a character is met where the reader is
abbrev pub lettered : ℕ → Option ℕ → Reader → Reader
lettered code None r = r
lettered code (Some font) r = with_character font code r

-- what was pushed last is taken back
abbrev pub taken_back : List Registers → Reader → Reader
taken_back [] r = r
taken_back (last ∷ others) r = record r { now = last; stack = others }

-- the reader behind a command
abbrev pub behind : Command → Reader → Reader
behind (SetChar code) r = lettered code r.fonts.chosen r
behind (Set1 code) r = lettered code r.fonts.chosen r
behind (SetRule height width) r = with_registers (right_by (amount width) r.now) (with_rule (amount height) (amount width) r)
behind (PutRule height width) r = with_rule (amount height) (amount width) r
behind Push r = record r { stack = r.now ∷ r.stack }
behind Pop r = taken_back r.stack r
behind (Right size) r = with_registers (right_by (amount size) r.now) r
behind W0 r = with_registers (right_by r.now.w r.now) r
behind (W size) r = with_registers (right_by (amount size) (record r.now { w = amount size })) r
behind X0 r = with_registers (right_by r.now.x r.now) r
behind (X size) r = with_registers (right_by (amount size) (record r.now { x = amount size })) r
behind (Down size) r = with_registers (down_by (amount size) r.now) r
behind Y0 r = with_registers (down_by r.now.y r.now) r
behind (Y size) r = with_registers (down_by (amount size) (record r.now { y = amount size })) r
behind Z0 r = with_registers (down_by r.now.z r.now) r
behind (Z size) r = with_registers (down_by (amount size) (record r.now { z = amount size })) r
behind (FntNum number) r = with_fonts (choosing number r.fonts) r
behind (Fnt1 number) r = with_fonts (choosing number r.fonts) r
behind (Xxx size text) r = with_special text r
behind (FntDef1 font) r = with_fonts (defining font r.fonts) r

-- the places of a page lie less than 2^31 sp right, left, down and up of its corner
abbrev pub IsNear : Registers → Type 0
IsNear now = (unsigned_abs now.h < 2 ^ 31) × (unsigned_abs now.v < 2 ^ 31)

-- commands, one after the other, that lead the reader of a page from one state to another
abbrev pub Lead : List Command → Reader → Reader → Type 0
Lead [] r end = r ≡ end
Lead (command ∷ commands) r end = MayStand command r × IsNear (behind command r).now × Lead commands (behind command r) end

abbrev pub commands_bytes : List Command → List ℕ
commands_bytes commands = flat_map command_bytes commands

-- the fonts that commands define
abbrev pub defines : Command → List FontDefinition
defines (FntDef1 font) = font ∷ []
defines command = []

abbrev pub fonts_in : List Command → List FontDefinition
fonts_in commands = flat_map defines commands

-- a page of a file: its ten numbers, of four bytes each, and its commands
pub record PageText : Type 0 where
  pub numbers : List ℕ
  pub commands : List Command

-- so many numbers of four bytes each, in two's complement
abbrev pub numbers_in : ℕ → List ℕ → List ℤ
numbers_in zero bytes = []
numbers_in (suc n) bytes = cast_signed w32 (big_number 4 bytes) ∷ numbers_in n (drop 4 bytes)

-- A page brings its numbers and what is met on it, where fonts of these numbers are defined: its commands lead from the corner to a place
-- where all that was pushed is popped.
pub record IsPage (known : List ℕ) (page : PageText) (read : ReadPage) : Type 0 where
  pub end : Reader
  pub ten : length page.numbers ≡ 40
  pub lead : Lead page.commands (page_start known) end
  pub level : end.stack ≡ []
  pub brings : read ≡ record { counts = numbers_in 10 page.numbers; placed = end.met }

-- so page after page; the fonts of a page stay defined
abbrev pub ArePages : List ℕ → List PageText → List ReadPage → Type 0
ArePages known [] [] = Unit {0}
ArePages known (page ∷ pages) (read ∷ others) = (is : IsPage known page read) × ArePages is.end.fonts.known pages others
ArePages known _ _ = ⊥

-- what a file says: \mag, the comment, its pages, and ten bytes of the greatest sizes and depth, which may be anything
pub record FileText : Type 0 where
  pub mag : ℕ
  pub comment : List ℕ
  pub pages : List PageText
  pub sizes : List ℕ

-- a place in the file, in four bytes; before the first page there is none
abbrev pub pointer_to : ℕ → List ℕ
pointer_to place = unsigned_bytes (place % 2 ^ 32)

abbrev pub nowhere : List ℕ
nowhere = 255 ∷ 255 ∷ 255 ∷ 255 ∷ []

-- a page is bop, its numbers, the pointer to the page before it, its commands, and eop
abbrev pub page_elements : List ℕ → PageText → List (DviRule × List ℕ)
page_elements pointer page = (element.Page, bop ∷ page.numbers ++ pointer) ∷ (element.Command, commands_bytes page.commands ++ eop ∷ []) ∷ []

abbrev pub page_long : PageText → ℕ
page_long page = length (commands_bytes page.commands) + 46

-- the pages, the first of which stands at a place; where they end; and the pointer to the last of them
abbrev pub pages_elements : ℕ → List ℕ → List PageText → List (DviRule × List ℕ)
pages_elements place pointer [] = []
pages_elements place pointer (page ∷ pages) = page_elements pointer page ++ pages_elements (place + page_long page) (pointer_to place) pages

abbrev pub end_of : ℕ → List PageText → ℕ
end_of place [] = place
end_of place (page ∷ pages) = end_of (place + page_long page) pages

abbrev pub last_pointer : ℕ → List ℕ → List PageText → List ℕ
last_pointer place pointer [] = pointer
last_pointer place pointer (page ∷ pages) = last_pointer (place + page_long page) (pointer_to place) pages

-- the preamble: pre, 2, the numbers 25400000 and 473628672, \mag, and the comment behind its length
abbrev pub preamble_bytes : FileText → List ℕ
preamble_bytes file = pre ∷ format_number ∷ units file.mag ++ length file.comment ∷ file.comment

-- Behind post stand the pointer to the last page, the three numbers of the preamble, the greatest sizes and depth, the number of pages, and
-- the definitions of all fonts once more, from the last number to the first.
abbrev pub postamble_bytes : List ℕ → FileText → List ℕ
postamble_bytes last file =
    last ++ units file.mag ++ file.sizes ++ two_bytes (length file.pages % 2 ^ 16) ++ definitions_below 256 (flat_map (λ (page : PageText). fonts_in page.commands) file.pages)

-- behind that stand post_post, the place of post, 2, and four to seven bytes 223 that fill up the file to a multiple of four
abbrev pub end_bytes : ℕ → ℕ → List ℕ
end_bytes place size = post_post ∷ pointer_to place ++ format_number ∷ replicate (4 + (4 - (size + 6) % 4) % 4) filler

-- the elements of a file from post on, which stands at a place; where bop might stand, post has the rule of bop
abbrev pub last_elements : ℕ → List ℕ → FileText → List (DviRule × List ℕ)
last_elements place last file =
    (element.Page, post ∷ []) ∷ (element.Postamble, postamble_bytes last file) ∷ (element.End, end_bytes place (place + 1 + length (postamble_bytes last file))) ∷ []

-- all elements, each with its rule
abbrev pub elements_from : ℕ → FileText → List (DviRule × List ℕ)
elements_from start file =
    (element.Preamble, preamble_bytes file) ∷ pages_elements start nowhere file.pages ++ last_elements (end_of start file.pages) (last_pointer start nowhere file.pages) file

abbrev pub elements : FileText → List (DviRule × List ℕ)
elements file = elements_from (length (preamble_bytes file)) file

-- the bytes that elements are, and for each of these the rule of its element
abbrev pub bytes_of : List (DviRule × List ℕ) → List ℕ
bytes_of parts = flat_map (λ (e : DviRule × List ℕ). e.1) parts

abbrev pub rules_of : List (DviRule × List ℕ) → List DviRule
rules_of parts = flat_map (λ (e : DviRule × List ℕ). replicate (length e.1) e.0) parts

-- these bytes are a file that says this and brings these pages
pub record IsTextOf (bytes : List ℕ) (file : FileText) (pages : List ReadPage) : Type 0 where
  pub are_bytes : AreBytes bytes
  pub written : bytes ≡ bytes_of (elements file)
  pub mag_least : 1 ≤ file.mag
  pub mag_most : file.mag ≤ 32768
  pub comment : length file.comment < 256
  pub sizes : length file.sizes ≡ 10
  pub some : 1 ≤ length file.pages
  pub are_pages : ArePages [] file.pages pages

-- These bytes are a DVI file, which brings these pages.
abbrev pub IsDviFile : List ℕ → List ReadPage → Type 0
IsDviFile bytes pages = (file : FileText) × IsTextOf bytes file pages

-- some DVI file begins with these bytes
abbrev pub BeginsFile : List ℕ → Type 0
BeginsFile bytes = (more : List ℕ) × ((pages : List ReadPage) × IsDviFile (bytes ++ more) pages)

-- so many bytes begin a DVI file, and no more of them do
pub record IsFurthest (bytes : List ℕ) (place : ℕ) : Type 0 where
  pub within : place ≤ length bytes
  pub begins : BeginsFile (take place bytes)
  pub no_further : (longer : ℕ) → place < longer → longer ≤ length bytes → BeginsFile (take longer bytes) → ⊥

-- however a DVI file goes on behind these bytes, its next byte belongs to an element of this rule
abbrev pub IsNextRule : List ℕ → DviRule → Type 0
IsNextRule front rule = (file : FileText) (pages : List ReadPage) (next : ℕ) (more : List ℕ) → IsTextOf (front ++ next ∷ more) file pages → slice_get (rules_of (elements file)) (length front) ≡ Some rule

-- Why bytes are no DVI file. Where those before the refused one are a whole file, nothing may follow them.
pub record IsRefusal (bytes : List ℕ) (place : ℕ) (rule : DviRule) : Type 0 where
  pub none : (pages : List ReadPage) → IsDviFile bytes pages → ⊥
  pub furthest : IsFurthest bytes place
  pub next : IsNextRule (take place bytes) rule
  pub whole : (pages : List ReadPage) → IsDviFile (take place bytes) pages → rule ≡ element.End

-- a refusal is right about the bytes; want of memory says nothing of them
abbrev pub IsNoFile : List ℕ → DviError → Type 0
IsNoFile bytes (BadDvi place rule) = IsRefusal bytes place rule
IsNoFile bytes OutOfMemory = Unit {0}
