-- Which bytes are a DVI file, and what it says (the DVI standard; TeX: The Program, sections 583 to 591). The file is read byte by byte, up
-- to the first byte that no such file has there.
use Rattle.std.specs.Prelude.{◌≡◌, ℕ, zero, suc, ◌+◌, ◌-◌, ◌*◌, ◌%◌, ◌^◌, ◌==◌, ◌&&◌, ◌||◌, Bool, true, false, nat_le, nat_lt, ℤ, pos, List, [], ◌∷◌, ◌++◌, length, get_or, drop, filter, replicate, Option, Some, None, Result, Ok, Err, if◌then◌else◌}
use Rattle.std.specs.Int.{w32, cast_signed}
use Rattle.std.specs.List.{flat_map}
use Rattle.byteorder.specs.Endian.{big_number}
use Rattle.tx_dvitype.specs.declared.error.DviError.{DviError}
use Rattle.tx_dvitype.specs.declared.error.DviError.TheVariants.{BadDvi, OutOfMemory}
use Rattle.tx_dvitype.specs.declared.error.DviRule.{DviRule}
use Rattle.tx_dvitype.specs.declared.error.DviRule.TheVariants.{File, Preamble, Page, Command, Postamble, End}
use Rattle.tx_dvitype.specs.declared.reader.ReadPage.{ReadPage}
use Rattle.tx_dvitype.specs.declared.reader.Reader.{Reader}
use Rattle.tx_dvi.specs.Dvi.{bop, eop, fnt_def1, post, post_post, format_number, filler, unsigned_bytes, two_bytes, units}
use Rattle.tx_dvi.specs.Meaning.{Reader as PageReader, page_start}
use Rattle.tx_dvitype.specs.Partial.{is_level, is_whole, read_within}

-- where a file is refused: behind so many bytes, at an element of this rule
pub record Broken : Type 0 where
  pub place : ℕ
  pub rule : DviRule

-- the byte is the one that stands at a place of these
abbrev pub stands_at : List ℕ → ℕ → ℕ → Bool
stands_at bytes place byte = nat_lt place (length bytes) && byte == get_or bytes place 0

-- a byte that is taken stands behind the first ones of the element
abbrev pub with_byte : ℕ → Reader → Reader
with_byte byte r = record r { page = record r.page { begun = r.page.begun ++ byte ∷ [] } }

-- the first twelve bytes of the preamble: pre, 2, the numbers 25400000 and 473628672, and the two high bytes of \mag
abbrev pub preamble_start : List ℕ
preamble_start = 247 ∷ 2 ∷ 1 ∷ 131 ∷ 146 ∷ 192 ∷ 28 ∷ 59 ∷ 0 ∷ 0 ∷ 0 ∷ 0 ∷ []

-- \mag lies between 1 and 32768, and is told by the bytes behind those
abbrev pub is_mag : ℕ → Bool
is_mag mag = nat_le 1 mag && nat_le mag 32768

-- a byte of the preamble: those, two bytes of \mag, the length of the comment, and the comment, which may be anything
abbrev pub may_begin_preamble : List ℕ → ℕ → Bool
may_begin_preamble begun byte =
    if nat_lt (length begun) 12 then stands_at preamble_start (length begun) byte
    else if length begun == 12 then nat_le byte 128
    else if length begun == 13 then is_mag (256 * get_or begun 12 0 + byte)
    else true

abbrev pub is_preamble : List ℕ → Bool
is_preamble bytes = nat_lt 14 (length bytes) && length bytes == 15 + get_or bytes 14 0

abbrev pub mag_in : List ℕ → ℕ
mag_in bytes = 256 * get_or bytes 12 0 + get_or bytes 13 0

abbrev pub behind_preamble : Reader → Reader
behind_preamble r = record r {
  element = Page;
  mag = mag_in r.page.begun;
  page = record r.page { begun = [] };
}

abbrev pub past_preamble : Reader → Reader
past_preamble r = if is_preamble r.page.begun then behind_preamble r else r

unfoldable pub preamble_taken : Reader → ℕ → Option Reader
preamble_taken r byte = if may_begin_preamble r.page.begun byte then Some (past_preamble (with_byte byte r)) else None

-- a byte of bop: ten numbers, which may be anything, and the pointer to the bop before it, or four times 255
abbrev pub may_begin_page : Reader → ℕ → Bool
may_begin_page r byte =
    if length r.page.begun == 0 then byte == bop
    else if nat_le (length r.page.begun) 40 then true
    else stands_at r.pointer (length r.page.begun - 41) byte

-- the ten numbers of a bop
abbrev pub count_at : ℕ → List ℕ → ℤ
count_at place bytes = cast_signed w32 (big_number 4 (drop place bytes))

unfoldable pub counts_in : List ℕ → List ℤ
counts_in bytes =
    count_at 1 bytes ∷ count_at 5 bytes ∷ count_at 9 bytes ∷ count_at 13 bytes ∷ count_at 17 bytes
    ∷ count_at 21 bytes ∷ count_at 25 bytes ∷ count_at 29 bytes ∷ count_at 33 bytes ∷ count_at 37 bytes ∷ []

-- a place as four bytes tell it
abbrev pub place_bytes : ℕ → List ℕ
place_bytes place = unsigned_bytes (place % 2 ^ 32)

-- the page behind a bop, whose last byte has this place; the fonts of earlier pages stay defined
abbrev pub behind_bop : ℕ → Reader → Reader
behind_bop place r = record r {
  element = Command;
  pointer = place_bytes (place - 44);
  counts = counts_in r.page.begun;
  page = page_start r.page.fonts.known;
}

-- the definitions of the fonts that have this number, and those of all whose numbers are below a bound, from the last number to the first
abbrev pub number_in : List ℕ → ℕ
number_in definition = get_or definition 1 0

abbrev pub numbered_as : ℕ → List (List ℕ) → List (List ℕ)
numbered_as number definitions = filter (λ (d : List ℕ). number_in d == number) definitions

abbrev pub all_bytes : List (List ℕ) → List ℕ
all_bytes definitions = flat_map (λ (d : List ℕ). d) definitions

unfoldable pub again_below : ℕ → List (List ℕ) → List ℕ
again_below zero definitions = []
again_below (suc number) definitions = all_bytes (numbered_as number definitions) ++ again_below number definitions

-- What stands behind post up to post_post: where the last page begins, the three numbers of the preamble, the greatest sizes and depth,
-- for which zeros stand here, the number of pages, and the definitions
abbrev pub behind_post : Reader → List ℕ
behind_post r = r.pointer ++ units r.mag ++ replicate 10 0 ++ two_bytes (length r.pages % 2 ^ 16) ++ again_below 256 r.definitions

abbrev pub postamble : Reader → List ℕ
postamble r = post ∷ behind_post r

abbrev pub at_post : Reader → Reader
at_post r = record r { element = Postamble; page = record r.page { begun = r.page.begun ++ post ∷ [] }; expected = postamble r }

-- post may stand behind a page where bop may
abbrev pub may_begin_post : Reader → ℕ → Bool
may_begin_post r byte = length r.page.begun == 0 && (byte == post && nat_lt 0 (length r.pages))

abbrev pub past_bop : ℕ → Reader → Reader
past_bop place r = if length r.page.begun == 45 then behind_bop place r else r

unfoldable pub page_taken : ℕ → Reader → ℕ → Option Reader
page_taken place r byte =
    if may_begin_post r byte then Some (at_post r) else if may_begin_page r byte then Some (past_bop place (with_byte byte r)) else None

-- eop ends a page where everything that was pushed is popped
abbrev pub behind_eop : Reader → Reader
behind_eop r = record r {
  element = Page;
  page = record r.page { met = [] };
  pages = r.pages ++ record { counts = r.counts; placed = r.page.met } ∷ [];
}

-- the bytes of a definition are kept, once all are there
abbrev pub with_definition : List ℕ → List (List ℕ) → List (List ℕ)
with_definition bytes definitions = if is_whole bytes && get_or bytes 0 0 == fnt_def1 then definitions ++ bytes ∷ [] else definitions

abbrev pub with_page : List ℕ → Reader → Option PageReader → Option Reader
with_page bytes r None = None
with_page bytes r (Some page) = Some (record r { page = page; definitions = with_definition bytes r.definitions })

abbrev pub within_taken : Reader → ℕ → Option Reader
within_taken r byte = with_page (r.page.begun ++ byte ∷ []) r (read_within r.page byte)

unfoldable pub command_taken : Reader → ℕ → Option Reader
command_taken r byte =
    if length r.page.begun == 0 && byte == eop then (if is_level r.page then Some (behind_eop r) else None)
    else within_taken r byte

-- what fills up a file of so many bytes: four to seven more, up to a multiple of four
abbrev pub fillers : ℕ → List ℕ
fillers size = replicate (4 + (4 - size % 4) % 4) filler

-- what stands behind a postamble of so many bytes, the last of which has this place: post_post, where post stands, and 2, seven bytes
-- behind that place, and the fillers
abbrev pub ending : ℕ → ℕ → List ℕ
ending place size = post_post ∷ place_bytes (place - (size - 1)) ++ format_number ∷ fillers (place % 4 + 7)

abbrev pub behind_postamble : ℕ → Reader → Reader
behind_postamble place r = record r {
  element = End;
  page = record r.page { begun = [] };
  expected = ending place (length r.expected);
}

-- a byte of the postamble; the greatest sizes and depth may be anything
abbrev pub may_stand : Reader → Bool
may_stand r = nat_le 17 (length r.page.begun) && nat_lt (length r.page.begun) 27

abbrev pub past_postamble : ℕ → Reader → Reader
past_postamble place r = if length r.page.begun == length r.expected then behind_postamble place r else r

unfoldable pub postamble_taken : ℕ → Reader → ℕ → Option Reader
postamble_taken place r byte =
    if may_stand r || stands_at r.expected (length r.page.begun) byte then Some (past_postamble place (with_byte byte r)) else None

unfoldable pub end_taken : Reader → ℕ → Option Reader
end_taken r byte = if stands_at r.expected (length r.page.begun) byte then Some (with_byte byte r) else None

-- the byte that has this place, by the element that is being read; None where no file has it there
abbrev pub taken_by : DviRule → ℕ → Reader → ℕ → Option Reader
taken_by File place r byte = None
taken_by Preamble place r byte = preamble_taken r byte
taken_by Page place r byte = page_taken place r byte
taken_by Command place r byte = command_taken r byte
taken_by Postamble place r byte = postamble_taken place r byte
taken_by End place r byte = end_taken r byte

unfoldable pub taken : ℕ → Reader → ℕ → Option Reader
taken place r byte = taken_by r.element place r byte

-- nothing is left to come
abbrev pub is_last : DviRule → Bool
is_last File = false
is_last Preamble = false
is_last Page = false
is_last Command = false
is_last Postamble = false
is_last End = true

abbrev pub is_done : Reader → Bool
is_done r = is_last r.element && length r.page.begun == length r.expected

-- the file is refused behind so many bytes, at the element that was being read
abbrev pub stopped : ℕ → Reader → Broken
stopped place r = record { place = place; rule = r.element }

abbrev pub ended : ℕ → Reader → Result (List ReadPage) Broken
ended place r = if is_done r then Ok r.pages else Err (stopped place r)

abbrev pub going_on : ℕ → Reader → Option Reader → (Reader → Result (List ReadPage) Broken) → Result (List ReadPage) Broken
going_on place r None others = Err (stopped place r)
going_on place r (Some next) others = others next

-- what is read of the bytes behind so many
abbrev pub rest_read : ℕ → Reader → List ℕ → Result (List ReadPage) Broken
rest_read place r [] = ended place r
rest_read place r (byte ∷ bytes) = going_on place r (taken place r byte) (λ next. rest_read (place + 1) next bytes)

-- before the first byte
abbrev pub at_start : Reader
at_start = record {
  element = Preamble;
  mag = 0;
  pointer = 255 ∷ 255 ∷ 255 ∷ 255 ∷ [];
  counts = replicate 10 (pos 0);
  page = page_start [];
  definitions = [];
  pages = [];
  expected = [];
}

-- The pages that these bytes, as a DVI file, bring: each with its ten numbers, and with what is met on it where characters have no width. Or
-- else how many of them begin such a file, and the element in which the next byte of every one that begins so stands.
abbrev pub dvi_file : List ℕ → Result (List ReadPage) Broken
dvi_file bytes = rest_read 0 at_start bytes

-- a refusal is right about what is read; want of memory says nothing of it
abbrev pub IsCause : Result (List ReadPage) Broken → DviError → Type 0
IsCause read (BadDvi place rule) = read ≡ Err (record { place = place; rule = rule })
IsCause read OutOfMemory = Unit {0}
