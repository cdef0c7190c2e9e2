-- The DVI file of a list of pages (TeX: The Program, parts 31 and 32). All places are counted in bytes from its start.
use Rattle.std.specs.Prelude.{◌≡◌, ℕ, zero, suc, ◌+◌, ◌-◌, ◌/◌, ◌%◌, ◌^◌, ◌<◌, ◌≤◌, ◌==◌, ℤ, pos, negsuc, int_div, int_rem, unsigned_abs, List, [], ◌∷◌, ◌++◌, length, take, drop, fold, filter, max, sum_by, replicate, codes, Some, slice_get}
use Rattle.std.specs.List.{flat_map, enumerate_from}
use Rattle.std.specs.Int.{w32, cast_unsigned, int_max}
use Rattle.std.specs.Fmt.{signed_decimal}
use Rattle.byteorder.specs.Endian.{big_bytes}
use Rattle.tx_dvi.specs.declared.font.FontDefinition.{FontDefinition}
use Rattle.tx_dvi.specs.declared.page.DateParameters.{DateParameters}
use Rattle.tx_dvi.specs.Page.{Page}

-- the commands that frame the pages
abbrev pub bop : ℕ
bop = 139

abbrev pub eop : ℕ
eop = 140

-- the one that defines a font
abbrev pub fnt_def1 : ℕ
fnt_def1 = 243

abbrev pub pre : ℕ
pre = 247

abbrev pub post : ℕ
post = 248

abbrev pub post_post : ℕ
post_post = 249

-- the number of this format, and what stands behind the last command
abbrev pub format_number : ℕ
format_number = 2

abbrev pub filler : ℕ
filler = 223

-- a number of four bytes, the highest first, in two's complement
unfoldable pub four_bytes : ℤ → List ℕ
four_bytes z = big_bytes 4 (cast_unsigned w32 z)

-- a number of two bytes, the highest first
unfoldable pub two_bytes : ℕ → List ℕ
two_bytes n = big_bytes 2 n

-- a number of four bytes without sign, the highest first
unfoldable pub unsigned_bytes : ℕ → List ℕ
unsigned_bytes n = big_bytes 4 n

-- The definition of a font: its number, the checksum of its file, the size at which it is used and the one for which it was
-- designed, and its name, which stands in no area.
unfoldable pub definition_bytes : FontDefinition → List ℕ
definition_bytes font =
    fnt_def1 ∷ font.number ∷ unsigned_bytes font.checksum ++ unsigned_bytes font.size ++ unsigned_bytes font.design_size
    ++ 0 ∷ length font.name ∷ font.name

-- what a definition can hold
pub record IsDefinable (font : FontDefinition) : Type 0 where
  pub number : font.number < 256
  pub checksum : font.checksum < 2 ^ 32
  pub size : font.size < 2 ^ 32
  pub design_size : font.design_size < 2 ^ 32
  pub name : length font.name ≤ 255

-- the last two digits of a number, without its sign
abbrev pub two_digits : ℤ → List ℕ
two_digits z = (48 + unsigned_abs z % 100 / 10) ∷ (48 + unsigned_abs z % 10) ∷ []

-- `.MM.DD:HHMM`, the hours and minutes by a division that drops the fraction
abbrev pub day_and_time : DateParameters → List ℕ
day_and_time date =
    46 ∷ two_digits date.month ++ 46 ∷ two_digits date.day
    ++ 58 ∷ two_digits (int_div date.time (pos 60)) ++ two_digits (int_rem date.time (pos 60))

-- ` TeX output YYYY.MM.DD:HHMM`, the year in full
abbrev pub comment : DateParameters → List ℕ
comment date = codes " TeX output " ++ signed_decimal date.year ++ day_and_time date

-- sp are units of 25400000/473628672 of 10^-7 m, magnified by \mag/1000
abbrev pub units : ℕ → List ℕ
units mag = flat_map four_bytes (pos 25400000 ∷ pos 473628672 ∷ pos mag ∷ [])

-- the start of the file, with \mag and the date of the first page
abbrev pub preamble : Page → List ℕ
preamble first = pre ∷ format_number ∷ units first.mag ++ length (comment first.date) ∷ comment first.date

-- one page, with a pointer to the page before it
abbrev pub page_bytes : Page → ℤ → List ℕ
page_bytes page pointer = bop ∷ flat_map four_bytes page.counts ++ four_bytes pointer ++ page.body ++ eop ∷ []

-- how many bytes that is: besides its body 46, for bop, ten counts, the pointer and eop
abbrev pub page_size : Page → ℕ
page_size page = length page.body + 46

-- where page k begins, counted from 0: behind the pages before it, the first of which begins at `start`
abbrev pub place_of : ℕ → List Page → ℕ → ℕ
place_of start pages k = start + sum_by page_size (take k pages)

-- where the page before page k begins; -1 where there is none
abbrev pub pointer_of : ℕ → List Page → ℕ → ℤ
pointer_of start pages zero = negsuc 0
pointer_of start pages (suc k) = pos (place_of start pages k)

-- all pages, each with a pointer to the one before it
abbrev pub pages_bytes : ℕ → List Page → List ℕ
pages_bytes start pages =
    flat_map (λ (numbered : ℕ × Page). page_bytes numbered.1 (pointer_of start pages numbered.0)) (enumerate_from 0 pages)

-- the greatest height and the greatest width, at least 0, and the greatest nesting
abbrev pub greatest_height : List Page → ℤ
greatest_height pages = fold (λ most (page : Page). int_max most page.height) (pos 0) pages

abbrev pub greatest_width : List Page → ℤ
greatest_width pages = fold (λ most (page : Page). int_max most page.width) (pos 0) pages

abbrev pub greatest_nesting : List Page → ℕ
greatest_nesting pages = fold (λ most (page : Page). max most page.nesting) 0 pages

-- the greatest sizes and nesting, and the number of pages
abbrev pub sizes_bytes : List Page → List ℕ
sizes_bytes pages =
    four_bytes (greatest_height pages) ++ four_bytes (greatest_width pages) ++ two_bytes (greatest_nesting pages) ++ two_bytes (length pages)

-- the fonts that the pages define, page by page
abbrev pub fonts_of : List Page → List FontDefinition
fonts_of pages = flat_map (λ (page : Page). page.fonts) pages

-- those of them that have this number
abbrev pub numbered : ℕ → List FontDefinition → List FontDefinition
numbered number fonts = filter (λ (font : FontDefinition). font.number == number) fonts

-- the definitions of those whose numbers are below a bound, from the last number to the first
unfoldable pub definitions_below : ℕ → List FontDefinition → List ℕ
definitions_below zero fonts = []
definitions_below (suc number) fonts = flat_map definition_bytes (numbered number fonts) ++ definitions_below number fonts

-- those of all fonts, whose numbers are bytes
abbrev pub all_definitions : List Page → List ℕ
all_definitions pages = definitions_below 256 (fonts_of pages)

-- where the last page begins, the units, the sizes and the definitions of all fonts
abbrev pub post_bytes : ℤ → ℕ → List Page → List ℕ
post_bytes last mag pages = post ∷ four_bytes last ++ units mag ++ sizes_bytes pages ++ all_definitions pages

-- where post stands
abbrev pub post_post_bytes : ℤ → List ℕ
post_post_bytes place = post_post ∷ four_bytes place ++ format_number ∷ []

-- bytes, filled up with four to seven more so that their number is a multiple of four
abbrev pub filled : List ℕ → List ℕ
filled bytes = bytes ++ replicate (4 + (4 - length bytes % 4) % 4) filler

-- the file of these pages, where the first of them begins at `start`
abbrev pub file_from : ℕ → Page → List Page → List ℕ
file_from start first pages =
    filled (preamble first ++ pages_bytes start pages
    ++ post_bytes (pointer_of start pages (length pages)) first.mag pages ++ post_post_bytes (pos (place_of start pages (length pages))))

-- the DVI file; where there is no page there is no file, and so no byte
abbrev pub dvi : List Page → List ℕ
dvi [] = []
dvi (first ∷ others) = file_from (length (preamble first)) first (first ∷ others)

-- bytes stand at a place of a file
pub record StandsAt (file : List ℕ) (place : ℕ) (bytes : List ℕ) : Type 0 where
  pub behind : List ℕ
  pub are : drop place file ≡ bytes ++ behind

-- where the first page of a file begins
abbrev pub start_of : List Page → ℕ
start_of [] = 0
start_of (first ∷ others) = length (preamble first)

-- Each page stands at its place, with a pointer to the place of the page before it.
abbrev pub PointsBack : List ℕ → List Page → Type 0
PointsBack file pages =
    let start = start_of pages in
    (k : ℕ) (page : Page) → slice_get pages k ≡ Some page → StandsAt file (place_of start pages k) (page_bytes page (pointer_of start pages k))
