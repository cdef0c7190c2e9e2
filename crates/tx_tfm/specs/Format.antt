-- A font metric file, read off its bytes (TeX: The Program, part 30). A word is four bytes; places count words.
use Rattle.std.specs.Prelude.{ℕ, ◌+◌, ◌*◌, ◌-◌, ◌/◌, ◌%◌, Bool, ◌&&◌, nat_le, nat_lt, if◌then◌else◌, List, drop, slice_index}
use Rattle.byteorder.specs.Endian.{big_number}
use Rattle.tx_tfm.specs.declared.lengths.Lengths.{Lengths}
use Rattle.tx_tfm.specs.declared.file.Tfm.{Tfm}
use Rattle.tx_tfm.specs.declared.file.Word.{Word}

-- the k-th number of two bytes
abbrev pub half : List ℕ → ℕ → ℕ
half bytes k = big_number 2 (drop (2 * k) bytes)

-- the twelve lengths that a file begins with
abbrev pub lengths_of : List ℕ → Lengths
lengths_of bytes = record {
  file = half bytes 0;
  header = half bytes 1;
  first = half bytes 2;
  last = half bytes 3;
  widths = half bytes 4;
  heights = half bytes 5;
  depths = half bytes 6;
  italics = half bytes 7;
  commands = half bytes 8;
  kerns = half bytes 9;
  recipes = half bytes 10;
  parameters = half bytes 11;
}

-- where each table begins
abbrev pub characters_at : Lengths → ℕ
characters_at l = 6 + l.header

abbrev pub character_count : Lengths → ℕ
character_count l = l.last + 1 - l.first

abbrev pub widths_at : Lengths → ℕ
widths_at l = characters_at l + character_count l

abbrev pub heights_at : Lengths → ℕ
heights_at l = widths_at l + l.widths

abbrev pub depths_at : Lengths → ℕ
depths_at l = heights_at l + l.heights

abbrev pub italics_at : Lengths → ℕ
italics_at l = depths_at l + l.depths

abbrev pub commands_at : Lengths → ℕ
commands_at l = italics_at l + l.italics

abbrev pub kerns_at : Lengths → ℕ
kerns_at l = commands_at l + l.commands

abbrev pub recipes_at : Lengths → ℕ
recipes_at l = kerns_at l + l.kerns

abbrev pub parameters_at : Lengths → ℕ
parameters_at l = recipes_at l + l.recipes

-- a file with its lengths
abbrev pub tfm_of : List ℕ → Tfm
tfm_of bytes = record { bytes = bytes; lengths = lengths_of bytes }

-- the word at a place; bytes past the end count as 0
unfoldable pub word_at : Tfm → ℕ → Word
word_at t k = record {
  a = slice_index t.bytes (4 * k);
  b = slice_index t.bytes (4 * k + 1);
  c = slice_index t.bytes (4 * k + 2);
  d = slice_index t.bytes (4 * k + 3);
}

-- a word as a number of 32 bits
abbrev pub number_of : Word → ℕ
number_of w = ((w.a * 256 + w.b) * 256 + w.c) * 256 + w.d

-- the checksum, by which a driver sees that it has the same font
abbrev pub checksum_of : Tfm → ℕ
checksum_of t = number_of (word_at t 6)

-- the design size in sp: a multiple of 2^-20 pt, rounded down; a negative one counts as 0
unfoldable pub design_size_of : Tfm → ℕ
design_size_of t = if nat_lt (word_at t 7).a 128 then number_of (word_at t 7) / 16 else 0

-- what the file says of a character: where its sizes stand in their tables, its tag and the remainder
abbrev pub info_of : Tfm → ℕ → Word
info_of t code = word_at t (characters_at t.lengths + (code - t.lengths.first))

abbrev pub width_index : Word → ℕ
width_index w = w.a

abbrev pub height_index : Word → ℕ
height_index w = w.b / 16

abbrev pub depth_index : Word → ℕ
depth_index w = w.b % 16

abbrev pub italic_index : Word → ℕ
italic_index w = w.c / 4

-- 0 none, 1 a lig/kern program, 2 a larger successor, 3 an extensible recipe
abbrev pub tag : Word → ℕ
tag w = w.c % 4

-- whether a code lies between the first and the last one
abbrev pub is_listed : Tfm → ℕ → Bool
is_listed t code = nat_le t.lengths.first code && nat_le code t.lengths.last

-- whether the font has a character: it is listed, and has a width of its own
abbrev pub is_there : Tfm → ℕ → Bool
is_there t code = is_listed t code && nat_lt 0 (width_index (info_of t code))
