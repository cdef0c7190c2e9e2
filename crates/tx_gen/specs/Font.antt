-- The font of the documents, by the words of its metrics (TeX: The Program, part 30).
use Rattle.std.specs.Prelude.{ℕ, ◌/◌, ◌%◌, ◌^◌, List, [], ◌∷◌, ◌++◌, replicate}
use Rattle.std.specs.List.{flat_map}

-- the four bytes of a word, the highest first
abbrev pub word_bytes : ℕ → List ℕ
word_bytes n = n / 2 ^ 24 ∷ n / 2 ^ 16 % 2 ^ 8 ∷ n / 2 ^ 8 % 2 ^ 8 ∷ n % 2 ^ 8 ∷ []

-- the twelve lengths: 40 words, 2 of them the header; the codes 97 and 98; two widths and heights, one depth and one italic
-- correction; one ligature and kerning command and one kern, no recipe, 22 parameters
abbrev pub lengths : List ℕ
lengths = 0x00280002 ∷ 0x00610062 ∷ 0x00020002 ∷ 0x00010001 ∷ 0x00010001 ∷ 0x00000016 ∷ []

-- no checksum, and a design size of 10pt
abbrev pub header : List ℕ
header = 0x00000000 ∷ 0x00a00000 ∷ []

-- a with a program, and b; both have the second width and height
abbrev pub characters : List ℕ
characters = 0x01100100 ∷ 0x01100000 ∷ []

-- widths of nothing and of half the design size, heights of nothing and of a quarter, one depth and one italic correction
abbrev pub sizes : List ℕ
sizes = 0x00000000 ∷ 0x00080000 ∷ 0x00000000 ∷ 0x00040000 ∷ 0x00000000 ∷ 0x00000000 ∷ []

-- between a and a stands a kern, and that is a sixteenth of the design size
abbrev pub program : List ℕ
program = 0x80618000 ∷ 0x00010000 ∷ []

-- slant, space, its stretch and shrink, x-height, quad and extra space
abbrev pub text_parameters : List ℕ
text_parameters = 0x00000000 ∷ 0x00040000 ∷ 0x00020000 ∷ 0x00010000 ∷ 0x00080000 ∷ 0x00100000 ∷ 0x00000000 ∷ []

-- those of mathematics, of which only the axis height isn't 0
abbrev pub math_parameters : List ℕ
math_parameters = replicate 14 0x00000000 ++ 0x00040000 ∷ []

-- all of it
unfoldable pub font_file : List ℕ
font_file = flat_map word_bytes (lengths ++ header ++ characters ++ sizes ++ program ++ text_parameters ++ math_parameters)
