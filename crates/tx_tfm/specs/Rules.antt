-- The fifteen rules of a font metric file (TeX: The Program, sections 562 to 575), as tests that compute.
use Rattle.std.specs.Prelude.{ℕ, zero, suc, ◌+◌, ◌*◌, ◌-◌, ◌^◌, ◌==◌, Bool, true, false, ◌&&◌, ◌||◌, nat_le, nat_lt, if◌then◌else◌, Option, Some, None, List, [], ◌∷◌, ◌++◌, length, ℤ, pos, negsuc, ◌*ℤ◌, int_div}
use Rattle.std.specs.List.{list_all}
use Rattle.tx_tfm.specs.declared.lengths.Lengths.{Lengths}
use Rattle.tx_tfm.specs.declared.file.Tfm.{Tfm}
use Rattle.tx_tfm.specs.declared.file.Word.{Word}
use Rattle.tx_tfm.specs.declared.rules.Size.{Size}
use Rattle.tx_tfm.specs.declared.rules.Size.TheVariants.{Design, At, Scaled}
use Rattle.tx_tfm.specs.Format.{tfm_of, word_at, character_count, widths_at, heights_at, depths_at, italics_at, commands_at, kerns_at, recipes_at, parameters_at, design_size_of, info_of, is_listed, is_there, width_index, height_index, depth_index, italic_index, tag}
use Rattle.tx_tfm.specs.LigKern.{command_at, target, boundary_code}
use Rattle.tx_tfm.specs.Rewriting.{ends_within}
use Rattle.tx_tfm.specs.Table.{piece_of}

-- whether a test holds of each number below n
unfoldable pub every : ℕ → (ℕ → Bool) → Bool
every zero test = true
every (suc n) test = every n test && test n

-- each of the twelve lengths is below 2^15
unfoldable pub lengths_are_small : Lengths → Bool
lengths_are_small l =
    list_all (λ n. nat_lt n 32768) (
    l.file ∷ l.header ∷ l.first ∷ l.last ∷ l.widths ∷ l.heights ∷ l.depths ∷ l.italics ∷ l.commands ∷ l.kerns
    ∷ l.recipes ∷ l.parameters ∷ [])

-- the codes are those of bytes, from the first to the last
unfoldable pub codes_are_bytes : Lengths → Bool
codes_are_bytes l = nat_le l.first (l.last + 1) && nat_le l.last 255

-- the lengths of the parts make up that of the file
unfoldable pub parts_make_the_file : Lengths → Bool
parts_make_the_file l = l.file == parameters_at l + l.parameters

-- there is a width, a height, a depth and an italic correction
unfoldable pub has_sizes : Lengths → Bool
has_sizes l = nat_lt 0 l.widths && nat_lt 0 l.heights && nat_lt 0 l.depths && nat_lt 0 l.italics

-- the size at which the font is used, in sp
abbrev pub size_in_sp : Tfm → Size → ℤ
size_in_sp t Design = pos (design_size_of t)
size_in_sp t (At z) = z
size_in_sp t (Scaled n) = int_div (pos (design_size_of t) *ℤ n) (pos 1000)

-- 1sp to 2048pt - 1sp
abbrev pub is_size : ℤ → Bool
is_size (pos z) = nat_lt 0 z && nat_lt z (2 ^ 27)
is_size (negsuc _) = false

-- the design size is at least 1pt, and the size in range
unfoldable pub sizes_are_in_range : Tfm → Size → Bool
sizes_are_in_range t size = nat_le 65536 (design_size_of t) && is_size (size_in_sp t size)

-- a character's sizes stand within their tables
unfoldable pub indices_fit : Tfm → ℕ → Bool
indices_fit t code =
    let w : Word = info_of t code in
    nat_lt (width_index w) t.lengths.widths && nat_lt (height_index w) t.lengths.heights
    && nat_lt (depth_index w) t.lengths.depths && nat_lt (italic_index w) t.lengths.italics

unfoldable pub all_indices_fit : Tfm → Bool
all_indices_fit t = every (character_count t.lengths) (λ k. indices_fit t (t.lengths.first + k))

-- a character's program, recipe or successor is there
unfoldable pub remainder_fits : Tfm → ℕ → Bool
remainder_fits t code =
    let w : Word = info_of t code in
    if tag w == 1 then nat_lt w.d t.lengths.commands
    else if tag w == 2 then is_listed t w.d
    else if tag w == 3 then nat_lt w.d t.lengths.recipes
    else true

-- the successors of a character end before the n-th one
unfoldable pub successors_end : Tfm → ℕ → ℕ → Bool
successors_end t zero code = false
successors_end t (suc n) code = if tag (info_of t code) == 2 then successors_end t n (info_of t code).d else true

unfoldable pub all_remainders_fit : Tfm → Bool
all_remainders_fit t = every (character_count t.lengths) (λ k. remainder_fits t (t.lengths.first + k))

-- among 256 codes a list of successors that does not end goes in a circle
unfoldable pub all_successors_end : Tfm → Bool
all_successors_end t = every (character_count t.lengths) (λ k. successors_end t 256 (t.lengths.first + k))

-- the words from a place on are between -16 and 16: the first byte is 0 or 255
abbrev pub is_fraction : Word → Bool
is_fraction w = w.a == 0 || w.a == 255

unfoldable pub are_fractions : Tfm → ℕ → ℕ → Bool
are_fractions t place count = every count (λ k. is_fraction (word_at t (place + k)))

-- all sizes and kerns, and the parameters but the first, the slant
unfoldable pub all_are_fractions : Tfm → Bool
all_are_fractions t =
    are_fractions t (widths_at t.lengths) (commands_at t.lengths - widths_at t.lengths)
    && are_fractions t (kerns_at t.lengths) t.lengths.kerns
    && are_fractions t (parameters_at t.lengths + 1) (t.lengths.parameters - 1)

abbrev pub is_zero : Word → Bool
is_zero w = w.a == 0 && w.b == 0 && w.c == 0 && w.d == 0

-- the first width, height, depth and italic correction are 0
unfoldable pub first_sizes_are_zero : Tfm → Bool
first_sizes_are_zero t =
    is_zero (word_at t (widths_at t.lengths)) && is_zero (word_at t (heights_at t.lengths))
    && is_zero (word_at t (depths_at t.lengths)) && is_zero (word_at t (italics_at t.lengths))

-- whether a command's next character can come: it is there, or is the right boundary
abbrev pub names : Option ℕ → ℕ → Bool
names None code = false
names (Some boundary) code = boundary == code

abbrev pub can_come : Tfm → ℕ → Bool
can_come t code = is_there t code || names (boundary_code t) code

-- what a command inserts, a character or a kern, is there
abbrev pub inserts_well : Tfm → Word → Bool
inserts_well t w = if nat_lt w.c 128 then is_there t w.d else nat_lt (256 * (w.c - 128) + w.d) t.lengths.kerns

-- a command that leads elsewhere leads to a command; any other one names characters and a kern that are there, and does not
-- skip past the end
unfoldable pub command_fits : Tfm → ℕ → Bool
command_fits t k =
    let w : Word = command_at t k in
    if nat_lt 128 w.a then nat_lt (target w) t.lengths.commands
    else can_come t w.b && inserts_well t w && (w.a == 128 || nat_lt (k + w.a + 1) t.lengths.commands)

unfoldable pub all_commands_fit : Tfm → Bool
all_commands_fit t = every t.lengths.commands (command_fits t)

abbrev pub is_piece_or_none : Tfm → ℕ → Bool
is_piece_or_none t code = code == 0 || is_there t code

-- the repeated piece of a recipe is there, and so is each other piece that isn't 0
unfoldable pub recipe_fits : Tfm → ℕ → Bool
recipe_fits t k =
    let w : Word = word_at t (recipes_at t.lengths + k) in
    is_piece_or_none t w.a && is_piece_or_none t w.b && is_piece_or_none t w.c && is_there t w.d

unfoldable pub all_recipes_fit : Tfm → Bool
all_recipes_fit t = every t.lengths.recipes (recipe_fits t)

-- whether a character is there; a boundary always is
abbrev pub is_piece : Tfm → Option ℕ → Bool
is_piece t None = true
is_piece t (Some code) = is_there t code

-- composing a pair takes at most 1000 ligature commands
unfoldable pub pair_ends : Tfm → ℕ → ℕ → Bool
pair_ends t j k = if is_piece t (piece_of j) && is_piece t (piece_of k) then ends_within t 1000 (piece_of j ∷ piece_of k ∷ []) else true

unfoldable pub all_pairs_end_after : Tfm → ℕ → Bool
all_pairs_end_after t j = every 257 (pair_ends t j)

unfoldable pub all_pairs_end : Tfm → Bool
all_pairs_end t = every 257 (all_pairs_end_after t)

-- the place of the first of these that is false, counted from n
abbrev pub first_false : ℕ → List Bool → Option ℕ
first_false n [] = None
first_false n (test ∷ tests) = if test then first_false (n + 1) tests else Some n

-- rules 1 to 8, on the lengths and the size
abbrev pub header_rules : Tfm → Size → List Bool
header_rules t size =
    nat_le 24 (length t.bytes) ∷ lengths_are_small t.lengths ∷ codes_are_bytes t.lengths ∷ parts_make_the_file t.lengths
    ∷ nat_le (4 * t.lengths.file) (length t.bytes) ∷ has_sizes t.lengths ∷ nat_le 2 t.lengths.header
    ∷ sizes_are_in_range t size ∷ []

-- rules 9 to 15, on the tables
abbrev pub table_rules : Tfm → List Bool
table_rules t =
    all_indices_fit t ∷ (all_remainders_fit t && all_successors_end t) ∷ all_are_fractions t ∷ first_sizes_are_zero t
    ∷ all_commands_fit t ∷ all_recipes_fit t ∷ all_pairs_end t ∷ []

-- the first of the fifteen rules that the bytes, used at that size, break
abbrev pub first_broken : List ℕ → Size → Option ℕ
first_broken bytes size = first_false 1 (header_rules (tfm_of bytes) size ++ table_rules (tfm_of bytes))
