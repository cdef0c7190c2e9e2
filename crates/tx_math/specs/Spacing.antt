-- The space between atoms, and the penalties behind Bins and Rels (The TeXbook, chapter 18 and appendix G, rules 20 and 21; TeX: The
-- Program, sections 760 to 767).
use Rattle.std.specs.Prelude.{ℕ, ◌==◌, Bool, true, false, ◌&&◌, not, ℤ, pos, int_lt, List, [], ◌∷◌, ◌++◌, slice_index, codes, Option, Some, None, Result, Ok, if◌then◌else◌}
use Rattle.tx_num.specs.Glue.{GlueSpec}
use Rattle.tx_node.specs.declared.plain.Plain.{Plain}
use Rattle.tx_node.specs.declared.plain.Plain.TheVariants.{Kern, Glue, Penalty, Character}
use Rattle.tx_node.specs.Items.{Item, plain}
use Rattle.tx_mlist.specs.declared.kinds.AtomKind.{AtomKind}
use Rattle.tx_mlist.specs.declared.kinds.Delimiter.{Delimiter}
use Rattle.tx_mlist.specs.declared.kinds.AtomKind.TheVariants.{Ord, Op, Bin, Rel, Open, Close, Punct, Inner, Over, Under, Center, Radical, Accent}
use Rattle.tx_math.specs.declared.error.MathError.{MathError}
use Rattle.tx_math.specs.declared.params.MathParams.{MathParams}
use Rattle.tx_math.specs.declared.piece.Fences.{Fences}
use Rattle.tx_math.specs.declared.piece.Spaces.{Spaces}
use Rattle.tx_math.specs.Boxes.{is_plain}
use Rattle.tx_math.specs.Delimiters.{delimiter_item}
use Rattle.tx_math.specs.Mu.{math_glue}
use Rattle.tx_math.specs.Outcomes.{passed}
use Rattle.tx_math.specs.Parameters.{Math}
use Rattle.tx_math.specs.Styles.{is_large}

-- what the items of a list have become before spaces stand between them: an atom's items, a delimiter of \left or \right, which is an
-- Open or a Close, a style, or an item as it is
pub data Piece : Type 0 where
  noad : AtomKind → List Item → Piece
  fence : AtomKind → Delimiter → Piece
  restyled : ℕ → Piece
  lone : Item → Piece

-- the place of a class in the table: Ord, Op, Bin, Rel, Open, Close, Punct, Inner; all else is an Ord
abbrev pub class_number : AtomKind → ℕ
class_number Ord = 0
class_number (Op limits) = 1
class_number Bin = 2
class_number Rel = 3
class_number Open = 4
class_number Close = 5
class_number Punct = 6
class_number Inner = 7
class_number Over = 0
class_number Under = 0
class_number Center = 0
class_number (Radical sign) = 0
class_number (Accent c) = 0

-- the spaces between an atom of a class and one behind it of each class in their order (section 764): 0 none, 1 \thinmuskip and
-- 3 \medmuskip and 4 \thickmuskip in display and text style, 2 \thinmuskip in all styles; a star where no such pair comes
abbrev pub spaces_behind : AtomKind → List ℕ
spaces_behind Ord = codes "02340001"
spaces_behind (Op limits) = codes "22*40001"
spaces_behind Bin = codes "33**3**3"
spaces_behind Rel = codes "44*04004"
spaces_behind Open = codes "00*00000"
spaces_behind Close = codes "02340001"
spaces_behind Punct = codes "11*11111"
spaces_behind Inner = codes "12341011"
spaces_behind Over = codes "02340001"
spaces_behind Under = codes "02340001"
spaces_behind Center = codes "02340001"
spaces_behind (Radical sign) = codes "02340001"
spaces_behind (Accent c) = codes "02340001"

-- the glue of a sign of that table in a style, in mu (section 766)
abbrev pub if_large : ℕ → GlueSpec → Option GlueSpec
if_large style g = if is_large style then Some g else None

abbrev pub glue_by : MathParams → ℕ → ℕ → Option GlueSpec
glue_by params style sign =
    if sign == 49 then if_large style params.thin_mu_skip
    else if sign == 50 then Some params.thin_mu_skip
    else if sign == 51 then if_large style params.med_mu_skip
    else if sign == 52 then if_large style params.thick_mu_skip
    else None

abbrev pub glue_between : MathParams → ℕ → AtomKind → AtomKind → Option GlueSpec
glue_between params style before behind = glue_by params style (slice_index (spaces_behind before) (class_number behind))

abbrev pub glue_item : Math → ℕ → Option GlueSpec → Result (List Item) MathError
glue_item m style None = Ok []
glue_item m style (Some g) = passed (math_glue m style g) (λ glue. Ok (plain (Glue glue) ∷ []))

-- the space before an atom; before the first one there is none
abbrev pub space_before : Math → ℕ → Option AtomKind → AtomKind → Result (List Item) MathError
space_before m style None behind = Ok []
space_before m style (Some before) behind = glue_item m style (glue_between m.params style before behind)

-- the penalty that may stand behind an atom: \binoppenalty or \relpenalty; 10000 behind all others
abbrev pub penalty_of : MathParams → AtomKind → ℤ
penalty_of params Ord = pos 10000
penalty_of params (Op limits) = pos 10000
penalty_of params Bin = params.bin_op_penalty
penalty_of params Rel = params.rel_penalty
penalty_of params Open = pos 10000
penalty_of params Close = pos 10000
penalty_of params Punct = pos 10000
penalty_of params Inner = pos 10000
penalty_of params Over = pos 10000
penalty_of params Under = pos 10000
penalty_of params Center = pos 10000
penalty_of params (Radical sign) = pos 10000
penalty_of params (Accent c) = pos 10000

-- none stands at the end, nor before a penalty or a Rel (section 767)
abbrev pub plain_is_penalty : Plain → Bool
plain_is_penalty (Kern kind size) = false
plain_is_penalty (Glue g) = false
plain_is_penalty (Penalty n) = true
plain_is_penalty (Character c) = false

abbrev pub is_rel : AtomKind → Bool
is_rel Ord = false
is_rel (Op limits) = false
is_rel Bin = false
is_rel Rel = true
is_rel Open = false
is_rel Close = false
is_rel Punct = false
is_rel Inner = false
is_rel Over = false
is_rel Under = false
is_rel Center = false
is_rel (Radical sign) = false
is_rel (Accent c) = false

abbrev pub piece_takes_penalty : Piece → Bool
piece_takes_penalty (noad kind items) = not (is_rel kind)
piece_takes_penalty (fence kind d) = not (is_rel kind)
piece_takes_penalty (restyled style) = true
piece_takes_penalty (lone item) = not (is_plain plain_is_penalty item)

abbrev pub takes_penalty : List Piece → Bool
takes_penalty [] = false
takes_penalty (piece ∷ rest) = piece_takes_penalty piece

abbrev pub penalty_behind : MathParams → Bool → AtomKind → List Piece → List Item
penalty_behind params penalties kind rest =
    if penalties && (int_lt (penalty_of params kind) (pos 10000) && takes_penalty rest) then plain (Penalty (penalty_of params kind)) ∷ [] else []

-- an atom's items, between the space before them and the penalty behind them
abbrev pub noad_items : Math → Bool → ℕ → Option AtomKind → AtomKind → List Item → List Piece → Result (List Item) MathError
noad_items m penalties style before kind items rest =
    passed (space_before m style before kind) (λ space. Ok (space ++ items ++ penalty_behind m.params penalties kind rest))

-- what a piece becomes, and in which style and behind an atom of which kind the next one stands, if behind one. A delimiter is as tall
-- as its list asks
abbrev pub piece_items : Math → Bool → Fences → Spaces → Piece → List Piece → Result (List Item) MathError
piece_items m penalties fences spaces (noad kind items) rest = noad_items m penalties spaces.style spaces.before kind items rest
piece_items m penalties fences spaces (fence kind d) rest =
    passed (delimiter_item m fences.style d fences.size) (λ item. noad_items m penalties spaces.style spaces.before kind (item ∷ []) rest)
piece_items m penalties fences spaces (restyled style) rest = Ok []
piece_items m penalties fences spaces (lone item) rest = Ok (item ∷ [])

abbrev pub spaces_of : ℕ → Option AtomKind → Spaces
spaces_of style before = record { style = style; before = before }

abbrev pub spaces_after : Spaces → Piece → Spaces
spaces_after spaces (noad kind items) = spaces_of spaces.style (Some kind)
spaces_after spaces (fence kind d) = spaces_of spaces.style (Some kind)
spaces_after spaces (restyled style) = spaces_of style spaces.before
spaces_after spaces (lone item) = spaces

-- the list of pieces
abbrev pub spaced : Math → Bool → Fences → Spaces → List Piece → Result (List Item) MathError
spaced m penalties fences spaces [] = Ok []
spaced m penalties fences spaces (piece ∷ rest) =
    passed (piece_items m penalties fences spaces piece rest) (λ items.
    passed (spaced m penalties fences (spaces_after spaces piece) rest) (λ more. Ok (items ++ more)))
